-- Many bytes at once: where their bitwise or is below 128, so is each of them.
use Prim.Native.Nat.{ℕ, zero, suc, ◌+◌, ◌-◌, ◌≤◌, ◌<◌}
use mathlib.Core.Bool.{Bool, true}
use mathlib.Core.List.{List, [], ◌∷◌}
use mathlib.Core.Path.{◌≡◌, refl}
use native.Mathlib.Omega.{arith}
use native.Mathlib.Nat.{add-zero}
use borrow.Author.Tests.{ltb-true, ltb-false}
use lib.Bits.{bit_or}
use lib.Dec.{ltb}
use lib.ListN.{length, get_or}
use Rattle.std.specs.List.{fold}
use Rattle.laws.specs.Cases.{on}
use Rattle.chars.specs.Under.{Under, or_left, or_right}
use Rattle.meaning.specs.Utf8.{valid}
use Rattle.chars.proofs.Spaces.{Checking, check_ascii, check_end}

pub most_of : (s : List ℕ) (i : ℕ) → i + 4 ≤ length s
    → Under s i 4 (bit_or (bit_or (bit_or (get_or s i 0) (get_or s (i + 1) 0)) (get_or s (i + 2) 0)) (get_or s (i + 3) 0))
most_of s i h = record { fits = h; all = go }
  where
    a : ℕ
    a = get_or s i 0

    b : ℕ
    b = get_or s (i + 1) 0

    c : ℕ
    c = get_or s (i + 2) 0

    d : ℕ
    d = get_or s (i + 3) 0

    go : (k : ℕ) → k < 4 → get_or s (i + k) 0 ≤ bit_or (bit_or (bit_or a b) c) d
    go zero l = rw (add-zero i) (omega (arith, or_left a b, or_left (bit_or a b) c, or_left (bit_or (bit_or a b) c) d))
    go (suc zero) l = omega (arith, or_right a b, or_left (bit_or a b) c, or_left (bit_or (bit_or a b) c) d)
    go (suc (suc zero)) l = omega (arith, or_right (bit_or a b) c, or_left (bit_or (bit_or a b) c) d)
    go (suc (suc (suc zero))) l = omega (arith, or_right (bit_or (bit_or a b) c) d)
    go (suc (suc (suc (suc k)))) l = absurd (omega arith)

pub eight_of : (s : List ℕ) (i a b : ℕ) → Under s i 4 a → Under s (i + 4) 4 b → ltb (bit_or a b) 128 ≡ true → Under s i 8 127
eight_of s i a b p q e = record { fits = omega (arith, q.fits); all = go }
  where
    l : bit_or a b < 128
    l = ltb-true (bit_or a b) 128 e

    go : (k : ℕ) → k < 8 → get_or s (i + k) 0 ≤ 127
    go k h =
        on (ltb k 4)
        (λ t. omega (arith, p.all k (ltb-true k 4 t), or_left a b, l))
        (λ t.
        let m : 4 ≤ k = ltb-false k 4 t in
        let n : i + 4 + (k - 4) ≡ i + k = omega arith in
        omega (arith, rw n at (q.all (k - 4) (omega arith)), or_right a b, l))

ascii_run : (s : List ℕ) (i n : ℕ) → Checking s i → Under s i n 127 → Checking s (i + n)
ascii_run s i zero k u = rw (add-zero i) k
ascii_run s i (suc n) k u =
    let e : i + suc n ≡ i + n + 1 = omega arith in
    let h : i + n < length s = omega (arith, u.fits) in
    let v : Under s i n 127 = record { fits = omega (arith, u.fits); all = λ j l. u.all j (omega arith) } in
    rw e (check_ascii s (i + n) (ascii_run s i n k v) h (u.all n (omega arith)))

pub check_eight : (s : List ℕ) (i : ℕ) (r : Bool) → Checking s i → (r ≡ true → Under s i 8 127) → r ≡ true → Checking s (i + 8)
check_eight s i r k u t = ascii_run s i 8 k (u t)

-- ---- all bytes
or_most : (s : List ℕ) (m : ℕ) → (m ≤ fold bit_or m s) × ((k : ℕ) → get_or s k 0 ≤ fold bit_or m s)
or_most [] m = (omega arith, λ k. omega arith)
or_most (x ∷ s) m = go (or_most s (bit_or m x))
  where
    go : (bit_or m x ≤ fold bit_or (bit_or m x) s) × ((k : ℕ) → get_or s k 0 ≤ fold bit_or (bit_or m x) s)
        → (m ≤ fold bit_or (bit_or m x) s) × ((k : ℕ) → get_or (x ∷ s) k 0 ≤ fold bit_or (bit_or m x) s)
    go r = (omega (arith, or_left m x), at)
      where
        at : (k : ℕ) → get_or (x ∷ s) k 0 ≤ fold bit_or (bit_or m x) s
        at zero = omega (arith, or_right m x, r.0)
        at (suc k) = r.1 k

module _ (s : List ℕ) where
  pub under_all : (m : ℕ) → m ≡ fold bit_or 0 s → ltb m 128 ≡ true → Under s 0 (length s) 127
  under_all m e t = record { fits = omega arith; all = λ k l. omega (arith, (or_most s 0).1 (0 + k), ltb-true m 128 t, e) }

  pub all_ascii : (r : Bool) → (r ≡ true → Under s 0 (length s) 127) → r ≡ true → true ≡ valid s
  all_ascii r u t =
      let c : Checking s 0 = record { high = omega arith; left = refl } in
      check_end s (0 + length s) (ascii_run s 0 (length s) c (u t)) (omega arith)
