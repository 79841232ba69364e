-- A room emptied by blocks, and what it has then.
use Prim.Native.Nat.{ℕ, ◌+◌, ◌≤◌}
use mathlib.Core.List.{List, [], ◌∷◌, ◌++◌, append-nil}
use mathlib.Core.Bool.{true}
use mathlib.Core.Path.{◌≡◌, refl, sym, ap, ◌∙◌}
use native.Mathlib.Omega.{arith}
use borrow.Rule.Slice.PartMut.{put_mid}
use lib.Bits.{bit_or, or_add_and, and_le_l, and_le_r}
use lib.ListN.{length, take, drop, length-replicate, length-drop, drop_of_length-le, replicate-append-replicate}
use lib.Seq.{length-take-le}
use lib.Dec.{eqb}
use borrow.Author.Tests.{eqb-true}
use Rattle.std.specs.List.{fold}
use Rattle.std.proofs.lemmas.Slice.{take-put_mid}
use Rattle.meaning.specs.Base.{zeros}

pub length_zeros : (n : ℕ) → length (zeros n) ≡ n
length_zeros n = length-replicate n 0

-- bytes of which none has a bit set
none_set : (s : List ℕ) (m : ℕ) → fold bit_or m s ≡ 0 → (m ≡ 0) × (s ≡ zeros (length s))
none_set [] m e = (e, refl)
none_set (x ∷ s) m e =
    let r : (bit_or m x ≡ 0) × (s ≡ zeros (length s)) = none_set s (bit_or m x) e in
    let z : x ≡ 0 = omega (arith, or_add_and m x, and_le_l m x, and_le_r m x, r.0) in
    (omega (arith, or_add_and m x, and_le_l m x, and_le_r m x, r.0), ap (λ (b : ℕ). b ∷ s) z ∙ ap (λ (t : List ℕ). 0 ∷ t) r.1)

pub all_zero : (s : List ℕ) (m : ℕ) → m ≡ fold bit_or 0 s → eqb m 0 ≡ true → s ≡ zeros (length s)
all_zero s m e z = (none_set s 0 (sym e ∙ eqb-true m 0 z)).1

-- k bytes from a on made zero, after a that are
module _ (s t : List ℕ) (a k : ℕ) (h : a + k ≤ length s) (z : take a s ≡ zeros a) (e : t ≡ zeros (length (take k (drop a s)))) where
  laid : t ≡ zeros k
  laid = e ∙ ap zeros (length-take-le k (drop a s) (omega (arith, length-drop a s)))

  more : take a s ++ t ≡ zeros (a + k)
  more = rw (z, laid) (replicate-append-replicate a k 0)

  pub empty_on : (n : ℕ) → n ≡ a + k → take n (put_mid a k s t) ≡ zeros n
  empty_on n l =
      let m : n ≡ a + length t = omega (arith, ap length laid, length_zeros k) in
      take-put_mid a k s t n m (omega arith) ∙ more ∙ ap zeros (sym l)

  pub empty_end : length s ≡ a + k → put_mid a k s t ≡ zeros (length s)
  empty_end l =
      let d : drop k (drop a s) ≡ [] = drop_of_length-le (drop a s) (omega (arith, length-drop a s)) in
      rw (d, append-nil, l) more
