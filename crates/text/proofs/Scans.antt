-- The string state along a text: what each loop keeps, and one law for each way on and out.
use Prim.Native.Nat.{ℕ, suc, ◌+◌, ◌-◌, ◌≤◌, ◌<◌}
use mathlib.Core.Bool.{Bool, true, false}
use mathlib.Core.List.{List, [], ◌∷◌}
use mathlib.Core.Path.{◌≡◌, refl, sym, ap, ◌∙◌}
use native.Mathlib.Omega.{arith}
use native.Mathlib.Numerals.{add-one}
use borrow.Author.Tests.{eq-eqb, ne_eqb}
use lib.Dec.{eqb}
use lib.ListN.{length, get_or, take, drop, length-drop, drop_of_length-le}
use lib.Seq.{drop-cons, drop-drop}
use Rattle.meaning.specs.declared.Scan.{Scan}
use Rattle.meaning.specs.Base.{before}
use Rattle.meaning.specs.declared.StringState.{StringState}
use Rattle.meaning.specs.declared.StringState.TheVariants.{Outside, Inside, Escaped}
use Rattle.meaning.specs.Quote.{state_after, equals_outside, step, scan, fresh, up_to}
use Rattle.meaning.specs.Lines.{quotes_closed}
use Rattle.laws.specs.Cases.{on, never}
use Rattle.laws.specs.Parts.{rest_of}
use Rattle.laws.specs.Scans.{step_opens, step_closes}
use Rattle.meaning.specs.contracts.StringState.{the_type}
use Rattle.slices.specs.Found.{Found}
use Rattle.text.proofs.States.{outside_is, closed_is}
use denote.Enum.Bare.{sameb}
use Rattle.text.specs.Runs.{StringEnd}

-- ---- the scan from the start to its end
pub record Scanning (s : List ℕ) (i : ℕ) (x : Scan) : Type 0 where
  pub high : i ≤ length s
  pub opens : x.opens ≤ i
  pub closes : x.closes ≤ i
  pub left : scan x (drop i s) ≡ scan fresh s

pub scan_on : (s : List ℕ) (i : ℕ) (x y : Scan) → Scanning s i x → i < length s → y ≡ step x (get_or s i 0) → Scanning s (i + 1) y
scan_on s i x y k h e =
    let b : ℕ = get_or s i 0 in
    record {
      high = omega arith;
      opens = rw e (omega (arith, step_opens x b, k.opens));
      closes = rw e (omega (arith, step_closes x b, k.closes));
      left = rw (e, add-one) (rw (drop-cons s i 0 h) at k.left);
    }

pub scan_end : (s : List ℕ) (i : ℕ) (x : Scan) → Scanning s i x → length s ≤ i → x ≡ scan fresh s
scan_end s i x k h = rw (drop_of_length-le s h) at k.left

-- ---- a string from after its opening quote on
pub record Quoting (s : List ℕ) (i : ℕ) (st : StringState) : Type 0 where
  pub high : i ≤ length s
  pub inside : quotes_closed st ≡ false
  pub left : (c : ℕ) → up_to c Inside s ≡ i + up_to c st (drop i s)

-- inside a string nothing is found
none_inside : (c : ℕ) (st : StringState) (b : ℕ) → quotes_closed st ≡ false → equals_outside c st b ≡ false
unfolding equals_outside
none_inside c Outside b e = never refl e
none_inside c Inside b e = refl
none_inside c Escaped b e = refl

module _ (s : List ℕ) (i : ℕ) (st : StringState) (k : Quoting s i st) where
  module _ (h : i < length s) (n : StringState) (g : n ≡ state_after st (get_or s i 0)) (r : Bool) (q : r ≡ sameb the_type n Outside) where
    quoting_left : (c : ℕ) → up_to c Inside s ≡ i + 1 + up_to c n (drop (i + 1) s)
    quoting_left c =
        let t : up_to c st (drop i s) ≡ suc (up_to c n (drop (i + 1) s)) =
        rw (drop-cons s i 0 h, add-one, none_inside c st (get_or s i 0) k.inside, ← g) in
        omega (arith, k.left c)

    pub quoting_on : r ≡ false → Quoting s (i + 1) n
    quoting_on z = record { high = omega arith; inside = sym (outside_is n) ∙ sym q ∙ z; left = quoting_left }

    pub quoting_out : r ≡ true → StringEnd s (i + 1)
    quoting_out z = record { fits = omega arith; is = rw (closed_is n (sym q ∙ z)) at quoting_left }

-- ---- the first byte c outside a string
pub record Seeking (s : List ℕ) (c i : ℕ) : Type 0 where
  pub high : i ≤ length s
  pub left : i + up_to c Outside (drop i s) ≡ up_to c Outside s

module _ (s : List ℕ) (c i : ℕ) (k : Seeking s c i) where
  module _ (h : i < length s) where
    pub seek_hit : get_or s i 0 ≡ c → i ≡ up_to c Outside s
    unfolding equals_outside
    seek_hit e =
        let t : up_to c Outside (drop i s) ≡ 0 = rw (drop-cons s i 0 h, eq-eqb (get_or s i 0) c e) in
        omega (arith, k.left)

    module _ (n : get_or s i 0 ≡ c → ⊥) where
      pub seek_on : (get_or s i 0 ≡ 34 → ⊥) → Seeking s c (i + 1)
      unfolding equals_outside state_after
      seek_on q =
          let t : up_to c Outside (drop i s) ≡ suc (up_to c Outside (drop (i + 1) s)) =
          rw (drop-cons s i 0 h, add-one, ne_eqb (get_or s i 0) c n, ne_eqb (get_or s i 0) 34 q) in
          record { high = omega arith; left = omega (arith, k.left) }

      module _ (q : get_or s i 0 ≡ 34) (m : ℕ) (p : StringEnd (take (length s - (i + 1)) (drop (i + 1) s)) m) where
        there : StringEnd (drop (i + 1) s) m
        there = rw (rest_of s (i + 1)) at p

        string_bound : i + 1 + m ≤ length s
        string_bound = omega (arith, there.fits, length-drop (i + 1) s)

        pub seek_string : Seeking s c (i + (1 + m))
        unfolding equals_outside state_after
        seek_string =
            let p1 : i + (1 + m) ≡ i + 1 + m = omega arith in
            let t : up_to c Outside (drop i s) ≡ suc (up_to c Inside (drop (i + 1) s)) =
            rw (drop-cons s i 0 h, add-one, ne_eqb (get_or s i 0) c n, eq-eqb (get_or s i 0) 34 q) in
            rw p1 (record { high = string_bound; left = rw (← (drop-drop m (i + 1) s)) (omega (arith, k.left, there.is c)) })

-- a list without c has none outside a string
none_here : (c : ℕ) (st : StringState) (b : ℕ) → eqb b c ≡ false → equals_outside c st b ≡ false
unfolding equals_outside
none_here c Outside b e = e
none_here c Inside b e = refl
none_here c Escaped b e = refl

seek_none : (c : ℕ) (st : StringState) (s : List ℕ) → before c s ≡ length s → length s ≡ up_to c st s
seek_none c st [] h = refl
seek_none c st (b ∷ s) h =
    on (eqb b c) (λ e. absurd (omega (arith, rw e at h)))
    (λ e.
    let k : suc (before c s) ≡ suc (length s) = rw e at h in
    rw (none_here c st b e) (ap suc (seek_none c (state_after st b) s (omega arith))))

pub found_none : (c : ℕ) (s : List ℕ) (n : ℕ) → Found c s n → n ≡ length s → length s ≡ up_to c Outside s
found_none c s n f e = seek_none c Outside s (sym f.is ∙ e)
