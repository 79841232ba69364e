-- Trimming where nothing but spaces stand at either end, and what is blank: one law for each way on and out.
use Prim.Native.Nat.{ℕ, zero, suc, ◌+◌, ◌-◌, ◌≤◌, ◌<◌}
use mathlib.Core.Bool.{Bool, true, false}
use mathlib.Core.List.{List}
use mathlib.Core.Path.{◌≡◌, refl, sym, ap, ◌∙◌}
use native.Mathlib.Omega.{arith}
use native.Mathlib.Nat.{add-zero}
use native.Mathlib.Numerals.{add-one}
use borrow.Author.Tests.{ltb-true, eq-eqb, ne_eqb}
use lib.Dec.{ltb}
use lib.ListN.{length, get_or, take, drop, length-take, length-drop}
use lib.Seq.{length-take-le, get_or-take, get_or-drop}
use Rattle.meaning.specs.Space.{trim, blank}
use Rattle.laws.specs.Parts.{rest_of}
use Rattle.chars.specs.Ascii.{space_white, high_plain}
use Rattle.chars.specs.Trimmed.{Starting, Ending, Trimmed, Dark, Snug}
use Rattle.chars.specs.declared.Span.{Span}
use Rattle.chars.proofs.Spaces.{start_ascii, start_plain, start_end, end_ascii, end_plain, both, all_white}

pub dark_so : (b : ℕ) → 32 < b → ltb b 128 ≡ true → Dark b
dark_so b h e =
    let l : b < 128 = ltb-true b 128 e in
    record { narrow = l; plain = high_plain b (λ q. omega arith) l (omega arith) }

module _ (s : List ℕ) where
  pub lead_none : Starting s 0
  lead_none = record { high = omega arith; left = refl }

  pub lead_on : (i : ℕ) → Starting s i → i < length s → get_or s i 0 ≡ 32 → Starting s (i + 1)
  lead_on i k h e = start_ascii s i k h (omega arith) true (space_white (get_or s i 0) e) refl

  pub leads : (r : ℕ) → r ≤ length s → ((k : ℕ) → k < r → get_or s k 0 ≡ 32) → Starting s r
  leads zero h e = lead_none
  leads (suc r) h e = rw (← add-one) (lead_on r (leads r (omega arith) (λ k l. e k (omega arith))) (omega arith) (e r (omega arith)))

  pub tail_on : (n : ℕ) → Ending s n → 0 < n → get_or s (n - 1) 0 ≡ 32 → Ending s (n - 1)
  tail_on n k h e = end_ascii s n k h (omega arith) true (space_white (get_or s (n - 1) 0) e) refl

  pub blank_none : length s ≡ 0 → true ≡ blank s
  blank_none z = sym (eq-eqb 0 (length s) (sym z)) ∙ all_white s 0 (start_end s 0 lead_none (omega arith))

  module _ (z : length s ≡ 0 → ⊥) where
    module _ (r : Bool) (d : r ≡ true → Dark (get_or s 0 0)) (t : r ≡ true) where
      pub blank_dark : false ≡ blank s
      blank_dark =
          sym (ne_eqb 0 (length s) (λ q. z (sym q)))
          ∙ all_white s 0 (start_plain s 0 lead_none (omega arith) (d t).narrow false (d t).plain refl)

-- the part from a on, without the bytes after its first e, begins and ends with no white space
pub snug_both : (s : List ℕ) (a e : ℕ) (r : Bool) → Starting s a → Ending (take (length s - a) (drop a s)) e
    → (r ≡ true → Snug (take (a + e - a) (drop a s))) → r ≡ true → Trimmed s (record { from = a; end = a + e })
snug_both s a e r st en g t =
    let d : List ℕ = drop a s in
    let m : a + e - a ≡ e = omega arith in
    let o : take (length s - a) d ≡ d = rest_of s a in
    let k : Snug (take e d) = rw m at (g t) in
    let b : e ≤ length d = rw o at en.high in
    let l : length (take e d) ≡ e = length-take-le e d b in
    let z : 0 < e = omega (arith, k.some) in
    let y : e - 1 < e = omega arith in
    let f : Dark (get_or s a 0) = rw (get_or-take e d 0 0 z, get_or-drop a s 0 0, add-zero a) at k.first in
    let h : Dark (get_or (take (length s - a) d) (e - 1) 0) = rw o (rw (l, get_or-take e d (e - 1) 0 y) at k.final) in
    both s a e
    (start_plain s a st (omega (arith, length-drop a s)) f.narrow false f.plain refl)
    (end_plain (take (length s - a) d) e en z h.narrow false h.plain refl)

-- ---- two parts that meet the promise are the same
trimmed_long : (s : List ℕ) (r : Span) → Trimmed s r → r.end ≡ r.from + length (trim s)
trimmed_long s r g =
    omega (arith, g.low, g.high, ap length g.is, length-take (r.end - r.from) (drop r.from s), length-drop r.from s)

pub trimmed_decides : (s : List ℕ) (p q : Span) → Trimmed s p → Trimmed s q → p ≡ q
trimmed_decides s p q g h =
    let f : p.from ≡ q.from = g.at ∙ sym h.at in
    let e : p.end ≡ q.end = omega (arith, f, trimmed_long s p g, trimmed_long s q h) in
    let x : ◌≡◌ {A = Span} (record { from = p.from; end = p.end }) (record { from = q.from; end = q.end }) = rw (f, e) in
    x
