-- The parts of a laid text that are counted: one behind the other, and those of the next joined line come first.
use Rattle.std.specs.Prelude.{None, Some, Ok, Err}
use Prim.Native.Nat.{ℕ, suc, ◌+◌, ◌≤◌, ◌<◌}
use mathlib.Core.List.{List, [], ◌∷◌, ◌++◌}
use mathlib.Core.Option.{Option, none, some}
use mathlib.Core.Path.{◌≡◌, refl, sym, ap, ◌∙◌}
use native.Mathlib.Omega.{arith}
use native.Mathlib.Nat.{add-zero}
use borrow.Author.Tests.{eqb-true}
use lib.Dec.{eqb}
use lib.ListN.{length, drop, length-drop, length-append}
use Rattle.meaning.specs.declared.Fate.{Fate}
use Rattle.meaning.specs.declared.Fate.TheVariants.{Over, Unended, Whole}
use Rattle.meaning.specs.declared.Scan.{Scan}
use Rattle.meaning.specs.Space.{blank}
use Rattle.meaning.specs.Quote.{fresh, scan, step}
use Rattle.meaning.specs.Lines.{fate}
use Rattle.laws.specs.Cases.{on}
use Rattle.text.specs.Laid.{lines_of}
use Rattle.text.specs.Parts.{Part, part_first, parts_in, parts, Apart, Hands}
use Rattle.text.specs.Walk.{Joint, Next, reaching, by_fate, joint_from, joint_in, ending, placed, next_in, next, Handed}
use Rattle.text.proofs.Carried.{joint_carried}
use Rattle.text.proofs.Cuts.{Split, split_of, rest_after}

-- ---- the first line at a place, and what is after its LF
pub record After (s : List ℕ) (at : ℕ) (l : List ℕ) (ls : List (List ℕ)) : Type 0 where
  pub fits : at + length l < length s
  pub lines : lines_of (drop (at + length l + 1) s) ≡ ls

pub after : (s : List ℕ) (at : ℕ) (l : List ℕ) (ls : List (List ℕ)) → lines_of (drop at s) ≡ l ∷ ls → After s at l ls
after s at l ls e =
    let x : Split (drop at s) l ls = split_of (drop at s) l ls e in
    let n : length (l ++ (10 ∷ x.rest)) ≡ length l + suc (length x.rest) = length-append l (10 ∷ x.rest) in
    let k : length (drop at s) ≡ length (l ++ (10 ∷ x.rest)) = ap length x.is in
    record {
      fits = omega (arith, length-drop at s);
      lines = ap lines_of (rest_after s at l x.rest x.is) ∙ sym x.lines;
    }

-- ---- apart
module _ (s : List ℕ) where
  first_apart : (low at : ℕ) (l : List ℕ) (ls : List (List ℕ)) (f : Fate) (c : Scan) → low ≤ at → at + length l < length s
      → ((o : Option Scan) → Apart (at + length l + 1) (length s) (parts_in o (at + length l + 1) ls))
      → Apart low (length s) (part_first at (at + length l + 1) f c (λ o. parts_in o (at + length l + 1) ls))
  first_apart low at l ls Over c h k ih = (h, omega arith, omega arith, tt)
  first_apart low at l ls Unended c h k ih = (h, omega arith, omega arith, ih (some (step c 10)))
  first_apart low at l ls Whole c h k ih = (h, omega arith, omega arith, ih none)

  apart_in : (ls : List (List ℕ)) (o : Option Scan) (low at : ℕ) → low ≤ at → lines_of (drop at s) ≡ ls → Apart low (length s) (parts_in o at ls)
  apart_in [] none low at h e = tt
  apart_in [] (some c) low at h e = tt
  apart_in (l ∷ ls) none low at h e =
      let a : After s at l ls = after s at l ls e in
      on (blank l)
      (λ p. rw p (apart_in ls none low (at + length l + 1) (omega arith) a.lines))
      (λ p. rw p (first_apart low at l ls (fate (scan fresh l)) (scan fresh l) h a.fits (λ o. apart_in ls o (at + length l + 1) (at + length l + 1) (omega arith) a.lines)))
  apart_in (l ∷ ls) (some c) low at h e =
      let a : After s at l ls = after s at l ls e in
      first_apart low at l ls (fate (scan c l)) (scan c l) h a.fits (λ o. apart_in ls o (at + length l + 1) (at + length l + 1) (omega arith) a.lines)

  pub apart : (at : ℕ) → Apart at (length s) (parts s at)
  unfolding parts
  apart at = apart_in (lines_of (drop at s)) none at at (omega arith) refl

-- ---- the parts of one joined line, which starts at `at`: it goes on at from, with its m-th line
module _ (s : List ℕ) (at : ℕ) where
  abbrev Own : ℕ → ℕ → List Part → Joint → Type 0
  Own from m ps (Ok None) = (m ≡ 1) × (ps ≡ [])
  Own from m ps (Ok (Some x)) = Hands s ps from m (record { at = at + x.end + 1; line = x.lines + 1 })
  Own from m ps (Err r) = Unit

  own_none : (from m : ℕ) → Own from m [] (ending m)
  unfolding ending
  own_none from m = on (eqb m 1) (λ p. rw p (eqb-true m 1 p, refl)) (λ p. rw p tt)

  -- a line in front
  own_first : (from next m : ℕ) (ps : List Part) (j : Joint) → from < next → 0 < m → Own next (m + 1) ps j → Own from m (record { from = from; end = next } ∷ ps) j
  own_first from next m ps (Ok None) h k o = absurd (omega (arith, o.0))
  own_first from next m ps (Err r) h k o = tt
  own_first from next m ps (Ok (Some x)) h k o = record {
    own = record { from = from; end = next } ∷ o.own;
    tiles = (refl, h, o.tiles);
    count = omega (arith, o.count);
    all = ap (λ (z : List Part). record { from = from; end = next } ∷ z) o.all;
  }

  -- by what the line at at + i is, whose count is d
  module _ (i m : ℕ) (h : 0 < m) (l : List ℕ) (ls : List (List ℕ)) (a : After s (at + i) l ls) (d : Scan) where
    own_by : Own (at + i + length l + 1) (m + 1) (parts_in (some (step d 10)) (at + i + length l + 1) ls) (joint_from (step d 10) (i + length l + 1) (m + 1) ls)
        → (v : Fate) → Own (at + i) m (part_first (at + i) (at + i + length l + 1) v d (λ o. parts_in o (at + i + length l + 1) ls))
        (by_fate v (joint_from (step d 10) (i + length l + 1) (m + 1) ls) (reaching (i + length l) m))
    unfolding parts
    own_by u Over = tt
    own_by u Unended = own_first (at + i) (at + i + length l + 1) m _ (joint_from (step d 10) (i + length l + 1) (m + 1) ls) (omega arith) h u
    own_by u Whole =
        let p : at + (i + length l) + 1 ≡ at + i + length l + 1 = omega arith in
        record {
          own = record { from = at + i; end = at + i + length l + 1 } ∷ [];
          tiles = (refl, omega arith, sym p);
          count = refl;
          all = rw (p, a.lines);
        }

  own_in : (ls : List (List ℕ)) (c : Scan) (i m : ℕ) → 0 < m → lines_of (drop (at + i) s) ≡ ls
      → Own (at + i) m (parts_in (some c) (at + i) ls) (joint_from c i m ls)
  own_in [] c i m h e = own_none (at + i) m
  own_in (l ∷ ls) c i m h e =
      let a : After s (at + i) l ls = after s (at + i) l ls e in
      let place : at + (i + length l + 1) ≡ at + i + length l + 1 = omega arith in
      own_by i m h l ls a (scan c l)
      (rw place at (own_in ls (step (scan c l) 10) (i + length l + 1) (m + 1) (omega arith) (rw place a.lines)))
      (fate (scan c l))

-- ---- the next joined line
handed_placed : (s : List ℕ) (at n : ℕ) (ps : List Part) (j : Joint) → Apart at (length s) ps → Own s at at 1 ps j → Handed s at ps (placed at n j)
handed_placed s at n ps (Ok None) a o = o.1
handed_placed s at n ps (Err r) a o = a
handed_placed s at n ps (Ok (Some x)) a o = record { own = o.own; tiles = o.tiles; count = omega (arith, o.count); all = o.all }

handed_wider : (s : List ℕ) (low at : ℕ) (ps : List Part) (r : Next) → Apart low (length s) ps → Handed s at ps r → Handed s low ps r
handed_wider s low at ps (Ok None) a h = h
handed_wider s low at ps (Ok (Some l)) a h = h
handed_wider s low at ps (Err u) a h = a

handed_in : (s : List ℕ) (ls : List (List ℕ)) (at n : ℕ) → lines_of (drop at s) ≡ ls → Handed s at (parts_in none at ls) (next_in at n ls)
handed_in s [] at n e = refl
handed_in s (l ∷ ls) at n e =
    let a : After s at l ls = after s at l ls e in
    let w : Apart at (length s) (parts_in none at (l ∷ ls)) = apart_in s (l ∷ ls) none at at (omega arith) e in
    on (blank l)
    (λ p.
    let v : Apart at (length s) (parts_in none (at + length l + 1) ls) = rw p at w in
    rw p (handed_wider s at (at + length l + 1) (parts_in none (at + length l + 1) ls) (next_in (at + length l + 1) (n + 1) ls) v (handed_in s ls (at + length l + 1) (n + 1) a.lines)))
    (λ p.
    let o : Own s at (at + 0) 1 (parts_in (some fresh) (at + 0) (l ∷ ls)) (joint_in (l ∷ ls)) =
    rw (joint_carried (l ∷ ls)) at (own_in s at (l ∷ ls) fresh 0 1 (omega arith) (rw add-zero e)) in
    rw p (handed_placed s at n _ (joint_in (l ∷ ls)) (rw p at w) (rw add-zero at o)))

pub handed : (s : List ℕ) (at n : ℕ) → Handed s at (parts s at) (next s at n)
unfolding parts next
handed s at n = handed_in s (lines_of (drop at s)) at n refl
