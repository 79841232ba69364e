-- The carried joining, and the parts that it counts.
use Prim.Native.Nat.{ℕ, zero, suc, ◌+◌, ◌-◌, ◌≤◌, ◌<◌}
use mathlib.Core.List.{List, [], ◌∷◌, ◌++◌, append_assoc, append-nil}
use mathlib.Core.Option.{Option, none, some}
use mathlib.Core.Path.{◌≡◌, refl, sym, ap, subst, ◌∙◌}
use native.Mathlib.Omega.{arith}
use lib.Dec.{eqb}
use lib.ListN.{length, take, drop, length-drop, length-append}
use lib.Seq.{take-take, take_at}
use Rattle.meaning.specs.declared.Fate.{Fate}
use Rattle.meaning.specs.declared.Fate.TheVariants.{Over, Unended, Whole}
use Rattle.meaning.specs.declared.Scan.{Scan}
use Rattle.meaning.specs.Base.{part, before}
use Rattle.meaning.specs.Refusal.{Answer, accepted, refused, accepted_then}
use Rattle.meaning.specs.Space.{blank}
use Rattle.meaning.specs.Quote.{fresh, scan, step}
use Rattle.meaning.specs.Lines.{Line, fate}
use Rattle.meaning.specs.Carried.{Carrying, idle, going, settle, carry_one, carry}
use Rattle.laws.specs.Cases.{on}
use Rattle.laws.specs.Joins as joins
use Rattle.text.specs.Laid.{laid, lines_of}
use Rattle.text.specs.Parts.{Part, part_first, parts_in, parts, Apart}
use Rattle.text.proofs.Handing.{After, after, apart}
use Rattle.text.proofs.Cuts.{Split, split_of}
use Rattle.text.proofs.Whole.{checked_joined}
use Rattle.theorems.specs.Words.{At}
use Rattle.theorems.specs.Joining.{CarriedIsCounted, PartsAreWithin, PartsAreApart, bytes_of, bytes_in, PartsAreTheLines, PartSettlesTheCount}

pub carried_is_counted : CarriedIsCounted
carried_is_counted = joins.carried_lines

-- ---- apart
within_at : (low high : ℕ) (ps : List Part) → Apart low high ps → (i : ℕ) (p : Part) → At ps i p → (low ≤ p.from) × (p.from < p.end) × (p.end ≤ high)
within_at low high [] a i p g = absurd g
within_at low high (q ∷ ps) a zero p g = subst (λ (z : Part). (low ≤ z.from) × (z.from < z.end) × (z.end ≤ high)) g (a.0, a.1, a.2)
within_at low high (q ∷ ps) a (suc i) p g =
    let w = within_at q.end high ps a.3 i p g in
    (omega (arith, w.0, a.0, a.1), w.1, w.2)

apart_at : (low high : ℕ) (ps : List Part) → Apart low high ps → (i j : ℕ) (p q : Part) → At ps i p → At ps j q → i < j → p.end ≤ q.from
apart_at low high [] a i j p q g h l = absurd g
apart_at low high (x ∷ ps) a i zero p q g h l = absurd (omega arith)
apart_at low high (x ∷ ps) a zero (suc j) p q g h l = subst (λ (z : Part). z.end ≤ q.from) g (within_at x.end high ps a.3 j q h).0
apart_at low high (x ∷ ps) a (suc i) (suc j) p q g h l = apart_at x.end high ps a.3 i j p q g h (omega arith)

pub parts_are_within : PartsAreWithin
parts_are_within text i p g =
    let w = within_at 0 (length (laid text)) (parts (laid text) 0) (apart (laid text) 0) i p g in
    (w.1, w.2)

pub parts_are_apart : PartsAreApart
parts_are_apart text = apart_at 0 (length (laid text)) (parts (laid text) 0) (apart (laid text) 0)

-- ---- all of every line
abbrev Writes : List ℕ → Answer (List Line) → Type 0
Writes b (accepted ls) = b ≡ bytes_in ls
Writes b (refused f i p) = Unit {0}

bytes_append : (a b : List Line) → bytes_in (a ++ b) ≡ bytes_in a ++ bytes_in b
bytes_append [] b = refl
bytes_append (l ∷ a) b = rw (bytes_append a b, append_assoc (l.text ++ (10 ∷ [])) (bytes_in a) (bytes_in b))

writes_then : (out : List Line) (b : List ℕ) (a : Answer (List Line)) → Writes b a → Writes (bytes_in out ++ b) (accepted_then a (λ r. accepted (out ++ r)))
writes_then out b (accepted ls) h = rw h (sym (bytes_append out ls))
writes_then out b (refused f i p) h = tt

-- what stands before the first of the lines that follow
abbrev begun : Carrying → List ℕ
begun idle = []
begun (going at t c) = t ++ (10 ∷ [])

abbrev counted : Carrying → Option Scan
counted idle = none
counted (going at t c) = some (step c 10)

module _ (s : List ℕ) where
  line_bytes_lem : (at : ℕ) (l : List ℕ) (ls : List (List ℕ)) → lines_of (drop at s) ≡ l ∷ ls → part at (at + length l + 1) s ≡ l ++ (10 ∷ [])
  line_bytes_lem at l ls e =
      let x : Split (drop at s) l ls = split_of (drop at s) l ls e in
      let k : at + length l + 1 - at ≡ length l + 1 = omega arith in
      let n : length (l ++ (10 ∷ [])) ≡ length l + 1 = length-append l (10 ∷ []) in
      rw (k, x.is, ← (append_assoc l (10 ∷ []) x.rest)) (take_at (l ++ (10 ∷ [])) x.rest (length l + 1) n)

  -- a line l at a place, after which the text t is joined so far
  module _ (at n first : ℕ) (l t b : List ℕ) (ls : List (List ℕ)) (c : Scan) (e : part at (at + length l + 1) s ≡ l ++ (10 ∷ []))
      (q : b ++ (l ++ (10 ∷ [])) ≡ t ++ (10 ∷ []))
      (ih : (p : Carrying) → Writes (begun p ++ bytes_of s (parts_in (counted p) (at + length l + 1) ls)) (carry p n ls)) where
    writes_by : (v : Fate) → Writes (b ++ bytes_of s (part_first at (at + length l + 1) v c (λ o. parts_in o (at + length l + 1) ls)))
        (accepted_then (settle first t c v) (λ x. accepted_then (carry x.onward n ls) (λ r. accepted (x.out ++ r))))
    writes_by Over = tt
    writes_by Unended = rw (e, ← (append_assoc b (l ++ (10 ∷ [])) (bytes_of s (parts_in (some (step c 10)) (at + length l + 1) ls))), q) (writes_then [] _ (carry (going first t c) n ls) (ih (going first t c)))
    writes_by Whole =
        rw (e, ← (append_assoc b (l ++ (10 ∷ [])) (bytes_of s (parts_in none (at + length l + 1) ls))), q)
        (rw append-nil at (writes_then (record { at = first; text = t } ∷ []) _ (carry idle n ls) (ih idle)))

  writes_in : (ls : List (List ℕ)) (p : Carrying) (at n : ℕ) → lines_of (drop at s) ≡ ls → Writes (begun p ++ bytes_of s (parts_in (counted p) at ls)) (carry p n ls)
  unfolding carry_one
  writes_in [] idle at n e = refl
  writes_in [] (going first t c) at n e = tt
  writes_in (l ∷ ls) idle at n e =
      let a : After s at l ls = after s at l ls e in
      on (blank l)
      (λ p. rw p (writes_then [] _ (carry idle (n + 1) ls) (writes_in ls idle (at + length l + 1) (n + 1) a.lines)))
      (λ p. rw p (writes_by at (n + 1) n l l [] ls (scan fresh l) (line_bytes_lem at l ls e) refl (λ o. writes_in ls o (at + length l + 1) (n + 1) a.lines) (fate (scan fresh l))))
  writes_in (l ∷ ls) (going first t c) at n e =
      let a : After s at l ls = after s at l ls e in
      let q : (t ++ (10 ∷ [])) ++ (l ++ (10 ∷ [])) ≡ (t ++ (10 ∷ l)) ++ (10 ∷ []) = append_assoc t (10 ∷ []) (l ++ (10 ∷ [])) ∙ sym (append_assoc t (10 ∷ l) (10 ∷ [])) in
      writes_by at (n + 1) first l (t ++ (10 ∷ l)) (t ++ (10 ∷ [])) ls (scan c (10 ∷ l)) (line_bytes_lem at l ls e) q (λ o. writes_in ls o (at + length l + 1) (n + 1) a.lines) (fate (scan c (10 ∷ l)))

pub parts_are_the_lines : PartsAreTheLines
unfolding parts
parts_are_the_lines text ls e =
    let j : carry idle 1 (lines_of (laid text)) ≡ accepted ls = joins.carry_is_join idle 1 (lines_of (laid text)) tt ∙ checked_joined text ∙ e in
    subst (Writes (bytes_of (laid text) (parts_in none 0 (lines_of (laid text))))) j (writes_in (laid text) (lines_of (laid text)) idle 0 1 refl)

-- ---- one call
before_alike : (c k : ℕ) (s s' : List ℕ) → k ≤ length s → before c s < k → take k s' ≡ take k s → before c s' ≡ before c s
before_alike c zero s s' l h e = absurd (omega arith)
before_alike c (suc k) [] s' l h e = absurd (omega arith)
before_alike c (suc k) (b ∷ s) [] l h e = let z : ◌≡◌ {A = ℕ} 0 1 = cc in absurd (omega arith)
before_alike c (suc k) (b ∷ s) (b' ∷ s') l h e =
    let f : b' ≡ b = cc in
    let t : take k s' ≡ take k s = cc in
    on (eqb b c) (λ p. rw (f, p))
    (λ p. let m : suc (before c s) < suc k = rw p at h in rw (f, p, before_alike c k s s' (omega arith) (omega arith) t))

pub part_settles_the_count : PartSettlesTheCount
part_settles_the_count s s' at c r r' k k' h e =
    let n : ℕ = before 10 (drop at s) in
    let w : r.end + 1 - at ≡ n + 1 = omega (arith, k.is) in
    let t : take (n + 1) (drop at s') ≡ take (n + 1) (drop at s) = rw w at e in
    let b : before 10 (drop at s') ≡ n = before_alike 10 (n + 1) (drop at s) (drop at s') (omega (arith, length-drop at s, k.is)) (omega arith) t in
    let l : take n (drop at s') ≡ take n (drop at s) =
    sym (take-take n (n + 1) (drop at s') (omega arith)) ∙ ap (take n) t ∙ take-take n (n + 1) (drop at s) (omega arith) in
    let x : r'.count ≡ r.count = k'.counts ∙ ap (λ (m : ℕ). scan c (take m (drop at s'))) b ∙ ap (scan c) l ∙ sym k.counts in
    let y : r'.end ≡ r.end = omega (arith, k'.is, k.is) in
    rw (y, x)
