-- The theorem under the walk: the next joined line is the first of 01's joined lines, and the others start after it.
use Prim.Native.Nat.{ℕ, ◌+◌, ◌-◌, ◌<◌}
use mathlib.Core.List.{List, [], ◌∷◌, ◌++◌, append_assoc}
use mathlib.Core.Path.{◌≡◌, refl, sym, ap, ◌∙◌}
use native.Mathlib.Omega.{arith}
use borrow.Author.Tests.{ne_eqb}
use lib.ListN.{length, drop, length-append}
use lib.Seq.{take_at}
use Rattle.meaning.specs.declared.Fate.{Fate}
use Rattle.meaning.specs.declared.Fate.TheVariants.{Over, Unended, Whole}
use Rattle.meaning.specs.Base.{part}
use Rattle.meaning.specs.Refusal.{Answer, accepted, refused, accepted_then}
use Rattle.meaning.specs.Space.{blank}
use Rattle.meaning.specs.declared.Scan.{Scan}
use Rattle.meaning.specs.Quote.{fresh, scan, step}
use Rattle.meaning.specs.Lines.{Line, closed, fate, join}
use Rattle.meaning.specs.Carried.{idle, Carried, settle, settled, carry_one, carry}
use Rattle.laws.specs.Cases.{on}
use Rattle.laws.specs.Joins.{carry_is_join}
use Rattle.text.specs.Laid.{lines_of}
use Rattle.text.specs.Walk.{Joint, reaching, by_fate, joint_from, ending, placed, next_in, next, Says}
use Rattle.text.proofs.Carried.{gather_carried}
use Rattle.text.proofs.Cuts.{Split, split_of, rest_after}
use Rattle.text.proofs.Handing.{after}

-- ---- a joined line that starts at `at`, whose text so far is t, in front of the rest f
front : (s : List ℕ) (at : ℕ) (t f : List ℕ) → drop at s ≡ t ++ (10 ∷ f) → t ≡ part at (at + length t) s
front s at t f e =
    let k : at + length t - at ≡ length t = omega arith in
    sym (rw (k, e) (take_at t (10 ∷ f) (length t) refl))

after_nothing : (j : Answer (List Line)) → accepted_then j (λ r. accepted r) ≡ j
after_nothing (accepted x) = refl
after_nothing (refused f a p) = refl

-- all joined lines after a step, where the lines ls, the first of number k, follow
abbrev onward : ℕ → List (List ℕ) → Answer Carried → Answer (List Line)
onward k ls st = accepted_then st (λ x. accepted_then (carry x.onward k ls) (λ r. accepted (x.out ++ r)))

module _ (s : List ℕ) (at n : ℕ) where
  -- m lines make the text t, whose count is c, and the lines ls follow
  abbrev goes_on : List ℕ → Scan → ℕ → List (List ℕ) → Fate → Joint
  goes_on t c m ls v = by_fate v (joint_from (step c 10) (length t + 1) (m + 1) ls) (reaching (length t) m)

  whole_says : (t f : List ℕ) (c : Scan) (m : ℕ) (ls : List (List ℕ)) → drop at s ≡ t ++ (10 ∷ f) → ls ≡ lines_of f
      → Says s (onward (n + m) ls (settle n t c Whole)) (placed at n (reaching (length t) m))
  whole_says t f c m ls e q = rw (rest_after s at t f e, ← (front s at t f e), ← q, carry_is_join idle (n + m) ls tt)

  by_fate_lem : (ls : List (List ℕ)) (t f : List ℕ) (c : Scan) (m : ℕ) → drop at s ≡ t ++ (10 ∷ f) → ls ≡ lines_of f
      → Says s (onward (n + m) ls (settle n t c Unended)) (placed at n (goes_on t c m ls Unended))
      → (v : Fate) → Says s (onward (n + m) ls (settle n t c v)) (placed at n (goes_on t c m ls v))
  by_fate_lem ls t f c m e q u Over = refl
  by_fate_lem ls t f c m e q u Unended = u
  by_fate_lem ls t f c m e q u Whole = whole_says t f c m ls e q

  open_says : (ls : List (List ℕ)) (t f : List ℕ) (c : Scan) (m : ℕ) → 0 < m → drop at s ≡ t ++ (10 ∷ f) → ls ≡ lines_of f
      → Says s (onward (n + m) ls (settle n t c Unended)) (placed at n (goes_on t c m ls Unended))
  unfolding carry_one ending
  open_says [] t f c m h e q = rw (ne_eqb (m + 1) 1 (λ z. omega arith))
  open_says (l ∷ ls) t f c m h e q =
      let x : Split f l ls = split_of f l ls (sym q) in
      let u : List ℕ = t ++ (10 ∷ l) in
      let y : Scan = scan c (10 ∷ l) in
      let d : drop at s ≡ (t ++ (10 ∷ l)) ++ (10 ∷ x.rest) =
      e ∙ ap (λ (z : List ℕ). t ++ (10 ∷ z)) x.is ∙ sym (append_assoc t (10 ∷ l) (10 ∷ x.rest)) in
      let k : n + m + 1 ≡ n + (m + 1) = omega arith in
      let w : length (t ++ (10 ∷ l)) ≡ length t + 1 + length l = length-append t (10 ∷ l) ∙ omega arith in
      rw (k, after_nothing (onward (n + (m + 1)) ls (settled n (t ++ (10 ∷ l)) (scan c (10 ∷ l)))))
      (rw w at (by_fate_lem ls u x.rest y (m + 1) d x.lines (open_says ls u x.rest y (m + 1) (omega arith) d x.lines) (fate y)))

-- ---- from a place between joined lines on
says_in : (s : List ℕ) (ls : List (List ℕ)) (at n : ℕ) → lines_of (drop at s) ≡ ls → Says s (carry idle n ls) (next_in at n ls)
unfolding carry_one
says_in s [] at n e = refl
says_in s (l ∷ ls) at n e =
    let x : Split (drop at s) l ls = split_of (drop at s) l ls e in
    on (blank l)
    (λ p. rw (p, after_nothing (carry idle (n + 1) ls)) (says_in s ls (at + length l + 1) (n + 1) (after s at l ls e).lines))
    (λ p. rw (p, gather_carried ls l 1 (omega arith)) (by_fate_lem s at n ls l x.rest (scan fresh l) 1 x.is x.lines (open_says s at n ls l x.rest (scan fresh l) 1 (omega arith) x.is x.lines) (fate (scan fresh l))))

-- by the carried joining, which is 01's
pub says : (s : List ℕ) (at n : ℕ) → Says s (join closed n (lines_of (drop at s))) (next s at n)
unfolding next
says s at n = rw (← (carry_is_join idle n (lines_of (drop at s)) tt)) (says_in s (lines_of (drop at s)) at n refl)
