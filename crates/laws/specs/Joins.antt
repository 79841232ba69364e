-- The carried joining is 01's: the count beside an open line is the count over its text (W-205).
use Rattle.std.specs.Prelude.{ℕ, ◌+◌, List, [], ◌∷◌, ◌++◌, ◌≡◌, refl}
use Rattle.std.proofs.Common.{sym, ap, ◌∙◌}
use Rattle.meaning.specs.declared.Limits.{Limits}
use Rattle.meaning.specs.declared.Scan.{Scan}
use Rattle.meaning.specs.declared.Fate.{Fate}
use Rattle.meaning.specs.declared.Fate.TheVariants.{Over, Unended, Whole}
use Rattle.meaning.specs.Refusal.{Answer, accepted, accepted_then}
use Rattle.meaning.specs.Space.{blank}
use Rattle.meaning.specs.Quote.{fresh, scan}
use Rattle.meaning.specs.Lines.{Line, Pending, closed, open', Step, fate, join_one, join, physical, kept_lines}
use Rattle.meaning.specs.Lines as counted
use Rattle.meaning.specs.Carried.{Carrying, idle, going, Carried, carry_one, carry}
use Rattle.meaning.specs.Carried as carried
use Rattle.laws.specs.Cases.{on}
use Rattle.laws.specs.Scans.{scan_append}

-- what is carried, without its count
abbrev pub uncounted : Carrying → Pending
uncounted idle = closed
uncounted (going at t c) = open' at t

-- the count is that over the text
abbrev pub Counted : Carrying → Type 0
Counted idle = Unit {0}
Counted (going at t c) = c ≡ scan fresh t

-- all joined lines after one step, where the lines ls follow, the first of number n
abbrev rest : ℕ → List (List ℕ) → Answer Step → Answer (List Line)
rest n ls st = accepted_then st (λ x. accepted_then (join x.pending n ls) (λ r. accepted (x.out ++ r)))

abbrev carried_rest : ℕ → List (List ℕ) → Answer Carried → Answer (List Line)
carried_rest n ls st = accepted_then st (λ x. accepted_then (carry x.onward n ls) (λ r. accepted (x.out ++ r)))

module _ (n : ℕ) (ls : List (List ℕ)) (ih : (p : Carrying) → Counted p → carry p n ls ≡ join (uncounted p) n ls) where
  settles : (at : ℕ) (t : List ℕ) (c : Scan) → c ≡ scan fresh t → carried_rest n ls (carried.settled at t c) ≡ rest n ls (counted.settled at t)
  settles at t c e = rw (← e) (go (fate c))
    where
      go : (v : Fate) → carried_rest n ls (carried.settle at t c v) ≡ rest n ls (counted.settle at t v)
      go Over = refl
      go Unended = rw (ih (going at t c) e)
      go Whole = rw (ih idle tt)

pub carry_is_join : (p : Carrying) (n : ℕ) (ls : List (List ℕ)) → Counted p → carry p n ls ≡ join (uncounted p) n ls
unfolding carry_one join_one
carry_is_join idle n [] h = refl
carry_is_join (going at t c) n [] h = refl
carry_is_join idle n (l ∷ ls) h =
    on (blank l)
    (λ e. rw (e, carry_is_join idle (n + 1) ls tt))
    (λ e. rw e (settles (n + 1) ls (λ p k. carry_is_join p (n + 1) ls k) n l (scan fresh l) refl))
carry_is_join (going at t c) n (l ∷ ls) h =
    settles (n + 1) ls (λ p k. carry_is_join p (n + 1) ls k) at (t ++ (10 ∷ l)) (scan c (10 ∷ l))
    (ap (λ (x : Scan). scan x (10 ∷ l)) h ∙ sym (scan_append fresh t (10 ∷ l)))

pub carried_joined : (s : List ℕ) → carried.joined s ≡ counted.joined s
unfolding carried.joined counted.joined
carried_joined s = carry_is_join idle 1 (kept_lines (physical s)) tt

pub carried_lines : (limits : Limits) (s : List ℕ) → carried.lines limits s ≡ counted.lines limits s
unfolding carried.lines counted.lines
carried_lines limits s = rw (carried_joined s)
