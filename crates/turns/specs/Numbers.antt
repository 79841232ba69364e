-- Entries whose rules give numbers, 0 for none: they are judged by these.
use Rattle.std.specs.Prelude.{ℕ, ◌+◌, ◌≤◌, List, [], ◌∷◌, map, ◌≡◌, refl, Bool, true, false, eqb, Result, Ok, Err}
use Rattle.std.proofs.Common.{sym, ap, ◌∙◌, arith, ne_eqb}
use Rattle.meaning.specs.Base.{pick}
use Rattle.meaning.specs.Verdict as verdicts
use Rattle.meaning.specs.Verdict.{Verdict, or_else, first_refusal, among, with_last, in_turn}
use Rattle.laws.specs.Cases.{on}
use Rattle.schema.specs.Texts.{clip}
use Rattle.turns.specs.declared.Mark.{Mark}
use Rattle.turns.specs.declared.EntryRefused.{EntryRefused}
use Rattle.turns.specs.Marks.{Fault, entry_checked, twin, at_place, first_refused, fault_of, checked_from, judged_by}
use Rattle.turns.specs.Turns.{Says, turn_said, turn_fault, twin_checked}

pub record Numbers : Type 0 where
  pub from : ℕ
  pub len : ℕ
  pub early : ℕ
  pub late : ℕ

abbrev pub called : List ℕ → Numbers → List ℕ
called bytes m = clip m.from m.len bytes

-- an entry's number
abbrev pub numbers_fault : ℕ → Bool → Numbers → ℕ
numbers_fault number met m = or_else m.early (or_else (pick met number 0) m.late)

abbrev pub numbers_rule : ℕ → List ℕ → List (List ℕ) → Numbers → ℕ
numbers_rule number bytes earlier m = numbers_fault number (among (called bytes m) earlier) m

abbrev pub called_so_far : List ℕ → List (List ℕ) → Numbers → List (List ℕ)
called_so_far bytes earlier m = with_last earlier (called bytes m)

abbrev pub numbers_verdict : ℕ → List ℕ → ℕ → List Numbers → Verdict
numbers_verdict number bytes section ms = in_turn (numbers_rule number bytes) (called_so_far bytes) section 0 [] ms

abbrev pub numbers_judged : ℕ → List ℕ → List Numbers → Fault
numbers_judged number bytes ms = fault_of (numbers_verdict number bytes 0 ms)

-- the first entry with a fault, where entry number t has the name of an earlier one and the first is number i
abbrev pub numbers_first : ℕ → ℕ → ℕ → List Numbers → Fault
numbers_first number t i [] = record { number = 0; place = 0 }
numbers_first number t i (m ∷ ms) =
    pick (eqb (numbers_fault number (eqb i t) m) 0) (numbers_first number t (i + 1) ms) (record { number = numbers_fault number (eqb i t) m; place = i })

abbrev pub refusing : ℕ → Result (Unit {0}) ℕ
refusing n = pick (eqb n 0) (Ok tt) (Err n)

abbrev pub mark_by : Numbers → Mark ℕ
mark_by m = record { from = m.from; len = m.len; early = refusing m.early; late = refusing m.late }

abbrev pub at_number : Result (Unit {0}) (EntryRefused ℕ) → Fault
at_number (Ok u) = record { number = 0; place = 0 }
at_number (Err e) = record { number = e.refused; place = e.place }

met_number : (number late : ℕ) (met : Bool) → 1 ≤ number
    → entry_checked number met (record { from = 0; len = 0; early = Ok tt; late = refusing late }) ≡ refusing (or_else (pick met number 0) late)
met_number number late true h = rw (ne_eqb number 0 (λ z. omega arith), ne_eqb number 0 (λ z. omega arith))
met_number number late false h = refl

checked_number : (number : ℕ) (met : Bool) (m : Numbers) → 1 ≤ number → entry_checked number met (mark_by m) ≡ refusing (numbers_fault number met m)
checked_number number met m h = on (eqb m.early 0) (λ e. rw e (met_number number m.late met h)) (λ e. rw (e, e))

place_number : (i n : ℕ) (s : Result (Unit {0}) (EntryRefused ℕ)) (v : Verdict)
    → at_number s ≡ fault_of v → at_number (at_place i (refusing n) s) ≡ fault_of (first_refusal (verdicts.judged 0 i n) v)
place_number i n s v h = on (eqb n 0) (λ e. rw e h) (λ e. rw e)

place_first : (i n : ℕ) (s : Result (Unit {0}) (EntryRefused ℕ)) (f : Fault)
    → at_number s ≡ f → at_number (at_place i (refusing n) s) ≡ pick (eqb n 0) f (record { number = n; place = i })
place_first i n s f h = on (eqb n 0) (λ e. rw e h) (λ e. rw e)

module _ (number : ℕ) (bytes : List ℕ) (h : 1 ≤ number) where
  turn_number : (i : ℕ) (earlier : List (List ℕ)) (ms : List Numbers)
      → at_number (checked_from number bytes earlier i (map mark_by ms)) ≡ fault_of (in_turn (numbers_rule number bytes) (called_so_far bytes) 0 i earlier ms)
  turn_number i earlier [] = refl
  turn_number i earlier (m ∷ ms) =
      let met = among (called bytes m) earlier in
      rw (checked_number number met m h)
      (place_number i (numbers_fault number met m) (checked_from number bytes (called_so_far bytes earlier m) (i + 1) (map mark_by ms))
      (in_turn (numbers_rule number bytes) (called_so_far bytes) 0 (i + 1) (called_so_far bytes earlier m) ms)
      (turn_number (i + 1) (called_so_far bytes earlier m) ms))

  pub numbers_told : (ms : List Numbers) → at_number (judged_by number bytes (map mark_by ms)) ≡ numbers_judged number bytes ms
  unfolding judged_by
  numbers_told ms = turn_number 0 [] ms

  first_number : (t i : ℕ) (ms : List Numbers) → at_number (first_refused number t i (map mark_by ms)) ≡ numbers_first number t i ms
  first_number t i [] = refl
  first_number t i (m ∷ ms) =
      rw (checked_number number (eqb i t) m h)
      (place_first i (numbers_fault number (eqb i t) m) (first_refused number t (i + 1) (map mark_by ms)) (numbers_first number t (i + 1) ms) (first_number t (i + 1) ms))

  -- the twin first
  pub numbers_twin_first : (ms : List Numbers) → numbers_first number (twin bytes (map mark_by ms)) 0 ms ≡ numbers_judged number bytes ms
  numbers_twin_first ms =
      sym (first_number (twin bytes (map mark_by ms)) 0 ms)
      ∙ ap at_number (twin_checked number bytes (map mark_by ms))
      ∙ numbers_told ms

-- the verdict of whichever section by its fault
module _ (number : ℕ) (bytes : List ℕ) (section : ℕ) (ms : List Numbers) where
  pub numbers_said : (r : Fault) → r ≡ numbers_judged number bytes ms → Says section r (numbers_verdict number bytes section ms)
  numbers_said r e =
      rw (turn_fault (numbers_rule number bytes) (called_so_far bytes) section 0 0 [] ms, ← e)
      at (turn_said (numbers_rule number bytes) (called_so_far bytes) section 0 [] ms)
