-- Entries in turn, each against those before it: the first that meets an earlier one, and the first fault.
use Rattle.std.specs.Prelude.{ℕ, suc, ◌+◌, Bool, true, false, List, [], ◌∷◌, eqb, replicate, Result, Ok, Err}
use Rattle.meaning.specs.declared.Refused.{Refused}
use Rattle.meaning.specs.Base.{pick, same}
use Rattle.meaning.specs.Numbered.{number, told}
use Rattle.meaning.specs.Refusal.{accepted, refused, number_of}
use Rattle.meaning.specs.Verdict.{Verdict, or_else, among, with_last, in_turn}
use Rattle.schema.specs.Texts.{clip}
use Rattle.turns.specs.declared.Mark.{Mark}
use Rattle.turns.specs.declared.EntryRefused.{EntryRefused}

abbrev pub no_mark : {R : Type 0} → Mark R
no_mark = record { from = 0; len = 0; early = Ok tt; late = Ok tt }

abbrev pub no_marks : {R : Type 0} → List (Mark R)
no_marks = replicate 64 no_mark

-- one of these is hit
abbrev pub any_of : {X : Type 0} → (X → Bool) → List X → Bool
any_of hit [] = false
any_of hit (y ∷ ys) = pick (hit y) true (any_of hit ys)

-- how many entries stand before the first that hits an earlier one, some of which are given
abbrev pub first_hit : {X : Type 0} → (X → X → Bool) → List X → List X → ℕ
first_hit hit earlier [] = 0
first_hit hit earlier (x ∷ xs) = pick (any_of (hit x) earlier) 0 (suc (first_hit hit (with_last earlier x) xs))

-- the first of two that refuses
abbrev pub first_err : {E : Type 0} → Result (Unit {0}) E → Result (Unit {0}) E → Result (Unit {0}) E
first_err (Ok u) r = r
first_err (Err e) r = Err e

abbrev pub named : {R : Type 0} → List ℕ → Mark R → List ℕ
named bytes m = clip m.from m.len bytes

abbrev pub same_name : {R : Type 0} → List ℕ → Mark R → Mark R → Bool
same_name bytes a b = same (named bytes a) (named bytes b)

-- an entry's number
unfoldable pub entry_fault : ℕ → Bool → Mark Refused → ℕ
entry_fault number met m = or_else (told m.early) (or_else (pick met number 0) (told m.late))

-- the same by what it is refused for
abbrev pub entry_checked : {R : Type 0} → R → Bool → Mark R → Result (Unit {0}) R
entry_checked twice met m = first_err m.early (first_err (pick met (Err twice) (Ok tt)) m.late)

-- a refusal's number, 0 for none, and the entry
pub record Fault : Type 0 where
  pub number : ℕ
  pub place : ℕ

-- the first entry that has the name of an earlier one
abbrev pub twin : {R : Type 0} → List ℕ → List (Mark R) → ℕ
twin bytes ms = first_hit (same_name bytes) [] ms

-- the first entry with a fault, where entry number t has the name of an earlier one and the first is number i
abbrev pub first_fault : ℕ → ℕ → ℕ → List (Mark Refused) → Fault
first_fault number t i [] = record { number = 0; place = 0 }
first_fault number t i (m ∷ ms) =
    pick (eqb (entry_fault number (eqb i t) m) 0) (first_fault number t (i + 1) ms) (record { number = entry_fault number (eqb i t) m; place = i })

-- an entry's refusal at its place, or what is told of those after it
abbrev pub at_place : {R : Type 0} → ℕ → Result (Unit {0}) R → Result (Unit {0}) (EntryRefused R) → Result (Unit {0}) (EntryRefused R)
at_place i (Ok u) r = r
at_place i (Err e) r = Err (record { refused = e; place = i })

-- the same entry by what it is refused for
abbrev pub first_refused : {R : Type 0} → R → ℕ → ℕ → List (Mark R) → Result (Unit {0}) (EntryRefused R)
first_refused twice t i [] = Ok tt
first_refused twice t i (m ∷ ms) = at_place i (entry_checked twice (eqb i t) m) (first_refused twice t (i + 1) ms)

-- what is told of entries
abbrev pub at_entry : Result (Unit {0}) (EntryRefused Refused) → Fault
at_entry (Ok u) = record { number = 0; place = 0 }
at_entry (Err e) = record { number = number e.refused; place = e.place }

-- a verdict without its section
abbrev pub fault_of : Verdict → Fault
fault_of (accepted u) = record { number = 0; place = 0 }
fault_of (refused f section place) = record { number = number_of f; place = place }

-- "one entry through its checks before the next": an entry's rule, against the names before it
abbrev pub mark_rule : ℕ → List ℕ → List (List ℕ) → Mark Refused → ℕ
mark_rule number bytes earlier m = entry_fault number (among (named bytes m) earlier) m

-- the names up to an entry
abbrev pub noted : {R : Type 0} → List ℕ → List (List ℕ) → Mark R → List (List ℕ)
noted bytes earlier m = with_last earlier (named bytes m)

abbrev pub mark_verdict : ℕ → List ℕ → ℕ → List (Mark Refused) → Verdict
mark_verdict number bytes section ms = in_turn (mark_rule number bytes) (noted bytes) section 0 [] ms

unfoldable pub judged : ℕ → List ℕ → List (Mark Refused) → Fault
judged number bytes ms = fault_of (mark_verdict number bytes 0 ms)

-- the same by what an entry is refused for, after names before it
abbrev pub checked_from : {R : Type 0} → R → List ℕ → List (List ℕ) → ℕ → List (Mark R) → Result (Unit {0}) (EntryRefused R)
checked_from twice bytes earlier i [] = Ok tt
checked_from twice bytes earlier i (m ∷ ms) =
    at_place i (entry_checked twice (among (named bytes m) earlier) m) (checked_from twice bytes (noted bytes earlier m) (i + 1) ms)

unfoldable pub judged_by : {R : Type 0} → R → List ℕ → List (Mark R) → Result (Unit {0}) (EntryRefused R)
judged_by twice bytes ms = checked_from twice bytes [] 0 ms
