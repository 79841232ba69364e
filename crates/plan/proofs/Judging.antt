-- The judge of planning: one law for each way out.
use Prim.Native.Nat.{ℕ, zero, suc, ◌+◌, ◌≤◌, ◌<◌}
use mathlib.Core.List.{List as Seq, [], ◌∷◌}
use mathlib.Core.Path.{◌≡◌, ap}
use native.Mathlib.Omega.{arith}
use borrow.Author.Tests.{eq-eqb, ne_eqb}
use lib.Dec.{eqb}
use lib.ListN.{length}
use Rattle.laws.specs.Cases.{on}
use Rattle.std.specs.Prelude.{Option, Some, None}
use Rattle.tree.specs.Room.{slot_at}
use Rattle.tree.specs.Order.{next}
use Rattle.parse.specs.declared.Refusal.{Refusal}
use Rattle.parse.specs.declared.entry.List.{List}
use Rattle.parse.specs.Entries.{onward, walk, application_at}
use Rattle.parse.specs.Views.{application_list}
use Rattle.parse.specs.Verdict.{Told}
use Rattle.validate.specs.Entries.{kept}
use Rattle.validate.specs.Validated.{validating}
use Rattle.plan.specs.declared.choice.Choice.{Choice}
use Rattle.plan.specs.declared.choice.Choice.TheVariants.{BootChain, Undeclared, At}
use Rattle.plan.specs.Choices.{keyed, declared_in, declared, choice, taken, name_fault, fault}
use Rattle.plan.specs.Planning.{planning}

-- ---- a selection is told at an entry

-- the entry of an application is below this
abbrev Low : ℕ → Choice → Type 0
Low most BootChain = Unit {0}
Low most Undeclared = Unit {0}
Low most (At place n) = place < most

module _ (room store : Seq ℕ) where
  onward_few : (k : ℕ) (f : Option ℕ) (rest : Option ℕ → Seq ℕ) → ((g : Option ℕ) → length (rest g) ≤ k) → length (onward room store f rest) ≤ suc k
  onward_few k None rest h = omega arith
  onward_few k (Some n) rest h = omega (arith, h (Some n))

  -- a walk meets no more than it may
  walk_few : (end place k : ℕ) (after : Option ℕ) → length (walk room store end place k after) ≤ k
  walk_few end place zero after = omega arith
  walk_few end place (suc k) after = onward_few k (next (slot_at room) store end place after) (walk room store end place k) (walk_few end place k)

  module _ (key : Seq ℕ) where
    declared_low : (most i : ℕ) (ns : Seq ℕ) → i + length ns ≤ most → Low most (declared_in room store key i ns)
    declared_low most i [] h = tt
    declared_low most i (n ∷ ns) h =
        on (keyed room store key n) (λ e. rw e (omega arith)) (λ e. rw e (declared_low most (i + 1) ns (omega arith)))

    list_low : (l : List) → Low 65 (declared room store key l)
    list_low l = declared_low 65 0 (walk room store l.end l.place 65 None) (omega (arith, walk_few l.end l.place 65 None))

    choice_low : (made app : ℕ) → Low 65 (choice room store made app key)
    choice_low made app = on (eqb app 0) (λ e. rw e tt) (λ e. rw e (list_low (application_list room store made)))

  fault_low : (made : ℕ) (c : Choice) → Low 65 c → (fault room store made c).place ≤ 70000
  unfolding name_fault
  fault_low made BootChain h = omega arith
  fault_low made Undeclared h = omega arith
  fault_low made (At place n) h =
      on (taken room store made (kept store (application_at room store made n 32).application.name)) (λ e. rw e (omega arith)) (λ e. rw e (omega arith))

-- ---- the judge

module _ (name : Seq ℕ) (app : ℕ) (key store tree : Seq ℕ) (made : ℕ) (v : Refusal) (t : Told (validating name tree store made) v) where
  pub rules_refused : (v.number ≡ 0 → ⊥) → Told (planning name app key tree store made) v
  rules_refused z = record { is = rw (← t.is, ne_eqb v.number 0 z); low = t.low }

  pub choice_told : v.number ≡ 0 → (r : Refusal) → r ≡ fault tree store made (choice tree store made app key) → Told (planning name app key tree store made) r
  choice_told z r e =
      record {
        is = rw (← t.is, eq-eqb v.number 0 z) e;
        low = omega (arith, fault_low tree store made (choice tree store made app key) (choice_low tree store key made app), ap (λ (x : Refusal). x.place) e);
      }
