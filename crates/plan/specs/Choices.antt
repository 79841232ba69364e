-- Level 2 of a selection: the application of a key, 80 and 81.
use Rattle.std.specs.Prelude.{ℕ, ◌+◌, Bool, List as Seq, [], ◌∷◌, ◌≡◌, eqb, None}
use Rattle.meaning.specs.Base.{pick, same}
use Rattle.tree.specs.Room.{slot_at}
use Rattle.tree.specs.Doors.{Stood}
use Rattle.schema.specs.Texts.{clip}
use Rattle.parse.specs.declared.Refusal.{Refusal}
use Rattle.parse.specs.declared.entry.List.{List}
use Rattle.parse.specs.Entries.{refusal_at, walk, component_at, application_at}
use Rattle.parse.specs.Views.{application_list}
use Rattle.turns.specs.Marks.{any_of}
use Rattle.validate.specs.Entries.{kept}
use Rattle.validate.specs.Gathered.{components}
use Rattle.plan.specs.declared.choice.Choice.{Choice}
use Rattle.plan.specs.declared.choice.Choice.TheVariants.{BootChain, Undeclared, At}

-- the value of an application stands in the room
abbrev pub Standing : Seq ℕ → Choice → Type 0
Standing room BootChain = Unit {0}
Standing room Undeclared = Unit {0}
Standing room (At place n) = Stood room n

pub record Chosen (room : Seq ℕ) (c r : Choice) : Type 0 where
  pub is : r ≡ c
  pub stands : Standing room r

module _ (room store : Seq ℕ) where
  -- value number n has the key
  unfoldable pub keyed : Seq ℕ → ℕ → Bool
  keyed key n = same key (clip (slot_at room n).key (slot_at room n).len store)

  -- the first of these values that has it; the first of them is entry i
  abbrev pub declared_in : Seq ℕ → ℕ → Seq ℕ → Choice
  declared_in key i [] = Undeclared
  declared_in key i (n ∷ ns) = pick (keyed key n) (At i n) (declared_in key (i + 1) ns)

  abbrev pub declared : Seq ℕ → List → Choice
  declared key l = declared_in key 0 (walk room store l.end l.place 65 None)

  module _ (made : ℕ) where
    abbrev pub choice : ℕ → Seq ℕ → Choice
    choice app key = pick (eqb app 0) BootChain (declared key (application_list room store made))

    -- the component that value number n is has the name
    unfoldable pub named : Seq ℕ → ℕ → Bool
    named name n = same name (kept store (component_at room store made n 32).component.head.name)

    abbrev pub taken : Seq ℕ → Bool
    taken name = any_of (named name) (components room store made)

    -- 81
    unfoldable pub name_fault : ℕ → ℕ → Refusal
    name_fault place n = pick (taken (kept store (application_at room store made n 32).application.name)) (refusal_at 5 81 place) (refusal_at 0 0 0)

    -- 80, 81
    abbrev pub fault : Choice → Refusal
    fault BootChain = refusal_at 0 0 0
    fault Undeclared = refusal_at 5 80 0
    fault (At place n) = name_fault place n

    -- of a selection
    abbrev pub refused : ℕ → Seq ℕ → Refusal
    refused app key = fault (choice app key)
