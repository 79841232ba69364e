-- Level 2 of the entry points: what a text's tree, and then a judge of it, leave.
use Rattle.std.specs.Prelude.{ℕ, ◌≤◌, List, ◌≡◌, eqb, length}
use Rattle.meaning.specs.Base.{pick, zeros}
use Rattle.meaning.specs.Refusal.{Answer, accepted, refused, number_of}
use Rattle.values.specs.Carries.{Carries}
use Rattle.values.specs.Doc.{Doc}
use Rattle.toml_lite.specs.Rooms as rooms
use Rattle.parse.specs.declared.Refusal.{Refusal}
use Rattle.parse.specs.Verdict.{reading}
use Rattle.validate.specs.Validated.{validating}
use Rattle.plan.specs.Planning.{planning}
use Rattle.preset.specs.declared.Outcome.{Outcome}
use Rattle.preset.specs.declared.Way.{Way}
use Rattle.preset.specs.declared.Way.TheVariants.{Read, Validate, Plan}

-- the judge of each way
abbrev pub judge_of : Way → List ℕ → List ℕ → List ℕ → List ℕ → ℕ → Refusal
judge_of Read name key tree store made = reading name tree store made
judge_of Validate name key tree store made = validating name tree store made
judge_of (Plan app) name key tree store made = planning name app key tree store made

abbrev pub outcome_of : ℕ → Refusal → Outcome
outcome_of made v = pick (eqb v.number 0) (record { number = 0; section = 0; place = 0; made = made }) (record { number = v.number; section = v.section; place = v.place; made = 0 })

abbrev pub room_of : Refusal → List ℕ → List ℕ
room_of v room = pick (eqb v.number 0) room (zeros (length room))

-- no number of an answer is large
pub record Small (r : Outcome) : Type 0 where
  pub place : r.place ≤ 70000
  pub made : r.made ≤ 65000

-- the rooms as they were, or all zero
pub record Kept (v : Refusal) (store tree : List ℕ) (made : ℕ) (store' tree' : List ℕ) (r : Outcome) : Type 0 where
  pub says : r ≡ outcome_of made v
  pub store_is : store' ≡ room_of v store
  pub tree_is : tree' ≡ room_of v tree
  pub small : Small r

-- a refusal that is told, and values that stand in a room
pub record Settling (v : Refusal) (made : ℕ) : Type 0 where
  pub place : v.place ≤ 70000
  pub few : made ≤ 65000

-- a tree's rooms: its values stand in them, and then they are judged
pub record Judged (judge : List ℕ → List ℕ → ℕ → Refusal) (d : Doc) (store tree store' tree' : List ℕ) (r : Outcome) : Type 0 where
  pub carries : Carries (rooms.tree_of tree (accepted d)) d.slots
  pub few : length d.slots ≤ 65000
  pub kept : Kept (judge (rooms.tree_of tree (accepted d)) (rooms.store_of store (accepted d)) (length d.slots))
      (rooms.store_of store (accepted d)) (rooms.tree_of tree (accepted d)) (length d.slots) store' tree' r

-- what the text's tree comes to
abbrev pub ReadBy : (List ℕ → List ℕ → ℕ → Refusal) → Answer Doc → List ℕ → List ℕ → List ℕ → List ℕ → Outcome → Type 0
ReadBy judge (accepted d) store tree store' tree' r = Judged judge d store tree store' tree' r
ReadBy judge (refused f section line) store tree store' tree' r =
    (r ≡ record { number = number_of f; section = section; place = line; made = 0 }) × (store' ≡ zeros (length store)) × (tree' ≡ zeros (length tree))

-- level 2 of reading: 17, 1, 2, the lines, then what a judge says of the rooms
pub record Parsed (judge : List ℕ → List ℕ → ℕ → Refusal) (text store tree store' tree' : List ℕ) (r : Outcome) : Type 0 where
  pub by : ReadBy judge (rooms.judged text (length store) (length tree)) (zeros (length store)) (zeros (length tree)) store' tree' r
  pub small : Small r
