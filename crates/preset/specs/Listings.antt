-- Level 2 of the listing: the room of its output, and what is left in it.
use Rattle.std.specs.Prelude.{ℕ, ◌≤◌, Bool, true, false, List, [], ◌≡◌, length, take}
use Rattle.meaning.specs.Base.{zeros}
use Rattle.meaning.specs.Refusal.{Fault, accepted, refused}
use Rattle.meaning.specs.Listing.{short}
use Rattle.scalar.specs.Stores.{over}
use Rattle.tree.specs.Doors.{Rooms}
use Rattle.values.specs.Doc.{Doc}
use Rattle.toml_lite.specs.Rooms.{judged}
use Rattle.parse.specs.declared.Refusal.{Refusal}
use Rattle.parse.specs.Verdict.{Told}
use Rattle.plan.specs.Planning.{planning}
use Rattle.report.specs.Shown.{lines}
use Rattle.preset.specs.declared.Outcome.{Outcome}
use Rattle.preset.specs.declared.listing.Listed.{Listed}
use Rattle.preset.specs.Settled.{Kept, Parsed}

-- a refusal
abbrev pub unlisted : Outcome → Listed
unlisted o = record { number = o.number; section = o.section; place = o.place; written = 0 }

-- a refusal, and the output all zero
pub record Emptied (out out' : List ℕ) (o : Outcome) (r : Listed) : Type 0 where
  pub says : r ≡ unlisted o
  pub out_is : out' ≡ zeros (length out)

-- the rooms of a plan that was accepted
pub record Listing (tree : List ℕ) (o : Outcome) : Type 0 where
  pub rooms : o.number ≡ 0 → Rooms tree o.made
  pub low : o.place ≤ 70000

-- the lines of a plan's rooms, as many of their bytes as the output takes
abbrev pub lines_in : List ℕ → List ℕ → List ℕ → List ℕ → ℕ → List ℕ
lines_in out name store tree made = take (length out) (lines tree store made name)

-- these lines, and the output after them as it was; a refusal leaves none
pub record Lined (name store' tree' out out' : List ℕ) (o : Outcome) (r : Listed) : Type 0 where
  pub not : (o.number ≡ 0 → ⊥) → Emptied out out' o r
  pub low : r.place ≤ 70000
  pub fine : o.number ≡ 0
      → (r ≡ record { number = 0; section = 0; place = 0; written = length (lines_in out name store' tree' o.made) }) × (out' ≡ over (lines_in out name store' tree' o.made) out)

-- what a judge says of a tree's rooms, what that leaves, and the lines
pub record TreeListed (name store tree : List ℕ) (made : ℕ) (out store' tree' out' : List ℕ) (r : Listed) : Type 0 where
  pub refusal : Refusal
  pub told : Told (planning name 0 [] tree store made) refusal
  pub outcome : Outcome
  pub kept : Kept refusal store tree made store' tree' outcome
  pub lined : Lined name store' tree' out out' outcome r

-- an output that is long enough: what planning the boot chain leaves, and its lines where the text has a tree
pub record Planned (text name store tree out store' tree' out' : List ℕ) (r : Listed) : Type 0 where
  pub low : r.place ≤ 70000
  pub outcome : Outcome
  pub parsed : Parsed (planning name 0 []) text store tree store' tree' outcome
  pub unread : (f : Fault) (section line : ℕ) → judged text (length store) (length tree) ≡ refused f section line → Emptied out out' outcome r
  pub lined : (d : Doc) → judged text (length store) (length tree) ≡ accepted d → Lined name store' tree' out out' outcome r

-- one that is not: 17, and all three rooms zero
pub record Short (store tree out store' tree' out' : List ℕ) (r : Listed) : Type 0 where
  pub says : r ≡ record { number = 17; section = 0; place = 0; written = 0 }
  pub store_is : store' ≡ zeros (length store)
  pub tree_is : tree' ≡ zeros (length tree)
  pub out_is : out' ≡ zeros (length out)

abbrev pub ListsBy : Bool → List ℕ → List ℕ → List ℕ → List ℕ → List ℕ → List ℕ → List ℕ → List ℕ → Listed → Type 0
ListsBy true text name store tree out store' tree' out' r = Short store tree out store' tree' out' r
ListsBy false text name store tree out store' tree' out' r = Planned text name store tree out store' tree' out' r

pub record Lists (text name store tree out store' tree' out' : List ℕ) (r : Listed) : Type 0 where
  pub low : r.place ≤ 70000
  pub by : ListsBy (short (length out) name) text name store tree out store' tree' out' r
