-- The exports of whole presets: an answer in 01's words, and what the rooms hold then.
use Rattle.std.specs.Prelude.{ℕ, ◌/◌, List, ◌≡◌, eqb, ltb, length, Option, Some, None}
use Rattle.meaning.specs.Base.{pick}
use Rattle.meaning.specs.Limits.{of01}
use Rattle.meaning.specs.Refusal.{Answer, accepted, refused, number_of}
use Rattle.meaning.specs.Rooms.{room_after}
use Rattle.meaning.specs.Tree.{table}
use Rattle.meaning.specs.Document.{Parsed, in_rooms}
use Rattle.tree.specs.declared.Slot.{Slot}
use Rattle.tree.specs.Room.{slot_at, look, child}
use Rattle.tree.specs.Order.{next}
use Rattle.agree.specs.Steps.{Agree}
use Rattle.agree.specs.Rooms.{Carried}
use Rattle.toml_lite.specs.Rooms.{values_of}
use Rattle.host.specs.declared.documents.Outcome.{Outcome}
use Rattle.host.specs.declared.documents.At.{At}

-- "A refusal returns its number, a section .. and a place"
abbrev pub outcome_of : Answer Parsed → Outcome
outcome_of (accepted p) = record { number = 0; section = 0; place = 0; made = p.made }
outcome_of (refused f section place) = record { number = number_of f; section = section; place = place; made = 0 }

-- the rooms show 01's tree: values whose kinds, keys, items and payloads along every path are its
pub record Shown (store tree : List ℕ) (p : Parsed) : Type 0 where
  pub slots : List Slot
  pub made : length slots ≡ p.made
  pub carried : Carried tree store p.bytes slots
  pub agrees : Agree p.bytes slots (table p.root)

abbrev pub Shows : List ℕ → List ℕ → Answer Parsed → Type 0
Shows store tree (accepted p) = Shown store tree p
Shows store tree (refused f section place) = Unit

-- 01's answer to a text and rooms of these lengths: its tree
abbrev pub parsed : List ℕ → List ℕ → List ℕ → Answer Parsed
parsed s store tree = in_rooms of01 (length store) (length tree) s

-- what reading a text leaves: the answer and the store by 01's definition, and a tree room that shows 01's tree, byte for byte by `toml_lite/specs/Rooms.values_of`
pub record Presented (s store tree store' tree' : List ℕ) (r : Outcome) : Type 0 where
  pub says : r ≡ outcome_of (parsed s store tree)
  pub store_is : store' ≡ room_after (λ p. p.bytes) (length store) (parsed s store tree)
  pub tree_is : tree' ≡ room_after (λ p. values_of s) (length tree) (parsed s store tree)
  pub shows : Shows store' tree' (parsed s store tree)

-- ---- views
abbrev pub at_of : Option ℕ → At
at_of (Some n) = record { found = 1; number = n }
at_of None = record { found = 0; number = 0 }

-- a search among more values than the room has finds nothing
abbrev pub within : List ℕ → ℕ → Option ℕ → At
within tree made f = at_of (pick (ltb (length tree / 32) made) None f)

abbrev pub key_shown : List ℕ → List ℕ → ℕ → ℕ → List ℕ → At
key_shown tree store made parent key = within tree made (look tree store made parent key)

abbrev pub child_shown : List ℕ → ℕ → ℕ → ℕ → At
child_shown tree made parent from = within tree made (child tree made parent from)

abbrev pub last_visited : ℕ → ℕ → Option ℕ
last_visited begun after = pick (eqb begun 0) None (Some after)

-- children in byte order of key
abbrev pub next_shown : List ℕ → List ℕ → ℕ → ℕ → ℕ → ℕ → At
next_shown tree store made parent begun after = within tree made (next (slot_at tree) store made parent (last_visited begun after))
