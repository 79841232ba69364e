-- The export of presets: 01's answer to a text and a lent name, and what the rooms hold then.
use Rattle.std.specs.Prelude.{ℕ, true, List, ◌≡◌, length}
use Rattle.meaning.specs.Limits.{of01}
use Rattle.meaning.specs.Refusal.{Answer, accepted, refused, number_of}
use Rattle.meaning.specs.Rooms.{room_after}
use Rattle.meaning.specs.Preset.{Read, read, validate}
use Rattle.tree.specs.Doors.{fields_of}
use Rattle.toml_lite.specs.Rooms.{values_of}
use Rattle.preset.specs.declared.Outcome as parsed
use Rattle.parse.specs.Refused.{lent_text, verdict}
use Rattle.parse.specs.Views.{holds_values}
use Rattle.parse.specs.Whole.{preset_meant}
use Rattle.host.specs.declared.documents.Outcome.{Outcome}
use Rattle.host.specs.Documents.{Shown}

-- "A refusal returns its number, a section .. and a place"
abbrev pub outcome_by : Answer Read → Outcome
outcome_by (accepted p) = record { number = 0; section = 0; place = 0; made = p.parsed.made }
outcome_by (refused f section place) = record { number = number_of f; section = section; place = place; made = 0 }

-- the rooms show 01's tree, and what is read from them is 01's preset, without a refusal
pub record Recorded (name store tree : List ℕ) (p : Read) : Type 0 where
  pub shown : Shown store tree p.parsed
  pub stands : holds_values tree p.parsed.made ≡ true
  pub clear : (verdict tree store p.parsed.made (fields_of tree p.parsed.made 1) of01 (lent_text name)).number ≡ 0
  pub records : preset_meant tree store p.parsed.made name (fields_of tree p.parsed.made 1) of01 (lent_text name) ≡ p.preset

abbrev pub Records : List ℕ → List ℕ → List ℕ → Answer Read → Type 0
Records name store tree (accepted p) = Recorded name store tree p
Records name store tree (refused f section place) = Unit

-- what a call leaves that has this answer to a text: its bytes in the store, its values in the tree room
pub record Answered (a : Answer Read) (text name store tree store' tree' : List ℕ) (r : Outcome) : Type 0 where
  pub says : r ≡ outcome_by a
  pub store_is : store' ≡ room_after (λ x. x.parsed.bytes) (length store) a
  pub tree_is : tree' ≡ room_after (λ x. values_of text) (length tree) a
  pub shows : Records name store' tree' a

-- 01's answer to a text, a lent name and rooms of these lengths: its records
abbrev pub recorded : List ℕ → List ℕ → List ℕ → List ℕ → Answer Read
recorded text name store tree = read of01 (length store) (length tree) name text

-- and one that obeys the rules
abbrev pub validated : List ℕ → List ℕ → List ℕ → List ℕ → Answer Read
validated text name store tree = validate of01 (length store) (length tree) name text

-- the same numbers
abbrev pub exported : parsed.Outcome → Outcome
exported o = record { number = o.number; section = o.section; place = o.place; made = o.made }
