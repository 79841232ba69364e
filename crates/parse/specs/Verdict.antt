-- Level 2 of a preset's records: the first refusal in 01's order.
use Rattle.std.specs.Prelude.{ℕ, ◌≤◌, List, ◌≡◌}
use Rattle.meaning.specs.declared.Limits.{Limits}
use Rattle.meaning.specs.Limits.{of01}
use Rattle.tree.specs.Doors.{Rooms, fields_of}
use Rattle.parse.specs.declared.Refusal.{Refusal}
use Rattle.parse.specs.Front.{front_read}
use Rattle.parse.specs.Refused as refused
use Rattle.parse.specs.Refused.{lent_text}

-- the rooms of a tree, and limits that the records' arrays take
pub record Judging (room : List ℕ) (made : ℕ) (lim : Limits) : Type 0 where
  pub rooms : Rooms room made
  pub partitions : lim.partitions ≤ 32
  pub applications : lim.applications ≤ 65000

module _ (room store : List ℕ) (made : ℕ) where
  -- of the groups, from the root
  abbrev pub front_fault : List ℕ → Refusal
  front_fault name = (front_read room store made (fields_of room made 1) (lent_text name)).fault

  abbrev pub partition_fault : Limits → Refusal
  partition_fault lim = refused.partitions_verdict room store made (fields_of room made 1) lim

  abbrev pub component_fault : Limits → Refusal
  component_fault lim = refused.components_verdict room store made (fields_of room made 1) lim

  abbrev pub application_fault : Limits → Refusal
  application_fault lim = refused.applications_verdict room store made (fields_of room made 1) lim

  -- the first of them
  abbrev pub verdict : List ℕ → Limits → Refusal
  verdict name lim = refused.verdict room store made (fields_of room made 1) lim (lent_text name)

-- the judge of records
abbrev pub reading : List ℕ → List ℕ → List ℕ → ℕ → Refusal
reading name tree store made = verdict tree store made name of01

-- a judge's refusal, told at an entry
pub record Told (v r : Refusal) : Type 0 where
  pub is : r ≡ v
  pub low : r.place ≤ 70000
