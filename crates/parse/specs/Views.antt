-- Level 2 of a record by its entry number.
use Rattle.std.specs.Prelude.{ℕ, ◌/◌, Bool, true, false, List as Seq, eqb, ltb, length, Option, Some, None}
use Rattle.meaning.specs.Base.{pick}
use Rattle.tree.specs.Room.{count}
use Rattle.tree.specs.Doors.{fields_of, items, nth_of}
use Rattle.schema.specs.declared.Text.TheVariants.{Lent}
use Rattle.schema.specs.declared.Partition.{Partition}
use Rattle.schema.specs.declared.Component.{Component}
use Rattle.schema.specs.declared.Application.{Application}
use Rattle.parse.specs.declared.entry.List.{List}
use Rattle.parse.specs.declared.view.Lists.{Lists}
use Rattle.parse.specs.declared.view.Counts.{Counts}
use Rattle.parse.specs.declared.view.Device.{Device}
use Rattle.parse.specs.Front.{front_read}
use Rattle.parse.specs.Refused as refused
use Rattle.parse.specs.Entries.{partition_at, component_at, application_at, walk, nth_key}

module _ (room store : Seq ℕ) (made : ℕ) where
  -- where the lists stand
  abbrev pub partition_list : List
  partition_list = refused.partition_list room store made (fields_of room made 1)

  abbrev pub component_list : List
  component_list = refused.component_list room store made (fields_of room made 1)

  abbrev pub application_list : List
  application_list = refused.application_list room store made (fields_of room made 1)

  -- an entry without fault
  unfoldable pub good_partition : ℕ → Option Partition
  good_partition n = pick (eqb (partition_at room store made n).fault 0) (Some (partition_at room store made n).partition) None

  unfoldable pub good_component : ℕ → ℕ → Option Component
  good_component n limit = pick (eqb (component_at room store made n limit).fault 0) (Some (component_at room store made n limit).component) None

  unfoldable pub good_application : ℕ → ℕ → Option Application
  good_application n limit = pick (eqb (application_at room store made n limit).fault 0) (Some (application_at room store made n limit).application) None

  -- of what was found
  abbrev pub partition_of : Option ℕ → Option Partition
  partition_of (Some n) = good_partition n
  partition_of None = None

  abbrev pub component_of : ℕ → Option ℕ → Option Component
  component_of limit (Some n) = good_component n limit
  component_of limit None = None

  abbrev pub application_of : ℕ → Option ℕ → Option Application
  application_of limit (Some n) = good_application n limit
  application_of limit None = None

  -- entry number i
  abbrev pub partition : ℕ → Option Partition
  partition i = partition_of (nth_of (items room partition_list.end partition_list.place 0) i)

  abbrev pub component : ℕ → ℕ → Option Component
  component i limit = component_of limit (nth_of (items room component_list.end component_list.place 0) i)

  abbrev pub application : ℕ → ℕ → Option Application
  application i limit = application_of limit (nth_key room store application_list i)

  -- ---- how many entries there are, and what the preset is for

  abbrev pub lists_of : Lists
  lists_of = record { partitions = partition_list; components = component_list; applications = application_list }

  unfoldable pub counts_of : Counts
  counts_of =
      record {
        partitions = count room partition_list.end partition_list.place;
        components = count room component_list.end component_list.place;
        applications = length (walk room store application_list.end application_list.place 65 None);
      }

  unfoldable pub device_of : Device
  device_of =
      let f = front_read room store made (fields_of room made 1) Lent in
      record { chip = f.board.chip; media = f.image.media }

-- the room has so many values, and not more than reading ever makes
unfoldable pub holds_values : Seq ℕ → ℕ → Bool
holds_values room made = pick (ltb (length room / 32) made) false (pick (ltb 65000 made) false true)

abbrev pub counts_at : Seq ℕ → Seq ℕ → ℕ → Counts
counts_at room store made = pick (holds_values room made) (counts_of room store made) (record { partitions = 0; components = 0; applications = 0 })
