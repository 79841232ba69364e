-- Level 2 of an entry's own rules: 52 to 59 of a component, 61 to 64, 66 and 67 of an application.
use Rattle.std.specs.Prelude.{ℕ, ◌%◌, Bool, true, false, List, map, eqb, length, Option, None, Some, is_some, Result, Ok, Err}
use Rattle.std.specs.List.{slice_get}
use Rattle.std.proofs.Math.Option as amounts
use Rattle.meaning.specs.Base.{pick, nil?}
use Rattle.meaning.specs.declared.Refused.{Refused}
use Rattle.meaning.specs.declared.Refused.TheVariants.{ComponentNameTooLong, TwoSources, NoSource, TwoPbps, UpdaterWithoutRam, NoPartition, UnknownPartition, ReserveOffBlock}
use Rattle.meaning.specs.declared.Refused.TheVariants.{EmptyApplicationName, ApplicationNameTooLong, EmptyFilename, ApplicationNowhere, LockedPartition, AddressOffWord}
use Rattle.meaning.specs.Verdict.{long}
use Rattle.meaning.specs.Rules as meant
use Rattle.schema.specs.declared.Text.{Text}
use Rattle.schema.specs.declared.Text.TheVariants as texts
use Rattle.schema.specs.declared.Boot.{Boot}
use Rattle.schema.specs.declared.Component.{Component}
use Rattle.schema.specs.declared.Application.{Application}
use Rattle.schema.specs.declared.Partition.{Partition}
use Rattle.schema.specs.Texts.{clip, is_given, start_of, length_of, amount}
use Rattle.parse.specs.Entries as parsed
use Rattle.turns.specs.Marks.{first_err}
use Rattle.layout.specs.Parts.{part_name, rank, placed, is_first, aim}
use Rattle.validate.specs.declared.Entry.{Entry}
use Rattle.validate.specs.declared.uses.Pair.{Pair}
use Rattle.validate.specs.Clashes.{key_spot, pair_of_component, pair_of_application}

-- a text that lies in the store
abbrev pub kept : List ℕ → Text → List ℕ
kept store t = clip (start_of t) (length_of t) store

-- ---- a component

-- 52
abbrev pub name_checked : List ℕ → Text → Result (Unit {0}) Refused
name_checked store t = pick (long (kept store t)) (Err ComponentNameTooLong) (Ok tt)

-- 53, 54
abbrev pub source_checked : Bool → Bool → Result (Unit {0}) Refused
source_checked pack file = pick pack (pick file (Err TwoSources) (Ok tt)) (pick file (Ok tt) (Err NoSource))

-- 55, 56
abbrev pub boot_checked : Boot → Result (Unit {0}) Refused
boot_checked b =
    pick (pick (is_given b.pbp) (is_given b.pbp_package) false) (Err TwoPbps)
    (pick (pick b.updater (pick (is_some b.ram) false true) false) (Err UpdaterWithoutRam) (Ok tt))

-- 57, 58; whether the reference names a partition is known
abbrev pub target_checked : Bool → Bool → Bool → Result (Unit {0}) Refused
target_checked empty updater known = pick empty (pick updater (Ok tt) (Err NoPartition)) (pick known (Ok tt) (Err UnknownPartition))

-- 59
abbrev pub reserve_checked : ℕ → Result (Unit {0}) Refused
reserve_checked n = pick (eqb (n % 512) 0) (Ok tt) (Err ReserveOffBlock)

-- 52 to 59
unfoldable pub late_checked : List ℕ → Bool → Component → Result (Unit {0}) Refused
late_checked store known c =
    first_err (name_checked store c.head.name)
    (first_err (source_checked (is_given c.head.«package») (is_given c.head.file))
    (first_err (boot_checked c.boot)
    (first_err (target_checked (nil? (kept store c.role.partition)) c.boot.updater known) (reserve_checked c.load.ext_reserve))))

-- the partition's name in a component's reference
abbrev pub referred : List ℕ → Text → List ℕ
referred store t = meant.name_of (kept store t)

-- with the fault of its record
unfoldable pub component_entry : List ℕ → List (List ℕ) → ℕ → Component → Entry
component_entry store parts fault c =
    let at = placed (length parts) (rank (referred store c.role.partition) parts) in
    record {
      fault = fault;
      mark = record { from = start_of c.head.name; len = length_of c.head.name; early = Ok tt; late = late_checked store (is_some at) c };
      pair = pair_of_component store c;
      first = pick (nil? (kept store c.role.partition)) false (is_first (length parts) at);
    }

-- ---- an application

-- no bytes: a fixed word and one with `.aic` have some
abbrev pub is_empty : List ℕ → Text → Bool
is_empty store texts.Absent = true
is_empty store (texts.Stored from len) = nil? (clip from len store)
is_empty store texts.Lent = false
is_empty store (texts.Fixed w) = false
is_empty store (texts.WithAic from len) = false

-- 64, 67
abbrev pub place_checked : Option Partition → Result (Unit {0}) Refused
place_checked None = Err ApplicationNowhere
place_checked (Some p) = pick p.locked (Err LockedPartition) (Ok tt)

-- 61 to 63, and then what its partition says
abbrev pub early_checked : List ℕ → Option Partition → Application → Result (Unit {0}) Refused
early_checked store found a =
    pick (nil? (kept store a.name)) (Err EmptyApplicationName)
    (pick (long (kept store a.name)) (Err ApplicationNameTooLong) (pick (is_empty store a.filename) (Err EmptyFilename) (place_checked found)))

-- 66
abbrev pub address_checked : amounts.Option ℕ → Result (Unit {0}) Refused
address_checked amounts.none = Ok tt
address_checked (amounts.some a) = pick (eqb (a % 4) 0) (Ok tt) (Err AddressOffWord)

-- with the fault of its record, and its package
unfoldable pub application_entry : List ℕ → List Partition → ℕ → Pair → Application → Entry
application_entry store ps fault pair a =
    record {
      fault = fault;
      mark = record {
        from = start_of a.name;
        len = length_of a.name;
        early = early_checked store (slice_get ps (aim false store (map (part_name store) ps) a.partition)) a;
        late = address_checked (amount a.load_address);
      };
      pair = pair;
      first = false;
    }

-- ---- by the number of a value

module _ (room store : List ℕ) (made : ℕ) where
  abbrev pub component_at : List (List ℕ) → ℕ → Entry
  component_at parts n = component_entry store parts (parsed.component_at room store made n 32).fault (parsed.component_at room store made n 32).component

  abbrev pub application_at : List Partition → ℕ → Entry
  application_at ps n =
      let a = parsed.application_at room store made n 32 in
      application_entry store ps a.fault (pair_of_application (key_spot room n) a.application.features) a.application
