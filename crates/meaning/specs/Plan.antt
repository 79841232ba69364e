-- 01, "Planning (document 004)": what is made of an accepted preset for a selection. Refusals 80 and 81.
use Rattle.std.specs.Prelude.{ℕ, ◌+◌, Bool, true, false, List, [], ◌∷◌, ◌++◌, map}
use Rattle.std.proofs.Math.Option.{Option, none, some}
use Rattle.meaning.specs.Base.{pick, nil?, or_default, first_given, same}
use Rattle.meaning.specs.Limits.{Limits}
use Rattle.meaning.specs.Refusal.{Answer, accepted, refused, numbered, in_application, accepted_then as ◌>>=◌}
use Rattle.meaning.specs.Schema.{Kind, kindApp, kindPbp, kindRaw, Board, Image, Partition, Head, Boot, Component}
use Rattle.meaning.specs.Schema.{Application, Preset}
use Rattle.meaning.specs.Files.{file_stem}
use Rattle.meaning.specs.Verdict.{among, with_last}
use Rattle.meaning.specs.Rules.{name_of, first_named}
use Rattle.meaning.specs.Preset.{Read, validate}

-- ---- what is asked for, and what a plan says

-- document 004, `Selection`: the boot chain alone, or with the application of a key
pub data Selection : Type 0 where
  boot_chain : Selection
  app : List ℕ → Selection

-- document 004, `BuildRequirement`; a source that is a package says the same three things
pub record Build : Type 0 where
  pub pack : List ℕ
  pub bin : List ℕ
  pub features : List (List ℕ)

-- document 004, `Source`: a package or a file. "A file source carries its path as written."
pub data Source : Type 0 where
  from_package : Build → Source
  from_file : List ℕ → Source

-- document 004, `PlannedComponent`: `spec` is the whole record, but without `pbp`, and without `file` where
-- that is the source
pub record PlannedComponent : Type 0 where
  pub spec : Component
  pub source : Source
  pub pbp_source : Option Source

-- document 004, `ImagePlan`, but for its path
pub record Plan : Type 0 where
  pub board : Board
  pub image : Image
  pub partitions : List Partition
  pub components : List PlannedComponent
  pub builds : List Build
  pub stem : List ℕ

-- ---- a component

-- a package with the features of one use, and the bin: the package itself where none is given
abbrev pub built : List ℕ → Option (List ℕ) → List (List ℕ) → Build
built p bin fs = record { pack = p; bin = or_default bin p; features = fs }

-- document 004, `planned`: the package, else the file; 54 refuses neither
abbrev pub payload : Option (List ℕ) → Option (List ℕ) → List (List ℕ) → Option (List ℕ) → Source
payload (some p) bin fs file = from_package (built p bin fs)
payload none bin fs file = from_file (or_default file [])

-- document 004, `planned`: the file of the PBP, else its package, whose bin is the package itself
abbrev pub pbp_payload : Option (List ℕ) → Option (List ℕ) → List (List ℕ) → Option Source
pbp_payload (some path) pbp_pack fs = some (from_file path)
pbp_payload none (some p) fs = some (from_package (built p none fs))
pbp_payload none none fs = none

-- document 004, `planned`: a file that is the source is taken out of the record
abbrev pub file_left : Option (List ℕ) → Option (List ℕ) → Option (List ℕ)
file_left (some p) file = file
file_left none file = none

abbrev pub head_left : Head → Head
head_left h = record {
  kind = h.kind;
  name = h.name;
  pack = h.pack;
  bin = h.bin;
  file = file_left h.pack h.file;
  filename = h.filename;
}

-- document 004, `planned`: `spec.pbp = None`; `private` as written
abbrev pub boot_left : Boot → Boot
boot_left b = record { updater = b.updater; ram = b.ram; pbp = none; pbp_pack = b.pbp_pack; private = b.private }

unfoldable pub planned : Component → PlannedComponent
planned c =
    record {
      spec = record { head = head_left c.head; role = c.role; boot = boot_left c.boot; load = c.load };
      source = payload c.head.pack c.head.bin c.role.features c.head.file;
      pbp_source = pbp_payload c.boot.pbp c.boot.pbp_pack c.role.pbp_features;
    }

-- ---- the application

-- document 003, `AppSpec::component`: an application as a component that is for the target alone
unfoldable pub component_of : Application → Component
component_of a =
    record {
      head = record {
        kind = kindApp;
        name = a.name;
        pack = some a.pack;
        bin = none;
        file = none;
        filename = a.filename;
      };
      role = record {
        features = a.features;
        pbp_features = [];
        partition = a.partition;
        attr = a.attr;
        target_attr = none;
        target_filename = none;
      };
      boot = record { updater = false; ram = none; pbp = none; pbp_pack = none; private = none };
      load = record {
        load_address = a.load_address;
        entry_point = none;
        entry_offset = a.entry_offset;
        header_version = none;
        with_ext = false;
        ext_reserve = 0;
      };
    }

-- an application and its entry number
pub record Entry : Type 0 where
  pub place : ℕ
  pub application : Application

-- document 003, `Preset::app`: the application that has the key; the first of these is entry n
abbrev pub declared : ℕ → List ℕ → List Application → Option Entry
declared n key [] = none
declared n key (a ∷ more) =
    pick (same key a.pack) (some (record { place = n; application = a })) (declared (n + 1) key more)

abbrev pub component_names : List Component → List (List ℕ)
component_names [] = []
component_names (c ∷ cs) = c.head.name ∷ component_names cs

-- 80: "application not declared (5, 0)"; 81: "its name is a component's (5, its entry)"
unfoldable pub admitted : List Component → Option Entry → Answer (Option Application)
admitted cs none = refused (numbered 80) in_application 0
admitted cs (some e) =
    pick (among e.application.name (component_names cs)) (refused (numbered 81) in_application e.place)
    (accepted (some e.application))

-- the application that goes with the boot chain, if one is asked for. "A selection that is no declared key, UTF-8 or
-- not, is 80."
unfoldable pub chosen : Preset → Selection → Answer (Option Application)
chosen r boot_chain = accepted none
chosen r (app key) = admitted r.components (declared 0 key r.applications)

-- ---- components in order

-- "The application goes directly before the first component with a partition"; after all where none has one,
-- which 70 refuses
abbrev pub ahead : Component → List Component → List Component
ahead a [] = a ∷ []
ahead a (c ∷ cs) = pick (nil? c.role.partition) (c ∷ ahead a cs) (a ∷ c ∷ cs)

-- document 004, `ImagePlan::components`: the components in the order of composition
unfoldable pub composition : Option Application → List Component → List Component
composition none cs = cs
composition (some a) cs = ahead (component_of a) cs

-- ---- builds

abbrev pub built? : Option (List ℕ) → Option (List ℕ) → List (List ℕ) → List Build
built? none bin fs = []
built? (some p) bin fs = built p bin fs ∷ []

-- "each component's package, then its `pbp_package`", whose bin is the package itself
unfoldable pub wanted : Component → List Build
wanted c =
    built? c.head.pack c.head.bin c.role.features
    ++ built? c.boot.pbp_pack none c.role.pbp_features

abbrev pub wanted_by : List Component → List Build
wanted_by [] = []
wanted_by (c ∷ cs) = wanted c ++ wanted_by cs

-- "the application last"
unfoldable pub in_order : Option Application → List Component → List Component
in_order none cs = cs
in_order (some a) cs = with_last cs (component_of a)

-- "one per package, with the first use's `bin`", and its features: those whose package is none of the earlier ones'
abbrev pub first_uses : List (List ℕ) → List Build → List Build
first_uses earlier [] = []
first_uses earlier (b ∷ bs) =
    let more : List Build = first_uses (with_last earlier b.pack) bs in
    pick (among b.pack earlier) more (b ∷ more)

-- "Builds stand in first use"
unfoldable pub builds_of : Option Application → List Component → List Build
builds_of a cs = first_uses [] (wanted_by (in_order a cs))

-- ---- the stem

abbrev pub app? : Kind → Bool
app? kindApp = true
app? kindPbp = false
app? kindRaw = false

-- "the first `app` component with a partition"
abbrev pub first_app : List Component → Option Component
first_app [] = none
first_app (c ∷ cs) = pick (pick (nil? c.role.partition) false (app? c.head.kind)) (some c) (first_app cs)

abbrev pub stem_of_file : Option (List ℕ) → Option (List ℕ)
stem_of_file none = none
stem_of_file (some path) = file_stem path

-- "the package, else `bin`, else file stem"
abbrev pub own_stem : Option Component → Option (List ℕ)
own_stem none = none
own_stem (some c) = first_given c.head.pack (first_given c.head.bin (stem_of_file c.head.file))

-- "The stem is the selected package; for the boot chain it is .. of the first `app` component with a partition, else
-- the board name."
unfoldable pub stem_for : Preset → Selection → List ℕ
stem_for r boot_chain = or_default (own_stem (first_app r.components)) r.board.name
stem_for r (app key) = key

-- ---- the partition of a reference

-- document 004, `ImagePlan::partition`; "A component's reference drops everything from the first `;` and is trimmed"
unfoldable pub partition_for : List Partition → List ℕ → Option Partition
partition_for ps reference = first_named (name_of reference) ps

-- ---- all

-- document 004, `Preset::plan`, where the application is found
unfoldable pub composed : Preset → Selection → Option Application → Plan
composed r s a =
    record {
      board = r.board;
      image = r.image;
      partitions = r.partitions;
      components = map planned (composition a r.components);
      builds = builds_of a r.components;
      stem = stem_for r s;
    }

-- document 004, `Preset::plan`, after validation
unfoldable pub plan_of : Preset → Selection → Answer Plan
plan_of r s = do
  a ← chosen r s
  accepted (composed r s a)

-- what planning gives: what reading gave, and the plan
pub record Planned : Type 0 where
  pub read : Read
  pub plan : Plan

-- "Reading, validating and planning each start from the text": 1 to 70, then 80, then 81
unfoldable pub plan : Limits → ℕ → ℕ → List ℕ → Selection → List ℕ → Answer Planned
plan lim store tree name selection text = do
  r ← validate lim store tree name text
  p ← plan_of r.preset selection
  accepted (record { read = r; plan = p })

unfoldable pub computes : Unit {0}
unfolding planned component_of admitted chosen composition wanted in_order builds_of stem_for partition_for composed plan_of
    plan
    Rattle.meaning.specs.Preset.computes
    Rattle.meaning.specs.Files.computes
computes = tt
