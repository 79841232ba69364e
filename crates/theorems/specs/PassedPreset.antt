-- A passed preset does not fail later.
--
-- Where preset_validate answers a text and a lent name with number 0, preset_plan answers the same text and name with
-- number 0 too, for every selection and in all rooms that are large enough; or with 80, where the key is no
-- application's; or with 81, where the application of the key has a component's name. With number 0 the views show a
-- plan in which each component has one payload source; each partition reference finds exactly one partition, which
-- ends below 2^32 and shares no byte with another; no application lies in a locked partition (W-206); and each package
-- is built once, with the features of every use. Three of these clauses have a premise, of two in all. The end of this
-- file shows by five texts that both are needed.
--
-- The statement is `APassedPresetDoesNotFailLater`; all above it are its words, from the smallest to the largest.
use Rattle.std.specs.Prelude.{ℕ, ◌≤◌, ◌<◌, false, List, [], ◌∷◌, ◌⊎◌, ◌≡◌, length}
use Prim.Native.String.{String}
use Rattle.std.proofs.Math.Option.{none, some}
use Rattle.meaning.specs.Base.{ascii, nil?}
use Rattle.meaning.specs.Schema.{Partition, Component, Application, Preset}
use Rattle.meaning.specs.Space.{trim}
use Rattle.meaning.specs.Layout.{end_of}
use Rattle.meaning.specs.Rules.{name_of}
use Rattle.meaning.specs.Plan.{Selection, app, Build, built, Source, from_package, from_file, PlannedComponent}
use Rattle.meaning.specs.Plan.{Plan, planned, component_of, partition_for}
use Rattle.examples.specs.Samples.{lined}
use Rattle.plan.specs.ChoiceSaid.{selection}
use Rattle.host.specs.declared.documents.Outcome.{Outcome}
use Rattle.host.specs.Presets.{Answered, validated}
use Rattle.host.specs.Plans as calls
use Rattle.theorems.specs.Words.{At, In, Holds}
use Rattle.theorems.specs.Views.{PresetShown, PlanShown}

-- ---- which application is selected, and the two reasons to refuse

-- no application has the key
abbrev pub Undeclared : List Application → List ℕ → Type 0
Undeclared apps key = (i : ℕ) (a : Application) → At apps i a → key ≡ a.pack → ⊥

-- entry number i is the application of the key: the first that has it
pub record Declared (apps : List Application) (key : List ℕ) (i : ℕ) (a : Application) : Type 0 where
  pub here : At apps i a
  pub is : key ≡ a.pack
  pub first : (j : ℕ) (b : Application) → j < i → At apps j b → key ≡ b.pack → ⊥

-- some component has the name
abbrev pub Taken : List Component → List ℕ → Type 0
Taken cs name = (i : ℕ) × (c : Component) × At cs i c × (name ≡ c.head.name)

-- number, section and place of a refusal: 80 for a key that no application has; 81 for an application that has a
-- component's name, told at its entry. There is none for the boot chain
pub data Why (p : Preset) : Selection → ℕ → ℕ → ℕ → Type 0 where
  why_80 : (key : List ℕ) → Undeclared p.applications key → Why p (app key) 80 5 0
  why_81 : (key : List ℕ) (i : ℕ) (a : Application) → Declared p.applications key i a
      → Taken p.components a.name → Why p (app key) 81 5 i

-- the application of the key, where one is asked for; the boot chain has none
pub data Selected (p : Preset) : Selection → Application → Type 0 where
  by_key : (key : List ℕ) (i : ℕ) (a : Application) → Declared p.applications key i a → Selected p (app key) a

-- ---- the words of a plan's clauses

-- c is a component of the preset, or the selected application as a component
pub data Origin (p : Preset) (s : Selection) (c : Component) : Type 0 where
  own : (j : ℕ) → At p.components j c → Origin p s c
  selected : (a : Application) → Selected p s a → c ≡ component_of a → Origin p s c

-- a component has a package and no file, and that is its payload; or it has a file and no package, and that is
pub data Payload (c : Component) (source : Source) : Type 0 where
  package_only : (pack : List ℕ) → c.head.pack ≡ some pack → c.head.file ≡ none
      → source ≡ from_package (built pack c.head.bin c.role.features) → Payload c source
  file_only : (path : List ℕ) → c.head.pack ≡ none → c.head.file ≡ some path → source ≡ from_file path
      → Payload c source

-- the partition of a name, and the only one; it ends below 2^32, and no byte of it is another's
pub record Lies (ps : List Partition) (name : List ℕ) : Type 0 where
  pub place : ℕ
  pub partition : Partition
  pub here : At ps place partition
  pub is : partition.name ≡ name
  pub only : (j : ℕ) (other : Partition) → At ps j other → other.name ≡ name → j ≡ place
  pub ends : end_of partition < 4294967296
  pub apart : (j address : ℕ) (other : Partition) → At ps j other → (j ≡ place → ⊥)
      → Holds partition address → Holds other address → ⊥

-- planning finds that partition by the reference, which is cut at its first `;` and trimmed
pub record Finds (ps : List Partition) (reference : List ℕ) : Type 0 where
  pub lies : Lies ps (name_of reference)
  pub found : partition_for ps reference ≡ some lies.partition

-- a planned component uses a package, as payload or as PBP
pub data Uses (c : PlannedComponent) (b : Build) : Type 0 where
  as_payload : c.source ≡ from_package b → Uses c b
  as_pbp : c.pbp_source ≡ some (from_package b) → Uses c b

-- one build is of the package, and no other
pub record BuiltOnce (builds : List Build) (pack : List ℕ) : Type 0 where
  pub place : ℕ
  pub build : Build
  pub here : At builds place build
  pub is : build.pack ≡ pack
  pub only : (j : ℕ) (other : Build) → At builds j other → other.pack ≡ pack → j ≡ place

-- ---- two clauses that have a premise

-- each partition reference of the plan finds exactly one partition
abbrev pub ReferencesFind : Plan → Type 0
ReferencesFind q = (i : ℕ) (c : PlannedComponent) → At q.components i c → nil? c.spec.role.partition ≡ false
    → Finds q.partitions c.spec.role.partition

-- no byte of a name is `;` (59)
abbrev pub NoSemicolon : List ℕ → Type 0
NoSemicolon name = (i : ℕ) → At name i 59 → ⊥

-- it has no white space at either end: trimming, which takes White_Space at both ends, changes nothing
abbrev pub NoWhiteEnds : List ℕ → Type 0
NoWhiteEnds name = trim name ≡ name

-- the name of the selected application's partition is of this kind
abbrev pub SelectedGoesTo : (List ℕ → Type 0) → Preset → Selection → Type 0
SelectedGoesTo Kind p s = (a : Application) → Selected p s a → Kind a.partition

-- premise 1: it has no `;`, and no white space at either end. Validation compares that name letter for letter, and
-- planning looks it up as it does a component's reference: cut at its first `;`, and trimmed
pub record Premise1 (p : Preset) (s : Selection) : Type 0 where
  pub no_semicolon : SelectedGoesTo NoSemicolon p s
  pub no_white_ends : SelectedGoesTo NoWhiteEnds p s

-- each package that is built has the features of every use
abbrev pub FeaturesOfEachUse : Plan → Type 0
FeaturesOfEachUse q = (i : ℕ) (c : PlannedComponent) (b : Build) → At q.components i c → Uses c b
    → (k : ℕ) (d : Build) → At q.builds k d → d.pack ≡ b.pack → d.features ≡ b.features

-- premise 2: no component that uses one package as payload and as PBP has other features than PBP features. Rule 60
-- lets such a component pass, and a package is built with the features of its first use
abbrev pub Premise2 : Preset → Type 0
Premise2 p = (j : ℕ) (c : Component) → At p.components j c
    → (pack : List ℕ) → c.head.pack ≡ some pack → c.boot.pbp_pack ≡ some pack
    → c.role.features ≡ c.role.pbp_features

-- ---- W-206: "no planned application lies in a locked one"

-- the partition that the reference of the selected application finds, as it is planned, is open: under premise 1
abbrev pub ApplicationIsOpen : Preset → Selection → Plan → Type 0
ApplicationIsOpen p s q = (a : Application) → Selected p s a → (found : Partition)
    → partition_for q.partitions (planned (component_of a)).spec.role.partition ≡ some found
    → found.locked ≡ false

-- ---- a plan's clauses

-- what the plan q of the preset p for the selection s has
pub record SoundPlan (p : Preset) (s : Selection) (q : Plan) : Type 0 where
  -- each planned component is one of the preset's or the selected application, and has exactly one payload source
  pub sources : (i : ℕ) (d : PlannedComponent) → At q.components i d
      → (c : Component) × Origin p s c × (d ≡ planned c) × Payload c d.source
  -- and none is left out
  pub complete : (c : Component) → Origin p s c → In (planned c) q.components
  -- its partitions are the preset's
  pub same_partitions : q.partitions ≡ p.partitions
  -- each reference of a component of the preset finds exactly one partition
  pub own_references : (j : ℕ) (c : Component) → At p.components j c → nil? c.role.partition ≡ false
      → Finds q.partitions c.role.partition
  -- so does each reference of the plan, that of the selected application too, under premise 1
  pub references : Premise1 p s → ReferencesFind q
  -- without it, the application's partition is there by its name as it is written
  pub exactly : SelectedGoesTo (Lies q.partitions) p s
  -- W-206: and it is open, so that no planned application lies in a locked partition by the name that it has
  pub exactly_open : (a : Application) (h : Selected p s a) → (exactly a h).partition.locked ≡ false
  -- W-206: nor in one that planning finds, under premise 1
  pub found_open : Premise1 p s → ApplicationIsOpen p s q
  -- each package that a planned component uses is built exactly once
  pub built_once : (i : ℕ) (c : PlannedComponent) (b : Build) → At q.components i c → Uses c b
      → BuiltOnce q.builds b.pack
  -- with the features of every use, under premise 2
  pub features : Premise2 p → FeaturesOfEachUse q
  -- and nothing else is built
  pub needed : (k : ℕ) (d : Build) → At q.builds k d
      → (i : ℕ) × (c : PlannedComponent) × At q.components i c × Uses c d

-- ---- the two calls; store and tree are the rooms before a call, store' and tree' those after it, and r its result

-- what preset_validate promises
abbrev pub ValidatePromise : List ℕ → List ℕ → List ℕ → List ℕ → List ℕ → List ℕ → Outcome → Type 0
ValidatePromise text name store tree store' tree' r =
    Answered (validated text name store tree) text name store tree store' tree' r

-- what preset_plan promises; asked is 0 for the boot chain, and any other number for the application of the key
abbrev pub PlanPromise : List ℕ → List ℕ → ℕ → List ℕ → List ℕ → List ℕ → List ℕ → List ℕ → Outcome → Type 0
PlanPromise text name asked key store tree store' tree' r =
    Answered (calls.planned text name asked key store tree) text name store tree store' tree' r

-- preset_plan accepts: there is no reason not to, and the views of its rooms show the preset (`Views.PresetShown`), and
-- a plan (`Views.PlanShown`) that has all clauses
pub record Accepts (p : Preset) (name : List ℕ) (asked : ℕ) (key store' tree' : List ℕ) (r : Outcome) : Type 0 where
  pub says : r ≡ record { number = 0; section = 0; place = 0; made = r.made }
  pub no_reason : (number section place : ℕ) → Why p (selection asked key) number section place → ⊥
  pub shows_preset : PresetShown name store' tree' r.made p
  pub plan : Plan
  pub shows_plan : PlanShown name store' tree' r.made asked key plan
  pub sound : SoundPlan p (selection asked key) plan

-- preset_plan refuses, for one of the two reasons
pub record Refuses (p : Preset) (asked : ℕ) (key : List ℕ) (r : Outcome) : Type 0 where
  pub number : ℕ
  pub section : ℕ
  pub place : ℕ
  pub why : Why p (selection asked key) number section place
  pub says : r ≡ record { number = number; section = section; place = place; made = 0 }

-- ---- the statement

-- preset_validate's promise holds with number 0; then the views show a preset, and whatever preset_plan's promise
-- allows for the same text and name, in rooms that are large enough (docs/ROOMS.md), it is one of the two
abbrev pub APassedPresetDoesNotFailLater : Type 0
APassedPresetDoesNotFailLater =
    (text name store tree store' tree' : List ℕ) (r : Outcome)
    → ValidatePromise text name store tree store' tree' r → r.number ≡ 0
    → (p : Preset) × PresetShown name store' tree' r.made p
    × ((asked : ℕ) (key store₂ tree₂ store₂' tree₂' : List ℕ) (r₂ : Outcome)
    → 32768 ≤ length store₂ → 65536 ≤ length tree₂
    → PlanPromise text name asked key store₂ tree₂ store₂' tree₂' r₂
    → Accepts p name asked key store₂' tree₂' r₂ ⊎ Refuses p asked key r₂)

-- ---- both premises are needed

-- for this text, lent the name `board`, the promises leave no choice: preset_validate answers number 0, preset_plan
-- answers number 0 to what is asked, and the views show a plan that does not have the clause; this much of the premises
-- is met
pub record PassesWithout (text : List ℕ) (asked : ℕ) (key : List ℕ) (Met : Preset → Selection → Type 0)
    (Clause : Preset → Selection → Plan → Type 0) : Type 0 where
  pub preset : Preset
  pub passes : (store tree store' tree' : List ℕ) (r : Outcome) → 32768 ≤ length store → 65536 ≤ length tree
      → ValidatePromise text (ascii "board") store tree store' tree' r
      → (r.number ≡ 0) × PresetShown (ascii "board") store' tree' r.made preset
  pub met : Met preset (selection asked key)
  pub plan : Plan
  pub planned : (store tree store' tree' : List ℕ) (r : Outcome) → 32768 ≤ length store → 65536 ≤ length tree
      → PlanPromise text (ascii "board") asked key store tree store' tree' r
      → (r.number ≡ 0) × PlanShown (ascii "board") store' tree' r.made asked key plan
  pub fails : Clause preset (selection asked key) plan → ⊥

-- a text whose application `desk` goes to the second partition
abbrev pub going_to : String → String → List ℕ
going_to name partition =
    lined (
    "[[partition]]"
    ∷ "name = \"boot\""
    ∷ "offset = 0"
    ∷ "size = 4096"
    ∷ "[[partition]]"
    ∷ name
    ∷ "offset = 4096"
    ∷ "size = 4096"
    ∷ "[[component]]"
    ∷ "name = \"first\""
    ∷ "package = \"loader\""
    ∷ "partition = \"boot\""
    ∷ "[apps.desk]"
    ∷ partition
    ∷ []
    )

-- a `;` is cut off with what follows it, and there is no partition `a`
abbrev pub NeedsNoSemicolon : Type 0
NeedsNoSemicolon =
    PassesWithout (going_to "name = \"a;b\"" "partition = \"a;b\"") 1 (ascii "desk")
    (SelectedGoesTo NoWhiteEnds) (λ p s. ReferencesFind)

-- white space at an end is trimmed, and there is no partition `a`: at the head
abbrev pub NeedsNoWhiteHead : Type 0
NeedsNoWhiteHead =
    PassesWithout (going_to "name = \" a\"" "partition = \" a\"") 1 (ascii "desk")
    (SelectedGoesTo NoSemicolon) (λ p s. ReferencesFind)

-- or at the end
abbrev pub NeedsNoWhiteEnd : Type 0
NeedsNoWhiteEnd =
    PassesWithout (going_to "name = \"a \"" "partition = \"a \"") 1 (ascii "desk")
    (SelectedGoesTo NoSemicolon) (λ p s. ReferencesFind)

-- W-206: `a` is locked and `a;b` is open, and the application `desk` goes to `a;b`
abbrev pub beside_locked : List ℕ
beside_locked =
    lined (
    "[[partition]]"
    ∷ "name = \"boot\""
    ∷ "offset = 0"
    ∷ "size = 4096"
    ∷ "[[partition]]"
    ∷ "name = \"a\""
    ∷ "offset = 4096"
    ∷ "size = 4096"
    ∷ "locked = true"
    ∷ "[[partition]]"
    ∷ "name = \"a;b\""
    ∷ "offset = 8192"
    ∷ "size = 4096"
    ∷ "[[component]]"
    ∷ "name = \"first\""
    ∷ "package = \"loader\""
    ∷ "partition = \"boot\""
    ∷ "[apps.desk]"
    ∷ "partition = \"a;b\""
    ∷ []
    )

-- 67 compares names exactly, as 64 does, and planning finds `a`, which is locked
abbrev pub OpenNeedsNoSemicolon : Type 0
OpenNeedsNoSemicolon = PassesWithout beside_locked 1 (ascii "desk") (SelectedGoesTo NoWhiteEnds) ApplicationIsOpen

-- `x` uses `p` with `f` and `g`, and as PBP with `h`; `y` uses it with `h`
abbrev pub two_sets : List ℕ
two_sets =
    lined (
    "[[partition]]"
    ∷ "name = \"boot\""
    ∷ "offset = 0"
    ∷ "size = 4096"
    ∷ "[[component]]"
    ∷ "name = \"x\""
    ∷ "package = \"p\""
    ∷ "features = \"f g\""
    ∷ "pbp_package = \"p\""
    ∷ "pbp_features = \"h\""
    ∷ "partition = \"boot\""
    ∷ "[[component]]"
    ∷ "name = \"y\""
    ∷ "package = \"p\""
    ∷ "features = \"h\""
    ∷ "partition = \"boot\""
    ∷ []
    )

-- `p` is built with `f` and `g`, the features of its first use, and `y` uses it with `h`; premise 1 is met
abbrev pub NeedsOneSet : Type 0
NeedsOneSet = PassesWithout two_sets 0 [] Premise1 (λ p s. FeaturesOfEachUse)
