-- 01's example planned, and the corners of planning, by computation.
use Rattle.std.specs.Prelude.{ℕ, List, [], ◌∷◌, ◌++◌, map, ◌≡◌, refl}
use Prim.Native.String.{String}
use Rattle.std.proofs.Math.Option.{Option, none, some}
use Rattle.meaning.specs.Base.{ascii}
use Rattle.meaning.specs.Limits.{of01}
use Rattle.meaning.specs.Refusal.{Answer, accepted, refused, number_of}
use Rattle.meaning.specs.Schema.{Partition}
use Rattle.examples.specs.Samples.{lined}
use Rattle.meaning.specs.Preset.{Read}
use Rattle.examples.specs.Example as given
use Rattle.examples.specs.CornersRules.{Says, at}
use Rattle.meaning.specs.Plan.{Selection, boot_chain, app, Build, built, Source, from_package, from_file, PlannedComponent}
use Rattle.meaning.specs.Plan.{Plan, Planned, component_of, partition_for, plan, computes}

abbrev pub planning : Selection → List ℕ → Answer Planned
planning selection text = plan of01 32768 65536 (ascii "board") selection text

-- ---- 01's example

abbrev example_read : Read
example_read = record { parsed = record { root = given.tree; bytes = given.store; made = 21 }; preset = given.preset }

abbrev loader : Build
loader = built (ascii "loader") none []

abbrev desk : Build
desk = built (ascii "desk") none (ascii "pan" ∷ ascii "tilt" ∷ [])

abbrev planned_first : PlannedComponent
planned_first = record { spec = given.first; source = from_package loader; pbp_source = none }

abbrev planned_desk : PlannedComponent
planned_desk = record { spec = component_of given.desk; source = from_package desk; pbp_source = none }

abbrev example_plan : List PlannedComponent → List Build → List ℕ → Plan
example_plan cs bs stem =
    record {
      board = (given.preset).board;
      image = (given.preset).image;
      partitions = (given.preset).partitions;
      components = cs;
      builds = bs;
      stem = stem;
    }

-- "build loader 0", "stem loader"
pub example_boot : planning boot_chain given.example
    ≡ accepted (record { read = example_read; plan = example_plan (planned_first ∷ []) (loader ∷ []) (ascii "loader") })
unfolding computes
example_boot = refl

-- with its application: directly before `first` among the components, last among the builds
pub example_desk : planning (app (ascii "desk")) given.example
    ≡ accepted (record {
      read = example_read;
      plan = example_plan (planned_desk ∷ planned_first ∷ []) (loader ∷ desk ∷ []) (ascii "desk");
    })
unfolding computes
example_desk = refl

-- ---- refusals

-- number, section and place; 0 for none
abbrev said : Answer Planned → Says
said (accepted p) = at 0 0 0
said (refused f section place) = at (number_of f) section place

unfoldable pub says : Selection → List ℕ → Says
says selection text = said (planning selection text)

-- partitions `a` and `a;b`
abbrev flash : List String
flash = "[[partition]]" ∷ "name = \"a\"" ∷ "offset = 0" ∷ "size = 4096" ∷ "[[partition]]" ∷ "name = \"a;b\""
    ∷ "offset = 4096" ∷ "size = 4096" ∷ []

-- and one component `x` of a package `p`
abbrev base : List String
base = flash ++ ("[[component]]" ∷ "name = \"x\"" ∷ "package = \"p\"" ∷ "partition = \"a\"" ∷ [])

-- two applications, the first of which has the component's name
abbrev two : List String
two = base ++ ("[apps.k]" ∷ "name = \"x\"" ∷ "partition = \"a\"" ∷ "[apps.j]" ∷ "partition = \"a\"" ∷ [])

-- 80: the name is no key; nor is a byte that is no text, nor nothing at all, which is not the boot chain
pub undeclared_80 : says (app (ascii "x")) (lined two) ≡ at 80 5 0
unfolding says computes
undeclared_80 = refl

pub unreadable_80 : says (app (255 ∷ [])) (lined two) ≡ at 80 5 0
unfolding says computes
unreadable_80 = refl

pub empty_80 : says (app []) (lined two) ≡ at 80 5 0
unfolding says computes
empty_80 = refl

-- 81 at its entry among all applications, in byte order of key
pub clash_81 : says (app (ascii "k")) (lined two) ≡ at 81 5 1
unfolding says computes
clash_81 = refl

-- the other is planned, and so is the boot chain
pub other_fine : (says (app (ascii "j")) (lined two) ≡ at 0 0 0) × (says boot_chain (lined two) ≡ at 0 0 0)
unfolding says computes
other_fine = (refl, refl)

-- validation's refusals come before 80: here 70
pub order_70_80 : says (app []) (lined (flash ++
    ("[[component]]" ∷ "name = \"x\"" ∷ "updater = true" ∷ "ram = 0" ∷ "file = \"f\"" ∷ []))) ≡ at 70 4 0
unfolding says computes
order_70_80 = refl

-- ---- builds and sources

abbrev seen {ℓ} : {X : Type ℓ} → (Plan → X) → Answer Planned → Option X
seen f (accepted p) = some (f p.plan)
seen f (refused g section place) = none

-- what a plan has of something
unfoldable pub has {ℓ} : {X : Type ℓ} → (Plan → X) → Selection → List String → Option X
has f selection text = seen f (planning selection (lined text))

abbrev plain : String → List String → Build
plain p fs = built (ascii p) none (map ascii fs)

-- a build's features are the first use's too, and 60 has not compared these: `x` asks for `f` and `g`, its PBP and `y`
-- for `h`
pub first_features : has (λ p. p.builds) boot_chain
    (base ++ ("pbp_package = \"p\"" ∷ "features = \"g f\"" ∷ "pbp_features = \"h\"" ∷ "[[component]]" ∷ "name = \"y\""
    ∷ "package = \"p\"" ∷ "features = \"h\"" ∷ "partition = \"a\"" ∷ []))
    ≡ some (plain "p" ("f" ∷ "g" ∷ []) ∷ [])
unfolding has computes
first_features = refl

-- a PBP's bin is its package, not the component's bin; it comes directly after the component's package
pub bins : has (λ p. p.builds) boot_chain (base
    ++ ("bin = \"b\"" ∷ "pbp_package = \"q\"" ∷ "[[component]]" ∷ "name = \"y\"" ∷ "package = \"r\""
    ∷ "partition = \"a\"" ∷ []))
    ≡ some (built (ascii "p") (some (ascii "b")) [] ∷ plain "q" [] ∷ plain "r" [] ∷ [])
unfolding has computes
bins = refl

-- a package that is built already keeps its place and its first bin
pub once : has (λ p. p.builds) (app (ascii "p"))
    (base ++ ("bin = \"b\"" ∷ "[[component]]" ∷ "name = \"y\"" ∷ "package = \"r\"" ∷ "partition = \"a\"" ∷ "[apps.p]"
    ∷ "partition = \"a\"" ∷ []))
    ≡ some (built (ascii "p") (some (ascii "b")) [] ∷ plain "r" [] ∷ [])
unfolding has computes
once = refl

-- the application is planned with its own bin all the same, and without features for a PBP
abbrev sources : Plan → List Source
sources p = map (λ (c : PlannedComponent). c.source) p.components

abbrev pbps : Plan → List (List (List ℕ))
pbps p = map (λ (c : PlannedComponent). c.spec.role.pbp_features) p.components

abbrev shared : List String
shared = base ++ ("bin = \"b\"" ∷ "features = \"f\"" ∷ "[apps.p]" ∷ "partition = \"a\"" ∷ "features = \"f\"" ∷ [])

pub own_bin : has sources (app (ascii "p")) shared
    ≡ some (from_package (plain "p" ("f" ∷ [])) ∷ from_package (built (ascii "p") (some (ascii "b")) (ascii "f" ∷ []))
    ∷ [])
unfolding has computes
own_bin = refl

pub no_pbp_features : has pbps (app (ascii "p")) shared ≡ some ([] ∷ (ascii "f" ∷ []) ∷ [])
unfolding has computes
no_pbp_features = refl

-- ---- planned records

abbrev left : PlannedComponent → List (Option (List ℕ))
left c = c.spec.head.file ∷ c.spec.boot.pbp ∷ c.spec.boot.private ∷ []

-- files that are sources go out of the record, and stand in the sources as written; `private` stays as written
abbrev filed : List String
filed = flash ++ ("[[component]]" ∷ "name = \"x\"" ∷ "file = \"d/../f\"" ∷ "pbp = \"e/\"" ∷ "private = \"./k\""
    ∷ "partition = \"a\"" ∷ [])

pub records_left : has (λ p. map left p.components) boot_chain filed
    ≡ some ((none ∷ none ∷ some (ascii "./k") ∷ []) ∷ [])
unfolding has computes
records_left = refl

pub files_written : has (λ p. map (λ (c : PlannedComponent). some c.source ∷ c.pbp_source ∷ []) p.components)
    boot_chain filed
    ≡ some ((some (from_file (ascii "d/../f")) ∷ some (from_file (ascii "e/")) ∷ []) ∷ [])
unfolding has computes
files_written = refl

-- ---- order

abbrev names : Plan → List (List ℕ)
names p = map (λ (c : PlannedComponent). c.spec.head.name) p.components

abbrev updater : String → List String
updater name = "[[component]]" ∷ name ∷ "file = \"u\"" ∷ "updater = true" ∷ "ram = 0" ∷ []

-- updaters without a partition stay in front of the application
pub after_updaters : has names (app (ascii "k"))
    (flash ++ updater "name = \"u\"" ++ ("[[component]]" ∷ "name = \"x\"" ∷ "package = \"p\"" ∷ "partition = \"a\""
    ∷ []) ++ updater "name = \"v\"" ++ ("[apps.k]" ∷ "partition = \"a\"" ∷ []))
    ≡ some (ascii "u" ∷ ascii "k" ∷ ascii "x" ∷ ascii "v" ∷ [])
unfolding has computes
after_updaters = refl

-- ---- the stem

abbrev stem : Plan → List ℕ
stem p = p.stem

-- a component of kind app with this, in front of one of package `p`
abbrev stemmed : List String → List String
stemmed fields =
    flash ++ ("[[component]]" ∷ "name = \"w\"" ∷ "kind = \"app\"" ∷ "partition = \"a\"" ∷ fields)
    ++ ("[[component]]" ∷ "name = \"x\"" ∷ "kind = \"app\"" ∷ "package = \"p\"" ∷ "partition = \"a\"" ∷ [])

-- package before bin before file stem
pub stem_package : has stem boot_chain (stemmed ("package = \"\"" ∷ "bin = \"b\"" ∷ [])) ≡ some []
unfolding has computes
stem_package = refl

pub stem_bin : has stem boot_chain (stemmed ("file = \"d/f.elf\"" ∷ "bin = \"b\"" ∷ [])) ≡ some (ascii "b")
unfolding has computes
stem_bin = refl

pub stem_file : has stem boot_chain (stemmed ("file = \"d/f.elf\"" ∷ [])) ≡ some (ascii "f")
unfolding has computes
stem_file = refl

-- only the first such component is asked: the board's name, not `p`
pub stem_first : has stem boot_chain (stemmed ("file = \"..\"" ∷ [])) ≡ some (ascii "board")
unfolding has computes
stem_first = refl

-- one without a partition is passed over, and so is one of another kind
pub stem_next : has stem boot_chain
    (flash ++ updater "name = \"u\"" ++ ("kind = \"app\"" ∷ "[[component]]" ∷ "name = \"x\"" ∷ "kind = \"raw\""
    ∷ "package = \"p\"" ∷ "partition = \"a\"" ∷ [])) ≡ some (ascii "board")
unfolding has computes
stem_next = refl

-- ---- references

abbrev start : Option Partition → Option ℕ
start none = none
start (some q) = some q.offset

-- cut at `;` and trimmed; an application's `a;b` stands for the partition of that name, and is looked up as `a`
abbrev starts : List ℕ → Plan → Option ℕ
starts reference p = start (partition_for p.partitions reference)

pub reference_cut : has (starts (ascii " a ;mtd")) boot_chain base ≡ some (some 0)
unfolding has computes
reference_cut = refl

pub reference_application : has (starts (ascii "a;b")) boot_chain base ≡ some (some 0)
unfolding has computes
reference_application = refl

pub reference_unknown : has (starts (ascii "b")) boot_chain base ≡ some none
unfolding has computes
reference_unknown = refl

-- an application may go to a partition with white space in front of its name, which no reference finds
pub reference_lost : has (λ p. map (λ (c : PlannedComponent). start
    (partition_for p.partitions c.spec.role.partition)) p.components) (app (ascii "k"))
    (base ++ ("[[partition]]" ∷ "name = \" c\"" ∷ "offset = 8192" ∷ "size = 4096" ∷ "[apps.k]" ∷ "partition = \" c\""
    ∷ []))
    ≡ some (none ∷ some 0 ∷ [])
unfolding has computes
reference_lost = refl
