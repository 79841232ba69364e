-- 01, "Refusal numbers" 30 to 35 and 50 to 70: validation, "in table order, one entry through its checks before the
-- next".
use Rattle.std.specs.Prelude.{ℕ, ◌%◌, Bool, true, false, List, [], ◌∷◌, ◌++◌, eqb, take}
use Rattle.std.proofs.Math.Option.{Option, none, some}
use Rattle.meaning.specs.Base.{pick, nil?, ascii, same, before}
use Rattle.meaning.specs.Bytes.{semicolon}
use Rattle.meaning.specs.Refusal.{refused, numbered, in_board, in_image, in_component, in_application}
use Rattle.meaning.specs.Space.{trim}
use Rattle.meaning.specs.Schema.{Chip, d13x, d21x, Media, spiNor, spiNand, chip_word, media_for, Board, Image}
use Rattle.meaning.specs.Schema.{Partition, Component, Application, Preset}
use Rattle.meaning.specs.Layout.{layout}
use Rattle.meaning.specs.Verdict.{Verdict, fine, first_refusal, judged, or_else, long, among, in_turn, with_last}

-- ---- 30 to 35

abbrev pub same_chip : Chip → Chip → Bool
same_chip d13x d13x = true
same_chip d13x d21x = false
same_chip d21x d13x = false
same_chip d21x d21x = true

abbrev pub same_media : Media → Media → Bool
same_media spiNor spiNor = true
same_media spiNor spiNand = false
same_media spiNand spiNor = false
same_media spiNand spiNand = true

-- s begins with w
abbrev pub starts : List ℕ → List ℕ → Bool
starts [] s = true
starts (a ∷ w) [] = false
starts (a ∷ w) (b ∷ s) = pick (eqb a b) (starts w s) false

-- w stands somewhere in s
abbrev pub holds : List ℕ → List ℕ → Bool
holds w [] = starts w []
holds w (b ∷ s) = pick (starts w (b ∷ s)) true (holds w s)

-- the chip of a target's width; "`riscv32` counts first"
unfoldable pub chip_for : List ℕ → Option Chip
chip_for t = pick (holds (ascii "riscv32") t) (some d13x) (pick (holds (ascii "riscv64") t) (some d21x) none)

-- 34, 35: "target has neither `riscv32` nor `riscv64`; wrong width for the chip"
unfoldable pub width_fault : Chip → Option Chip → ℕ
width_fault chip none = 34
width_fault chip (some c) = pick (same_chip chip c) 0 35

-- 30, 31: "media not the chip's; platform not the chip's name"
unfoldable pub device_fault : Board → Image → ℕ
device_fault b i =
    pick (same_media (media_for b.chip) i.media) (pick (same i.platform (chip_word b.chip)) 0 31) 30

-- 32: "empty profile"; 33: "boot app over 32 bytes". "Refusals 30, 31, 33 .. are in section 2; 32, 34 and 35 in section
-- 1."
unfoldable pub front_rules : Board → Image → Verdict
front_rules b i =
    first_refusal (judged in_image 0 (device_fault b i))
    (first_refusal (judged in_board 0 (pick (nil? b.profile) 32 0))
    (first_refusal (judged in_image 0 (pick (long i.boot_app) 33 0))
    (judged in_board 0 (width_fault b.chip (chip_for b.target)))))

-- ---- 50 to 59

abbrev pub partition_names : List Partition → List (List ℕ)
partition_names [] = []
partition_names (p ∷ ps) = p.name ∷ partition_names ps

-- "A component's reference drops everything from the first `;` and is trimmed"
unfoldable pub name_of : List ℕ → List ℕ
name_of reference = trim (take (before semicolon reference) reference)

abbrev pub given : {X : Type 0} → Option X → Bool
given none = false
given (some x) = true

-- 51, 52: "duplicate name; name over 32 bytes"
unfoldable pub component_name : List (List ℕ) → List ℕ → ℕ
component_name earlier name = pick (among name earlier) 51 (pick (long name) 52 0)

-- 53, 54: "package and file; neither"
unfoldable pub source_fault : Bool → Bool → ℕ
source_fault pack file = pick pack (pick file 53 0) (pick file 0 54)

-- 55: "`pbp` and `pbp_package`"; 56: "updater without `ram`"
unfoldable pub boot_fault : Bool → Bool → Bool → Bool → ℕ
boot_fault pbp pbp_pack updater ram =
    pick (pick pbp pbp_pack false) 55
    (pick (pick updater (pick ram false true) false) 56 0)

-- 57, 58: "no partition and no updater; unknown partition"
unfoldable pub target_fault : List (List ℕ) → Bool → List ℕ → ℕ
target_fault parts updater reference =
    pick (nil? reference) (pick updater 0 57)
    (pick (among (name_of reference) parts) 0 58)

-- 59: "`ext_reserve` not a multiple of 512"
unfoldable pub reserve_fault : ℕ → ℕ
reserve_fault n = pick (eqb (n % 512) 0) 0 59

-- "per component"
unfoldable pub component_fault : List (List ℕ) → List (List ℕ) → Component → ℕ
component_fault parts earlier c =
    or_else (component_name earlier c.head.name)
    (or_else (source_fault (given c.head.pack) (given c.head.file))
    (or_else (boot_fault (given c.boot.pbp) (given c.boot.pbp_pack) c.boot.updater (given c.boot.ram))
    (or_else (target_fault parts c.boot.updater c.role.partition) (reserve_fault c.load.ext_reserve))))

-- 50: "no components"
unfoldable pub component_rules : List (List ℕ) → List Component → Verdict
component_rules parts [] = refused (numbered 50) in_component 0
component_rules parts (c ∷ cs) =
    in_turn (component_fault parts) (λ earlier d. with_last earlier d.head.name) in_component 0 [] (c ∷ cs)

-- ---- 60

-- a package that is used, and the features it is to have
pub record Use : Type 0 where
  pub pack : List ℕ
  pub features : List (List ℕ)

abbrev pub use? : Option (List ℕ) → List (List ℕ) → List Use
use? none fs = []
use? (some p) fs = record { pack = p; features = fs } ∷ []

-- one package under both names
abbrev pub twice : Option (List ℕ) → Option (List ℕ) → Bool
twice none q = false
twice (some p) none = false
twice (some p) (some q) = same p q

-- "where a component's `pbp_package` is its `package`, only `pbp_features` count"
unfoldable pub uses_of : Component → List Use
uses_of c =
    use? c.head.pack (pick (twice c.head.pack c.boot.pbp_pack) c.role.pbp_features c.role.features)
    ++ use? c.boot.pbp_pack c.role.pbp_features

abbrev pub use_of : Application → List Use
use_of a = record { pack = a.pack; features = a.features } ∷ []

-- the uses of all components
abbrev pub all_uses : List Component → List Use
all_uses [] = []
all_uses (c ∷ cs) = uses_of c ++ all_uses cs

-- two feature lists are the same, item for item
abbrev pub same_all : List (List ℕ) → List (List ℕ) → Bool
same_all [] [] = true
same_all [] (y ∷ ys) = false
same_all (x ∷ xs) [] = false
same_all (x ∷ xs) (y ∷ ys) = pick (same x y) (same_all xs ys) false

-- both use one package, with two feature sets
unfoldable pub differ : Use → Use → Bool
differ u v = pick (same u.pack v.pack) (pick (same_all u.features v.features) false true) false

-- some earlier use differs
abbrev pub clash : List Use → Use → Bool
clash [] u = false
clash (v ∷ vs) u = pick (differ v u) true (clash vs u)

abbrev pub clashes : List Use → List Use → Bool
clashes earlier [] = false
clashes earlier (u ∷ us) = pick (clash earlier u) true (clashes earlier us)

-- 60: "two feature sets for one package": an entry's uses against those of the entries before it
abbrev pub use_fault : List Use → List Use → ℕ
use_fault earlier us = pick (clashes earlier us) 60 0

-- "(section 4 or 5)"
unfoldable pub feature_rules : List Component → List Application → Verdict
feature_rules cs apps =
    first_refusal
    (in_turn (λ earlier c. use_fault earlier (uses_of c)) (λ earlier c. earlier ++ uses_of c) in_component 0 [] cs)
    (in_turn (λ earlier a. use_fault earlier (use_of a)) (λ earlier a. earlier ++ use_of a)
    in_application 0 (all_uses cs) apps)

-- ---- 64 and, by W-206, 67: the partition of an application

-- the first partition of that name
abbrev pub first_named : List ℕ → List Partition → Option Partition
first_named name [] = none
first_named name (p ∷ ps) = pick (same name p.name) (some p) (first_named name ps)

-- 64: "unknown partition". W-206: "67 for an application in a locked partition, directly after 64"
abbrev pub place_fault : Option Partition → ℕ
place_fault none = 64
place_fault (some p) = pick p.locked 67 0

-- ---- 61 to 67

-- 66: "load address not a multiple of 4"
unfoldable pub address_fault : Option ℕ → ℕ
address_fault none = 0
address_fault (some a) = pick (eqb (a % 4) 0) 0 66

-- "empty name; over 32 bytes; empty filename; unknown partition; duplicate name"; "validation compares an
-- application's exactly", for 64 and for 67
unfoldable pub application_fault : List Partition → List (List ℕ) → Application → ℕ
application_fault parts earlier a =
    pick (nil? a.name) 61
    (pick (long a.name) 62
    (pick (nil? a.filename) 63
    (or_else (place_fault (first_named a.partition parts))
    (pick (among a.name earlier) 65 (address_fault a.load_address)))))

unfoldable pub application_rules : List Partition → List Application → Verdict
application_rules parts apps =
    in_turn (application_fault parts) (λ earlier a. with_last earlier a.name) in_application 0 [] apps

-- ---- 70

-- some component's reference names the partition
abbrev pub targets : List ℕ → List Component → Bool
targets name [] = false
targets name (c ∷ cs) =
    pick (pick (nil? c.role.partition) false (same (name_of c.role.partition) name)) true (targets name cs)

-- "no component targets the first partition (section 4, place 0)"
unfoldable pub boot_rule : List (List ℕ) → List Component → Verdict
boot_rule [] cs = fine
boot_rule (p ∷ ps) cs = pick (targets p cs) fine (refused (numbered 70) in_component 0)

-- ---- all: "60 comes after all components and before 61."

unfoldable pub rules : Preset → Verdict
rules r =
    first_refusal (front_rules r.board r.image)
    (first_refusal (layout r.board.chip r.partitions)
    (first_refusal (component_rules (partition_names r.partitions) r.components)
    (first_refusal (feature_rules r.components r.applications)
    (first_refusal (application_rules r.partitions r.applications)
    (boot_rule (partition_names r.partitions) r.components)))))

unfoldable pub computes : Unit {0}
unfolding chip_for width_fault device_fault front_rules name_of component_name source_fault boot_fault target_fault reserve_fault
    component_fault component_rules uses_of differ feature_rules address_fault application_fault application_rules boot_rule
    rules
    Rattle.meaning.specs.Space.computes
    Rattle.meaning.specs.Layout.computes
computes = tt
