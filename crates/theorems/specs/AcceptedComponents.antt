-- What the components of a preset have that validation accepts: each has its own name, a package or a file, and a
-- partition that is there. The numbers are those of the refusals that see to it.
use Rattle.std.specs.Prelude.{ℕ, ◌%◌, ◌≤◌, ◌<◌, true, false, List, ◌≡◌, length}
use Rattle.meaning.specs.Base.{nil?}
use Rattle.meaning.specs.Schema.{Partition, Component, Preset}
use Rattle.meaning.specs.Verdict.{fine}
use Rattle.meaning.specs.Rules.{given, name_of, rules}
use Rattle.theorems.specs.Words.{At}

-- one component, beside these partitions
pub record SoundComponent (ps : List Partition) (c : Component) : Type 0 where
  -- 52: its name is not over 32 bytes
  pub short : length c.head.name ≤ 32
  -- 53, 54: it has a package or a file, and not both
  pub one_payload : given c.head.pack ≡ given c.head.file → ⊥
  -- 55: it has no PBP package beside a PBP file
  pub one_pbp : given c.boot.pbp ≡ true → given c.boot.pbp_pack ≡ true → ⊥
  -- 56: an updater is loaded to RAM
  pub loads : c.boot.updater ≡ true → given c.boot.ram ≡ true
  -- 57: what goes to no partition is an updater
  pub updates : nil? c.role.partition ≡ true → c.boot.updater ≡ true
  -- 58: the partition that a reference names is there
  pub known : nil? c.role.partition ≡ false
      → (i : ℕ) × (p : Partition) × At ps i p × (p.name ≡ name_of c.role.partition)
  -- 59: space is reserved in blocks of 512 bytes
  pub reserve : c.load.ext_reserve % 512 ≡ 0

pub record SoundComponents (ps : List Partition) (cs : List Component) : Type 0 where
  -- 50: there is a component
  pub some : 0 < length cs
  -- 51: two of one name are one
  pub names : (i j : ℕ) (c d : Component) → At cs i c → At cs j d → c.head.name ≡ d.head.name → i ≡ j
  pub each : (i : ℕ) (c : Component) → At cs i c → SoundComponent ps c

-- the components of a preset that obeys the rules
abbrev pub AcceptedComponentsAreSound : Type 0
AcceptedComponentsAreSound = (r : Preset) → rules r ≡ fine → SoundComponents r.partitions r.components
