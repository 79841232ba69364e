-- What a layout has that validation accepts: partitions with distinct names, in whole erase blocks, in rising order
-- from 0 on, that end below 4 GiB and share no byte. The numbers are those of the refusals that see to it.
use Rattle.std.specs.Prelude.{ℕ, ◌%◌, ◌≤◌, ◌<◌, false, List, ◌≡◌, length}
use Rattle.meaning.specs.Base.{nil?}
use Rattle.meaning.specs.Schema.{Chip, Board, Image, Partition, Preset, erase, erase_for}
use Rattle.meaning.specs.Verdict.{fine}
use Rattle.meaning.specs.Layout.{end_of, layout}
use Rattle.meaning.specs.Rules.{device_fault, rules}
use Rattle.theorems.specs.Words.{At, Holds}

-- one partition, on a chip whose erase block has so many bytes
pub record SoundPartition (block : ℕ) (p : Partition) : Type 0 where
  -- 42: it has a name
  pub named : nil? p.name ≡ false
  -- 44: and a size
  pub some_size : p.size ≡ 0 → ⊥
  -- 45, 46: it begins and ends with a block
  pub whole_offset : p.offset % block ≡ 0
  pub whole_size : p.size % block ≡ 0
  -- 48: it ends below 4 GiB
  pub ends : end_of p < 4294967296

pub record SoundLayout (chip : Chip) (ps : List Partition) : Type 0 where
  -- 40: there is a partition
  pub some : 0 < length ps
  -- 41: the first begins at 0
  pub from_zero : (p : Partition) → At ps 0 p → p.offset ≡ 0
  pub each : (i : ℕ) (p : Partition) → At ps i p → SoundPartition (erase_for chip) p
  -- 43: two of one name are one
  pub names : (i j : ℕ) (p q : Partition) → At ps i p → At ps j q → p.name ≡ q.name → i ≡ j
  -- 47: each begins where the ones before it have ended
  pub rising : (i j : ℕ) (p q : Partition) → i < j → At ps i p → At ps j q → end_of p ≤ q.offset
  -- so that no byte is of two
  pub apart : (i j address : ℕ) (p q : Partition) → At ps i p → At ps j q → Holds p address → Holds q address → i ≡ j

-- a layout that is accepted by itself
abbrev pub AcceptedLayoutIsSound : Type 0
AcceptedLayoutIsSound = (chip : Chip) (ps : List Partition) → layout chip ps ≡ fine → SoundLayout chip ps

-- and the layout of a preset that obeys the rules
abbrev pub PresetLayoutIsSound : Type 0
PresetLayoutIsSound = (r : Preset) → rules r ≡ fine → SoundLayout r.board.chip r.partitions

-- the original takes the erase block from the media: where 30 does not refuse, that is the chip's
abbrev pub EraseBlockIsTheMedias : Type 0
EraseBlockIsTheMedias = (b : Board) (i : Image) → (device_fault b i ≡ 30 → ⊥) → erase_for b.chip ≡ erase i.media
