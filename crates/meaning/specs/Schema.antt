-- 01, "From tree to records" (document 003): chips, media and kinds with what belongs to them, and the records. Refusal
-- 22.
use Rattle.std.specs.Prelude.{ℕ, Bool, List, [], ◌∷◌}
use Rattle.std.proofs.Math.Option.{Option}
use Rattle.meaning.specs.Base.{pick, ascii, same}
use Rattle.meaning.specs.Refusal.{R, ok, bad}

-- ---- "Erase sizes .. and names belong to the chip and media themselves."

-- document 003, `Chip`
pub data Chip : Type 0 where
  d13x d21x : Chip

-- document 003, `Media`
pub data Media : Type 0 where
  spiNor spiNand : Media

-- document 003, `ComponentKind`
pub data Kind : Type 0 where
  kindApp kindPbp kindRaw : Kind

-- document 003, `Chip::ALL`; and all media and kinds
abbrev pub chips : List Chip
chips = d13x ∷ d21x ∷ []

abbrev pub medias : List Media
medias = spiNor ∷ spiNand ∷ []

abbrev pub kinds : List Kind
kinds = kindApp ∷ kindPbp ∷ kindRaw ∷ []

-- document 003, `Chip::name`: `d13x` or `d21x`
unfoldable pub chip_word : Chip → List ℕ
chip_word d13x = ascii "d13x"
chip_word d21x = ascii "d21x"

-- document 003, `Media::name`: `spi-nor` or `spi-nand`
unfoldable pub media_word : Media → List ℕ
media_word spiNor = ascii "spi-nor"
media_word spiNand = ascii "spi-nand"

-- document 003, `ComponentKind::parse`: `app`, `pbp` or `raw`
unfoldable pub kind_word : Kind → List ℕ
kind_word kindApp = ascii "app"
kind_word kindPbp = ascii "pbp"
kind_word kindRaw = ascii "raw"

-- the one of these whose word is w, letter for letter; 22: "unknown chip, media or kind"
abbrev pub named : {X : Type 0} → (X → List ℕ) → List X → List ℕ → R X
named word [] w = bad 22
named word (x ∷ xs) w = pick (same w (word x)) (ok x) (named word xs w)

-- document 003, `Chip::parse`, `Media::parse`, `ComponentKind::parse`
unfoldable pub chip_of : List ℕ → R Chip
chip_of w = named chip_word chips w

unfoldable pub media_of : List ℕ → R Media
media_of w = named media_word medias w

unfoldable pub kind_of : List ℕ → R Kind
kind_of w = named kind_word kinds w

-- document 003, `Chip::default_target`
unfoldable pub target_for : Chip → List ℕ
target_for d13x = ascii "riscv32imafc-unknown-none-elf"
target_for d21x = ascii "riscv64gc-unknown-none-elf"

-- document 003, `Chip::default_media`
unfoldable pub media_for : Chip → Media
media_for d13x = spiNor
media_for d21x = spiNand

-- "4,096 for SPI-NOR, 131,072 for SPI-NAND"
unfoldable pub erase : Media → ℕ
erase spiNor = 4096
erase spiNand = 131072

-- document 003, `Chip::erase_size`
unfoldable pub erase_for : Chip → ℕ
erase_for chip = erase (media_for chip)

-- ---- the records. `package` is a word of this language, so that a package is `pack` here; "A file source carries its
-- path as written."

-- document 003, `BoardInfo`
pub record Board : Type 0 where
  pub name : List ℕ
  pub chip : Chip
  pub target : List ℕ
  pub profile : List ℕ

-- document 003, `ImageInfo`
pub record Image : Type 0 where
  pub platform : List ℕ
  pub product : List ℕ
  pub version : List ℕ
  pub media : Media
  pub media_dev_id : ℕ
  pub media_id : List ℕ
  pub boot_app : List ℕ

-- document 003, `PartitionSpec`; W-206: "the boolean `locked`, .. kept in its record"
pub record Partition : Type 0 where
  pub name : List ℕ
  pub offset : ℕ
  pub size : ℕ
  pub locked : Bool

-- document 003, `ComponentSpec`, in four groups that follow 01's order of reading: what it is and what it is made from,
pub record Head : Type 0 where
  pub kind : Kind
  pub name : List ℕ
  pub pack : Option (List ℕ)
  pub bin : Option (List ℕ)
  pub file : Option (List ℕ)
  pub filename : List ℕ

-- what it is built with and where it goes,
pub record Role : Type 0 where
  pub features : List (List ℕ)
  pub pbp_features : List (List ℕ)
  pub partition : List ℕ
  pub attr : List ℕ
  pub target_attr : Option (List ℕ)
  pub target_filename : Option (List ℕ)

-- what it does at boot,
pub record Boot : Type 0 where
  pub updater : Bool
  pub ram : Option ℕ
  pub pbp : Option (List ℕ)
  pub pbp_pack : Option (List ℕ)
  pub private : Option (List ℕ)

-- and how it is loaded
pub record Load : Type 0 where
  pub load_address : Option ℕ
  pub entry_point : Option ℕ
  pub entry_offset : Option ℕ
  pub header_version : Option ℕ
  pub with_ext : Bool
  pub ext_reserve : ℕ

-- all of it
pub record Component : Type 0 where
  pub head : Head
  pub role : Role
  pub boot : Boot
  pub load : Load

-- document 003, `AppSpec`
pub record Application : Type 0 where
  pub pack : List ℕ
  pub name : List ℕ
  pub partition : List ℕ
  pub filename : List ℕ
  pub attr : List ℕ
  pub features : List (List ℕ)
  pub load_address : Option ℕ
  pub entry_offset : Option ℕ

-- document 003, `Preset`, but for its path; applications "in byte order of key"
pub record Preset : Type 0 where
  pub board : Board
  pub image : Image
  pub partitions : List Partition
  pub components : List Component
  pub applications : List Application

unfoldable pub computes : Unit {0}
unfolding chip_word media_word kind_word chip_of media_of kind_of target_for media_for erase erase_for
computes = tt
