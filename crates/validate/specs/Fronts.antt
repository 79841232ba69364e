-- Level 2 of 30 to 35: 01's rules over the board and the image that were read.
use Rattle.std.specs.Prelude.{ℕ, List, length, Option, None, Some}
use Rattle.std.proofs.Math.Option as meant_options
use Rattle.meaning.specs.Base.{pick, same}
use Rattle.meaning.specs.Schema as schemas
use Rattle.meaning.specs.Schema.{media_for, chip_word}
use Rattle.meaning.specs.Rules as meant
use Rattle.schema.specs.declared.Text.{Text}
use Rattle.schema.specs.declared.Text.TheVariants as texts
use Rattle.schema.specs.declared.Chip.{Chip}
use Rattle.schema.specs.declared.Board.{Board}
use Rattle.schema.specs.declared.Image.{Image}
use Rattle.schema.specs.Words.{chip_meant, media_meant}
use Rattle.schema.specs.Texts.{spelled}
use Rattle.parse.specs.declared.Refusal.{Refusal}
use Rattle.parse.specs.Entries.{refusal_of}
use Rattle.parse.specs.Meant.{board_meant, image_meant}

-- all its bytes stand in one place
abbrev pub Plain : Text → Type 0
Plain texts.Absent = Unit {0}
Plain (texts.Stored from len) = Unit {0}
Plain texts.Lent = Unit {0}
Plain (texts.Fixed w) = Unit {0}
Plain (texts.WithAic from len) = ⊥

pub record Fronted (b : Board) (i : Image) : Type 0 where
  pub target : Plain b.target
  pub profile : Plain b.profile
  pub platform : Plain i.platform
  pub app : Plain i.app

abbrev pub sized : List ℕ → List ℕ → Text → ℕ
sized store name t = length (spelled store name t)

-- a chip as 01 has it, where there is one
abbrev pub chip_if : Option Chip → meant_options.Option schemas.Chip
chip_if None = meant_options.none
chip_if (Some chip) = meant_options.some (chip_meant chip)

-- 30, 31
unfoldable pub device_fault : List ℕ → List ℕ → Chip → Image → ℕ
device_fault store name chip i =
    pick (meant.same_media (media_for (chip_meant chip)) (media_meant i.media)) (pick (same (spelled store name i.platform) (chip_word (chip_meant chip))) 0 31) 30

-- 30 to 35
unfoldable pub ruled : List ℕ → List ℕ → Board → Image → Refusal
ruled store name b i = refusal_of (meant.front_rules (board_meant store store 0 name b) (image_meant store store 0 name i))
