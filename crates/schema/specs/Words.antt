-- The fixed words, and how chips, media and kinds are found by them.
use Rattle.std.specs.Prelude.{ℕ, ◌≤◌, List, ◌++◌, Result, Ok, Err, ltb, length, drop, ◌≡◌, refl}
use Rattle.meaning.specs.Base.{pick, ascii, same, part}
use Rattle.meaning.specs.Schema as meant
use Rattle.meaning.specs.declared.Refused.{Refused}
use Rattle.meaning.specs.declared.Refused.TheVariants.{UnknownWord}
use Rattle.schema.specs.declared.Word.{Word}
use Rattle.schema.specs.declared.Word.TheVariants as words
use Rattle.schema.specs.declared.Span.{Span}
use Rattle.schema.specs.declared.Chip.{Chip}
use Rattle.schema.specs.declared.Chip.TheVariants as chips
use Rattle.schema.specs.declared.Media.{Media}
use Rattle.schema.specs.declared.Media.TheVariants as medias
use Rattle.schema.specs.declared.Kind.{Kind}
use Rattle.schema.specs.declared.Kind.TheVariants as kinds

-- a word's bytes
unfoldable pub word : Word → List ℕ
word words.Board = ascii "board"
word words.Release = ascii "release"
word words.Unknown = ascii "unknown"
word words.Version = ascii "0.0.0"
word words.Required = ascii "mtd;required"
word words.Optional = ascii "mtd;optional"
word words.App = ascii "app"
word words.Component = ascii "component.bin"
word words.D13x = ascii "d13x"
word words.D21x = ascii "d21x"
word words.Target13 = ascii "riscv32imafc-unknown-none-elf"
word words.Target21 = ascii "riscv64gc-unknown-none-elf"
word words.SpiNor = ascii "spi-nor"
word words.SpiNand = ascii "spi-nand"
word words.Pbp = ascii "pbp"
word words.Raw = ascii "raw"
word words.Aic = ascii ".aic"

-- all words, one after the other
abbrev pub all : List ℕ
all = ascii "boardreleaseunknown0.0.0mtd;requiredmtd;optionalappcomponent.bind13xd21xriscv32imafc-unknown-none-elfriscv64gc-unknown-none-elfspi-norspi-nandpbpraw.aic"

-- where a word stands among them
abbrev pub span_of : Word → Span
span_of words.Board = record { from = 0; to = 5 }
span_of words.Release = record { from = 5; to = 12 }
span_of words.Unknown = record { from = 12; to = 19 }
span_of words.Version = record { from = 19; to = 24 }
span_of words.Required = record { from = 24; to = 36 }
span_of words.Optional = record { from = 36; to = 48 }
span_of words.App = record { from = 48; to = 51 }
span_of words.Component = record { from = 51; to = 64 }
span_of words.D13x = record { from = 64; to = 68 }
span_of words.D21x = record { from = 68; to = 72 }
span_of words.Target13 = record { from = 72; to = 101 }
span_of words.Target21 = record { from = 101; to = 127 }
span_of words.SpiNor = record { from = 127; to = 134 }
span_of words.SpiNand = record { from = 134; to = 142 }
span_of words.Pbp = record { from = 142; to = 145 }
span_of words.Raw = record { from = 145; to = 148 }
span_of words.Aic = record { from = 148; to = 152 }

pub record Stands (w : Word) (s : Span) : Type 0 where
  pub is : s ≡ span_of w
  pub order : s.from ≤ s.to
  pub end : s.to ≤ 152

-- a word at the head of a room that takes it
pub record Put (w : Word) (out out' : List ℕ) (r : ℕ) : Type 0 where
  pub says : r ≡ pick (ltb (length out) (length (word w))) 0 (length (word w))
  pub left : out' ≡ pick (ltb (length out) (length (word w))) out (word w ++ drop (length (word w)) out)

pub word_part : (w : Word) → part (span_of w).from (span_of w).to all ≡ word w
unfolding word
word_part words.Board = refl
word_part words.Release = refl
word_part words.Unknown = refl
word_part words.Version = refl
word_part words.Required = refl
word_part words.Optional = refl
word_part words.App = refl
word_part words.Component = refl
word_part words.D13x = refl
word_part words.D21x = refl
word_part words.Target13 = refl
word_part words.Target21 = refl
word_part words.SpiNor = refl
word_part words.SpiNand = refl
word_part words.Pbp = refl
word_part words.Raw = refl
word_part words.Aic = refl

-- what the enums stand for
abbrev pub chip_meant : Chip → meant.Chip
chip_meant chips.D13x = meant.d13x
chip_meant chips.D21x = meant.d21x

abbrev pub media_meant : Media → meant.Media
media_meant medias.SpiNor = meant.spiNor
media_meant medias.SpiNand = meant.spiNand

abbrev pub kind_meant : Kind → meant.Kind
kind_meant kinds.App = meant.kindApp
kind_meant kinds.Pbp = meant.kindPbp
kind_meant kinds.Raw = meant.kindRaw

-- the media that belongs to a chip
abbrev pub media_choice : Chip → Media
media_choice chips.D13x = medias.SpiNor
media_choice chips.D21x = medias.SpiNand

pub media_choice_lem : (c : Chip) → media_meant (media_choice c) ≡ meant.media_for (chip_meant c)
unfolding meant.media_for
media_choice_lem chips.D13x = refl
media_choice_lem chips.D21x = refl

-- the words that belong to them
abbrev pub chip_word : Chip → Word
chip_word chips.D13x = words.D13x
chip_word chips.D21x = words.D21x

abbrev pub target_word : Chip → Word
target_word chips.D13x = words.Target13
target_word chips.D21x = words.Target21

abbrev pub media_word : Media → Word
media_word medias.SpiNor = words.SpiNor
media_word medias.SpiNand = words.SpiNand

abbrev pub kind_word : Kind → Word
kind_word kinds.App = words.App
kind_word kinds.Pbp = words.Pbp
kind_word kinds.Raw = words.Raw

-- the one with these bytes, else 22
unfoldable pub chip_read : List ℕ → Result Chip Refused
chip_read w = pick (same w (word words.D13x)) (Ok chips.D13x) (pick (same w (word words.D21x)) (Ok chips.D21x) (Err UnknownWord))

unfoldable pub media_read : List ℕ → Result Media Refused
media_read w = pick (same w (word words.SpiNor)) (Ok medias.SpiNor) (pick (same w (word words.SpiNand)) (Ok medias.SpiNand) (Err UnknownWord))

unfoldable pub kind_read : List ℕ → Result Kind Refused
kind_read w =
    pick (same w (word words.App)) (Ok kinds.App)
    (pick (same w (word words.Pbp)) (Ok kinds.Pbp) (pick (same w (word words.Raw)) (Ok kinds.Raw) (Err UnknownWord)))
