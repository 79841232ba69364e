-- Level 2 of a field: what each reader gives for a value of the rooms, with its fault, 0 for none.
use Rattle.std.specs.Prelude.{ℕ, Bool, false, List, Result, Ok, Err, eqb, leb, Some, None}
use Rattle.meaning.specs.Base.{pick, ascii}
use Rattle.meaning.specs.Numbered.{number}
use Rattle.meaning.specs.declared.Refused.{Refused}
use Rattle.tree.specs.declared.Value.{Value}
use Rattle.tree.specs.declared.Value.TheVariants as values
use Rattle.tree.specs.declared.Fields.{Fields}
use Rattle.tree.specs.Doors as doors
use Rattle.schema.specs.declared.Text.{Text}
use Rattle.schema.specs.declared.Text.TheVariants as texts
use Rattle.schema.specs.declared.Kind.{Kind}
use Rattle.schema.specs.declared.Kind.TheVariants.{Raw}
use Rattle.schema.specs.declared.Media.{Media}
use Rattle.schema.specs.declared.Media.TheVariants.{SpiNor}
use Rattle.schema.specs.Words.{kind_read, media_read}
use Rattle.schema.specs.Texts.{clip}
use Rattle.parse.specs.declared.field.TextRead.{TextRead}
use Rattle.parse.specs.declared.field.NumberRead.{NumberRead}
use Rattle.parse.specs.declared.field.FlagRead.{FlagRead}
use Rattle.parse.specs.declared.field.KindRead.{KindRead}
use Rattle.parse.specs.declared.field.MediaRead.{MediaRead}

-- the first fault of two
abbrev pub first_fault : ℕ → ℕ → ℕ
first_fault a b = pick (eqb a 0) b a

-- ---- a value of a kind

abbrev pub no_text : ℕ → TextRead
no_text n = record { fault = n; text = texts.Absent }

abbrev pub text_read : Value → TextRead
text_read values.Absent = no_text 0
text_read (values.Text from len) = record { fault = 0; text = texts.Stored from len }
text_read (values.Number n m) = no_text 20
text_read (values.Flag b) = no_text 20
text_read (values.Array p) = no_text 20
text_read (values.Table p) = no_text 20

abbrev pub no_number : ℕ → NumberRead
no_number n = record { fault = n; number = None }

unfoldable pub ranged : Bool → ℕ → NumberRead
ranged negative magnitude = pick negative (no_number 21) (pick (leb magnitude 4294967295) (record { fault = 0; number = Some magnitude }) (no_number 21))

abbrev pub number_read : Value → NumberRead
number_read values.Absent = no_number 0
number_read (values.Text from len) = no_number 20
number_read (values.Number n m) = ranged n m
number_read (values.Flag b) = no_number 20
number_read (values.Array p) = no_number 20
number_read (values.Table p) = no_number 20

abbrev pub no_flag : ℕ → FlagRead
no_flag n = record { fault = n; flag = false }

abbrev pub flag_read : Value → FlagRead
flag_read values.Absent = no_flag 0
flag_read (values.Text from len) = no_flag 20
flag_read (values.Number n m) = no_flag 20
flag_read (values.Flag b) = record { fault = 0; flag = b }
flag_read (values.Array p) = no_flag 20
flag_read (values.Table p) = no_flag 20

abbrev pub missing : Value → ℕ
missing values.Absent = 24
missing (values.Text from len) = 0
missing (values.Number n m) = 0
missing (values.Flag b) = 0
missing (values.Array p) = 0
missing (values.Table p) = 0

-- a text, then one of some words
abbrev pub kind_said : Result Kind Refused → KindRead
kind_said (Ok k) = record { fault = 0; kind = k }
kind_said (Err r) = record { fault = number r; kind = Raw }

abbrev pub kind_of : List ℕ → TextRead → Text → KindRead
kind_of store t texts.Absent = record { fault = t.fault; kind = Raw }
kind_of store t (texts.Stored from len) = kind_said (kind_read (clip from len store))
kind_of store t texts.Lent = record { fault = t.fault; kind = Raw }
kind_of store t (texts.Fixed w) = record { fault = t.fault; kind = Raw }
kind_of store t (texts.WithAic from len) = record { fault = t.fault; kind = Raw }

abbrev pub media_said : Result Media Refused → MediaRead
media_said (Ok m) = record { fault = 0; media = m }
media_said (Err r) = record { fault = number r; media = SpiNor }

abbrev pub media_of : List ℕ → Media → TextRead → Text → MediaRead
media_of store d t texts.Absent = record { fault = t.fault; media = d }
media_of store d t (texts.Stored from len) = media_said (media_read (clip from len store))
media_of store d t texts.Lent = record { fault = t.fault; media = d }
media_of store d t (texts.Fixed w) = record { fault = t.fault; media = d }
media_of store d t (texts.WithAic from len) = record { fault = t.fault; media = d }

-- ---- a field

module _ (room store : List ℕ) (f : Fields) where
  abbrev pub text_at : List ℕ → TextRead
  text_at key = text_read (doors.field room store f key)

  abbrev pub number_at : List ℕ → NumberRead
  number_at key = number_read (doors.field room store f key)

  abbrev pub flag_at : List ℕ → FlagRead
  flag_at key = flag_read (doors.field room store f key)

  abbrev pub text_needed : List ℕ → TextRead
  text_needed key = record { fault = first_fault (text_at key).fault (missing (doors.field room store f key)); text = (text_at key).text }

  abbrev pub number_needed : List ℕ → NumberRead
  number_needed key = record { fault = first_fault (number_at key).fault (missing (doors.field room store f key)); number = (number_at key).number }

  abbrev pub kind_at : KindRead
  kind_at = kind_of store (text_at (ascii "kind")) (text_at (ascii "kind")).text

  abbrev pub media_at : Media → MediaRead
  media_at d = media_of store d (text_at (ascii "media")) (text_at (ascii "media")).text
