-- What a text field's place says, and the choices between places.
use Rattle.std.specs.Prelude.{ℕ, ◌+◌, Bool, true, false, List, [], ◌++◌, leb, length, Option as Maybe, Some, None}
use Rattle.std.proofs.Math.Option.{Option, none, some}
use Rattle.meaning.specs.Base.{pick, ascii, part}
use Rattle.schema.specs.declared.Text.{Text}
use Rattle.schema.specs.declared.Text.TheVariants as texts
use Rattle.schema.specs.Words.{word}

-- len bytes from a place on; none where they run past the end
unfoldable pub clip : ℕ → ℕ → List ℕ → List ℕ
clip from len s = pick (leb (from + len) (length s)) (part from (from + len) s) []

-- the bytes of a text, by the store and the lent name
abbrev pub spelled : List ℕ → List ℕ → Text → List ℕ
spelled store name texts.Absent = []
spelled store name (texts.Stored from len) = clip from len store
spelled store name texts.Lent = name
spelled store name (texts.Fixed w) = word w
spelled store name (texts.WithAic from len) = clip from len store ++ ascii ".aic"

-- none where it is absent
abbrev pub optional : List ℕ → List ℕ → Text → Option (List ℕ)
optional store name texts.Absent = none
optional store name (texts.Stored from len) = some (clip from len store)
optional store name texts.Lent = some name
optional store name (texts.Fixed w) = some (word w)
optional store name (texts.WithAic from len) = some (clip from len store ++ ascii ".aic")

abbrev pub is_given : Text → Bool
is_given texts.Absent = false
is_given (texts.Stored from len) = true
is_given texts.Lent = true
is_given (texts.Fixed w) = true
is_given (texts.WithAic from len) = true

-- what is there, or d
abbrev pub or_text : Text → Text → Text
or_text texts.Absent d = d
or_text (texts.Stored from len) d = texts.Stored from len
or_text texts.Lent d = texts.Lent
or_text (texts.Fixed w) d = texts.Fixed w
or_text (texts.WithAic from len) d = texts.WithAic from len

abbrev pub aic_of : Text → Text
aic_of texts.Absent = texts.Absent
aic_of (texts.Stored from len) = texts.WithAic from len
aic_of texts.Lent = texts.Absent
aic_of (texts.Fixed w) = texts.Absent
aic_of (texts.WithAic from len) = texts.Absent

-- where a stored text begins, and how many bytes it has
abbrev pub start_of : Text → ℕ
start_of texts.Absent = 0
start_of (texts.Stored from len) = from
start_of texts.Lent = 0
start_of (texts.Fixed w) = 0
start_of (texts.WithAic from len) = 0

abbrev pub length_of : Text → ℕ
length_of texts.Absent = 0
length_of (texts.Stored from len) = len
length_of texts.Lent = 0
length_of (texts.Fixed w) = 0
length_of (texts.WithAic from len) = 0

abbrev pub amount : Maybe ℕ → Option ℕ
amount None = none
amount (Some n) = some n
