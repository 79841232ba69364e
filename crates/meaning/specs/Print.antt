-- What is printed (01, "What the listing prints"; W-203): lines of fields, and the bytes of both.
use Rattle.std.specs.Prelude.{ℕ, zero, suc, ◌+◌, ◌/◌, ◌%◌, Bool, true, false, List, [], ◌∷◌, ◌++◌, map, ltb}
use Rattle.meaning.specs.Base.{ascii, concat}
use Rattle.meaning.specs.Bytes.{line_feed, space, digit_zero}
use Rattle.meaning.specs.Schema.{d13x, d21x, spiNor, spiNand, kindApp, kindPbp, kindRaw, chip_word, media_word, kind_word}
use Rattle.meaning.specs.Quoting.{quoted}

-- ---- words

-- the words that are printed bare, one for each spelling: `app` begins a line and is a kind
pub data Word : Type 0 where
  wordOk wordPart wordComp wordApp wordBuild wordStem wordRefused : Word
  wordD13x wordD21x wordSpiNor wordSpiNand wordPbp wordRaw : Word
  wordLocked wordOpen : Word

unfoldable pub spelling : Word → List ℕ
spelling wordOk = ascii "ok"
spelling wordPart = ascii "part"
spelling wordComp = ascii "comp"
spelling wordApp = kind_word kindApp
spelling wordBuild = ascii "build"
spelling wordStem = ascii "stem"
spelling wordRefused = ascii "refused"
spelling wordD13x = chip_word d13x
spelling wordD21x = chip_word d21x
spelling wordSpiNor = media_word spiNor
spelling wordSpiNand = media_word spiNand
spelling wordPbp = kind_word kindPbp
spelling wordRaw = kind_word kindRaw
spelling wordLocked = ascii "locked"
spelling wordOpen = ascii "open"

-- ---- numbers

-- the digits of n before the digits after, the last first; single says that n has one digit alone. A number has no more
-- digits than it counts, and one, so left, which begins as the number, lasts for them
abbrev pub digits : ℕ → Bool → ℕ → List ℕ → List ℕ
digits zero single n after = (digit_zero + n) ∷ after
digits (suc left) true n after = (digit_zero + n) ∷ after
digits (suc left) false n after = digits left (ltb (n / 10) 10) (n / 10) ((digit_zero + n % 10) ∷ after)

-- a number in decimal
unfoldable pub decimal : ℕ → List ℕ
decimal n = digits n (ltb n 10) n []

-- ---- fields and lines

-- a word of the fixed set, a number, a text, or what is absent
pub data Field : Type 0 where
  of_word : Word → Field
  of_number : ℕ → Field
  of_text : List ℕ → Field
  absent : Field

-- "Each name, package, reference and stem is to be printed in double quotes"; "An absent partition stays a bare `-`"
abbrev pub shown : Field → List ℕ
shown (of_word w) = spelling w
shown (of_number n) = decimal n
shown (of_text s) = quoted s
shown absent = ascii "-"

abbrev pub Line : Type 0
Line = List Field

-- "one space between fields"
abbrev pub spaced : List Field → List ℕ
spaced [] = []
spaced (f ∷ fs) = space ∷ (shown f ++ spaced fs)

-- a line without its end
abbrev pub unended : Line → List ℕ
unended [] = []
unended (f ∷ fs) = shown f ++ spaced fs

-- "Lines end in LF"
abbrev pub ended : Line → List ℕ
ended l = unended l ++ (line_feed ∷ [])

-- lines one after the other
abbrev pub page : List Line → List ℕ
page ls = concat (map ended ls)

unfoldable pub computes : Unit {0}
unfolding spelling decimal Rattle.meaning.specs.Schema.computes Rattle.meaning.specs.Quoting.computes
computes = tt
