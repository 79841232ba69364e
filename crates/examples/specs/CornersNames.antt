-- Corners of the quoted listing, W-203, by computation: what is quoted, how, and what stays bare.
use Rattle.std.specs.Prelude.{ℕ, List, [], ◌∷◌, ◌++◌, ◌≡◌, refl}
use Prim.Native.String.{String}
use Rattle.meaning.specs.Base.{ascii}
use Rattle.meaning.specs.Limits.{of01}
use Rattle.meaning.specs.Quoting.{quoted}
use Rattle.meaning.specs.Print.{wordComp, wordApp, wordRaw, of_word, of_number, of_text, absent, Line, unended}
use Rattle.meaning.specs.Listing.{out_size, listing, printed, computes}
use Rattle.examples.specs.Samples.{lined}

-- what is printed of a text, and of one line
unfoldable pub prints : List ℕ → List ℕ
prints text = printed (listing of01 32768 65536 (out_size (ascii "board")) (ascii "board") text)

unfoldable pub line : Line → List ℕ
line fields = unended fields

-- a partition of one block
abbrev part : String → String → List String
part name offset = "[[partition]]" ∷ name ∷ offset ∷ "size = 4096" ∷ []

abbrev blank : List String
blank = part "name = \"head data\"" "offset = 0"

-- ---- what is quoted and what is bare

-- a partition `head data`; a reference that really is `-`, and an updater that has none
pub each_field :
    prints (lined (blank ++ part "name = \"-\"" "offset = 4096"
    ++ ("[[component]]" ∷ "name = \"x y\"" ∷ "package = \"p\"" ∷ "partition = \"head data\"" ∷ [])
    ++ ("[[component]]" ∷ "name = \"a\"" ∷ "file = \"f\"" ∷ "partition = \"-\"" ∷ [])
    ++ ("[[component]]" ∷ "name = \"u\"" ∷ "file = \"f\"" ∷ "updater = true" ∷ "ram = 0" ∷ [])
    ++ ("[apps.k]" ∷ "name = \"n m\"" ∷ "partition = \"-\"" ∷ [])))
    ≡ lined (
    "ok d13x spi-nor 2 3 1 27"
    ∷ "part \"head data\" 0 4096 open"
    ∷ "part \"-\" 4096 8192 open"
    ∷ "comp \"x y\" raw \"head data\""
    ∷ "comp \"a\" raw \"-\""
    ∷ "comp \"u\" raw -"
    ∷ "app \"k\" \"n m\" \"-\""
    ∷ "build \"p\" 0"
    ∷ "stem \"board\""
    ∷ []
    )
unfolding prints computes
each_field = refl

-- a refusal's line stays bare: a second `head data` (43)
pub refusal_bare : prints (lined (blank ++ part "name = \"head data\"" "offset = 4096")) ≡ lined ("refused 43 3 1" ∷ [])
unfolding prints computes
refusal_bare = refl

-- ---- escapes

-- `"`, `\`, LF, TAB and CR
pub five_escaped : quoted (34 ∷ 92 ∷ 10 ∷ 9 ∷ 13 ∷ []) ≡ ascii "\"\\\"\\\\\\n\\t\\r\""
unfolding computes
five_escaped = refl

-- NUL, ESC and U+0085 as they are
pub others_raw : quoted (0 ∷ 27 ∷ 194 ∷ 133 ∷ []) ≡ 34 ∷ 0 ∷ 27 ∷ 194 ∷ 133 ∷ 34 ∷ []
unfolding computes
others_raw = refl

pub empty_quoted : quoted [] ≡ ascii "\"\""
unfolding computes
empty_quoted = refl

-- a package with a raw TAB: one byte of the text, two in `build` and two in `stem`
abbrev app : List ℕ → List ℕ
app pack =
    lined (blank ++ ("[[component]]" ∷ "name = \"x\"" ∷ "kind = \"app\"" ∷ "partition = \"head data\"" ∷ []))
    ++ (ascii "package = \"" ++ (pack ++ ascii "\""))

abbrev listed_app : String → String → List ℕ
listed_app build stem =
    lined ("ok d13x spi-nor 1 1 0 11" ∷ "part \"head data\" 0 4096 open" ∷ "comp \"x\" app \"head data\"" ∷ build ∷ stem ∷ [])

pub tab_twice : prints (app (97 ∷ 9 ∷ [])) ≡ listed_app "build \"a\\t\" 0" "stem \"a\\t\""
unfolding prints computes
tab_twice = refl

-- an empty package
pub empty_listed : prints (app []) ≡ listed_app "build \"\" 0" "stem \"\""
unfolding prints computes
empty_listed = refl

-- ---- lines that were printed alike are printed apart

-- both were `comp u raw -`
pub reference_dash : line (of_word wordComp ∷ of_text (ascii "u") ∷ of_word wordRaw ∷ of_text (ascii "-") ∷ []) ≡ ascii "comp \"u\" raw \"-\""
unfolding line computes
reference_dash = refl

pub absent_dash : line (of_word wordComp ∷ of_text (ascii "u") ∷ of_word wordRaw ∷ absent ∷ []) ≡ ascii "comp \"u\" raw -"
unfolding line computes
absent_dash = refl

-- both were `app a b c d`
pub space_first : line (of_word wordApp ∷ of_text (ascii "a b") ∷ of_text (ascii "c") ∷ of_text (ascii "d") ∷ []) ≡ ascii "app \"a b\" \"c\" \"d\""
unfolding line computes
space_first = refl

pub space_second : line (of_word wordApp ∷ of_text (ascii "a") ∷ of_text (ascii "b c") ∷ of_text (ascii "d") ∷ []) ≡ ascii "app \"a\" \"b c\" \"d\""
unfolding line computes
space_second = refl

-- one text that looks like two
pub quotes_inside : line (of_word wordApp ∷ of_text (ascii "a\" \"b") ∷ []) ≡ ascii "app \"a\\\" \\\"b\""
unfolding line computes
quotes_inside = refl

-- a word or a number, and a text of the same letters
pub text_or_word : line (of_word wordApp ∷ of_text (ascii "app") ∷ of_number 0 ∷ of_text (ascii "0") ∷ []) ≡ ascii "app \"app\" 0 \"0\""
unfolding line computes
text_or_word = refl
