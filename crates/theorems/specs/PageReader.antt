-- A reader of printed pages: the lines of fields that print as these bytes. It shows that print loses nothing (W-203).
use Rattle.std.specs.Prelude.{ℕ, List, [], ◌∷◌, eqb, get_or, drop}
use Rattle.std.proofs.Math.Option.{Option, none, some}
use Rattle.meaning.specs.declared.StringByte.TheVariants.{Plain}
use Rattle.meaning.specs.declared.StringState.TheVariants.{Outside}
use Rattle.meaning.specs.Base.{pick, ascii, nil?, same, split, cut}
use Rattle.meaning.specs.Bytes.{line_feed, space, quote_mark}
use Rattle.meaning.specs.Refusal.{R, ok, bad}
use Rattle.meaning.specs.Quote.{state_after, equals_outside}
use Rattle.meaning.specs.Strings.{decode}
use Rattle.meaning.specs.Integers.{value}
use Rattle.meaning.specs.Print.{Word, wordOk, wordPart, wordComp, wordApp, wordBuild, wordStem, wordRefused, wordD13x, wordD21x, wordSpiNor, wordSpiNand, wordPbp, wordRaw, wordLocked, wordOpen, spelling, Field, of_word, of_number, of_text, absent, shown, Line}

-- ---- what is read, or nothing

abbrev pub and_then : {X Y : Type 0} → Option X → (X → Option Y) → Option Y
and_then none f = none
and_then (some x) f = f x

-- each of a list, or nothing
abbrev pub each : {X Y : Type 0} → (X → Option Y) → List X → Option (List Y)
each read [] = some []
each read (x ∷ xs) = and_then (read x) (λ y. and_then (each read xs) (λ ys. some (y ∷ ys)))

-- ---- a field

-- all words
abbrev pub words : List Word
words =
    wordOk
    ∷ wordPart
    ∷ wordComp
    ∷ wordApp
    ∷ wordBuild
    ∷ wordStem
    ∷ wordRefused
    ∷ wordD13x
    ∷ wordD21x
    ∷ wordSpiNor
    ∷ wordSpiNand
    ∷ wordPbp
    ∷ wordRaw
    ∷ wordLocked
    ∷ wordOpen
    ∷ []

-- the word that is spelled so
abbrev pub word_of : List Word → List ℕ → Option Word
word_of [] p = none
word_of (w ∷ ws) p = pick (same (spelling w) p) (some w) (word_of ws p)

-- a word, else a number
abbrev pub word_or_number : Option Word → R ℕ → Option Field
word_or_number (some w) r = some (of_word w)
word_or_number none (ok n) = some (of_number n)
word_or_number none (bad k) = none

-- what a piece of a line may be: after a quote a text by the old mode's rules, `-`, a word, or a number by its digits
unfoldable pub candidate : List ℕ → Option Field
candidate p =
    pick (eqb (get_or p 0 0) quote_mark) (some (of_text (decode Plain (drop 1 p)).bytes))
    (pick (same p (ascii "-")) (some absent) (word_or_number (word_of words p) (value 10 0 p)))

-- it is that only if that prints so
unfoldable pub read_field : List ℕ → Option Field
read_field p = and_then (candidate p) (λ f. pick (same (shown f) p) (some f) none)

-- ---- lines

-- a line without its end: its pieces between spaces outside strings; no bytes are no fields
unfoldable pub read_line : List ℕ → Option Line
read_line s = pick (nil? s) (some []) (each read_field (split Outside state_after (equals_outside space) Outside s))

-- lines, after each of which a line feed stands: nothing stands after the last
abbrev pub read_lines : List (List ℕ) → Option (List Line)
read_lines [] = none
read_lines (p ∷ []) = pick (nil? p) (some []) none
read_lines (p ∷ q ∷ ps) = and_then (read_line p) (λ l. and_then (read_lines (q ∷ ps)) (λ ls. some (l ∷ ls)))

-- the lines of a page
unfoldable pub read_page : List ℕ → Option (List Line)
read_page s = read_lines (cut line_feed s)

unfoldable pub computes : Unit {0}
unfolding candidate read_field read_line read_page
    Rattle.meaning.specs.Quote.computes
    Rattle.meaning.specs.Strings.computes
    Rattle.meaning.specs.Integers.computes
    Rattle.meaning.specs.Print.computes
computes = tt
