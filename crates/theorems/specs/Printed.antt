-- What is printed says which fields were printed (W-203): a page can be read back, and quoting loses nothing.
use Rattle.std.specs.Prelude.{ℕ, ◌+◌, List, ◌∷◌, ◌++◌, ◌≡◌, length, drop}
use Rattle.std.proofs.Math.Option.{some}
use Rattle.meaning.specs.declared.StringByte.TheVariants.{Plain}
use Rattle.meaning.specs.Bytes.{quote_mark}
use Rattle.meaning.specs.Limits.{of01}
use Rattle.meaning.specs.Refusal.{ok, accepted}
use Rattle.meaning.specs.Strings.{closed, decode}
use Rattle.meaning.specs.Values.{string_of}
use Rattle.meaning.specs.Quoting.{inner, quoted}
use Rattle.meaning.specs.Print.{Line, unended, ended, page}
use Rattle.meaning.specs.Listing.{Listed, listing, bytes_of}
use Rattle.theorems.specs.PageReader.{read_line, read_page}

-- from what a page prints the reader gets its lines back
abbrev pub PageReadsBack : Type 0
PageReadsBack = (ls : List Line) → read_page (page ls) ≡ some ls

-- and from a line without its end the fields
abbrev pub LineReadsBack : Type 0
LineReadsBack = (l : Line) → read_line (unended l) ≡ some l

-- the reader takes nothing else: the lines that it gets print as what it was given
abbrev pub PageReaderTakesPagesOnly : Type 0
PageReaderTakesPagesOnly = (s : List ℕ) (ls : List Line) → read_page s ≡ some ls → page ls ≡ s

-- nor does that of a line
abbrev pub LineReaderTakesLinesOnly : Type 0
LineReaderTakesLinesOnly = (s : List ℕ) (l : Line) → read_line s ≡ some l → unended l ≡ s

-- two different lists of fields never print alike
abbrev pub LinesPrintApart : Type 0
LinesPrintApart = (a b : Line) → ended a ≡ ended b → a ≡ b

-- and two different lists of lines neither
abbrev pub PagesPrintApart : Type 0
PagesPrintApart = (a b : List Line) → page a ≡ page b → a ≡ b

-- after the opening quote the old mode's string rules read the text, up to the closing quote, whatever follows
abbrev pub UnquotedIsTheText : Type 0
UnquotedIsTheText = (s rest : List ℕ) → decode Plain (inner s ++ (quote_mark ∷ rest)) ≡ record { how = closed; bytes = s; span = length (inner s) + 1 }

-- so what is printed for a text is one whole string of the old mode, which says the text
abbrev pub QuotedIsAString : Type 0
QuotedIsAString = (s : List ℕ) → string_of (drop 1 (quoted s)) ≡ ok s

-- two listings of the same bytes have the same lines, whatever the rooms, names and texts
abbrev pub EqualListingsHaveEqualLines : Type 0
EqualListingsHaveEqualLines = (store tree out : ℕ) (name text : List ℕ) (l : Listed) (store' tree' out' : ℕ) (name' text' : List ℕ) (m : Listed)
    → listing of01 store tree out name text ≡ accepted l
    → listing of01 store' tree' out' name' text' ≡ accepted m
    → bytes_of l ≡ bytes_of m → l.lines ≡ m.lines
