-- Corners of lines, comments and joining, by computation. `⏎` stands for LF.
use Rattle.std.specs.Prelude.{ℕ, List, [], ◌∷◌, ◌≡◌, refl}
use Rattle.meaning.specs.Base.{ascii}
use Rattle.meaning.specs.declared.Limits.{Limits}
use Rattle.meaning.specs.Limits.{of01}
use Rattle.meaning.specs.Refusal.{Answer, accepted, at_line, at_no_line}
use Rattle.meaning.specs.Lines.{Line, lines, computes}
use Rattle.examples.specs.Samples.{◌⏎◌}

-- a joined line t that starts at line n
abbrev line : ℕ → List ℕ → Line
line n t = record { at = n; text = t }

abbrev says : List ℕ → Answer (List Line)
says s = lines of01 s

-- 3 after joining is told at the start of the joined line: `a = [⏎]]`
over_at_start : says (ascii "a = [" ⏎ ascii "]]") ≡ at_line 3 1
unfolding computes
over_at_start = refl

-- 3 is a net count after a whole physical line: `] [` passes
net_count : says (ascii "] [") ≡ accepted (line 1 (ascii "] [") ∷ [])
unfolding computes
net_count = refl

-- it is tested before quotes are: `]x"` is 3 though a string is open
over_before_open : says (ascii "]x\"") ≡ at_line 3 1
unfolding computes
over_before_open = refl

-- 4 names the start of the open line: `⏎# c⏎⏎a = [1,⏎⏎2`
open_at_start : says ([] ⏎ ascii "# c" ⏎ [] ⏎ ascii "a = [1," ⏎ [] ⏎ ascii "2") ≡ at_line 4 4
unfolding computes
open_at_start = refl

-- 3 and 4 over the whole text first: `x⏎a = 1⏎]` is 3 at 3
whole_text_first : says (ascii "x" ⏎ ascii "a = 1" ⏎ ascii "]") ≡ at_line 3 3
unfolding computes
whole_text_first = refl

-- cutting a comment forgets an open string: `a = "x⏎y # z⏎"` keeps `y ` of its second line
cut_in_string : says (ascii "a = \"x" ⏎ ascii "y # z" ⏎ ascii "\"")
    ≡ accepted (line 1 (ascii "a = \"x" ⏎ ascii "y " ⏎ ascii "\"") ∷ [])
unfolding computes
cut_in_string = refl

-- seen from its own line a closing quote opens a string, so the comment after it stays: `a = "x⏎y" # z`
kept_after_quote : says (ascii "a = \"x" ⏎ ascii "y\" # z")
    ≡ accepted (line 1 (ascii "a = \"x" ⏎ ascii "y\" # z") ∷ [])
unfolding computes
kept_after_quote = refl

-- `a = "x⏎y" # z"` leaves the line open
open_after_comment : says (ascii "a = \"x" ⏎ ascii "y\" # z\"") ≡ at_line 4 1
unfolding computes
open_after_comment = refl

-- `a = "x⏎# y"` cuts the end quote
cut_end_quote : says (ascii "a = \"x" ⏎ ascii "# y\"") ≡ at_line 4 1
unfolding computes
cut_end_quote = refl

-- a backslash at a line's end inside a string hides the joining LF: `a = "x\⏎"` is closed
hidden_lf : says (ascii "a = \"x\\" ⏎ ascii "\"") ≡ accepted (line 1 (ascii "a = \"x\\" ⏎ ascii "\"") ∷ [])
unfolding computes
hidden_lf = refl

-- blank and comment lines inside an open line are joined, each adding an LF
joined_blanks : says (ascii "a = [" ⏎ ascii " " ⏎ ascii "# c" ⏎ ascii "1]")
    ≡ accepted (line 1 (ascii "a = [" ⏎ ascii " " ⏎ [] ⏎ ascii "1]") ∷ [])
unfolding computes
joined_blanks = refl

-- CRLF loses one CR of two, and only LF ends a line: VT and U+0085 do not
one_cr : says (120 ∷ 13 ∷ 13 ∷ 10 ∷ 121 ∷ 11 ∷ 0xc2 ∷ 0x85 ∷ 122 ∷ [])
    ≡ accepted (line 1 (120 ∷ 13 ∷ []) ∷ line 2 (121 ∷ 11 ∷ 0xc2 ∷ 0x85 ∷ 122 ∷ []) ∷ [])
unfolding computes
one_cr = refl

-- a CR at the end of a text without LF is kept
lone_cr : says (120 ∷ 13 ∷ []) ≡ accepted (line 1 (120 ∷ 13 ∷ []) ∷ [])
unfolding computes
lone_cr = refl

-- a line of U+3000 and U+00A0 is blank; U+200B and a byte order mark are no white space
blank_wide : says (0xe3 ∷ 0x80 ∷ 0x80 ∷ 0xc2 ∷ 0xa0 ∷ []) ≡ accepted []
unfolding computes
blank_wide = refl

not_blank : says (0xef ∷ 0xbb ∷ 0xbf ∷ 10 ∷ 0xe2 ∷ 0x80 ∷ 0x8b ∷ [])
    ≡ accepted (line 1 (0xef ∷ 0xbb ∷ 0xbf ∷ []) ∷ line 2 (0xe2 ∷ 0x80 ∷ 0x8b ∷ []) ∷ [])
unfolding computes
not_blank = refl

-- 2 comes before 3 and 4, and 1 before 2, whatever the limit is
not_utf8 : says (93 ∷ 10 ∷ 0xed ∷ 0xa0 ∷ 0x80 ∷ []) ≡ at_no_line 2
unfolding computes
not_utf8 = refl

abbrev three_bytes : Limits
three_bytes = record {
  text = 3;
  values = 0;
  arrays = 0;
  segments = 0;
  partitions = 0;
  components = 0;
  applications = 0;
  features = 0;
}

too_long : lines three_bytes (93 ∷ 0xff ∷ 93 ∷ 93 ∷ []) ≡ at_no_line 1
unfolding computes
too_long = refl

long_enough : lines three_bytes (97 ∷ 98 ∷ 99 ∷ []) ≡ accepted (line 1 (97 ∷ 98 ∷ 99 ∷ []) ∷ [])
unfolding computes
long_enough = refl
