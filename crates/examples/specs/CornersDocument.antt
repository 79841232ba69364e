-- Corners of headers, assignments, tree, store and count, by computation over whole documents. `⏎` stands for LF, `[×n`
-- for n brackets; "corner" is the number in the list of observations.
use Rattle.std.specs.Prelude.{ℕ, zero, suc, true, List, [], ◌∷◌, ◌++◌, ◌≡◌, refl, replicate}
use Prim.Native.String.{String}
use Rattle.meaning.specs.Base.{ascii}
use Rattle.meaning.specs.declared.Limits.{Limits}
use Rattle.meaning.specs.Limits.{of01}
use Rattle.meaning.specs.Refusal.{Answer, accepted, at_line, at_no_line, unmet, unknown, not_table, not_array, pathless}
use Rattle.meaning.specs.Refusal.{hollow, not_last}
use Rattle.meaning.specs.Reading.{Grown, grown, stuck}
use Rattle.meaning.specs.Tree.{Value, Table, boolean, array, table, none', item, empty, entry}
use Rattle.meaning.specs.Document.{Under, tables, arrays, under_header, Parsed, document, computes}
use Rattle.examples.specs.Samples.{words, word, number, ◌≔◌⨾◌, ◌⊕◌}

-- a document by 01's limits
abbrev says : List ℕ → Answer Parsed
says s = document of01 s

abbrev reads : String → Answer Parsed
reads s = says (ascii s)

-- accepted with a tree, the words in the store and the count
abbrev leaves : Table → List String → ℕ → Answer Parsed
leaves t ws n = accepted (record { root = t; bytes = words ws; made = n })

-- 01's limits but for the values made
abbrev allowing : ℕ → Limits
allowing n = record {
  text = 32768;
  values = n;
  arrays = 16;
  segments = 16;
  partitions = 32;
  components = 64;
  applications = 64;
  features = 32;
}

-- a document where n values may be made
abbrev reads_with : ℕ → String → Answer Parsed
reads_with n s = document (allowing n) (ascii s)

-- ---- the order of refusals

-- corner 4: 3 over the whole text before any line is read: `x⏎a = 1⏎]` is 3 at 3, not 5 at 1
pub over_first : reads "x\na = 1\n]" ≡ at_line 3 3
unfolding computes
over_first = refl

-- corner 4: 4 likewise: `x⏎a = [` is 4 at 2
pub open_first : reads "x\na = [" ≡ at_line 4 2
unfolding computes
open_first = refl

-- 2 before 3: `]⏎` and a byte that begins no character
pub utf8_first : says (93 ∷ 10 ∷ 0xff ∷ []) ≡ at_no_line 2
unfolding computes
utf8_first = refl

-- 1 before 2: the same text where two bytes are allowed
pub length_first : document (record {
  text = 2;
  values = 9;
  arrays = 9;
  segments = 9;
  partitions = 9;
  components = 9;
  applications = 9;
  features = 9;
}) (93 ∷ 10 ∷ 0xff ∷ []) ≡ at_no_line 1
unfolding computes
length_first = refl

-- "Text: 32,768 bytes": one more is 1
pub too_long : says (replicate 32769 32) ≡ at_no_line 1
unfolding computes
too_long = refl

-- the first line at fault is told: `a = x⏎[]` is 12 at 1
pub first_fault_lem : reads "a = x\n[]" ≡ at_line 12 1
unfolding computes
first_fault_lem = refl

-- ---- lines

-- corner 72: the empty text leaves nothing
pub empty_text : reads "" ≡ leaves empty [] 0
unfolding computes
empty_text = refl

-- blank lines and comments leave nothing: `⏎ ⏎# c`
pub blank_text : reads "\n \n# c" ≡ leaves empty [] 0
unfolding computes
blank_text = refl

-- corner 3: skipped lines count as physical lines: `⏎# c⏎⏎x` is 5 at 4
pub skipped_count : reads "\n# c\n\nx" ≡ at_line 5 4
unfolding computes
skipped_count = refl

-- corner 70: a line joined from many keeps one place: `⏎a = [1,⏎x,⏎2]` is 12 at 2
pub one_place : reads "\na = [1,\nx,\n2]" ≡ at_line 12 2
unfolding computes
one_place = refl

-- and the line after it is told by its own number: `a = [1,⏎2]⏎x` is 5 at 3
pub place_after : reads "a = [1,\n2]\nx" ≡ at_line 5 3
unfolding computes
place_after = refl

-- corner 2: `] [` passes joining and is 5
pub net_zero : reads "] [" ≡ at_line 5 1
unfolding computes
net_zero = refl

-- corner 2: `] = [[]` passes joining; its value is 11
pub net_zero_value : reads "] = [[]" ≡ at_line 11 1
unfolding computes
net_zero_value = refl

-- corner 2: `][ = 1` has the key `][`
pub bracket_key : reads "][ = 1" ≡ leaves ("][" ≔ number 1 ⨾ empty) ("][" ∷ []) 1
unfolding computes
bracket_key = refl

-- corner 73: `a] = [1`: the simplest 11
pub simplest_11 : reads "a] = [1" ≡ at_line 11 1
unfolding computes
simplest_11 = refl

-- corner 5: `a = "x⏎y # z⏎"`: what is after `#` is cut, the space before it stays
pub cut_in_string : reads "a = \"x\ny # z\n\"" ≡ leaves ("a" ≔ word "x\ny \n" ⨾ empty) ("x\ny \n" ∷ "a" ∷ []) 1
unfolding computes
cut_in_string = refl

-- corner 5: `a = "x⏎y" # z`: the comment stays and is text after a string
pub comment_after : reads "a = \"x\ny\" # z" ≡ at_line 10 1
unfolding computes
comment_after = refl

-- corner 6: `a = "x\⏎"`: the LF is hidden, the string is closed, and a backslash before LF is no escape
pub escaped_lf : reads "a = \"x\\\n\"" ≡ at_line 8 1
unfolding computes
escaped_lf = refl

-- corner 7: blank and comment lines inside a string are joined, white space kept: `a = "x⏎ ⏎# c⏎y"`
pub blanks_in_string : reads "a = \"x\n \n# c\ny\"" ≡ leaves ("a" ≔ word "x\n \n\ny" ⨾ empty) ("x\n \n\ny" ∷ "a" ∷ []) 1
unfolding computes
blanks_in_string = refl

-- corner 8: of CR CR LF one CR stays: `a = "x` CR CR `⏎y"`
pub one_cr : reads "a = \"x\r\r\ny\"" ≡ leaves ("a" ≔ word "x\r\ny" ⨾ empty) ("x\r\ny" ∷ "a" ∷ []) 1
unfolding computes
one_cr = refl

-- corner 8: a lone CR does not end a line: `a = 1` CR `b = 2`
pub lone_cr : reads "a = 1\rb = 2" ≡ at_line 12 1
unfolding computes
lone_cr = refl

-- corner 8: VT, FF, U+0085 and U+2028 end no line
pub vt : reads "a = 1\u{b}b = 2" ≡ at_line 12 1
unfolding computes
vt = refl

pub ff : reads "a = 1\u{c}b = 2" ≡ at_line 12 1
unfolding computes
ff = refl

pub next_line_lem : says (ascii "a = 1" ++ (0xc2 ∷ 0x85 ∷ ascii "b = 2")) ≡ at_line 12 1
unfolding computes
next_line_lem = refl

pub line_separator : says (ascii "a = 1" ++ (0xe2 ∷ 0x80 ∷ 0xa8 ∷ ascii "b = 2")) ≡ at_line 12 1
unfolding computes
line_separator = refl

-- corner 8: a CR at the end of the text is trimmed: `a = 1` CR
pub last_cr : reads "a = 1\r" ≡ leaves ("a" ≔ number 1 ⨾ empty) ("a" ∷ []) 1
unfolding computes
last_cr = refl

-- s after a byte order mark
abbrev marked : List ℕ → List ℕ
marked s = 0xef ∷ 0xbb ∷ 0xbf ∷ s

-- corner 9: a byte order mark is no white space: `[board]` after one is no header
pub marked_header : says (marked (ascii "[board]")) ≡ at_line 5 1
unfolding computes
marked_header = refl

-- corner 9: `a = 1` after one has it in the key
pub marked_key : says (marked (ascii "a = 1"))
    ≡ accepted (record { root = entry (marked (ascii "a")) (number 1) empty; bytes = marked (ascii "a"); made = 1 })
unfolding computes
marked_key = refl

-- wide white space is trimmed around a line, its key and its value: U+3000 `a` U+00A0 `=` U+2003 `1` U+0085
pub wide_space :
    says ((0xe3 ∷ 0x80 ∷ 0x80 ∷ ascii "a") ++ (0xc2 ∷ 0xa0 ∷ ascii "=") ++ (0xe2 ∷ 0x80 ∷ 0x83 ∷ ascii "1")
    ++ (0xc2 ∷ 0x85 ∷ []))
    ≡ leaves ("a" ≔ number 1 ⨾ empty) ("a" ∷ []) 1
unfolding computes
wide_space = refl

-- corner 21: `a = '#'`: a comment begins there, and `'` is no integer
pub quoted_hash : reads "a = '#'" ≡ at_line 12 1
unfolding computes
quoted_hash = refl

-- ---- which kind of line

-- corner 11: `[a]=[1]` is a header of one segment
pub header_with_equals : reads "[a]=[1]" ≡ leaves ("a]=[1" ≔ table empty ⨾ empty) ("a]=[1" ∷ []) 1
unfolding computes
header_with_equals = refl

-- corner 11: `["a"] = ["b"]` is the header `a`
pub header_with_strings : reads "[\"a\"] = [\"b\"]" ≡ leaves ("a" ≔ table empty ⨾ empty) ("a" ∷ []) 1
unfolding computes
header_with_strings = refl

-- corner 11: `[a = ]` is the header `a =`
pub header_ends_equals : reads "[a = ]" ≡ leaves ("a =" ≔ table empty ⨾ empty) ("a =" ∷ []) 1
unfolding computes
header_ends_equals = refl

-- corner 11: `[[a]] = [[1]]` is the array header `a]] = [[1`
pub push_with_equals : reads "[[a]] = [[1]]" ≡ leaves ("a]] = [[1" ≔ array (empty ⊕ none') ⨾ empty) ("a]] = [[1" ∷ []) 2
unfolding computes
push_with_equals = refl

-- corner 11: `[[a]] = [1]` is an assignment to the key `[[a]]`
pub assigned_doubled : reads "[[a]] = [1]" ≡ leaves ("[[a]]" ≔ array (item (number 1) none') ⨾ empty) ("[[a]]" ∷ []) 2
unfolding computes
assigned_doubled = refl

-- corner 11: `[a] = 1` is an assignment to the key `[a]`
pub assigned_single : reads "[a] = 1" ≡ leaves ("[a]" ≔ number 1 ⨾ empty) ("[a]" ∷ []) 1
unfolding computes
assigned_single = refl

-- corner 11: `[a] x = 1` is an assignment to the key `[a] x`
pub assigned_after : reads "[a] x = 1" ≡ leaves ("[a] x" ≔ number 1 ⨾ empty) ("[a] x" ∷ []) 1
unfolding computes
assigned_after = refl

-- corner 12: `[[a]` is open to the end
pub push_open : reads "[[a]" ≡ at_line 4 1
unfolding computes
push_open = refl

-- corner 12: `[a]]` closes one too many
pub header_over : reads "[a]]" ≡ at_line 3 1
unfolding computes
header_over = refl

-- corner 12: `[]` has an empty segment
pub header_empty : reads "[]" ≡ at_line 7 1
unfolding computes
header_empty = refl

-- corner 12: `[[]]` too
pub push_empty : reads "[[]]" ≡ at_line 7 1
unfolding computes
push_empty = refl

-- corner 75: `[[]` and `[` are open, so that no header's brackets overlap
pub push_three : reads "[[]" ≡ at_line 4 1
unfolding computes
push_three = refl

pub header_one : reads "[" ≡ at_line 4 1
unfolding computes
header_one = refl

-- corner 12: `[a] x` is neither header nor assignment
pub header_and_more : reads "[a] x" ≡ at_line 5 1
unfolding computes
header_and_more = refl

-- corner 12: `[[a] ]` starts `[[`, so `[..]` is not tried
pub push_spaced_end : reads "[[a] ]" ≡ at_line 5 1
unfolding computes
push_spaced_end = refl

-- corner 12: `[ [a]]` is a header of the key `[a]`
pub header_spaced : reads "[ [a]]" ≡ leaves ("[a]" ≔ table empty ⨾ empty) ("[a]" ∷ []) 1
unfolding computes
header_spaced = refl

-- corner 12: `[[[a]]]` is an array header of the key `[a]`
pub push_tripled : reads "[[[a]]]" ≡ leaves ("[a]" ≔ array (empty ⊕ none') ⨾ empty) ("[a]" ∷ []) 2
unfolding computes
push_tripled = refl

-- corner 12: `[a..b]`, `[.a]` and `[a.]` have an empty segment
pub header_mid : reads "[a..b]" ≡ at_line 7 1
unfolding computes
header_mid = refl

pub header_left : reads "[.a]" ≡ at_line 7 1
unfolding computes
header_left = refl

pub header_right : reads "[a.]" ≡ at_line 7 1
unfolding computes
header_right = refl

-- corner 12: `[a.b⏎]` is the header a.b over two lines
pub header_two_lines : reads "[a.b\n]" ≡ leaves ("a" ≔ table ("b" ≔ table empty ⨾ empty) ⨾ empty) ("a" ∷ "b" ∷ []) 2
unfolding computes
header_two_lines = refl

-- corner 12: `[a⏎b]` has the key `a⏎b`
pub header_lf : reads "[a\nb]" ≡ leaves ("a\nb" ≔ table empty ⨾ empty) ("a\nb" ∷ []) 1
unfolding computes
header_lf = refl

-- corner 13: `= x` is 6, before its value is read
pub no_key : reads "= x" ≡ at_line 6 1
unfolding computes
no_key = refl

-- corner 13: `a. = x` is 12: the value is read before the key is split
pub value_first : reads "a. = x" ≡ at_line 12 1
unfolding computes
value_first = refl

-- and `a. = 1` is 7
pub key_second : reads "a. = 1" ≡ at_line 7 1
unfolding computes
key_second = refl

-- corner 13: `a =` has no value
pub no_value : reads "a =" ≡ at_line 12 1
unfolding computes
no_value = refl

-- corner 13: `a⏎= 1` is not joined: 5 at 1
pub not_joined : reads "a\n= 1" ≡ at_line 5 1
unfolding computes
not_joined = refl

-- corner 14: the `=` of `a"=" = 1` that counts is outside the string; the key keeps its quotes
pub quotes_in_key : reads "a\"=\" = 1" ≡ leaves ("a\"=\"" ≔ number 1 ⨾ empty) ("a\"=\"" ∷ []) 1
unfolding computes
quotes_in_key = refl

-- corners 15 and 16 over a line: `"a" ".b" = 1` has the keys `a` and `b"`
pub stray_quote : reads "\"a\" \".b\" = 1" ≡ leaves ("a" ≔ table ("b\"" ≔ number 1 ⨾ empty) ⨾ empty)
    ("a" ∷ "b\"" ∷ []) 2
unfolding computes
stray_quote = refl

-- ---- limits

-- a table, and n more, each in the one before
abbrev nest : ℕ → Value
nest zero = table empty
nest (suc n) = table ("a" ≔ nest n ⨾ empty)

-- a header of 16 segments makes 16 tables
pub segments_16 : reads "[a.a.a.a.a.a.a.a.a.a.a.a.a.a.a.a]"
    ≡ leaves ("a" ≔ nest 15 ⨾ empty) ("aaaaaaaaaaaaaaaa" ∷ []) 16
unfolding computes
segments_16 = refl

-- the 17th is 15, told at its line: `⏎[a×17]`
pub segments_17 : reads "\n[a.a.a.a.a.a.a.a.a.a.a.a.a.a.a.a.a]" ≡ at_line 15 2
unfolding computes
segments_17 = refl

-- of a key too; its value is read before: `a×17 = 1` and `a×17 = x`
pub key_17 : reads "a.a.a.a.a.a.a.a.a.a.a.a.a.a.a.a.a = 1" ≡ at_line 15 1
unfolding computes
key_17 = refl

pub value_before_17 : reads "a.a.a.a.a.a.a.a.a.a.a.a.a.a.a.a.a = x" ≡ at_line 12 1
unfolding computes
value_before_17 = refl

-- an array that holds n others, each in the one before
abbrev within : ℕ → Value
within zero = array none'
within (suc n) = array (item (within n) none')

-- corner 23: the array of `[[..]]` around it does not count: `[[a]]⏎b = [×16`
pub arrays_16 : reads "[[a]]\nb = [[[[[[[[[[[[[[[[]]]]]]]]]]]]]]]]"
    ≡ leaves ("a" ≔ array (("b" ≔ within 15 ⨾ empty) ⊕ none') ⨾ empty) ("a" ∷ "b" ∷ []) 18
unfolding computes
arrays_16 = refl

-- the 17th is 14, told at its line: `⏎b = [×17`
pub arrays_17 : reads "\nb = [[[[[[[[[[[[[[[[[]]]]]]]]]]]]]]]]]" ≡ at_line 14 2
unfolding computes
arrays_17 = refl

-- corner 24: one value above the limit: `a = 1⏎b = 2` where one may be made is 16 at 2
pub value_over : reads_with 1 "a = 1\nb = 2" ≡ at_line 16 2
unfolding computes
value_over = refl

-- corner 24, where all values are made: 12, 10, 11 and 8 come before 16
pub full_word : reads_with 1 "a = 1\nb = x" ≡ at_line 12 2
unfolding computes
full_word = refl

pub full_after : reads_with 1 "a = 1\nb = \"x\" y" ≡ at_line 10 2
unfolding computes
full_after = refl

pub full_open : reads_with 1 "a = 1\nb = [1] 2" ≡ at_line 11 2
unfolding computes
full_open = refl

pub full_escape : reads_with 1 "a = 1\nb = \"\\q\"" ≡ at_line 8 2
unfolding computes
full_escape = refl

-- corner 24: `b..c = 1` is 16, since the value is made before the key is split
pub full_key : reads_with 1 "a = 1\nb..c = 1" ≡ at_line 16 2
unfolding computes
full_key = refl

-- corner 24: `[[a]]` over a table is 13: nothing is made yet
pub full_push_over : reads_with 1 "[a]\n[[a]]" ≡ at_line 13 2
unfolding computes
full_push_over = refl

-- corner 24: `[[b]]` where there is none is 16, for its array and for its table alike
pub full_push : reads_with 1 "[a]\n[[b]]" ≡ at_line 16 2
unfolding computes
full_push = refl

pub full_push_table : reads_with 2 "[a]\n[[b]]" ≡ at_line 16 2
unfolding computes
full_push_table = refl

-- one more table of an array that is there: `[[a]]⏎[[a]]` where two may be made
pub full_push_again : reads_with 2 "[[a]]\n[[a]]" ≡ at_line 16 2
unfolding computes
full_push_again = refl

-- corner 24: `b = [x]` is 16: the array is made before its items are read
pub full_array : reads_with 1 "a = 1\nb = [x]" ≡ at_line 16 2
unfolding computes
full_array = refl

-- corner 24: 17 arrays are 16 where all values are made, and 14 where 16 more may be
pub full_arrays : reads_with 1 "a = 1\nb = [[[[[[[[[[[[[[[[[]]]]]]]]]]]]]]]]]" ≡ at_line 16 2
unfolding computes
full_arrays = refl

pub arrays_first : reads_with 17 "a = 1\nb = [[[[[[[[[[[[[[[[[]]]]]]]]]]]]]]]]]" ≡ at_line 14 2
unfolding computes
arrays_first = refl

-- a table that a header or a key makes: `[b]`, and `b.c = 1` where only its value fits
pub full_header : reads_with 1 "a = 1\n[b]" ≡ at_line 16 2
unfolding computes
full_header = refl

pub full_parent : reads_with 2 "a = 1\nb.c = 1" ≡ at_line 16 2
unfolding computes
full_parent = refl

-- a header over tables that are there makes nothing: `[a]⏎[a]` where one may be made
pub full_again : reads_with 1 "[a]\n[a]" ≡ leaves ("a" ≔ table empty ⨾ empty) ("a" ∷ "a" ∷ []) 1
unfolding computes
full_again = refl

-- a repeated key makes a value all the same: `a = 1⏎a = 2` where one may be made
pub full_repeated : reads_with 1 "a = 1\na = 2" ≡ at_line 16 2
unfolding computes
full_repeated = refl

-- corner 17: a key's 7 and 15 come before any table is made: `[a..b]` and `[a×17]` where none may be
pub segments_first : reads_with 0 "[a..b]" ≡ at_line 7 1
unfolding computes
segments_first = refl

pub segments_17_first : reads_with 0 "[a.a.a.a.a.a.a.a.a.a.a.a.a.a.a.a.a]" ≡ at_line 15 1
unfolding computes
segments_17_first = refl

-- corner 17: of a key after its value: `a.b..c = 1` where only the value fits
pub segments_second : reads_with 1 "a.b..c = 1" ≡ at_line 7 1
unfolding computes
segments_second = refl

-- `1,` n times
abbrev ones : ℕ → List ℕ
ones zero = []
ones (suc n) = 49 ∷ 44 ∷ ones n

-- "Values made: 2,048", and the 2,049th is 16: an array of 2,047 items is read, and the line after it is not:
-- `a=[1,×2047]⏎b=1`
pub values_2049 : says (ascii "a=[" ++ ones 2047 ++ ascii "]\nb=1") ≡ at_line 16 2
unfolding computes
values_2049 = refl

-- ---- assignments under headers

-- under the root, under a table and under the last table of an array: `a = 1⏎[t]⏎b = 2⏎[[u]]⏎c = 3⏎[[u]]⏎d = 4`
pub under_headers :
    reads "a = 1\n[t]\nb = 2\n[[u]]\nc = 3\n[[u]]\nd = 4"
    ≡ leaves ("a" ≔ number 1 ⨾ "t" ≔ table ("b" ≔ number 2 ⨾ empty) ⨾ "u" ≔ array
    (("c" ≔ number 3 ⨾ empty) ⊕ ("d" ≔ number 4 ⨾ empty) ⊕ none') ⨾ empty)
    ("a" ∷ "t" ∷ "b" ∷ "u" ∷ "c" ∷ "u" ∷ "d" ∷ []) 8
unfolding computes
under_headers = refl

-- a dotted key makes its parents under the header: `[t]⏎a.b = 1⏎a.c = true`
pub dotted_under :
    reads "[t]\na.b = 1\na.c = true"
    ≡ leaves ("t" ≔ table ("a" ≔ table ("b" ≔ number 1 ⨾ "c" ≔ boolean true ⨾ empty) ⨾ empty) ⨾ empty)
    ("t" ∷ "a" ∷ "b" ∷ "a" ∷ "c" ∷ []) 4
unfolding computes
dotted_under = refl

-- under an array inside a table: `[[t.u]]⏎a = 1⏎[[t.u]]⏎a = 2`
pub under_inner :
    reads "[[t.u]]\na = 1\n[[t.u]]\na = 2"
    ≡ leaves ("t" ≔ table ("u" ≔ array (("a" ≔ number 1 ⨾ empty) ⊕ ("a" ≔ number 2 ⨾ empty) ⊕ none') ⨾ empty) ⨾ empty)
    ("t" ∷ "u" ∷ "a" ∷ "t" ∷ "u" ∷ "a" ∷ []) 6
unfolding computes
under_inner = refl

-- a header again goes on with its table: `[t]⏎a = 1⏎[u]⏎[t]⏎b = 2`
pub header_goes_on :
    reads "[t]\na = 1\n[u]\n[t]\nb = 2"
    ≡ leaves ("t" ≔ table ("a" ≔ number 1 ⨾ "b" ≔ number 2 ⨾ empty) ⨾ "u" ≔ table empty ⨾ empty)
    ("t" ∷ "a" ∷ "u" ∷ "t" ∷ "b" ∷ []) 4
unfolding computes
header_goes_on = refl

-- corner 29: a key under a header never touches the header's path: `[a]⏎a = 1⏎b = 2`
pub own_path : reads "[a]\na = 1\nb = 2" ≡ leaves ("a" ≔ table ("a" ≔ number 1 ⨾ "b" ≔ number 2 ⨾ empty) ⨾ empty)
    ("a" ∷ "a" ∷ "b" ∷ []) 3
unfolding computes
own_path = refl

-- corner 71: a header repeated counts nothing and is stored again: `[a]⏎[a]`
pub header_repeated : reads "[a]\n[a]" ≡ leaves ("a" ≔ table empty ⨾ empty) ("a" ∷ "a" ∷ []) 1
unfolding computes
header_repeated = refl

-- ---- replacing

-- corner 26: the replacing table counts: `a = 1⏎a.b = 2`
pub parent_replaces : reads "a = 1\na.b = 2" ≡ leaves ("a" ≔ table ("b" ≔ number 2 ⨾ empty) ⨾ empty)
    ("a" ∷ "a" ∷ "b" ∷ []) 3
unfolding computes
parent_replaces = refl

-- corners 26 and 28: `[[a]]⏎[[a.b]]` replaces the array by a table: 2, 1 and 2 values
pub push_replaces : reads "[[a]]\n[[a.b]]" ≡ leaves ("a" ≔ table ("b" ≔ array (empty ⊕ none') ⨾ empty) ⨾ empty)
    ("a" ∷ "a" ∷ "b" ∷ []) 5
unfolding computes
push_replaces = refl

-- corner 28: `[[a]]⏎x = 1⏎[a.b]` too, and what was in it is gone
pub header_replaces : reads "[[a]]\nx = 1\n[a.b]"
    ≡ leaves ("a" ≔ table ("b" ≔ table empty ⨾ empty) ⨾ empty) ("a" ∷ "x" ∷ "a" ∷ "b" ∷ []) 5
unfolding computes
header_replaces = refl

-- a header replaces a string, an integer, a boolean and an array: `a = "s"⏎[a]` and so on
pub over_string : reads "a = \"s\"\n[a]" ≡ leaves ("a" ≔ table empty ⨾ empty) ("s" ∷ "a" ∷ "a" ∷ []) 2
unfolding computes
over_string = refl

pub over_integer : reads "a = 1\n[a.b]" ≡ leaves ("a" ≔ table ("b" ≔ table empty ⨾ empty) ⨾ empty)
    ("a" ∷ "a" ∷ "b" ∷ []) 3
unfolding computes
over_integer = refl

pub over_boolean : reads "a = true\n[a]" ≡ leaves ("a" ≔ table empty ⨾ empty) ("a" ∷ "a" ∷ []) 2
unfolding computes
over_boolean = refl

pub over_array : reads "a = [1]\n[a]" ≡ leaves ("a" ≔ table empty ⨾ empty) ("a" ∷ "a" ∷ []) 3
unfolding computes
over_array = refl

-- a replaced entry keeps its turn: `a = 1⏎b = 2⏎[a]`
pub replaced_in_turn : reads "a = 1\nb = 2\n[a]"
    ≡ leaves ("a" ≔ table empty ⨾ "b" ≔ number 2 ⨾ empty) ("a" ∷ "b" ∷ "a" ∷ []) 3
unfolding computes
replaced_in_turn = refl

-- a repeated key overwrites, and the count grows: `a = 1⏎b = 2⏎a = 3`
pub repeated_key : reads "a = 1\nb = 2\na = 3"
    ≡ leaves ("a" ≔ number 3 ⨾ "b" ≔ number 2 ⨾ empty) ("a" ∷ "b" ∷ "a" ∷ []) 3
unfolding computes
repeated_key = refl

-- also by another kind: `a = ["x", 1]⏎a = "y"`
pub repeated_kind : reads "a = [\"x\", 1]\na = \"y\"" ≡ leaves ("a" ≔ word "y" ⨾ empty) ("x" ∷ "a" ∷ "y" ∷ "a" ∷ []) 4
unfolding computes
repeated_kind = refl

-- also a table: `[t]⏎a.b = 1⏎a = 2`
pub table_overwritten : reads "[t]\na.b = 1\na = 2"
    ≡ leaves ("t" ≔ table ("a" ≔ number 2 ⨾ empty) ⨾ empty) ("t" ∷ "a" ∷ "b" ∷ "a" ∷ []) 4
unfolding computes
table_overwritten = refl

-- ---- `[[..]]`

-- corner 27: onto `a = [1]` it adds a table, one value, and assignments go there: `a = [1]⏎[[a]]⏎b = 2`
pub push_inline : reads "a = [1]\n[[a]]\nb = 2"
    ≡ leaves ("a" ≔ array (item (number 1) (("b" ≔ number 2 ⨾ empty) ⊕ none')) ⨾ empty) ("a" ∷ "a" ∷ "b" ∷ []) 4
unfolding computes
push_inline = refl

-- corner 27: onto `a = []` too
pub push_inline_empty : reads "a = []\n[[a]]" ≡ leaves ("a" ≔ array (empty ⊕ none') ⨾ empty) ("a" ∷ "a" ∷ []) 2
unfolding computes
push_inline_empty = refl

-- corner 27: over an integer, a string, a boolean and a table it is 13 at its line
pub push_over_integer : reads "a = 1\n\n[[a]]" ≡ at_line 13 3
unfolding computes
push_over_integer = refl

pub push_over_string : reads "a = \"s\"\n[[a]]" ≡ at_line 13 2
unfolding computes
push_over_string = refl

pub push_over_boolean : reads "a = true\n[[a]]" ≡ at_line 13 2
unfolding computes
push_over_boolean = refl

pub push_over_table : reads "[a]\n[[a]]" ≡ at_line 13 2
unfolding computes
push_over_table = refl

-- after P8's table as well: `[[a]]⏎[a]⏎[[a]]`
pub push_over_replaced : reads "[[a]]\n[a]\n[[a]]" ≡ at_line 13 3
unfolding computes
push_over_replaced = refl

-- its parents replace: `a = 1⏎[[a.b]]`
pub push_parents : reads "a = 1\n[[a.b]]" ≡ leaves ("a" ≔ table ("b" ≔ array (empty ⊕ none') ⨾ empty) ⨾ empty)
    ("a" ∷ "a" ∷ "b" ∷ []) 4
unfolding computes
push_parents = refl

-- 7 in its segments before 13: `a = 1⏎[[a.]]`
pub push_segments_first : reads "a = 1\n[[a.]]" ≡ at_line 7 2
unfolding computes
push_segments_first = refl

-- ---- the store

-- corner 31: the value's string, then the key's segments: `"a"."b" = "x"`
pub store_value_first : reads "\"a\".\"b\" = \"x\""
    ≡ leaves ("a" ≔ table ("b" ≔ word "x" ⨾ empty) ⨾ empty) ("x" ∷ "a" ∷ "b" ∷ []) 2
unfolding computes
store_value_first = refl

-- corner 31: strings in reading order: `a = ["x", ["y"], "z"]`
pub store_in_order :
    reads "a = [\"x\", [\"y\"], \"z\"]"
    ≡ leaves ("a" ≔ array (item (word "x") (item (array (item (word "y") none')) (item (word "z") none'))) ⨾ empty)
    ("x" ∷ "y" ∷ "z" ∷ "a" ∷ []) 5
unfolding computes
store_in_order = refl

-- corner 31: headers add their segments each time, and what is replaced stays: `[a.b]⏎[a]⏎b = "x"`
pub store_each_time : reads "[a.b]\n[a]\nb = \"x\""
    ≡ leaves ("a" ≔ table ("b" ≔ word "x" ⨾ empty) ⨾ empty) ("a" ∷ "b" ∷ "a" ∷ "x" ∷ "b" ∷ []) 3
unfolding computes
store_each_time = refl

-- escapes are decoded in values and keys: `"k\t" = "a\"b\\\n"`
pub store_decoded : reads "\"k\\t\" = \"a\\\"b\\\\\\n\""
    ≡ leaves ("k\t" ≔ word "a\"b\\\n" ⨾ empty) ("a\"b\\\n" ∷ "k\t" ∷ []) 1
unfolding computes
store_decoded = refl

-- an empty string adds no bytes and is a value: `a = ""`
pub store_empty : reads "a = \"\"" ≡ leaves ("a" ≔ word "" ⨾ empty) ("a" ∷ []) 1
unfolding computes
store_empty = refl

-- ---- corner 29: the errors met by no text, each an answer of its own where the tree is not as a text leaves it

-- where assignments go
abbrev sought : Under → Table → Grown Table
sought u t = under_header u grown t 0

abbrev a_only : List (List ℕ)
a_only = ascii "a" ∷ []

-- "unknown table"
pub unknown_table : sought (tables a_only) empty ≡ stuck (unmet unknown)
unfolding computes
unknown_table = refl

-- "unknown array table"
pub unknown_array : sought (arrays a_only) empty ≡ stuck (unmet unknown)
unfolding computes
unknown_array = refl

-- "is not a table"
pub not_a_table : sought (tables a_only) ("a" ≔ number 1 ⨾ empty) ≡ stuck (unmet not_table)
unfolding computes
not_a_table = refl

-- "is not an array of tables"
pub not_an_array : sought (arrays a_only) ("a" ≔ number 1 ⨾ empty) ≡ stuck (unmet not_array)
unfolding computes
not_an_array = refl

-- "empty array path"
pub empty_path : sought (arrays []) empty ≡ stuck (unmet pathless)
unfolding computes
empty_path = refl

-- "has no elements"
pub no_elements : sought (arrays a_only) ("a" ≔ array none' ⨾ empty) ≡ stuck (unmet hollow)
unfolding computes
no_elements = refl

-- its last element is no table
pub last_not_a_table : sought (arrays a_only) ("a" ≔ array (empty ⊕ item (number 1) none') ⨾ empty)
    ≡ stuck (unmet not_last)
unfolding computes
last_not_a_table = refl
