-- CORNERS.md, values: what each corner comes to, by computation.
use Rattle.std.specs.Prelude.{ℕ, zero, suc, List, [], ◌∷◌, ◌++◌, ◌≡◌, refl, pos, negsuc, replicate}
use Rattle.std.proofs.Common.{ap}
use Rattle.meaning.specs.Base.{ascii}
use Rattle.meaning.specs.Limits.{of01}
use Rattle.meaning.specs.Refusal.{ok, bad, numbered}
use Rattle.meaning.specs.Integers.{integer, value, clean, computes}
use Rattle.meaning.specs.Reading.{Got, got, failed}
use Rattle.meaning.specs.Tree.{Value, array, none', item}
use Rattle.meaning.specs.Values as valued

-- ---- 22, integers

-- `0x-5`: the sign stands after `0x`
pub int_hex_minus : integer (ascii "0x-5") ≡ ok (negsuc 4)
unfolding computes
int_hex_minus = refl

-- `0x+5`: a plus too
pub int_hex_plus : integer (ascii "0x+5") ≡ ok (pos 5)
unfolding computes
int_hex_plus = refl

-- `+5`: a plus is a sign
pub int_plus : integer (ascii "+5") ≡ ok (pos 5)
unfolding computes
int_plus = refl

-- `-0`: there is one zero
pub int_minus_zero : integer (ascii "-0") ≡ ok (pos 0)
unfolding computes
int_minus_zero = refl

-- `0__x1_0`: underscores go, between 0 and x as well
pub int_loose : integer (ascii "0__x1_0") ≡ ok (pos 16)
unfolding computes
int_loose = refl

-- `_-_5`: underscores go before and after the sign
pub int_before_sign : integer (ascii "_-_5") ≡ ok (negsuc 4)
unfolding computes
int_before_sign = refl

-- `0XfF`: `0X`, and digits of both cases
pub int_upper : integer (ascii "0XfF") ≡ ok (pos 255)
unfolding computes
int_upper = refl

-- `0000000000000000000000000000000000000001`: leading zeros are no overflow
pub int_forty_zeros : integer (ascii "0000000000000000000000000000000000000001") ≡ ok (pos 1)
unfolding computes
int_forty_zeros = refl

-- `0x-8000000000000000`: the least integer, base 16
pub int_least_hex : integer (ascii "0x-8000000000000000") ≡ ok (negsuc 9223372036854775807)
unfolding computes
int_least_hex = refl

-- `-9223372036854775808`: the least integer
pub int_least : integer (ascii "-9223372036854775808") ≡ ok (negsuc 9223372036854775807)
unfolding computes
int_least = refl

-- `9223372036854775807`: the largest integer
pub int_most_read : integer (ascii "9223372036854775807") ≡ ok (pos 9223372036854775807)
unfolding computes
int_most_read = refl

-- `-9223372036854775809`: one below the least
pub int_below_least : integer (ascii "-9223372036854775809") ≡ bad 12
unfolding computes
int_below_least = refl

-- `9223372036854775808`: one above the largest
pub int_above_most : integer (ascii "9223372036854775808") ≡ bad 12
unfolding computes
int_above_most = refl

-- empty text: no digit
pub int_empty : integer (ascii "") ≡ bad 12
unfolding computes
int_empty = refl

-- `_`: no digit is left
pub int_underscore : integer (ascii "_") ≡ bad 12
unfolding computes
int_underscore = refl

-- `0x`: no digit after `0x`
pub int_hex_alone : integer (ascii "0x") ≡ bad 12
unfolding computes
int_hex_alone = refl

-- `-`: no digit after a sign
pub int_minus_alone : integer (ascii "-") ≡ bad 12
unfolding computes
int_minus_alone = refl

-- `0x-`: nor after both
pub int_hex_minus_alone : integer (ascii "0x-") ≡ bad 12
unfolding computes
int_hex_minus_alone = refl

-- `+-5`: one sign at most
pub int_two_signs : integer (ascii "+-5") ≡ bad 12
unfolding computes
int_two_signs = refl

-- `- 5`: no space inside
pub int_inner_space : integer (ascii "- 5") ≡ bad 12
unfolding computes
int_inner_space = refl

-- `-0x5`: the sign before `0x` is no integer
pub int_minus_hex : integer (ascii "-0x5") ≡ bad 12
unfolding computes
int_minus_hex = refl

-- `0b1`: no base 2
pub int_binary : integer (ascii "0b1") ≡ bad 12
unfolding computes
int_binary = refl

-- `1.5`: no fractions
pub int_dotted : integer (ascii "1.5") ≡ bad 12
unfolding computes
int_dotted = refl

-- `ff`: letters are digits of base 16 alone
pub int_no_prefix : integer (ascii "ff") ≡ bad 12
unfolding computes
int_no_prefix = refl

-- zeros and a 1
abbrev one : ℕ → List ℕ
one n = replicate n 48 ++ (49 ∷ [])

clean_one : (n : ℕ) → clean (one n) ≡ one n
clean_one zero = refl
clean_one (suc n) = ap (λ (s : List ℕ). 48 ∷ s) (clean_one n)

value_one : (n : ℕ) → value 10 0 (one n) ≡ ok 1
unfolding computes
value_one zero = refl
value_one (suc n) = value_one n

-- `00..01` with zeros of any number: the value decides, not the number of digits
pub int_zeros : (n : ℕ) → integer (one n) ≡ ok (pos 1)
unfolding computes
int_zeros zero = refl
int_zeros (suc zero) = refl
int_zeros (suc (suc n)) = rw (clean_one n, value_one n)

-- ---- 20, brackets and commas

-- a value by 01's limits, the first that is made
abbrev reads : List ℕ → Got Value
reads s = valued.value of01.values of01.arrays s 0

-- refused by a number
abbrev refuses : ℕ → Got Value
refuses n = failed (numbered n)

-- an array of nothing, the only value made
abbrev nothing : Got Value
nothing = got (array none') [] 1

-- `[1] [2]`: one item, `1] [2`
pub two_arrays : reads (ascii "[1] [2]") ≡ refuses 12
unfolding valued.computes
two_arrays = refl

-- `["x"], ["y"]`: a comma where the bracket count is -1 does not split
pub comma_below_zero : reads (ascii "[\"x\"], [\"y\"]") ≡ refuses 10
unfolding valued.computes
comma_below_zero = refl

-- `[1] 2`: it does not end in a bracket
pub array_and_more : reads (ascii "[1] 2") ≡ refuses 11
unfolding valued.computes
array_and_more = refl

-- `[] []`: one item, `] [`
pub two_empty_arrays : reads (ascii "[] []") ≡ refuses 12
unfolding valued.computes
two_empty_arrays = refl

-- `[[]`, as in `] = [[]`: the inner `[` alone
pub inner_bracket : reads (ascii "[[]") ≡ refuses 11
unfolding valued.computes
inner_bracket = refl

-- ---- 21, what is no value

-- three quotes: the empty string, and text after it
pub three_quotes : reads (ascii "\"\"\"x\"\"\"") ≡ refuses 10
unfolding valued.computes
three_quotes = refl

-- `'x'`: no string
pub single_quotes : reads (ascii "'x'") ≡ refuses 12
unfolding valued.computes
single_quotes = refl

-- `[ , ]`: both items are blank
pub blank_items : reads (ascii "[ , ]") ≡ nothing
unfolding valued.computes
blank_items = refl

-- `[` U+00A0 `]`: a blank item of wide white space
pub wide_blank_item : reads (91 ∷ 0xc2 ∷ 0xa0 ∷ 93 ∷ []) ≡ nothing
unfolding valued.computes
wide_blank_item = refl

-- `tr_ue`: underscores are dropped of integers alone
pub true_underscore : reads (ascii "tr_ue") ≡ refuses 12
unfolding valued.computes
true_underscore = refl

-- `TRUE`: small letters alone
pub true_capital : reads (ascii "TRUE") ≡ refuses 12
unfolding valued.computes
true_capital = refl

-- ---- 23, arrays inside one another

-- n arrays inside one another, and as many brackets of text
abbrev nested : ℕ → List ℕ
nested n = replicate n 91 ++ replicate n 93

-- an array that holds n others, each in the one before
abbrev within : ℕ → Value
within zero = array none'
within (suc n) = array (item (within n) none')

-- 16 are read
pub sixteen_arrays : reads (nested 16) ≡ got (within 15) [] 16
unfolding valued.computes
sixteen_arrays = refl

-- the 17th is 14
pub seventeen_arrays : reads (nested 17) ≡ refuses 14
unfolding valued.computes
seventeen_arrays = refl

-- ---- 24, the order at the limit

-- where all values are made
abbrev full : List ℕ → Got Value
full s = valued.value of01.values of01.arrays s of01.values

-- `x`: no integer, before 16
pub full_word : full (ascii "x") ≡ refuses 12
unfolding valued.computes
full_word = refl

-- `"x" y`: text after a string, before 16
pub full_after : full (ascii "\"x\" y") ≡ refuses 10
unfolding valued.computes
full_after = refl

-- `[1] 2`: no closing bracket, before 16
pub full_open : full (ascii "[1] 2") ≡ refuses 11
unfolding valued.computes
full_open = refl

-- `"\q"`: no escape, before 16
pub full_escape : full (ascii "\"\\q\"") ≡ refuses 8
unfolding valued.computes
full_escape = refl

-- `1`: the one above the limit
pub full_one : full (ascii "1") ≡ refuses 16
unfolding valued.computes
full_one = refl

-- `"x"`: a string too
pub full_string : full (ascii "\"x\"") ≡ refuses 16
unfolding valued.computes
full_string = refl

-- `[x]`: the array is made before its items are read
pub full_array : full (ascii "[x]") ≡ refuses 16
unfolding valued.computes
full_array = refl

-- 17 arrays inside one another: the outermost is above the limit
pub full_nested : full (nested 17) ≡ refuses 16
unfolding valued.computes
full_nested = refl
