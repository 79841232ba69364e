-- "Trimming takes Unicode White_Space at both ends": an operation on characters.
use Rattle.std.specs.Prelude.{ℕ, Bool, true, false, List, [], ◌∷◌, reverse}
use Rattle.meaning.specs.Base.{pick, nil?, between}
use Rattle.meaning.specs.Utf8.{Range, reach, only, Char, good, stray, chars, spelled}

-- "U+0009 to 000D, 0020, 0085, 00A0, 1680, 2000 to 200A, 2028, 2029, 202F, 205F, 3000"
abbrev pub spaces : List Range
spaces =
    reach 0x0009 0x000d
    ∷ only 0x0020
    ∷ only 0x0085
    ∷ only 0x00a0
    ∷ only 0x1680
    ∷ reach 0x2000 0x200a
    ∷ only 0x2028
    ∷ only 0x2029
    ∷ only 0x202f
    ∷ only 0x205f
    ∷ only 0x3000
    ∷ []

-- p lies in one of these ranges
abbrev pub inside : List Range → ℕ → Bool
inside [] p = false
inside (r ∷ rs) p = pick (between r.low r.high p) true (inside rs p)

-- a code point that has the property White_Space
unfoldable pub white : ℕ → Bool
white p = inside spaces p

abbrev pub white_char : Char → Bool
white_char (good s p) = white p
white_char (stray b) = false

-- without the white characters at the head
abbrev pub trim_head : List Char → List Char
trim_head [] = []
trim_head (c ∷ cs) = pick (white_char c) (trim_head cs) (c ∷ cs)

-- without the white characters at the end
abbrev pub trim_tail : List Char → List Char
trim_tail cs = reverse (trim_head (reverse cs))

-- without white space at the head, at the end, at both ends
unfoldable pub trim_start : List ℕ → List ℕ
trim_start s = spelled (trim_head (chars 0 s))

unfoldable pub trim_end : List ℕ → List ℕ
trim_end s = spelled (trim_tail (chars 0 s))

unfoldable pub trim : List ℕ → List ℕ
trim s = spelled (trim_tail (trim_head (chars 0 s)))

-- nothing but white space
unfoldable pub blank : List ℕ → Bool
blank s = nil? (trim_head (chars 0 s))

unfoldable pub computes : Unit {0}
unfolding white trim_start trim_end trim blank Rattle.meaning.specs.Utf8.computes
computes = tt
