-- UTF-8, from the ABNF of RFC 3629, section 4 (refusal 2, and the lent board name), and the characters of a byte
-- string.
use Rattle.std.specs.Prelude.{ℕ, zero, suc, ◌+◌, ◌-◌, ◌*◌, ◌%◌, Bool, true, false, List, [], ◌∷◌, ◌++◌, take}
use Rattle.meaning.specs.Base.{pick, between}

-- what the ABNF writes as `%x80-BF`: the bytes from a lowest to a highest
pub record Range : Type 0 where
  pub low : ℕ
  pub high : ℕ

abbrev pub reach : ℕ → ℕ → Range
reach low high = record { low = low; high = high }

abbrev pub only : ℕ → Range
only b = reach b b

-- "UTF8-tail = %x80-BF"
abbrev pub tail : Range
tail = reach 0x80 0xbf

-- s begins with a byte of each of these ranges, in this order
abbrev pub begins : List Range → List ℕ → Bool
begins [] s = true
begins (r ∷ rs) [] = false
begins (r ∷ rs) (b ∷ s) = pick (between r.low r.high b) (begins rs s) false

-- s begins as one of these rows says
abbrev pub one_of : List (List Range) → List ℕ → Bool
one_of [] s = false
one_of (r ∷ rs) s = pick (begins r s) true (one_of rs s)

-- "UTF8-1 = %x00-7F"
abbrev pub utf8_1 : List (List Range)
utf8_1 = (reach 0x00 0x7f ∷ []) ∷ []

-- "UTF8-2 = %xC2-DF UTF8-tail"
abbrev pub utf8_2 : List (List Range)
utf8_2 = (reach 0xc2 0xdf ∷ tail ∷ []) ∷ []

-- "UTF8-3 = %xE0 %xA0-BF UTF8-tail / %xE1-EC 2( UTF8-tail ) / %xED %x80-9F UTF8-tail / %xEE-EF 2( UTF8-tail )"
abbrev pub utf8_3 : List (List Range)
utf8_3 =
    (only 0xe0 ∷ reach 0xa0 0xbf ∷ tail ∷ [])
    ∷ (reach 0xe1 0xec ∷ tail ∷ tail ∷ [])
    ∷ (only 0xed ∷ reach 0x80 0x9f ∷ tail ∷ [])
    ∷ (reach 0xee 0xef ∷ tail ∷ tail ∷ [])
    ∷ []

-- "UTF8-4 = %xF0 %x90-BF 2( UTF8-tail ) / %xF1-F3 3( UTF8-tail ) / %xF4 %x80-8F 2( UTF8-tail )"
abbrev pub utf8_4 : List (List Range)
utf8_4 =
    (only 0xf0 ∷ reach 0x90 0xbf ∷ tail ∷ tail ∷ [])
    ∷ (reach 0xf1 0xf3 ∷ tail ∷ tail ∷ tail ∷ [])
    ∷ (only 0xf4 ∷ reach 0x80 0x8f ∷ tail ∷ tail ∷ [])
    ∷ []

-- "UTF8-char = UTF8-1 / UTF8-2 / UTF8-3 / UTF8-4": how many bytes the character at the head of s has, or 0
unfoldable pub char : List ℕ → ℕ
char s = pick (one_of utf8_1 s) 1 (pick (one_of utf8_2 s) 2 (pick (one_of utf8_3 s) 3 (pick (one_of utf8_4 s) 4 0)))

-- section 3: the bits that stand for x in "0xxxxxxx", "110xxxxx 10xxxxxx", "1110xxxx 10xxxxxx 10xxxxxx" and "11110xxx
-- 10xxxxxx 10xxxxxx 10xxxxxx"
abbrev pub point : List ℕ → ℕ
point [] = 0
point (b ∷ []) = b
point (b ∷ c ∷ []) = b % 32 * 64 + c % 64
point (b ∷ c ∷ d ∷ []) = b % 16 * 4096 + c % 64 * 64 + d % 64
point (b ∷ c ∷ d ∷ e ∷ s) = b % 8 * 262144 + c % 64 * 4096 + d % 64 * 64 + e % 64

-- a character: its bytes and its code point. A byte that begins no character stands alone and has none
pub data Char : Type 0 where
  good : List ℕ → ℕ → Char
  stray : ℕ → Char

-- the character at the head of b ∷ s, where n bytes make it
abbrev pub head_of : ℕ → ℕ → List ℕ → Char
head_of zero b s = stray b
head_of (suc n) b s = good (take (suc n) (b ∷ s)) (point (take (suc n) (b ∷ s)))

-- the characters of a byte string, of which k bytes are passed first
abbrev pub chars : ℕ → List ℕ → List Char
chars k [] = []
chars zero (b ∷ s) = head_of (char (b ∷ s)) b s ∷ chars (char (b ∷ s) - 1) s
chars (suc k) (b ∷ s) = chars k s

abbrev pub bytes_of : Char → List ℕ
bytes_of (good s p) = s
bytes_of (stray b) = b ∷ []

-- characters, as the bytes that they stand for
abbrev pub spelled : List Char → List ℕ
spelled [] = []
spelled (c ∷ cs) = bytes_of c ++ spelled cs

abbrev pub well_formed : List Char → Bool
well_formed [] = true
well_formed (good s p ∷ cs) = well_formed cs
well_formed (stray b ∷ cs) = false

-- "UTF8-octets = *( UTF8-char )": s is characters to its end
unfoldable pub valid : List ℕ → Bool
valid s = well_formed (chars 0 s)

unfoldable pub computes : Unit {0}
unfolding between char valid
computes = tt
