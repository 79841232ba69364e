-- The rows of UTF-8's ABNF over single bytes, 0 standing past the end: no row but the first has a byte 0.
use Rattle.std.specs.Prelude.{ℕ, Bool, true, false}
use Rattle.meaning.specs.Base.{pick, between}

-- a row of two bytes: the first from low to high, then a tail
unfoldable pub row2 : ℕ → ℕ → ℕ → ℕ → Bool
row2 low high b c = pick (between low high b) (between 0x80 0xbf c) false

-- of three: the second from low₂ to high₂, then a tail
unfoldable pub row3 : ℕ → ℕ → ℕ → ℕ → ℕ → ℕ → ℕ → Bool
row3 low high low₂ high₂ b c d = pick (between low high b) (pick (between low₂ high₂ c) (between 0x80 0xbf d) false) false

-- of four: two tails
unfoldable pub row4 : ℕ → ℕ → ℕ → ℕ → ℕ → ℕ → ℕ → ℕ → Bool
row4 low high low₂ high₂ b c d e = pick (row3 low high low₂ high₂ b c d) (between 0x80 0xbf e) false

-- "UTF8-3" and "UTF8-4"
unfoldable pub three : ℕ → ℕ → ℕ → Bool
three b c d =
    pick (row3 0xe0 0xe0 0xa0 0xbf b c d) true
    (pick (row3 0xe1 0xec 0x80 0xbf b c d) true (pick (row3 0xed 0xed 0x80 0x9f b c d) true (row3 0xee 0xef 0x80 0xbf b c d)))

unfoldable pub four : ℕ → ℕ → ℕ → ℕ → Bool
four b c d e =
    pick (row4 0xf0 0xf0 0x90 0xbf b c d e) true
    (pick (row4 0xf1 0xf3 0x80 0xbf b c d e) true (row4 0xf4 0xf4 0x80 0x8f b c d e))
