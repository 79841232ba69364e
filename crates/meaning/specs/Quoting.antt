-- W-203: "printed in double quotes, with `\"`, `\\`, `\n`, `\t` and `\r` written as escapes and other bytes unchanged".
use Rattle.std.specs.Prelude.{ℕ, List, [], ◌∷◌, ◌++◌, eqb}
use Rattle.meaning.specs.Base.{pick}
use Rattle.meaning.specs.Bytes.{tab, line_feed, carriage_return, quote_mark, backslash, small_n, small_r, small_t}

-- what stands after the backslash of a byte that is "written as" an escape; 0 for "other bytes"
unfoldable pub letter_for : ℕ → ℕ
letter_for b =
    pick (eqb b quote_mark) quote_mark
    (pick (eqb b backslash) backslash
    (pick (eqb b line_feed) small_n
    (pick (eqb b tab) small_t
    (pick (eqb b carriage_return) small_r 0))))

-- a byte between the quotes
unfoldable pub escaped : ℕ → List ℕ
escaped b = pick (eqb (letter_for b) 0) (b ∷ []) (backslash ∷ letter_for b ∷ [])

-- a text between the quotes
abbrev pub inner : List ℕ → List ℕ
inner [] = []
inner (b ∷ s) = escaped b ++ inner s

-- "in double quotes"
unfoldable pub quoted : List ℕ → List ℕ
quoted s = quote_mark ∷ (inner s ++ (quote_mark ∷ []))

unfoldable pub computes : Unit {0}
unfolding letter_for escaped quoted
computes = tt
