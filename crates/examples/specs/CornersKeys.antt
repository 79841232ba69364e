-- Corners of 01 on keys, by computation.
use Rattle.std.specs.Prelude.{[], ◌∷◌, ◌≡◌, refl}
use Rattle.meaning.specs.Base.{ascii}
use Rattle.meaning.specs.Refusal.{ok, bad}
use Rattle.meaning.specs.Keys.{keys, computes}

-- splitting at dots goes first: the second segment of `a"."b` is `"b`
pub quoted_dot : keys 16 (ascii "a\".\"b") ≡ bad 9
unfolding computes
quoted_dot = refl

-- `"a\".b"` is 9, since its first segment is `"a\"`
pub escaped_quote_dot : keys 16 (ascii "\"a\\\".b\"") ≡ bad 9
unfolding computes
escaped_quote_dot = refl

-- `"a\.b"` is 9, not 8: the backslash is last
pub backslash_dot : keys 16 (ascii "\"a\\.b\"") ≡ bad 9
unfolding computes
backslash_dot = refl

-- `"a" . b` is fine
pub spaced_dot : keys 16 (ascii "\"a\" . b") ≡ ok (ascii "a" ∷ ascii "b" ∷ [])
unfolding computes
spaced_dot = refl

-- "`"a"b"c"` is `a`"
pub first_string : keys 16 (ascii "\"a\"b\"c\"") ≡ ok (ascii "a" ∷ [])
unfolding computes
first_string = refl

-- `"a"b` does not end in a quote
pub no_end_quote : keys 16 (ascii "\"a\"b") ≡ bad 7
unfolding computes
no_end_quote = refl

-- `"\q"b`: "8 or 9, then the end quote"
pub escape_first : keys 16 (ascii "\"\\q\"b") ≡ bad 8
unfolding computes
escape_first = refl

-- `""` is empty
pub empty_string : keys 16 (ascii "\"\"") ≡ bad 7
unfolding computes
empty_string = refl

-- `" "` and `"\n"` are keys: what is decoded is neither trimmed nor tested for blanks
pub blank_string : keys 16 (ascii "\" \"") ≡ ok (ascii " " ∷ [])
unfolding computes
blank_string = refl

pub lf_string : keys 16 (ascii "\"\\n\"") ≡ ok ((10 ∷ []) ∷ [])
unfolding computes
lf_string = refl

-- `"a" ".b"` has the segments `a` and `b"`
pub stray_quote : keys 16 (ascii "\"a\" \".b\"") ≡ ok (ascii "a" ∷ ascii "b\"" ∷ [])
unfolding computes
stray_quote = refl

-- an empty segment is told before one too many, from left to right
pub left_first : keys 16 (ascii "a.b..c.d.e.f.g.h.i.j.k.l.m.n.o.p.q") ≡ bad 7
unfolding computes
left_first = refl

-- "The 17th segment is refused unread", here an empty one
pub unread : keys 16 (ascii "a.b.c.d.e.f.g.h.i.j.k.l.m.n.o.p.") ≡ bad 15
unfolding computes
unread = refl
