-- A string from after its opening quote on: the bytes that it says, and how many bytes of text it takes. Refusals 8, 9.
use Rattle.std.specs.Prelude.{ℕ, ◌+◌, List, [], ◌∷◌, ◌++◌, eqb}
use Rattle.meaning.specs.declared.Act.{Act}
use Rattle.meaning.specs.declared.Act.TheVariants.{End, Hold, Put, Fault}
use Rattle.meaning.specs.declared.StringByte.{StringByte}
use Rattle.meaning.specs.declared.StringByte.TheVariants.{Plain, AfterBackslash}
use Rattle.meaning.specs.Base.{pick}
use Rattle.meaning.specs.Bytes.{tab, line_feed, carriage_return, quote_mark, backslash, small_n, small_r, small_t}
use Rattle.meaning.specs.Refusal.{R, bad}

-- what a byte does. A quote ends the string; a backslash announces an escape; 8: "escape other than `\n \t \r \" \\`"
unfoldable pub act_of : StringByte → ℕ → Act
act_of Plain b = pick (eqb b quote_mark) End (pick (eqb b backslash) Hold (Put b))
act_of AfterBackslash b =
    pick (eqb b small_n) (Put line_feed)
    (pick (eqb b small_t) (Put tab)
    (pick (eqb b small_r) (Put carriage_return)
    (pick (eqb b quote_mark) (Put quote_mark)
    (pick (eqb b backslash) (Put backslash) Fault))))

-- a string ends by its closing quote; or in no escape (8); or not at all (9)
pub data Ending : Type 0 where
  closed escape unended : Ending

-- how it ends, the bytes it says until then, and how many bytes of text these take: with the closing quote; up to the
-- backslash for 8
pub record Said : Type 0 where
  pub how : Ending
  pub bytes : List ℕ
  pub span : ℕ

-- nothing more is said
abbrev pub ends_here : Ending → ℕ → Said
ends_here e k = record { how = e; bytes = []; span = k }

-- the bytes bs, which take k bytes of text, and then the others
abbrev pub says_first : List ℕ → ℕ → Said → Said
says_first bs k r = record { how = r.how; bytes = bs ++ r.bytes; span = k + r.span }

-- a backslash counts with the byte after it
abbrev pub held : StringByte → ℕ
held Plain = 0
held AfterBackslash = 1

-- by what a byte does, and what the rest says from there on
abbrev pub by_act : StringByte → Act → (StringByte → Said) → Said
by_act at End rest = ends_here closed (held at + 1)
by_act at Hold rest = says_first [] (held at) (rest AfterBackslash)
by_act at (Put c) rest = says_first (c ∷ []) (held at + 1) (rest Plain)
by_act at Fault rest = ends_here escape 0

-- what a string says; 9: "string not ended"
abbrev pub decode : StringByte → List ℕ → Said
decode at [] = ends_here unended 0
decode at (b ∷ s) = by_act at (act_of at b) (λ next. decode next s)

-- "8 or 9, then" what follows a string that is ended
abbrev pub if_ended : {X : Type 0} → Ending → R X → R X
if_ended closed r = r
if_ended escape r = bad 8
if_ended unended r = bad 9

unfoldable pub computes : Unit {0}
unfolding act_of
computes = tt
