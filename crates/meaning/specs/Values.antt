-- "A value is a string, an array, `true`, `false` or an integer." Refusals 8 to 12, 14, 16.
use Rattle.std.specs.Prelude.{ℕ, zero, suc, ◌-◌, Bool, true, false, List, [], ◌∷◌, eqb, length, get_or, take, drop}
use Rattle.meaning.specs.Base.{pick, ascii, same, final, split}
use Rattle.meaning.specs.Bytes.{quote_mark, comma, open_bracket, close_bracket}
use Rattle.meaning.specs.Refusal.{R, ok, bad, ok_then, numbered}
use Rattle.meaning.specs.Space.{blank, trim}
use Rattle.meaning.specs.Quote.{Scan, fresh, step, equals_outside}
use Rattle.meaning.specs.declared.StringByte.TheVariants.{Plain}
use Rattle.meaning.specs.Strings.{decode, if_ended}
use Rattle.meaning.specs.Integers.{integer}
use Rattle.meaning.specs.Reading.{Got, got, failed, storing, got_then, got_map, ok_then_got, grow_then_got, make}
use Rattle.meaning.specs.Tree.{Value, Items, str, int, boolean, array, none', item}

-- ---- "a string", `true`, `false` or "an integer"

-- the string that stands after an opening quote; 10: "text after a string"
unfoldable pub string_of : List ℕ → R (List ℕ)
string_of s =
    if_ended (decode Plain s).how
    (pick (blank (drop (decode Plain s).span s)) (ok (decode Plain s).bytes) (bad 10))

-- `true`, `false` or an integer
unfoldable pub plain : List ℕ → R Value
plain s =
    pick (same s (ascii "true")) (ok (boolean true))
    (pick (same s (ascii "false")) (ok (boolean false))
    (ok_then (integer s) (λ i. ok (int i))))

-- ---- "An array's items are values again"

-- "Items split at commas outside strings where the bracket count is zero"
unfoldable pub separates? : Scan → ℕ → Bool
separates? c b = pick (equals_outside comma c.state b) (eqb c.opens c.closes) false

-- "blank items are dropped"
abbrev pub nonblank : List (List ℕ) → List (List ℕ)
nonblank [] = []
nonblank (l ∷ ls) = pick (blank l) (nonblank ls) (l ∷ nonblank ls)

-- the items between an array's brackets
unfoldable pub items_of : List ℕ → List (List ℕ)
items_of s = nonblank (split fresh step separates? fresh s)

-- ---- values made

-- a reader of values: from the values made before
abbrev pub Reader : Type 0 → Type 0
Reader X = ℕ → Got X

-- one item after the other
abbrev pub each : (List ℕ → Reader Value) → List (List ℕ) → Reader Items
each read [] made = got none' [] made
each read (l ∷ ls) made = got_then (read l made) (λ v m. got_map (item v) (each read ls m))

module _ (limit : ℕ) where
  -- "A value made: each string .. once read"; what stands after its opening quote
  unfoldable pub a_string : List ℕ → Reader Value
  a_string s made = ok_then_got (string_of s) (λ d. storing d (make limit (str d) made))

  -- "A value made: each .. integer and boolean once read"
  unfoldable pub a_plain : List ℕ → Reader Value
  a_plain s made = ok_then_got (plain s) (λ v. storing [] (make limit v made))

  -- a trimmed value: a string after `"`, an array after `[`, or neither
  unfoldable pub one : (List ℕ → Reader Value) → List ℕ → Reader Value
  one readArray s made =
      pick (eqb (get_or s 0 0) quote_mark) (a_string (drop 1 s) made)
      (pick (eqb (get_or s 0 0) open_bracket) (readArray (drop 1 s) made)
      (a_plain s made))

  -- "A value made: .. each array after its closing bracket is confirmed, before its items"; 11: "array not ended by
  -- `]`"
  unfoldable pub an_array : (List ℕ → Reader Value) → List ℕ → Reader Value
  an_array readItem s made =
      pick (eqb (final s) close_bracket)
      (grow_then_got (make limit none' made) (λ _ m. got_map array (each readItem (items_of (take (length s - 1) s)) m)))
      (failed (numbered 11))

  -- an array after its `[`, where depth arrays may still stand inside one another; 14: "17th nested array". "14 comes
  -- before 11"
  abbrev pub brackets : ℕ → List ℕ → Reader Value
  brackets zero s made = failed (numbered 14)
  brackets (suc depth) s made = an_array (λ l. one (brackets depth) (trim l)) s made

  -- "A value is a string, an array, `true`, `false` or an integer."
  unfoldable pub value : ℕ → List ℕ → Reader Value
  value depth s made = one (brackets depth) (trim s) made

unfoldable pub computes : Unit {0}
unfolding string_of plain separates? items_of a_string a_plain one an_array value
    Rattle.meaning.specs.Space.computes
    Rattle.meaning.specs.Quote.computes
    Rattle.meaning.specs.Strings.computes
    Rattle.meaning.specs.Integers.computes
    Rattle.meaning.specs.Reading.computes
computes = tt
