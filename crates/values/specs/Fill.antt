-- Values into the two rooms, reader by reader, as `meaning`'s Values has them: a value hangs under the parent it is given (0: not yet).
use Rattle.std.specs.Prelude.{ℕ, zero, suc, ◌+◌, ◌-◌, ◌*◌, Bool, true, false, List, [], ◌∷◌, eqb, leb, length, get_or, take, drop}
use Rattle.meaning.specs.Base.{pick, ascii, same, final, split}
use Rattle.meaning.specs.Refusal.{R, ok, bad}
use Rattle.meaning.specs.Space.{blank, trim}
use Rattle.meaning.specs.Quote.{fresh, step}
use Rattle.meaning.specs.declared.StringByte.TheVariants.{Plain}
use Rattle.meaning.specs.Strings.{Ending, closed, escape, unended, decode}
use Rattle.meaning.specs.Integers.{signed}
use Rattle.meaning.specs.declared.Signed.{Signed}
use Rattle.meaning.specs.Values.{separates?}
use Rattle.tree.specs.declared.Slot.{Slot}
use Rattle.values.specs.Out.{Out, fine, wrong, and_then}

-- a value of a kind under a parent, without a key
abbrev pub valued : ℕ → ℕ → ℕ → Slot
valued parent kind bits = record { kind = kind; parent = parent; key = 0; len = 0; «data» = bits }

-- a string of n bytes from at on in the store
abbrev pub string_slot : ℕ → ℕ → ℕ → Slot
string_slot parent at n = valued parent 1 (at + 65536 * n)

-- an integer is kind 2 with its magnitude, or kind 6 with a minus
abbrev pub sign_kind : Bool → ℕ
sign_kind true = 6
sign_kind false = 2

abbrev pub int_slot : ℕ → Signed → Slot
int_slot parent x = valued parent (sign_kind x.neg) x.mag

abbrev pub truth : Bool → ℕ
truth true = 1
truth false = 0

abbrev pub bool_slot : ℕ → Bool → Slot
bool_slot parent b = valued parent 3 (truth b)

abbrev pub array_slot : ℕ → Slot
array_slot parent = valued parent 4 0

module _ (limit : ℕ) where
  -- "A value made"; 16: the one above the limit
  unfoldable pub makes : ℕ → Slot → Out
  makes made v = pick (leb limit made) (wrong 16 []) (fine [] (v ∷ []))

  -- the bytes of a string are laid before the text after it and the limit are looked at: 10, then 16
  abbrev pub string_by : ℕ → ℕ → ℕ → List ℕ → Ending → List ℕ → ℕ → Out
  string_by parent used made s closed bs k =
      pick (blank (drop k s)) (pick (leb limit made) (wrong 16 bs) (fine bs (string_slot parent used (length bs) ∷ []))) (wrong 10 bs)
  string_by parent used made s escape bs k = wrong 8 bs
  string_by parent used made s unended bs k = wrong 9 bs

  -- s is after the opening quote
  unfoldable pub string_out : ℕ → ℕ → ℕ → List ℕ → Out
  string_out parent used made s = string_by parent used made s (decode Plain s).how (decode Plain s).bytes (decode Plain s).span

  abbrev pub int_out : ℕ → ℕ → R Signed → Out
  int_out parent made (ok x) = makes made (int_slot parent x)
  int_out parent made (bad n) = wrong n []

  -- `true`, `false` or an integer
  unfoldable pub plain_out : ℕ → ℕ → List ℕ → Out
  plain_out parent made s =
      pick (same s (ascii "true")) (makes made (bool_slot parent true))
      (pick (same s (ascii "false")) (makes made (bool_slot parent false)) (int_out parent made (signed s)))

  -- one value without white space around it; brackets reads what follows a `[`
  unfoldable pub one_out : (ℕ → ℕ → ℕ → List ℕ → Out) → ℕ → ℕ → ℕ → List ℕ → Out
  one_out brackets parent used made s =
      pick (eqb (get_or s 0 0) 34) (string_out parent used made (drop 1 s))
      (pick (eqb (get_or s 0 0) 91) (brackets parent used made (drop 1 s)) (plain_out parent made s))

  -- the parts between separating commas, one after the other; "blank items are dropped"
  abbrev pub items_out : (ℕ → ℕ → List ℕ → Out) → ℕ → ℕ → List (List ℕ) → Out
  items_out v used made [] = fine [] []
  items_out v used made (l ∷ ls) =
      pick (blank l) (items_out v used made ls) (and_then used made (v used made l) (λ u m. items_out v u m ls))

  -- what follows a `[`: 11, 16, and the array's own value
  unfoldable pub open_out : ℕ → ℕ → List ℕ → Out
  open_out parent made s = pick (eqb (final s) 93) (makes made (array_slot parent)) (wrong 11 [])

  -- where depth arrays may still be inside one another: 14, then 11 and 16, then the items, which hang under the array
  unfoldable pub brackets_out : ℕ → ℕ → ℕ → ℕ → List ℕ → Out
  brackets_out zero parent used made s = wrong 14 []
  brackets_out (suc depth) parent used made s =
      and_then used made (open_out parent made s)
      (λ u m. items_out (λ v n l. one_out (brackets_out depth) (made + 2) v n (trim l)) u m (split fresh step separates? fresh (take (length s - 1) s)))

  unfoldable pub value_out : ℕ → ℕ → ℕ → ℕ → List ℕ → Out
  value_out depth parent used made s = one_out (brackets_out depth) parent used made (trim s)

  -- the items of a text, each a value under the parent
  unfoldable pub list_out : ℕ → ℕ → ℕ → ℕ → List ℕ → Out
  list_out depth parent used made s = items_out (λ u m l. value_out depth parent u m l) used made (split fresh step separates? fresh s)

unfoldable pub computes : Unit {0}
unfolding makes string_out plain_out one_out open_out brackets_out value_out list_out Rattle.meaning.specs.Values.computes
computes = tt
