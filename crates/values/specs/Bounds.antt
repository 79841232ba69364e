-- How much a text adds to the two rooms, refused or not: no more bytes than it has, and values up to the limit.
use Rattle.std.specs.Prelude.{ℕ, zero, suc, ◌+◌, ◌-◌, ◌≤◌, Bool, true, false, ◌≡◌, refl, eqb, leb, length, get_or, take, drop}
use mathlib.Core.List.{List, [], ◌∷◌}
use Rattle.std.proofs.Common.{ap, arith, le_refl, leb-false, length-append, length-take}
use Rattle.std.proofs.Math.ListN.{length-drop}
use Rattle.meaning.specs.Base.{ascii, same, final, on_first, split}
use Rattle.meaning.specs.Refusal.{R, ok, bad}
use Rattle.meaning.specs.Space.{blank, trim}
use Rattle.meaning.specs.Quote.{fresh, step}
use Rattle.meaning.specs.declared.StringByte.{StringByte}
use Rattle.meaning.specs.declared.StringByte.TheVariants.{Plain, AfterBackslash}
use Rattle.meaning.specs.Strings.{act_of, Ending, closed, escape, unended, Said, by_act, decode}
use Rattle.meaning.specs.declared.Act.{Act}
use Rattle.meaning.specs.declared.Act.TheVariants.{End, Hold, Put, Fault}
use Rattle.meaning.specs.Integers.{signed}
use Rattle.meaning.specs.declared.Signed.{Signed}
use Rattle.meaning.specs.Values.{separates?}
use Rattle.tree.specs.declared.Slot.{Slot}
use Rattle.laws.specs.Cases.{on, picked}
use Rattle.laws.specs.Trim.{on_bytes, forwards, backwards, white_at, white_end}
use Rattle.values.specs.Out.{Out, fine, wrong, join, and_then}
use Rattle.values.specs.Fill.{int_slot, bool_slot, array_slot, makes, string_by, string_out, int_out, plain_out, one_out, items_out, brackets_out, value_out}
use Rattle.values.specs.Agree.{brackets_none, brackets_by}

-- ---- lengths

forwards_short : (k : ℕ) (s : List ℕ) → length (forwards k s) ≤ length s
forwards_short zero s = le_refl (length s)
forwards_short (suc k) s =
    on (eqb (white_at s) 0) (λ e. rw e (le_refl (length s)))
    (λ e. rw e (omega (arith, forwards_short k (drop (white_at s) s), length-drop (white_at s) s)))

backwards_short : (k : ℕ) (s : List ℕ) → length (backwards k s) ≤ length s
backwards_short zero s = le_refl (length s)
backwards_short (suc k) s =
    on (eqb (white_end s) 0) (λ e. rw e (le_refl (length s)))
    (λ e. rw e (omega (arith, backwards_short k (take (length s - white_end s) s), length-take (length s - white_end s) s)))

-- trimming adds nothing
pub trim_short : (s : List ℕ) → length (trim s) ≤ length s
trim_short s =
    let f : List ℕ = forwards (length s) s in
    omega (arith, ap length (on_bytes s), backwards_short (length f) f, forwards_short (length s) s)

go_short : (st : StringByte) (a : Act) (f : StringByte → Said) (n : ℕ) → ((t : StringByte) → length (f t).bytes ≤ n) → length (by_act st a f).bytes ≤ suc n
go_short st End f n h = omega arith
go_short st Hold f n h = omega (arith, h AfterBackslash)
go_short st (Put c) f n h = omega (arith, h Plain)
go_short st Fault f n h = omega arith

-- a string says no more bytes than it has
pub decode_short : (st : StringByte) (s : List ℕ) → length (decode st s).bytes ≤ length s
decode_short st [] = omega arith
decode_short st (b ∷ s) = go_short st (act_of st b) (λ t. decode t s) (length s) (λ t. decode_short t s)

-- the bytes of all parts
abbrev pub total : List (List ℕ) → ℕ
total [] = 0
total (l ∷ ls) = length l + total ls

first_total : (b : ℕ) (ls : List (List ℕ)) → total (on_first b ls) ≡ suc (total ls)
first_total b [] = refl
first_total b (l ∷ ls) = omega arith

-- parts between separators are no longer than the whole
pub split_short : {S : Type 0} (start : S) (next : S → ℕ → S) (sep : S → ℕ → Bool) (st : S) (s : List ℕ) → total (split start next sep st s) ≤ length s
split_short start next sep st [] = omega arith
split_short start next sep st (b ∷ s) =
    on (sep st b)
    (λ e. rw e (omega (arith, split_short start next sep start s)))
    (λ e. rw e (omega (arith, first_total b (split start next sep (next st b) s), split_short start next sep (next st b) s)))

-- ---- the readers

-- o is what a text of n bytes adds where made values are made
pub record Bounded (limit made n : ℕ) (o : Out) : Type 0 where
  pub short : length o.bytes ≤ n
  pub most : made ≤ limit → made + length o.slots ≤ limit

module _ (limit : ℕ) where
  wrong_bounded : (made n k : ℕ) (bs : List ℕ) → length bs ≤ n → Bounded limit made n (wrong k bs)
  wrong_bounded made n k bs h = record { short = h; most = λ l. omega arith }

  -- one slot, within the limit
  slot_bounded : (made n : ℕ) (bs : List ℕ) (w : Slot) → length bs ≤ n → leb limit made ≡ false → Bounded limit made n (fine bs (w ∷ []))
  slot_bounded made n bs w h e = record { short = h; most = λ l. omega (arith, leb-false limit made e) }

  pub makes_bounded : (made n : ℕ) (w : Slot) → Bounded limit made n (makes limit made w)
  unfolding makes
  makes_bounded made n w =
      picked (Bounded limit made n) (leb limit made) (λ _. wrong_bounded made n 16 [] (omega arith)) (λ e. slot_bounded made n [] w (omega arith) e)

  string_by_lem : (parent used made : ℕ) (s : List ℕ) (w : Ending) (bs : List ℕ) (k : ℕ) → length bs ≤ length s
      → Bounded limit made (length s) (string_by limit parent used made s w bs k)
  string_by_lem parent used made s closed bs k h =
      picked (Bounded limit made (length s)) (blank (drop k s))
      (λ _. picked (Bounded limit made (length s)) (leb limit made) (λ _. wrong_bounded made (length s) 16 bs h) (λ e. slot_bounded made (length s) bs _ h e))
      (λ _. wrong_bounded made (length s) 10 bs h)
  string_by_lem parent used made s escape bs k h = wrong_bounded made (length s) 8 bs h
  string_by_lem parent used made s unended bs k h = wrong_bounded made (length s) 9 bs h

  pub string_bounded : (parent used made : ℕ) (s : List ℕ) → Bounded limit made (length s) (string_out limit parent used made s)
  unfolding string_out
  string_bounded parent used made s =
      string_by_lem parent used made s (decode Plain s).how (decode Plain s).bytes (decode Plain s).span (decode_short Plain s)

  int_bounded : (parent made n : ℕ) (r : R Signed) → Bounded limit made n (int_out limit parent made r)
  int_bounded parent made n (ok x) = makes_bounded made n (int_slot parent x)
  int_bounded parent made n (bad k) = wrong_bounded made n k [] (omega arith)

  pub plain_bounded : (parent made n : ℕ) (s : List ℕ) → Bounded limit made n (plain_out limit parent made s)
  unfolding plain_out
  plain_bounded parent made n s =
      picked (Bounded limit made n) (same s (ascii "true")) (λ _. makes_bounded made n (bool_slot parent true))
      (λ _. picked (Bounded limit made n) (same s (ascii "false")) (λ _. makes_bounded made n (bool_slot parent false)) (λ _. int_bounded parent made n (signed s)))

  pub one_bounded : (bo : ℕ → ℕ → ℕ → List ℕ → Out)
      → ((parent used made : ℕ) (s : List ℕ) → Bounded limit made (length s) (bo parent used made s))
      → (parent used made : ℕ) (s : List ℕ) → Bounded limit made (length s) (one_out limit bo parent used made s)
  unfolding one_out
  one_bounded bo h parent used made s =
      picked (Bounded limit made (length s)) (eqb (get_or s 0 0) 34) (λ _. wider (string_bounded parent used made (drop 1 s)))
      (λ _. picked (Bounded limit made (length s)) (eqb (get_or s 0 0) 91) (λ _. wider (h parent used made (drop 1 s))) (λ _. plain_bounded parent made (length s) s))
    where
      wider : {o : Out} → Bounded limit made (length (drop 1 s)) o → Bounded limit made (length s) o
      wider a = record { short = omega (arith, a.short, length-drop 1 s); most = a.most }

  then_bounded : (used made n k : ℕ) (o : Out) (f : ℕ → ℕ → Out) → Bounded limit made n o
      → ((u m : ℕ) → Bounded limit m k (f u m)) → Bounded limit made (n + k) (and_then used made o f)
  then_bounded used made n k o f a b =
      picked (Bounded limit made (n + k)) (eqb o.fault 0)
      (λ _. let p : Out = f (used + length o.bytes) (made + length o.slots) in
      let c : Bounded limit (made + length o.slots) k p = b (used + length o.bytes) (made + length o.slots) in
      record {
        short = omega (arith, length-append o.bytes p.bytes, a.short, c.short);
        most = λ l. omega (arith, length-append o.slots p.slots, c.most (a.most l));
      })
      (λ _. record { short = omega (arith, a.short); most = a.most })

  pub items_bounded : (v : ℕ → ℕ → List ℕ → Out) → ((u m : ℕ) (l : List ℕ) → Bounded limit m (length l) (v u m l))
      → (ls : List (List ℕ)) (used made : ℕ) → Bounded limit made (total ls) (items_out limit v used made ls)
  items_bounded v h [] used made = record { short = omega arith; most = λ l. omega arith }
  items_bounded v h (l ∷ ls) used made =
      on (blank l)
      (λ e. rw e (record { short = omega (arith, (items_bounded v h ls used made).short); most = (items_bounded v h ls used made).most }))
      (λ e. rw e (then_bounded used made (length l) (total ls) (v used made l) (λ u m. items_out limit v u m ls) (h used made l) (λ u m. items_bounded v h ls u m)))

  -- the same with white space around it
  trim_bounded : (bo : ℕ → ℕ → ℕ → List ℕ → Out)
      → ((parent used made : ℕ) (s : List ℕ) → Bounded limit made (length s) (bo parent used made s))
      → (parent used made : ℕ) (s : List ℕ) → Bounded limit made (length s) (one_out limit bo parent used made (trim s))
  trim_bounded bo h parent used made s =
      let a : Bounded limit made (length (trim s)) (one_out limit bo parent used made (trim s)) = one_bounded bo h parent used made (trim s) in
      record { short = omega (arith, a.short, trim_short s); most = a.most }

  -- an array, whose items p have n bytes at most
  array_bounded : (parent made n : ℕ) (p : Out) → leb limit made ≡ false → Bounded limit (made + 1) n p
      → Bounded limit made n (join (fine [] (array_slot parent ∷ [])) p)
  array_bounded parent made n p e a =
      record { short = a.short; most = λ l. omega (arith, a.most (omega (arith, leb-false limit made e))) }

  pub brackets_bounded : (depth parent used made : ℕ) (s : List ℕ) → Bounded limit made (length s) (brackets_out limit depth parent used made s)
  brackets_bounded zero parent used made s = rw (brackets_none limit parent used made s) (wrong_bounded made (length s) 14 [] (omega arith))
  brackets_bounded (suc depth) parent used made s =
      let ls : List (List ℕ) = split fresh step separates? fresh (take (length s - 1) s) in
      let v : ℕ → ℕ → List ℕ → Out = λ u m l. one_out limit (brackets_out limit depth) (made + 2) u m (trim l) in
      let a : Bounded limit (made + 1) (total ls) (items_out limit v used (made + 1) ls) =
      items_bounded v (λ u m l. trim_bounded (brackets_out limit depth) (λ q w n t. brackets_bounded depth q w n t) (made + 2) u m l) ls used (made + 1) in
      let b : Bounded limit (made + 1) (length s) (items_out limit v used (made + 1) ls) =
      record {
        short = omega (arith, a.short, split_short fresh step separates? fresh (take (length s - 1) s), length-take (length s - 1) s);
        most = a.most;
      } in
      rw (brackets_by limit depth parent used made s)
      (picked (Bounded limit made (length s)) (eqb (final s) 93)
      (λ _. picked (Bounded limit made (length s)) (leb limit made) (λ _. wrong_bounded made (length s) 16 [] (omega arith))
      (λ e. array_bounded parent made (length s) (items_out limit v used (made + 1) ls) e b))
      (λ _. wrong_bounded made (length s) 11 [] (omega arith)))

  -- for every text
  pub value_bounded : (depth parent used made : ℕ) (s : List ℕ) → Bounded limit made (length s) (value_out limit depth parent used made s)
  unfolding value_out
  value_bounded depth parent used made s = trim_bounded (brackets_out limit depth) (brackets_bounded depth) parent used made s
