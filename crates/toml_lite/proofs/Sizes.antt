-- The values that a text adds fit their bytes and have no key yet, and a value that is read adds one at least.
use Prim.Native.Nat.{ℕ, zero, suc, ◌+◌, ◌-◌, ◌*◌, ◌^◌, ◌≤◌, ◌<◌}
use mathlib.Core.Bool.{Bool, true, false}
use mathlib.Core.List.{List, [], ◌∷◌, ◌++◌}
use mathlib.Core.Path.{◌≡◌, ap}
use native.Mathlib.Omega.{arith}
use borrow.Author.Tests.{leb-false, ltb-false}
use lib.Dec.{eqb, leb, ltb}
use lib.ListN.{length, get_or, take, drop, length-take, length-drop}
use Rattle.meaning.specs.Base.{pick, ascii, same, final, split, nil?}
use Rattle.meaning.specs.Refusal.{R, ok, bad, ok_then}
use Rattle.meaning.specs.Space.{blank, trim}
use Rattle.meaning.specs.Quote.{fresh, step}
use Rattle.meaning.specs.declared.StringByte.TheVariants.{Plain}
use Rattle.meaning.specs.Strings.{Ending, closed, escape, unended, decode}
use Rattle.meaning.specs.Integers.{clean, most, within, magnitude, sign, body, signed}
use Rattle.meaning.specs.Integers as ints
use Rattle.meaning.specs.declared.Signed.{Signed}
use Rattle.meaning.specs.Values.{separates?}
use Rattle.laws.specs.Cases.{on, picked}
use Rattle.tree.specs.declared.Slot.{Slot}
use Rattle.tree.specs.Room.{Sized}
use Rattle.values.specs.Out.{Out, fine, wrong, join, and_then}
use Rattle.values.specs.Fill.{valued, array_slot, sign_kind, makes, string_by, string_out, int_out, plain_out, one_out, items_out, brackets_out, value_out}
use Rattle.meaning.specs.Tree.{Value, str, int, boolean, array, table}
use Rattle.meaning.specs.Values.{value}
use Rattle.values.specs.Layout.{size, length_seens, length_layout}
use Rattle.values.specs.Agree.{Reads, agreement, brackets_none, brackets_by}
use Rattle.values.specs.Bounds.{Bounded, total, trim_short, decode_short, split_short, value_bounded}
use Rattle.values.specs.Carries.{AllSized, AllWithin}

-- ---- integers
abbrev Low : R Signed → Type 0
Low (ok x) = x.mag < 256 ^ 8
Low (bad n) = Unit

most_low : (neg : Bool) → most neg < 256 ^ 8
unfolding most
most_low true = omega arith
most_low false = omega arith

count_low : (neg : Bool) (r : R ℕ) → Low (ok_then (ok_then r (λ n. pick (ltb (most neg) n) (bad 12) (ok n))) (λ n. ok (record { neg = neg; mag = n })))
count_low neg (ok n) = on (ltb (most neg) n) (λ e. rw e tt) (λ e. rw e (omega (arith, ltb-false (most neg) n e, most_low neg)))
count_low neg (bad n) = tt

magnitude_low : (neg : Bool) (base : ℕ) (s : List ℕ) → Low (magnitude neg base s)
unfolding magnitude within
magnitude_low neg base s = picked Low (nil? s) (λ _. tt) (λ _. count_low neg (ints.value base 0 s))

sign_low : (base : ℕ) (s : List ℕ) → Low (sign base s)
unfolding sign
sign_low base s =
    picked Low (eqb (get_or s 0 0) 45) (λ _. magnitude_low true base (drop 1 s))
    (λ _. picked Low (eqb (get_or s 0 0) 43) (λ _. magnitude_low false base (drop 1 s)) (λ _. magnitude_low false base s))

signed_low : (s : List ℕ) → Low (signed s)
unfolding signed body
signed_low s =
    picked Low (eqb (get_or (clean s) 0 0) 48)
    (λ _. picked Low (eqb (get_or (clean s) 1 0) 120) (λ _. sign_low 16 (drop 2 (clean s)))
    (λ _. picked Low (eqb (get_or (clean s) 1 0) 88) (λ _. sign_low 16 (drop 2 (clean s))) (λ _. sign_low 10 (clean s))))
    (λ _. sign_low 10 (clean s))

-- ---- the readers
pub record Bare (o : Out) : Type 0 where
  pub sized : AllSized o.slots
  pub within : AllWithin 0 o.slots

valued_sized : (parent kind bits : ℕ) → parent < 65536 → bits < 256 ^ 8 → Sized (valued parent kind bits)
valued_sized parent kind bits p b = record { parent = p; key = omega arith; len = omega arith; bits = b }

wrong_bare : (k : ℕ) (bs : List ℕ) → Bare (wrong k bs)
wrong_bare k bs = record { sized = tt; within = tt }

one_bare : (bs : List ℕ) (parent kind bits : ℕ) → parent < 65536 → bits < 256 ^ 8 → Bare (fine bs (valued parent kind bits ∷ []))
one_bare bs parent kind bits p b = record { sized = (valued_sized parent kind bits p b, tt); within = (omega arith, tt) }

all_sized : (vs ws : List Slot) → AllSized vs → AllSized ws → AllSized (vs ++ ws)
all_sized [] ws a b = b
all_sized (v ∷ vs) ws a b = (a.0, all_sized vs ws a.1 b)

all_within : (vs ws : List Slot) → AllWithin 0 vs → AllWithin 0 ws → AllWithin 0 (vs ++ ws)
all_within [] ws a b = b
all_within (v ∷ vs) ws a b = (a.0, all_within vs ws a.1 b)

join_bare : (o p : Out) → Bare o → Bare p → Bare (join o p)
join_bare o p a b = record { sized = all_sized o.slots p.slots a.sized b.sized; within = all_within o.slots p.slots a.within b.within }

module _ (limit : ℕ) (few : limit < 65000) where
  makes_bare : (made parent kind bits : ℕ) → parent < 65536 → bits < 256 ^ 8 → Bare (makes limit made (valued parent kind bits))
  unfolding makes
  makes_bare made parent kind bits p b = picked Bare (leb limit made) (λ _. wrong_bare 16 []) (λ _. one_bare [] parent kind bits p b)

  string_by_lem : (parent used made : ℕ) (s : List ℕ) (w : Ending) (bs : List ℕ) (k : ℕ) → parent < 65536 → used + length bs < 65536
      → Bare (string_by limit parent used made s w bs k)
  string_by_lem parent used made s closed bs k p l =
      picked Bare (blank (drop k s))
      (λ _. picked Bare (leb limit made) (λ _. wrong_bare 16 bs) (λ _. one_bare bs parent 1 (used + 65536 * length bs) p (omega arith)))
      (λ _. wrong_bare 10 bs)
  string_by_lem parent used made s escape bs k p l = wrong_bare 8 bs
  string_by_lem parent used made s unended bs k p l = wrong_bare 9 bs

  string_bare : (parent used made : ℕ) (s : List ℕ) → parent < 65536 → used + length s < 65536 → Bare (string_out limit parent used made s)
  unfolding string_out
  string_bare parent used made s p l =
      string_by_lem parent used made s (decode Plain s).how (decode Plain s).bytes (decode Plain s).span p (omega (arith, decode_short Plain s))

  int_bare : (parent made : ℕ) (r : R Signed) → parent < 65536 → Low r → Bare (int_out limit parent made r)
  int_bare parent made (ok x) p l = makes_bare made parent (sign_kind x.neg) x.mag p l
  int_bare parent made (bad n) p l = wrong_bare n []

  plain_bare : (parent made : ℕ) (s : List ℕ) → parent < 65536 → Bare (plain_out limit parent made s)
  unfolding plain_out
  plain_bare parent made s p =
      picked Bare (same s (ascii "true")) (λ _. makes_bare made parent 3 1 p (omega arith))
      (λ _. picked Bare (same s (ascii "false")) (λ _. makes_bare made parent 3 0 p (omega arith)) (λ _. int_bare parent made (signed s) p (signed_low s)))

  -- what a reader of arrays is to leave
  abbrev Leaves : (ℕ → ℕ → ℕ → List ℕ → Out) → Type 0
  Leaves bo = (parent used made : ℕ) (s : List ℕ) → parent < 65536 → used + length s < 65536 → made ≤ limit → Bare (bo parent used made s)

  single_bare : (bo : ℕ → ℕ → ℕ → List ℕ → Out) → Leaves bo → Leaves (one_out limit bo)
  unfolding one_out
  single_bare bo h parent used made s p l m =
      picked Bare (eqb (get_or s 0 0) 34) (λ _. string_bare parent used made (drop 1 s) p (omega (arith, length-drop 1 s)))
      (λ _. picked Bare (eqb (get_or s 0 0) 91) (λ _. h parent used made (drop 1 s) p (omega (arith, length-drop 1 s)) m) (λ _. plain_bare parent made s p))

  items_bare : (v : ℕ → ℕ → List ℕ → Out) → ((u m : ℕ) (l : List ℕ) → Bounded limit m (length l) (v u m l))
      → ((u m : ℕ) (l : List ℕ) → u + length l < 65536 → m ≤ limit → Bare (v u m l))
      → (ls : List (List ℕ)) (used made : ℕ) → used + total ls < 65536 → made ≤ limit → Bare (items_out limit v used made ls)
  items_bare v b h [] used made l m = wrong_bare 0 []
  items_bare v b h (x ∷ ls) used made l m =
      on (blank x)
      (λ e. rw e (items_bare v b h ls used made (omega arith) m))
      (λ e. rw e (then_bare (v used made x) (b used made x) (h used made x (omega arith) m) (λ u n i j. items_bare v b h ls u n i j)))
    where
      then_bare : (o : Out) → Bounded limit made (length x) o → Bare o
          → ((u n : ℕ) → u + total ls < 65536 → n ≤ limit → Bare (items_out limit v u n ls)) → Bare (and_then used made o (λ u n. items_out limit v u n ls))
      then_bare o c a k =
          picked Bare (eqb o.fault 0)
          (λ _. join_bare o (items_out limit v (used + length o.bytes) (made + length o.slots) ls) a
          (k (used + length o.bytes) (made + length o.slots) (omega (arith, c.short)) (c.most m)))
          (λ _. a)

  brackets_bare : (depth : ℕ) → Leaves (brackets_out limit depth)
  unfolding value_out
  brackets_bare zero parent used made s p l m = rw (brackets_none limit parent used made s) (wrong_bare 14 [])
  brackets_bare (suc depth) parent used made s p l m =
      let ls : List (List ℕ) = split fresh step separates? fresh (take (length s - 1) s) in
      let v : ℕ → ℕ → List ℕ → Out = λ u n x. one_out limit (brackets_out limit depth) (made + 2) u n (trim x) in
      let t : used + total ls < 65536 = omega (arith, split_short fresh step separates? fresh (take (length s - 1) s), length-take (length s - 1) s) in
      rw (brackets_by limit depth parent used made s)
      (picked Bare (eqb (final s) 93)
      (λ _. picked Bare (leb limit made) (λ _. wrong_bare 16 [])
      (λ e. join_bare (fine [] (array_slot parent ∷ [])) (items_out limit v used (made + 1) ls) (one_bare [] parent 4 0 p (omega arith))
      (items_bare v (λ u n x. value_bounded limit depth (made + 2) u n x)
      (λ u n x i j. single_bare (brackets_out limit depth) (λ q w k y. brackets_bare depth q w k y) (made + 2) u n (trim x) (omega (arith, leb-false limit made e)) (omega (arith, trim_short x)) j)
      ls used (made + 1) t (omega (arith, leb-false limit made e)))))
      (λ _. wrong_bare 11 []))

  pub value_bare : (depth parent used made : ℕ) (s : List ℕ) → parent < 65536 → used + length s < 65536 → made ≤ limit → Bare (value_out limit depth parent used made s)
  unfolding value_out
  value_bare depth parent used made s p l m =
      single_bare (brackets_out limit depth) (brackets_bare depth) parent used made (trim s) p (omega (arith, trim_short s)) m

-- ---- a value that is read is made
size_some : (v : Value) → 0 < size v
size_some (str s) = omega arith
size_some (int i) = omega arith
size_some (boolean b) = omega arith
size_some (array is) = omega arith
size_some (table t) = omega arith

pub value_adds : (limit depth parent used made : ℕ) (s : List ℕ) → (value_out limit depth parent used made s).fault ≡ 0 → 0 < length (value_out limit depth parent used made s).slots
value_adds limit depth parent used made s e =
    let o : Out = value_out limit depth parent used made s in
    let r : Reads parent used made (value limit depth s made) o = (agreement limit depth parent used made s).fine e in
    omega (arith, length_seens o.slots, ap length r.lays.slots, length_layout r.it parent used made, size_some r.it)
