-- The values of a line, as the readers lay them out, are what is asked of them.
use Rattle.std.specs.Prelude.{ℕ, zero, suc, ◌+◌, ◌-◌, ◌*◌, ◌<◌, List, [], ◌∷◌, ◌++◌, Bool, true, false, ◌≡◌, refl, eqb, ltb, ℤ, pos, negsuc, length, get_or, take, drop}
use Rattle.std.proofs.Common.{append-nil, append_assoc, sym, ap, subst, ◌∙◌, arith, length-append, get_or-append-add, eqb-true, ltb-true, ltb-false}
use Rattle.std.proofs.Math.ListN.{get_or-append}
use Rattle.std.proofs.Math.Seq.{take-append_seam, drop-append_seam}
use Rattle.meaning.specs.Integers.{number_of}
use Rattle.meaning.specs.Refusal.{numbered, unmet}
use Rattle.meaning.specs.Reading.{Got, got, failed}
use Rattle.meaning.specs.Tree.{Value, Items, str, int, boolean, array, table, none', item}
use Rattle.meaning.specs.Values.{value}
use Rattle.laws.specs.Cases.{on, never}
use Rattle.tree.specs.declared.Slot.{Slot}
use Rattle.values.specs.Out.{Out}
use Rattle.values.specs.Fill.{value_out, string_slot, bool_slot, array_slot}
use Rattle.values.specs.Grow.{void}
use Rattle.values.specs.Layout.{spelled, spelled_all, size, sizes, layout, layouts, whole_slot, Tableless, AllTableless, length_layout, seen, number_at, length_seens, seens_at, seen_same, seen_kept, seen_number, whole_number}
use Rattle.values.specs.Agree.{Lays, Meets, value_meets}
use Rattle.agree.specs.Meets.{Spells, Shows}
use Rattle.agree.specs.Block.{Laid, LaidAll}
use Rattle.agree.specs.Lines.{Value-laid, Value-agrees, Values-agree}
use Rattle.agree.specs.Layouts.{Stands}

first_stands : (bytes : List ℕ) (used : ℕ) (xs ys : List ℕ) → Stands bytes used (xs ++ ys) → Stands bytes used xs
first_stands bytes used xs ys h =
    record { before = h.before; after = ys ++ h.after; is = h.is ∙ ap (λ (z : List ℕ). h.before ++ z) (append_assoc xs ys h.after); from = h.from }

rest_stands : (bytes : List ℕ) (used : ℕ) (xs ys : List ℕ) → Stands bytes used (xs ++ ys) → Stands bytes (used + length xs) ys
rest_stands bytes used xs ys h =
    record {
      before = h.before ++ xs;
      after = h.after;
      is = h.is ∙ ap (λ (z : List ℕ). h.before ++ z) (append_assoc xs ys h.after) ∙ sym (append_assoc h.before xs (ys ++ h.after));
      from = length-append h.before xs ∙ ap (λ (z : ℕ). z + length xs) h.from;
    }

stands_spells : (bytes : List ℕ) (used : ℕ) (s : List ℕ) → Stands bytes used s → Spells bytes (used + 65536 * length s) s
stands_spells bytes used s h =
    record {
      from = used;
      is = refl;
      fits = omega (arith, ap length h.is, length-append h.before (s ++ h.after), length-append s h.after, h.from);
      spelt =
          let z : used + length s - used ≡ length s = omega arith in
          ap (λ (n : ℕ). take n (drop used bytes)) z
          ∙ ap (λ (b : List ℕ). take (length s) (drop used b)) h.is
          ∙ ap (λ (n : ℕ). take (length s) (drop n (h.before ++ (s ++ h.after)))) (sym h.from)
          ∙ ap (take (length s)) (drop-append_seam h.before (s ++ h.after))
          ∙ take-append_seam s h.after;
    }

-- ---- slots without keys, under their parent

size_some : (v : Value) → 0 < size v
size_some (str s) = omega arith
size_some (int i) = omega arith
size_some (boolean b) = omega arith
size_some (array is) = omega arith
size_some (table t) = omega arith

whole_parent : (parent : ℕ) (i : ℤ) → (whole_slot parent i).parent ≡ parent
whole_parent parent (pos n) = refl
whole_parent parent (negsuc n) = refl

whole_keyless : (parent : ℕ) (i : ℤ) → (whole_slot parent i).key + (whole_slot parent i).len ≡ 0
whole_keyless parent (pos n) = refl
whole_keyless parent (negsuc n) = refl

layout_parent : (v : Value) (parent used made : ℕ) → (get_or (layout parent used made v) 0 void).parent ≡ parent
layout_parent (str s) parent used made = refl
layout_parent (int i) parent used made = whole_parent parent i
layout_parent (boolean b) parent used made = refl
layout_parent (array is) parent used made = refl
layout_parent (table t) parent used made = refl

nothing_else : (v : Slot) → v.key + v.len ≡ 0 → (i : ℕ) → (get_or (v ∷ []) i void).key + (get_or (v ∷ []) i void).len ≡ 0
nothing_else v e zero = e
nothing_else v e (suc i) = refl

mutual
  layout_keyless : (v : Value) (parent used made i : ℕ) → (get_or (layout parent used made v) i void).key + (get_or (layout parent used made v) i void).len ≡ 0
  layout_keyless (str s) parent used made i = nothing_else (string_slot parent used (length s)) refl i
  layout_keyless (int n) parent used made i = nothing_else (whole_slot parent n) (whole_keyless parent n) i
  layout_keyless (boolean b) parent used made i = nothing_else (bool_slot parent b) refl i
  layout_keyless (array is) parent used made zero = refl
  layout_keyless (array is) parent used made (suc i) = layouts_keyless is (made + 2) used (made + 1) i
  layout_keyless (table t) parent used made zero = refl
  layout_keyless (table t) parent used made (suc i) = refl

  layouts_keyless : (is : Items) (parent used made i : ℕ) → (get_or (layouts parent used made is) i void).key + (get_or (layouts parent used made is) i void).len ≡ 0
  layouts_keyless none' parent used made i = refl
  layouts_keyless (item v is) parent used made i =
      let a : List Slot = layout parent used made v in
      let b : List Slot = layouts parent (used + length (spelled v)) (made + size v) is in
      on (ltb i (length a))
      (λ t. rw (get_or-append a b void i (ltb-true i (length a) t)) (layout_keyless v parent used made i))
      (λ t. let z : i ≡ length a + (i - length a) = omega (arith, ltb-false i (length a) t) in
      subst (λ (n : ℕ). (get_or (a ++ b) n void).key + (get_or (a ++ b) n void).len ≡ 0) (sym z)
      (rw (get_or-append-add a b (i - length a) void) (layouts_keyless is parent (used + length (spelled v)) (made + size v) (i - length a))))

-- ---- one slot

whole_kind : (parent : ℕ) (i : ℤ) → eqb (whole_slot parent i).kind 6 ≡ false → (whole_slot parent i).kind ≡ 2
whole_kind parent (pos n) e = refl
whole_kind parent (negsuc n) e = never {b = true} refl e

shows_int : (bytes : List ℕ) (w : Slot) (parent : ℕ) (i : ℤ) → seen w ≡ whole_slot parent i → Shows bytes w (int i)
shows_int bytes w parent i e =
    let n : i ≡ number_at w = sym (whole_number parent i) ∙ ap number_at (sym e) ∙ seen_number w in
    on (eqb w.kind 6)
    (λ t. (true, eqb-true w.kind 6 t, n ∙ ap (λ (c : Bool). number_of c w.«data») t))
    (λ t. let s : w ≡ whole_slot parent i = sym (seen_same w t) ∙ e in
    let k : eqb (whole_slot parent i).kind 6 ≡ false = ap (λ (v : Slot). eqb v.kind 6) (sym s) ∙ t in
    (false, ap (λ (v : Slot). v.kind) s ∙ whole_kind parent i k, n ∙ ap (λ (c : Bool). number_of c w.«data») t))

-- a slot that is seen as no integer is seen as it stands
as_seen : (w v : Slot) → seen w ≡ v → (v.kind ≡ 2 → ⊥) → w ≡ v
as_seen w v e d = sym (seen_kept w (λ z. d (ap (λ (u : Slot). u.kind) (sym e) ∙ z))) ∙ e

-- ---- the layout stands in the room

module _ (bytes : List ℕ) (at : ℕ → Slot) where
  abbrev Matches : ℕ → ℕ → List Slot → Type 0
  Matches made n vs = (i : ℕ) → i < n → seen (at (made + i)) ≡ get_or vs i void

  top_of : (made n : ℕ) (vs : List Slot) → 0 < n → Matches made n vs → seen (at made) ≡ get_or vs 0 void
  top_of made n vs l h = let z : made ≡ made + 0 = omega arith in ap (λ (m : ℕ). seen (at m)) z ∙ h 0 l

  mutual
    laid_layout : (v : Value) → Tableless v → (parent used made : ℕ) → Matches made (size v) (layout parent used made v) → Stands bytes used (spelled v)
        → Laid bytes at made v (made + size v)
    laid_layout (str s) k parent used made h b =
        let e : at made ≡ string_slot parent used (length s) = as_seen (at made) (string_slot parent used (length s)) (top_of made 1 (layout parent used made (str s)) (omega arith) h) (λ z. omega arith) in
        (refl, rw e (refl, stands_spells bytes used s b))
    laid_layout (int i) k parent used made h b = (refl, shows_int bytes (at made) parent i (top_of made 1 (layout parent used made (int i)) (omega arith) h))
    laid_layout (boolean c) k parent used made h b =
        let e : at made ≡ bool_slot parent c = as_seen (at made) (bool_slot parent c) (top_of made 1 (layout parent used made (boolean c)) (omega arith) h) (λ z. omega arith) in
        (refl, rw e (refl, refl))
    laid_layout (array is) k parent used made h b =
        let e : at made ≡ array_slot parent = as_seen (at made) (array_slot parent) (top_of made (suc (sizes is)) (layout parent used made (array is)) (omega arith) h) (λ z. omega arith) in
        let z : made + 1 + sizes is ≡ made + suc (sizes is) = omega arith in (
          ap (λ (w : Slot). w.kind) e,
          subst (λ (n : ℕ). LaidAll bytes at (made + 2) (made + 1) is n) z
              (all_layout is k (made + 2) used (made + 1)
              (λ i l. let y : made + 1 + i ≡ made + suc i = omega arith in ap (λ (m : ℕ). seen (at m)) y ∙ h (suc i) (omega arith)) b),
        )
    laid_layout (table t) k parent used made h b = absurd k

    all_layout : (is : Items) → AllTableless is → (parent used made : ℕ) → Matches made (sizes is) (layouts parent used made is) → Stands bytes used (spelled_all is)
        → LaidAll bytes at parent made is (made + sizes is)
    all_layout none' k parent used made h b = omega arith
    all_layout (item v is) k parent used made h b =
        let a : List Slot = layout parent used made v in
        let c : List Slot = layouts parent (used + length (spelled v)) (made + size v) is in
        let l : length a ≡ size v = length_layout v parent used made in
        let y : made + size v + sizes is ≡ made + (size v + sizes is) = omega arith in
        let g : Matches made (size v) a = λ i j. h i (omega arith) ∙ get_or-append a c void i (omega arith) in (
          made + size v,
          ap (λ (w : Slot). w.parent) (top_of made (size v) a (size_some v) g) ∙ layout_parent v parent used made,
          laid_layout v k.0 parent used made g (first_stands bytes used (spelled v) (spelled_all is) b),
          subst (λ (n : ℕ). LaidAll bytes at parent (made + size v) is n) y
              (all_layout is k.1 parent (used + length (spelled v)) (made + size v)
              (λ i j. let z : made + size v + i ≡ made + (size v + i) = omega arith in
              ap (λ (m : ℕ). seen (at m)) z ∙ h (size v + i) (omega arith) ∙ ap (λ (n : ℕ). get_or (a ++ c) (n + i) void) (sym l) ∙ get_or-append-add a c i void)
              (rest_stands bytes used (spelled v) (spelled_all is) b)),
        )

-- ---- the readers

seen_void : seen void ≡ void
seen_void = refl

module _ (used made : ℕ) (v : Value) (bs : List ℕ) (m : ℕ) (o : Out) (a : Lays 0 used made v bs m o) where
  seen_at : (i : ℕ) → seen (get_or o.slots i void) ≡ get_or (layout 0 used made v) i void
  seen_at i = sym (seens_at o.slots i void) ∙ ap (λ (vs : List Slot). get_or vs i void) a.slots

  long : length o.slots ≡ size v
  long = sym (length_seens o.slots) ∙ ap length a.slots ∙ length_layout v 0 used made

  value_laid : Value-laid used made v bs m o
  value_laid =
      record {
        fault = a.fault;
        bytes = a.bytes;
        count = a.count;
        lain = λ store l. record {
          laid = λ at h. subst (λ (n : ℕ). Laid (store ++ o.bytes) at made v (made + n)) (sym long)
              (laid_layout (store ++ o.bytes) at v a.kinds 0 used made (λ i j. ap seen (h i (omega (arith, long))) ∙ seen_at i)
              (record {
                before = store;
                after = [];
                is = ap (λ (z : List ℕ). store ++ z) (a.bytes ∙ a.spells ∙ sym (append-nil (spelled v)));
                from = l;
              }));
          free = ap (λ (w : Slot). w.parent) (seen_at 0) ∙ layout_parent v 0 used made;
          keyless = λ i. ap (λ (w : Slot). w.key + w.len) (seen_at i) ∙ layout_keyless v 0 used made i;
        };
      }

value_agrees : (used made : ℕ) (g : Got Value) (o : Out) → Meets (Lays 0 used made) g o → Value-agrees used made g o
value_agrees used made (got v bs m) o h = value_laid used made v bs m o h
value_agrees used made (failed (numbered n)) o h = (h.is, h.some)
value_agrees used made (failed (unmet u)) o h = h

-- what is asked of values holds
pub values_agree : Values-agree
values_agree limit depth used made s =
    value_agrees used made (value limit depth s made) (value_out limit depth 0 used made s) (value_meets limit depth 0 used made s)
