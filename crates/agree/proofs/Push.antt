-- A table added to an array: the rooms and the tree of 01 add the same, or are refused by the same number.
use Rattle.std.specs.Prelude.{ℕ, ◌+◌, ◌≤◌, true, false, ◌≡◌, eqb, leb, length, get_or, Option as Maybe, Some, None}
use mathlib.Core.List.{List, [], ◌∷◌, ◌++◌}
use Rattle.std.proofs.Math.Option.{Option, none, some}
use Rattle.std.proofs.Math.Path.{refl, sym, ap, subst}
use Rattle.std.proofs.Common.{◌∙◌, arith, eqb-true}
use Rattle.std.proofs.lemmas.Bool.{eqb-false}
use Rattle.meaning.specs.Base.{part}
use Rattle.meaning.specs.Refusal.{numbered}
use Rattle.meaning.specs.Reading.{grown, stuck, grow_map, make}
use Rattle.meaning.specs.Tree.{Value, Items, Table, str, int, boolean, array, table, none', empty, read_as, as_array, lookup, insert, count as many, push_one, push_to}
use Rattle.laws.specs.Cases.{on}
use Rattle.tree.specs.declared.Slot.{Slot}
use Rattle.values.specs.Grow.{Seg, void, look_s, keyed_slot, item_s, push_by, push_s, make_s, Grown as GrownS, grown as grownS, stuck as stuckS, onward}
use Rattle.agree.specs.Key.{Key, name, index}
use Rattle.agree.specs.Finds.{get, find, put, set_at, Takes, at, set_set, snoc_set}
use Rattle.agree.specs.Meets.{Shows}
use Rattle.agree.proofs.Meets.{bare_table, bare_array}
use Rattle.agree.specs.Slots.{Fit, length_more, place_of}
use Rattle.agree.specs.Steps.{Agree, to}
use Rattle.agree.proofs.Steps.{table_at_lem, array_at, items_count, agree_more, leads_more}
use Rattle.agree.specs.Down.{graft, Stand, Key-found}
use Rattle.agree.proofs.Down.{takes_name, keyed_slot_lem, key_found, key_missing, key_meets, search_is}
use Rattle.agree.specs.Push.{Itemed, Items-come, Pushes, item_slot, longer}

module _ (limit : ℕ) (bytes : List ℕ) (vs : List Slot) (x : Value) (h : List Key) (a : Items) (g : Agree bytes vs x) (e : find (some x) h ≡ some (array a)) where
  p : ℕ
  p = to bytes vs h

  item_fits : Fit bytes vs (item_slot p) (to bytes vs h) (index (many a))
  unfolding p
  item_fits = (array_at bytes vs x g h a e, items_count bytes vs x g h a e)

  item_takes : Takes (find (some x) h) (index (many a))
  item_takes = rw e (omega arith)

  item_tree : set_at x (index (many a) ∷ h) (table empty) ≡ set_at x h (array (longer a))
  item_tree =
      ap (λ (o : Option Value). set_at x h (put o (index (many a)) (table empty))) e ∙ ap (λ (b : Items). set_at x h (array b)) (snoc_set a (table empty))

  itemed : Itemed bytes vs x h a (vs ++ (item_slot p ∷ [])) (length vs + 2)
  unfolding p
  itemed =
      record {
        agree = subst (λ (y : Value). Agree bytes (vs ++ (item_slot p ∷ [])) y) item_tree
            (agree_more bytes vs x g h (index (many a)) (item_slot p) (table empty) refl item_fits item_takes bare_table refl (omega arith));
        long = length_more vs (item_slot p);
        leads = leads_more bytes vs x g h (index (many a)) (item_slot p) (table empty) refl item_fits item_takes bare_table refl (omega arith) [];
      }

  pub items_come : (q : ℕ) → to bytes vs h ≡ q → Items-come limit bytes vs x h a (item_s limit vs q)
  unfolding make_s make p
  items_come q d =
      on (leb limit (length vs)) (λ l. rw (l, l))
      (λ l. rw (l, l, ← d) (ap (grown (longer a)) (sym (length_more vs (item_slot p))), itemed))

kind_array : (bytes : List ℕ) (w : Slot) (v : Value) → Shows bytes w v → w.kind ≡ 4 → (a : Items) × (v ≡ array a)
kind_array bytes w (str s) h e = absurd (omega (arith, h.0))
kind_array bytes w (int i) (true, h, j) e = absurd (omega (arith, h))
kind_array bytes w (int i) (false, h, j) e = absurd (omega (arith, h))
kind_array bytes w (boolean b) h e = absurd (omega (arith, h.0))
kind_array bytes w (array a) h e = (a, refl)
kind_array bytes w (table u) h e = absurd (omega (arith, h))

kind_no_array : (bytes : List ℕ) (w : Slot) (v : Value) → Shows bytes w v → (w.kind ≡ 4 → ⊥) → as_array v ≡ none
kind_no_array bytes w (str s) h d = refl
kind_no_array bytes w (int i) h d = refl
kind_no_array bytes w (boolean b) h d = refl
kind_no_array bytes w (array a) h d = absurd (d h)
kind_no_array bytes w (table u) h d = refl

module _ (limit : ℕ) (bytes : List ℕ) (vs : List Slot) (x : Value) (g : List Key) (t : Table) (p : ℕ) (a : Stand bytes vs x g t p) (s : Seg) (k : List ℕ)
    (spelt : part s.at (s.at + s.len) bytes ≡ k) (lies : s.at + s.len ≤ length bytes) where
  takes : Takes (find (some x) g) (name k)
  takes = takes_name x g t k a.found

  -- an array in its place under the key
  key_tree : (b : Items) → set_at x g (table (insert t k (array b))) ≡ set_at x (name k ∷ g) (array b)
  key_tree b = ap (λ (o : Option Value). set_at x g (put o (name k) (array b))) (sym a.found)

  -- the array is there
  module _ (is : Items) (e : lookup t k ≡ some (array is)) where
    there_step : push_one limit k t (length vs) ≡ grow_map (λ b. insert t k (array b)) (make limit (longer is) (length vs))
    unfolding push_to
    there_step = rw e

    there_pushes : (r : GrownS) → Items-come limit bytes vs x (name k ∷ g) is r → Pushes limit bytes vs x g t k r
    there_pushes (grownS vs' p') c =
        record {
          tree = set_at x (name k ∷ g) (array (longer is));
          items = is;
          agree = c.1.agree;
          is = ap (graft x g) (there_step ∙ ap (grow_map (λ b. insert t k (array b))) c.0) ∙ ap (λ (y : Value). grown y (length vs')) (key_tree (longer is));
          found = at (name k ∷ g) x (array (longer is)) takes;
          leads = c.1.leads;
        }
    there_pushes (stuckS n) c = there_step ∙ ap (grow_map (λ b. insert t k (array b))) c

  -- it is made
  module _ (e : lookup t k ≡ none) where
    slot : Slot
    slot = keyed_slot 4 p s

    made : List Slot
    made = vs ++ (slot ∷ [])

    tree : Value
    tree = set_at x (name k ∷ g) (array none')

    slot_under : slot.parent ≡ to bytes vs g
    unfolding slot
    slot_under = sym a.leads

    fits : Fit bytes vs slot (to bytes vs g) (name k)
    unfolding slot
    fits = (table_at_lem bytes vs x a.agree g t a.found, keyed_slot_lem bytes 4 p s k spelt lies)

    made_agree : Agree bytes made tree
    unfolding made tree slot
    made_agree = agree_more bytes vs x a.agree g (name k) slot (array none') slot_under fits takes bare_array refl lies

    made_leads : to bytes made (name k ∷ g) ≡ length vs + 2
    unfolding made slot
    made_leads = leads_more bytes vs x a.agree g (name k) slot (array none') slot_under fits takes bare_array refl lies []

    made_found : find (some tree) (name k ∷ g) ≡ some (array none')
    unfolding tree
    made_found = at (name k ∷ g) x (array none') takes

    full_step : leb limit (length vs) ≡ true → push_one limit k t (length vs) ≡ stuck (numbered 16)
    unfolding push_to make
    full_step l = rw (e, l)

    new_step : leb limit (length vs) ≡ false → push_one limit k t (length vs) ≡ grow_map (λ b. insert t k (array b)) (make limit (longer none') (length made))
    unfolding push_to make made slot
    new_step l = rw (e, l, length_more vs slot)

    new_pushes : leb limit (length vs) ≡ false → (r : GrownS) → Items-come limit bytes made tree (name k ∷ g) none' r → Pushes limit bytes vs x g t k r
    unfolding tree
    new_pushes l (grownS vs' p') c =
        let y : set_at tree (name k ∷ g) (array (longer none')) ≡ set_at x (name k ∷ g) (array (longer none')) = set_set (name k ∷ g) x (array none') (array (longer none')) takes in
        record {
          tree = set_at x (name k ∷ g) (array (longer none'));
          items = none';
          agree = subst (λ (z : Value). Agree bytes vs' z) y c.1.agree;
          is = ap (graft x g) (new_step l ∙ ap (grow_map (λ b. insert t k (array b))) c.0) ∙ ap (λ (z : Value). grown z (length vs')) (key_tree (longer none'));
          found = at (name k ∷ g) x (array (longer none')) takes;
          leads = c.1.leads;
        }
    new_pushes l (stuckS n) c = new_step l ∙ ap (grow_map (λ b. insert t k (array b))) c

    none_pushes : Pushes limit bytes vs x g t k (onward (make_s limit vs (keyed_slot 4 p s)) (item_s limit))
    unfolding make_s made slot
    none_pushes =
        on (leb limit (length vs)) (λ l. rw l (full_step l))
        (λ l. rw l (new_pushes l (item_s limit made (length vs + 2)) (items_come limit bytes made tree (name k ∷ g) none' made_agree made_found (length vs + 2) made_leads)))

  -- 13
  no_array : (v : Value) → lookup t k ≡ some v → as_array v ≡ none → push_one limit k t (length vs) ≡ stuck (numbered 13)
  unfolding push_to
  no_array v e d = rw (e, d)

  by_search : (r : Maybe ℕ) → place_of r ≡ to bytes vs (name k ∷ g) → Pushes limit bytes vs x g t k (push_by limit vs p s r)
  by_search (Some n) e =
      let f : Key-found bytes vs n (lookup t k) = key_found bytes vs (to bytes vs (name k ∷ g)) n (lookup t k) (key_meets bytes vs x g t p a k) e in
      on (eqb (get_or vs n void).kind 4)
      (λ c. let u = kind_array bytes (get_or vs n void) f.it f.shows (eqb-true (get_or vs n void).kind 4 c) in
      let d : lookup t k ≡ some (array u.0) = f.is ∙ ap some u.1 in
      rw c (there_pushes u.0 d (item_s limit vs (n + 2))
      (items_come limit bytes vs x (name k ∷ g) u.0 a.agree (ap (read_as (λ v. get v (name k))) a.found ∙ d) (n + 2) (sym e))))
      (λ c. rw c (no_array f.it f.is (kind_no_array bytes (get_or vs n void) f.it f.shows (eqb-false (get_or vs n void).kind 4 c))))
  by_search None e = none_pushes (key_missing bytes vs (to bytes vs (name k ∷ g)) (lookup t k) (key_meets bytes vs x g t p a k) e)

  pub push_comes : Pushes limit bytes vs x g t k (push_s limit bytes vs p s)
  unfolding push_s
  push_comes =
      by_search (look_s bytes 0 vs p (part s.at (s.at + s.len) bytes) None)
      (search_is bytes vs x g t p a (part s.at (s.at + s.len) bytes) k spelt)
