-- The items of an array: what the loop keeps, and one law for each way on and out.
use Prim.Native.Nat.{ℕ, suc, ◌+◌, ◌-◌, ◌≤◌, ◌<◌}
use mathlib.Core.Bool.{Bool, true, false}
use mathlib.Core.List.{List, []}
use mathlib.Core.Path.{◌≡◌, refl, sym, ap, subst, ◌∙◌}
use native.Mathlib.Omega.{arith}
use mir.Syntax.{w64}
use mir.Val.{Fits}
use lib.Dec.{eqb, ltb}
use lib.ListN.{length, take, drop, length-drop, drop_of_length-le}
use lib.Seq.{drop-drop, length-take-le}
use borrow.Author.Tests.{ltb-false, eq-eqb}
use Rattle.std.specs.Prelude.{Result, Ok, Err}
use Rattle.meaning.specs.Base.{pick}
use Rattle.meaning.specs.Space.{blank}
use Rattle.meaning.specs.Quote.{fresh, step}
use Rattle.meaning.specs.Values.{separates?}
use Rattle.laws.specs.Cases.{on}
use Rattle.laws.specs.Parts.{rest_of}
use Rattle.laws.specs.Splits.{others, split_step}
use Rattle.values.specs.Item.{Item, item_size}
use Rattle.values.specs.declared.State.{State}
use Rattle.values.specs.declared.Stopped.{Stopped}
use Rattle.values.specs.Out.{Out, fine, join, and_then, moved, Replies, Ready, Filled}
use Rattle.values.specs.Fill.{items_out, value_out, list_out}
use Rattle.values.proofs.Outs.{moved_none, moved_moved, replies_join, join_assoc, went, failed, Left, left_of, filled_of, left_none, tight, then_left, same_store, same_tree}

blank_nil : blank [] ≡ true
unfolding Rattle.meaning.specs.Space.computes
blank_nil = refl

module _ (limit depth parent : ℕ) where
  abbrev one : ℕ → ℕ → List ℕ → Out
  one u m l = value_out limit depth parent u m l

  abbrev list : ℕ → ℕ → List ℕ → Out
  list u m t = list_out limit depth parent u m t

  pub list_nil : (u m : ℕ) → list u m [] ≡ fine [] []
  unfolding list_out
  list_nil u m = rw blank_nil

  -- no further part is as good as an empty one
  rest_same : (k u m : ℕ) (t : List ℕ) → items_out limit one u m (others step separates? fresh k t) ≡ list u m (drop (suc k) t)
  unfolding list_out
  rest_same k u m t =
      on (ltb k (length t)) (λ e. rw e)
      (λ e.
      let l : length t ≤ suc k = omega (arith, ltb-false k (length t) e) in
      let z : drop (suc k) t ≡ [] = drop_of_length-le t l in
      rw (e, z) (sym (list_nil u m)))

  -- the first item t of k bytes, and what the others come to
  abbrev headed : ℕ → ℕ → ℕ → List ℕ → (ℕ → ℕ → Out) → Out
  headed u m k t f = pick (blank (take k t)) (f u m) (and_then u m (one u m (take k t)) f)

  first : (u m : ℕ) (t : List ℕ) → list u m t ≡ headed u m (item_size t) t (λ x y. items_out limit one x y (others step separates? fresh (item_size t) t))
  unfolding list_out
  first u m t = ap (items_out limit one u m) (split_step step separates? fresh fresh t)

  -- the first item, and those after its comma
  pub next_list : (u m : ℕ) (t : List ℕ) → list u m t ≡ headed u m (item_size t) t (λ x y. list x y (drop (suc (item_size t)) t))
  next_list u m t = first u m t ∙ λ i. headed u m (item_size t) t (λ x y. rest_same (item_size t) x y t i)

module _ (limit depth parent : ℕ) (s store₀ tree₀ : List ℕ) (st : State) where
  abbrev total : Out
  total = list_out limit depth parent st.used st.made s

  -- what the loop keeps: what is added so far, and that what is left decides the rest
  pub record Held (store tree : List ℕ) (i : ℕ) (cur : State) : Type 0 where
    pub so_far : Out
    pub ready : Ready limit s store₀ tree₀ st
    pub high : i ≤ length s + 1
    pub short : length so_far.bytes ≤ i
    pub here : moved st so_far ≡ cur
    pub left : Left limit (length s) store₀ tree₀ store tree st so_far
    pub run : total ≡ join so_far (list_out limit depth parent cur.used cur.made (drop i s))
    pub used : cur.used ≤ st.used + i
    pub made : cur.made ≤ limit
    pub store_size : length store ≡ length store₀
    pub tree_size : length tree ≡ length tree₀

  held : {store tree : List ℕ} {i : ℕ} {cur : State} (o : Out) → Ready limit s store₀ tree₀ st → i ≤ length s + 1 → length o.bytes ≤ i → moved st o ≡ cur
      → Left limit (length s) store₀ tree₀ store tree st o → total ≡ join o (list_out limit depth parent cur.used cur.made (drop i s)) → Held store tree i cur
  held {store} {tree} {i} {cur} o ready high short here left run =
      let u : st.used + length o.bytes ≡ cur.used = ap (λ (x : State). x.used) here in
      let m : st.made + length o.slots ≡ cur.made = ap (λ (x : State). x.made) here in
      record {
        so_far = o;
        ready = ready;
        high = high;
        short = short;
        here = here;
        left = left;
        run = run;
        used = omega arith;
        made = omega (arith, left.most);
        store_size = same_store left ready.room;
        tree_size = same_tree left ready.slots;
      }

  pub start : Ready limit s store₀ tree₀ st → Held store₀ tree₀ 0 st
  start ready = held (fine [] []) ready (omega arith) (omega arith) (moved_none st 0) (left_none limit (length s) store₀ tree₀ st 0 ready.made) refl

  pub done : (store tree : List ℕ) (i : ℕ) (cur : State) → Held store tree i cur → length s ≤ i → Filled limit s store₀ tree₀ store tree st total (Ok cur)
  done store tree i cur h l =
      let z : total ≡ join h.so_far (fine [] []) =
      h.run ∙ ap (λ (t : List ℕ). join h.so_far (list_out limit depth parent cur.used cur.made t)) (drop_of_length-le s l)
      ∙ ap (join h.so_far) (list_nil limit depth parent cur.used cur.made) in
      let e : Replies st (join h.so_far (fine [] [])) (Ok cur) =
      replies_join st h.so_far (fine [] []) (Ok cur) (record { fault = refl; there = sym h.here ∙ sym (moved_none (moved st h.so_far) 0) }) in
      let f : Left limit (length s + 0) store₀ tree₀ store tree st (join h.so_far (fine [] [])) =
      then_left h.left (left_none limit 0 store tree (moved st h.so_far) 0 h.left.most) (omega (arith, h.ready.room)) h.ready.slots in
      rw z (filled_of f (omega arith) e)

  module _ (store tree : List ℕ) (i : ℕ) (cur : State) (h : Held store tree i cur) (l : i < length s) (k : ℕ) (it : Item (take (length s - i) (drop i s)) k) where
    whole : Item (drop i s) k
    whole = rw (rest_of s i) at it

    pub item_high : i + k ≤ length s
    item_high = omega (arith, whole.fits, length-drop i s)

    pub item_fits : Fits w64 (length s) → Fits w64 (i + k)
    item_fits f = record { fits = omega (arith, f.fits, item_high) }

    abbrev part : List ℕ
    part = take (i + k - i) (drop i s)

    part_is : take (item_size (drop i s)) (drop i s) ≡ part
    part_is =
        let e : i + k - i ≡ k = omega arith in
        ap (λ (n : ℕ). take n (drop i s)) (sym whole.is ∙ sym e)

    part_size : length part ≡ k
    part_size =
        let e : i + k - i ≡ k = omega arith in
        rw e (length-take-le k (drop i s) whole.fits)

    after_comma : drop (suc (item_size (drop i s))) (drop i s) ≡ drop (i + k + 1) s
    after_comma =
        let e : i + suc (item_size (drop i s)) ≡ i + k + 1 = omega (arith, whole.is) in
        drop-drop (suc (item_size (drop i s))) i s ∙ ap (λ (n : ℕ). drop n s) e

    abbrev rest : ℕ → ℕ → Out
    rest u m = list_out limit depth parent u m (drop (i + k + 1) s)

    abbrev o : Out
    o = value_out limit depth parent cur.used cur.made part

    unrolled : list_out limit depth parent cur.used cur.made (drop i s) ≡ pick (blank part) (rest cur.used cur.made) (and_then cur.used cur.made o rest)
    unrolled =
        next_list limit depth parent cur.used cur.made (drop i s)
        ∙ λ j.
        pick (blank (part_is j)) (list_out limit depth parent cur.used cur.made (after_comma j))
        (and_then cur.used cur.made (value_out limit depth parent cur.used cur.made (part_is j)) (λ u m. list_out limit depth parent u m (after_comma j)))

    module _ (b : Bool) (e : b ≡ blank part) where
      -- "blank items are dropped"
      pub item_blank : b ≡ true → Held store tree (i + k + 1) cur
      item_blank y =
          let z : blank part ≡ true = sym e ∙ y in
          held h.so_far h.ready (omega (arith, item_high)) (omega (arith, h.short)) h.here h.left
          (h.run ∙ ap (join h.so_far) (unrolled ∙ ap (λ (x : Bool). pick x (rest cur.used cur.made) (and_then cur.used cur.made o rest)) z))

      module _ (n : b ≡ false) (store₁ tree₁ : List ℕ) (a : Result State Stopped) (f : Filled limit part store tree store₁ tree₁ cur o a) where
        so_on : total ≡ join h.so_far (and_then cur.used cur.made o rest)
        so_on =
            let z : blank part ≡ false = sym e ∙ n in
            h.run ∙ ap (join h.so_far) (unrolled ∙ ap (λ (x : Bool). pick x (rest cur.used cur.made) (and_then cur.used cur.made o rest)) z)

        there : Left limit (length part) store tree store₁ tree₁ (moved st h.so_far) o
        there = subst (λ (x : State). Left limit (length part) store tree store₁ tree₁ x o) (sym h.here) (left_of f)

        both : Left limit (i + length part) store₀ tree₀ store₁ tree₁ st (join h.so_far o)
        both = then_left (tight h.left h.short) there (omega (arith, h.ready.room)) h.ready.slots

        pub item_fault : (e : Stopped) → a ≡ Err e → (v : Result State Stopped) → v ≡ Err e → Filled limit s store₀ tree₀ store₁ tree₁ st total v
        item_fault e q v w =
            let g = failed cur o a f.says e q in
            let z : total ≡ join h.so_far o = so_on ∙ ap (λ (x : Bool). join h.so_far (pick x (join o (rest (cur.used + length o.bytes) (cur.made + length o.slots))) o)) g.fails in
            let says : Replies st (join h.so_far o) (Err e) =
            replies_join st h.so_far o (Err e) (subst (λ (x : State). Replies x o (Err e)) (sym h.here) (rw q at f.says)) in
            rw (z, w) (filled_of both (omega (arith, part_size, item_high)) says)

        pub item_fine : (next : State) → a ≡ Ok next → Held store₁ tree₁ (i + k + 1) next
        item_fine next q =
            let g = went cur o a f.says next q in
            let z : eqb o.fault 0 ≡ true = eq-eqb o.fault 0 g.calm in
            let run : total ≡ join (join h.so_far o) (rest next.used next.made) =
            so_on ∙ ap (λ (x : Bool). join h.so_far (pick x (join o (rest (cur.used + length o.bytes) (cur.made + length o.slots))) o)) z
            ∙ ap (λ (x : State). join h.so_far (join o (rest x.used x.made))) g.there
            ∙ sym (join_assoc h.so_far o (rest next.used next.made)) in
            held (join h.so_far o) h.ready (omega (arith, item_high)) (omega (arith, both.short, part_size))
            (sym (moved_moved st h.so_far o) ∙ ap (λ (x : State). moved x o) h.here ∙ g.there)
            (tight both (omega (arith, both.short, part_size, item_high))) run
