-- An assignment: the value first, then its key.
use Prim.Native.Nat.{ℕ, ◌+◌, ◌*◌, ◌≤◌}
use mathlib.Core.Bool.{true, false}
use mathlib.Core.List.{List, [], ◌∷◌, ◌++◌, append_assoc}
use mathlib.Core.Path.{◌≡◌, refl, sym, ap, ◌∙◌}
use native.Mathlib.Omega.{arith}
use borrow.Author.Tests.{eq-eqb}
use lib.ListN.{length, take, drop, length-append}
use lib.Seq.{length-take-le, take_at}
use Rattle.std.specs.Prelude.{Result, Ok, Err}
use Rattle.meaning.specs.declared.Limits.{Limits}
use Rattle.meaning.specs.declared.Refused.{Refused}
use Rattle.meaning.specs.declared.Refused.TheVariants.{NoKey}
use Rattle.meaning.specs.Base.{nil?, zeros}
use Rattle.meaning.specs.Refusal.{R, ok, bad}
use Rattle.laws.specs.Stored.{stored}
use Rattle.scalar.specs.Stores.{over}
use Rattle.slices.proofs.Zeroing.{length_zeros}
use Rattle.tree.specs.declared.Slot.{Slot}
use Rattle.values.specs.declared.State.{State}
use Rattle.values.specs.declared.Stopped.{Stopped}
use Rattle.values.specs.Out.{Out, cells, Filled}
use Rattle.values.specs.Fill.{value_out}
use Rattle.values.specs.Carries.{slots_of, AllSized, Carries, AllWithin, Grows}
use Rattle.values.specs.Doc.{Doc, set_s, assign_by}
use Rattle.values.proofs.Outs.{Left, left_of, Went, went, Failed, failed, same_store, same_tree}
use Rattle.values.proofs.Carrying.{length_cells, cells_append, length_slots, over_over, over_carries, slots_of_lem, carries_grows}
use Rattle.values.proofs.Beginning.{within_more, within_append}
use Rattle.toml_lite.specs.declared.Progress.{Progress}
use Rattle.toml_lite.specs.Rooms.{doc_of, hang_k, Taking, Hanging, Wrote, Lined}
use Rattle.toml_lite.proofs.Sizes.{Bare, value_bare, value_adds}

-- ---- from one state of the rooms to the next, by at most n bytes
pub record Stepped (n : ℕ) (store tree store' tree' : List ℕ) (st next : State) : Type 0 where
  pub store_is : store' ≡ over (take next.used store') store
  pub tree_is : tree' ≡ over (cells (slots_of tree' next.made)) tree
  pub store_long : length store' ≡ length store
  pub tree_long : length tree' ≡ length tree
  pub fits : next.used ≤ length store'
  pub more : st.used ≤ next.used
  pub short : next.used ≤ st.used + n
  pub grew : st.made ≤ next.made

-- what is read then is read from the start
pub lined_from : (limits : Limits) (n k total : ℕ) (store tree store' tree' store'' tree'' : List ℕ) (st next : State) (m : R Doc) (r : Result Progress Refused)
    → Stepped n store tree store' tree' st next → n + k ≤ total → Lined limits k store' tree' store'' tree'' next m r → Lined limits total store tree store'' tree'' st m r
lined_from limits n k total store tree store' tree' store'' tree'' st next (ok d) r a l h =
    let w : Wrote limits k store' tree' store'' tree'' next d = h.kept in
    let x : length (take next.used store') ≤ length d.bytes = omega (arith, length-take-le next.used store' a.fits, w.more) in
    let y : length (cells (slots_of tree' next.made)) ≤ length (cells d.slots) =
    omega (arith, length_cells (slots_of tree' next.made), length_cells d.slots, length_slots tree' next.made, w.grew) in
    record {
      says = h.says;
      store_long = h.store_long ∙ a.store_long;
      tree_long = h.tree_long ∙ a.tree_long;
      kept = record {
        store_is = w.store_is ∙ ap (over d.bytes) a.store_is ∙ over_over d.bytes (take next.used store') store x;
        tree_is = w.tree_is ∙ ap (over (cells d.slots)) a.tree_is ∙ over_over (cells d.slots) (cells (slots_of tree' next.made)) tree y;
        carried = w.carried;
        within = w.within;
        more = omega (arith, w.more, a.more);
        short = omega (arith, w.short, a.short);
        grew = omega (arith, w.grew, a.grew);
        most = w.most;
      };
    }
lined_from limits n k total store tree store' tree' store'' tree'' st next (bad f) r a l h =
    record { says = h.says; store_long = h.store_long ∙ a.store_long; tree_long = h.tree_long ∙ a.tree_long; kept = tt }

-- ---- 6
empty_nil : (k : List ℕ) → length k ≡ 0 → nil? k ≡ true
empty_nil [] e = refl
empty_nil (b ∷ k) e = absurd (omega arith)

some_nil : (k : List ℕ) → (length k ≡ 0 → ⊥) → nil? k ≡ false
some_nil [] e = absurd (e refl)
some_nil (b ∷ k) e = refl

module _ (limits : Limits) (k v store tree : List ℕ) (st : State) (here : ℕ) (h : Taking limits (length k + length v) store tree st) where
  pub setting_none : length k ≡ 0 → Lined limits (length k + length v) store tree store tree st (set_s limits k v (doc_of store tree st here)) (Err NoKey)
  unfolding set_s
  setting_none e = rw (empty_nil k e) (record { says = refl; store_long = refl; tree_long = refl; kept = tt })

  abbrev out : Out
  out = value_out limits.values limits.arrays 0 st.used st.made v

  meant_by_lem : (length k ≡ 0 → ⊥) → set_s limits k v (doc_of store tree st here) ≡ assign_by limits out k (doc_of store tree st here)
  unfolding set_s
  meant_by_lem f = rw (some_nil k f, length-take-le st.used store h.holding.fits, length_slots tree st.made)

  module _ (f : length k ≡ 0 → ⊥) (store' tree' : List ℕ) (r : Result State Stopped) (a : Filled limits.values v store tree store' tree' st out r) where
    left : Left limits.values (length v) store tree store' tree' st out
    left = left_of a

    store_same : length store' ≡ length store
    store_same = same_store left (omega (arith, h.room))

    tree_same : length tree' ≡ length tree
    tree_same = same_tree left h.holding.grows.room

    pub setting_fault : (e : Stopped) → r ≡ Err e → (q : Result Progress Refused) → q ≡ Err e.refused
        → Lined limits (length k + length v) store tree store' tree' st (set_s limits k v (doc_of store tree st here)) q
    setting_fault e z q w =
        let x : Failed st out e = failed st out r a.says e z in
        rw (meant_by_lem f, x.fails, x.code, w) (record { says = refl; store_long = store_same; tree_long = tree_same; kept = tt })

    bare : Bare out
    bare = value_bare limits.values h.holding.grows.few limits.arrays 0 st.used st.made v (omega arith) (omega (arith, h.low)) h.holding.grows.most

    abbrev slots : List Slot
    slots = slots_of tree st.made ++ out.slots

    slots_long : length slots ≡ st.made + length out.slots
    slots_long = omega (arith, length-append (slots_of tree st.made) out.slots, length_slots tree st.made)

    all_sized : (vs ws : List Slot) → AllSized vs → AllSized ws → AllSized (vs ++ ws)
    all_sized [] ws x y = y
    all_sized (w ∷ vs) ws x y = (x.0, all_sized vs ws x.1 y)

    tree_over : tree' ≡ over (cells slots) tree
    unfolding stored
    tree_over =
        let o : List Slot = slots_of tree st.made in
        let n : length (cells o) ≡ 32 * st.made = length_cells o ∙ ap (λ (i : ℕ). 32 * i) (length_slots tree st.made) in
        let t : take (32 * st.made) tree ≡ cells o =
        ap (take (32 * st.made)) h.holding.grows.carried.is ∙ take_at (cells o) (drop (length (cells o)) tree) (32 * st.made) n in
        let c : cells slots ≡ cells o ++ cells out.slots = cells_append o out.slots in
        let m : length (cells o ++ cells out.slots) ≡ 32 * st.made + length (cells out.slots) = omega (arith, length-append (cells o) (cells out.slots)) in
        a.tree_is ∙ rw (c, m, t) (sym (append_assoc (cells o) (cells out.slots) (drop (32 * st.made + length (cells out.slots)) tree)))

    carried : Carries tree' slots
    carried =
        over_carries tree tree' slots (all_sized (slots_of tree st.made) out.slots h.holding.grows.carried.sized bare.sized)
        (omega (arith, slots_long, a.most, h.holding.grows.room)) tree_over

    abbrev bytes : List ℕ
    bytes = take st.used store ++ out.bytes

    bytes_long : length bytes ≡ st.used + length out.bytes
    bytes_long = omega (arith, length-append (take st.used store) out.bytes, length-take-le st.used store h.holding.fits)

    store_over : store' ≡ over bytes store
    unfolding stored
    store_over = a.store_is ∙ rw bytes_long (sym (append_assoc (take st.used store) out.bytes (drop (st.used + length out.bytes) store)))

    module _ (next : State) (e : r ≡ Ok next) where
      there : Went st out next
      there = went st out r a.says next e

      used_is : next.used ≡ st.used + length out.bytes
      used_is = ap (λ (x : State). x.used) (sym there.there)

      made_is : next.made ≡ st.made + length out.slots
      made_is = ap (λ (x : State). x.made) (sym there.there)

      slots_then : slots_of tree' next.made ≡ slots
      slots_then = slots_of_lem tree' slots next.made carried (made_is ∙ sym slots_long)

      bytes_then : take next.used store' ≡ bytes
      bytes_then = ap (take next.used) store_over ∙ take_at bytes (drop (length bytes) store) next.used (bytes_long ∙ sym used_is)

      grows_then : Grows limits.values tree' next.made
      grows_then =
          carries_grows limits.values tree' slots next.made carried (made_is ∙ sym slots_long) (omega (arith, tree_same, h.holding.grows.room)) h.holding.grows.few (omega (arith, made_is, a.most))

      within_then : AllWithin next.used (slots_of tree' next.made)
      within_then =
          rw slots_then
          (within_append next.used (slots_of tree st.made) out.slots
          (within_more st.used next.used (slots_of tree st.made) (omega (arith, used_is)) h.holding.within)
          (within_more 0 next.used out.slots (omega arith) bare.within))

      pub setting_hanging : Hanging limits (length k) store' tree' next st.made
      setting_hanging =
          record {
            taking = record {
              holding = record { grows = grows_then; within = within_then; fits = omega (arith, used_is, a.short, h.room, store_same); segs = h.holding.segs };
              room = omega (arith, used_is, a.short, h.room, store_same);
              low = omega (arith, used_is, a.short, h.low);
            };
            below = omega (arith, made_is, value_adds limits.values limits.arrays 0 st.used st.made v there.calm);
          }

      stepped : Stepped (length v) store tree store' tree' st next
      stepped =
          record {
            store_is = rw bytes_then store_over;
            tree_is = rw slots_then tree_over;
            store_long = store_same;
            tree_long = tree_same;
            fits = omega (arith, used_is, a.short, h.room, store_same);
            more = omega (arith, used_is);
            short = omega (arith, used_is, a.short);
            grew = omega (arith, made_is);
          }

      same_meant : hang_k limits k st.made (doc_of store' tree' next here) ≡ set_s limits k v (doc_of store tree st here)
      unfolding hang_k
      same_meant = rw (meant_by_lem f, eq-eqb out.fault 0 there.calm, bytes_then, slots_then, length_slots tree st.made)

      pub setting_done : (store'' tree'' : List ℕ) (q : Result Progress Refused) → Lined limits (length k) store' tree' store'' tree'' next (hang_k limits k st.made (doc_of store' tree' next here)) q
          → Lined limits (length k + length v) store tree store'' tree'' st (set_s limits k v (doc_of store tree st here)) q
      setting_done store'' tree'' q w =
          lined_from limits (length v) (length k) (length k + length v) store tree store' tree' store'' tree'' st next (set_s limits k v (doc_of store tree st here)) q stepped (omega arith) (rw same_meant at w)

-- whatever the place and the key's n bytes
pub setting_hangs : (limits : Limits) (n : ℕ) (v store tree : List ℕ) (st : State) → Taking limits (n + length v) store tree st → (n ≡ 0 → ⊥)
    → (store' tree' : List ℕ) (r : Result State Stopped) → Filled limits.values v store tree store' tree' st (value_out limits.values limits.arrays 0 st.used st.made v) r
    → (next : State) → r ≡ Ok next → Hanging limits n store' tree' next st.made
setting_hangs limits n v store tree st h f store' tree' r a next e =
    let z : length (zeros n) ≡ n = length_zeros n in
    let x : Hanging limits (length (zeros n)) store' tree' next st.made =
    setting_hanging limits (zeros n) v store tree st 0 (rw z h) (λ q. f (sym z ∙ q)) store' tree' r a next e in
    rw z at x
