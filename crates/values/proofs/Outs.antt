-- What readers add, one after the other: the rooms then, and the answer then.
use Prim.Native.Nat.{ℕ, ◌+◌, ◌*◌, ◌≤◌, ◌<◌}
use mathlib.Core.Bool.{false}
use mathlib.Core.List.{List, [], ◌∷◌, ◌++◌, append_assoc}
use mathlib.Core.Path.{◌≡◌, refl, sym, ap, ◌∙◌}
use native.Mathlib.Omega.{arith}
use native.Mathlib.Nat.{add-zero}
use lib.Dec.{eqb}
use lib.ListN.{length, length-append}
use borrow.Author.Tests.{ne_eqb}
use Rattle.std.specs.Prelude.{Result, Ok, Err}
use Rattle.meaning.specs.declared.Refused.{Refused}
use Rattle.meaning.specs.declared.Refused.TheVariants.{TextTooLong}
use Rattle.meaning.specs.Numbered.{number}
use Rattle.laws.specs.Stored.{stored, stored_nil, stored_then, length_stored}
use Rattle.tree.specs.declared.Slot.{Slot}
use Rattle.tree.specs.Room.{cell}
use Rattle.tree.specs.Laws.{length_cell}
use Rattle.values.specs.declared.State.{State}
use Rattle.values.specs.declared.Stopped.{Stopped}
use Rattle.values.specs.Out.{Out, wrong, join, moved, Replies, cells, Filled, Made}

pub cells_append : (vs ws : List Slot) → cells (vs ++ ws) ≡ cells vs ++ cells ws
cells_append [] ws = refl
cells_append (v ∷ vs) ws = rw (cells_append vs ws) (sym (append_assoc (cell v) (cells vs) (cells ws)))

pub length_cells : (vs : List Slot) → length (cells vs) ≡ 32 * length vs
length_cells [] = refl
length_cells (v ∷ vs) = omega (arith, length-append (cell v) (cells vs), length_cell v, length_cells vs)

-- ---- the state
pub moved_none : (st : State) (n : ℕ) → moved st (record { fault = n; bytes = []; slots = [] }) ≡ st
moved_none st n = rw (add-zero st.used, add-zero st.made)

pub moved_moved : (st : State) (o p : Out) → moved (moved st o) p ≡ moved st (join o p)
moved_moved st o p =
    let u : st.used + length o.bytes + length p.bytes ≡ st.used + length (o.bytes ++ p.bytes) = omega (arith, length-append o.bytes p.bytes) in
    let m : st.made + length o.slots + length p.slots ≡ st.made + length (o.slots ++ p.slots) = omega (arith, length-append o.slots p.slots) in
    λ i. record { used = u i; made = m i }

pub join_assoc : (o p q : Out) → join (join o p) q ≡ join o (join p q)
join_assoc o p q = λ i. record {
  fault = q.fault;
  bytes = append_assoc o.bytes p.bytes q.bytes i;
  slots = append_assoc o.slots p.slots q.slots i;
}

-- ---- the answer
abbrev pub stop : Refused → State → Result State Stopped
stop f at = Err (record { refused = f; at = at })

-- no refusal has the number 0
pub number_some : (r : Refused) → 0 < number r
number_some TextTooLong = omega arith
number_some r = omega arith

pub replies_join : (st : State) (o p : Out) (r : Result State Stopped) → Replies (moved st o) p r → Replies st (join o p) r
replies_join st o p r h = record { fault = h.fault; there = h.there ∙ moved_moved st o p }

-- an answer `Ok` tells where it is
pub record Went (st : State) (o : Out) (next : State) : Type 0 where
  pub calm : o.fault ≡ 0
  pub there : moved st o ≡ next

-- an answer `Err` tells its number, and where it is
pub record Failed (st : State) (o : Out) (e : Stopped) : Type 0 where
  pub code : o.fault ≡ number e.refused
  pub fails : eqb o.fault 0 ≡ false
  pub there : moved st o ≡ e.at

module _ (st : State) (o : Out) (r : Result State Stopped) (says : Replies st o r) where
  pub went : (next : State) → r ≡ Ok next → Went st o next
  went next q = record { calm = sym (rw q at says.fault); there = sym (rw q at says.there) }

  pub failed : (e : Stopped) → r ≡ Err e → Failed st o e
  failed e q =
      let c : o.fault ≡ number e.refused = sym (rw q at says.fault) in
      record { code = c; fails = rw c (ne_eqb (number e.refused) 0 (λ z. omega (arith, number_some e.refused))); there = sym (rw q at says.there) }

-- ---- the rooms
pub record Left (limit n : ℕ) (store tree store' tree' : List ℕ) (st : State) (o : Out) : Type 0 where
  pub short : length o.bytes ≤ n
  pub most : st.made + length o.slots ≤ limit
  pub store_is : store' ≡ stored store st.used o.bytes
  pub tree_is : tree' ≡ stored tree (32 * st.made) (cells o.slots)

pub left_of : {limit : ℕ} {s store tree store' tree' : List ℕ} {st : State} {o : Out} {r : Result State Stopped} → Filled limit s store tree store' tree' st o r
    → Left limit (length s) store tree store' tree' st o
left_of h = record { short = h.short; most = h.most; store_is = h.store_is; tree_is = h.tree_is }

pub filled_of : {limit n : ℕ} {s store tree store' tree' : List ℕ} {st : State} {o : Out} {r : Result State Stopped} → Left limit n store tree store' tree' st o
    → n ≤ length s → Replies st o r → Filled limit s store tree store' tree' st o r
filled_of h l e = record { says = e; short = omega (arith, h.short); most = h.most; store_is = h.store_is; tree_is = h.tree_is }

pub tight : {limit n m : ℕ} {store tree store' tree' : List ℕ} {st : State} {o : Out} → Left limit n store tree store' tree' st o → length o.bytes ≤ m
    → Left limit m store tree store' tree' st o
tight h l = record { short = l; most = h.most; store_is = h.store_is; tree_is = h.tree_is }

-- of a longer text
pub wider : {limit : ℕ} {s t store tree store' tree' : List ℕ} {st : State} {o : Out} {r : Result State Stopped} → Filled limit s store tree store' tree' st o r
    → length s ≤ length t → Filled limit t store tree store' tree' st o r
wider h l = record { says = h.says; short = omega (arith, h.short); most = h.most; store_is = h.store_is; tree_is = h.tree_is }

-- nothing is added
pub left_none : (limit n : ℕ) (store tree : List ℕ) (st : State) (f : ℕ) → st.made ≤ limit
    → Left limit n store tree store tree st (record { fault = f; bytes = []; slots = [] })
left_none limit n store tree st f m = record {
  short = omega arith;
  most = omega arith;
  store_is = sym (stored_nil store st.used);
  tree_is = sym (stored_nil tree (32 * st.made));
}

-- values alone are added
pub left_made : {limit n : ℕ} {store tree tree' : List ℕ} {st : State} {o : Out} {r : Result State Stopped} → Made limit tree tree' st o r → Left limit n store tree store tree' st o
left_made {limit} {n} {store} {tree} {tree'} {st} {o} h = record {
  short = rw h.none (omega arith);
  most = h.most;
  store_is = rw h.none (sym (stored_nil store st.used));
  tree_is = h.tree_is;
}

module _ {limit n : ℕ} {store tree store' tree' : List ℕ} {st : State} {o : Out} (h : Left limit n store tree store' tree' st o) where
  pub same_store : st.used + n ≤ length store → length store' ≡ length store
  same_store l = ap length h.store_is ∙ length_stored store st.used o.bytes (omega (arith, h.short))

  pub same_tree : 32 * limit ≤ length tree → length tree' ≡ length tree
  same_tree l = ap length h.tree_is ∙ length_stored tree (32 * st.made) (cells o.slots) (omega (arith, h.most, length_cells o.slots))

pub then_left : {limit n m : ℕ} {store tree store₁ tree₁ store₂ tree₂ : List ℕ} {st : State} {o p : Out} → Left limit n store tree store₁ tree₁ st o
    → Left limit m store₁ tree₁ store₂ tree₂ (moved st o) p → st.used ≤ length store → 32 * limit ≤ length tree
    → Left limit (n + m) store tree store₂ tree₂ st (join o p)
then_left {limit} {n} {m} {store} {tree} {store₁} {tree₁} {store₂} {tree₂} {st} {o} {p} h k used made = record {
  short = omega (arith, length-append o.bytes p.bytes, h.short, k.short);
  most = omega (arith, length-append o.slots p.slots, k.most);
  store_is = k.store_is ∙ ap (λ (l : List ℕ). stored l (st.used + length o.bytes) p.bytes) h.store_is
      ∙ stored_then store st.used o.bytes p.bytes (st.used + length o.bytes) used refl;
  tree_is = k.tree_is ∙ ap (λ (l : List ℕ). stored l (32 * (st.made + length o.slots)) (cells p.slots)) h.tree_is
      ∙ stored_then tree (32 * st.made) (cells o.slots) (cells p.slots) (32 * (st.made + length o.slots)) (omega (arith, h.most)) (omega (arith, length_cells o.slots))
      ∙ ap (stored tree (32 * st.made)) (sym (cells_append o.slots p.slots));
}

-- ---- a refusal and nothing else
pub made_fault : (limit : ℕ) (tree : List ℕ) (st : State) (f : Refused) → st.made ≤ limit → Made limit tree tree st (wrong (number f) []) (stop f st)
made_fault limit tree st f m = record {
  says = record { fault = refl; there = sym (moved_none st (number f)) };
  none = refl;
  most = omega arith;
  tree_is = sym (stored_nil tree (32 * st.made));
}

pub filled_fault : (limit : ℕ) (s store tree : List ℕ) (st : State) (f : Refused) → st.made ≤ limit
    → Filled limit s store tree store tree st (wrong (number f) []) (stop f st)
filled_fault limit s store tree st f m =
    filled_of (left_none limit (length s) store tree st (number f) m) (omega arith) (record { fault = refl; there = sym (moved_none st (number f)) })
