-- The log shows the tree of 01: along every path of keys and item places both have nothing, or a slot that shows the value.
use Rattle.std.specs.Prelude.{ℕ, zero, suc, ◌+◌, List, [], ◌∷◌, ◌++◌, false, ◌≡◌, refl}
use Rattle.std.proofs.Math.Option.{Option, none, some}
use Rattle.std.proofs.Common.{sym, ap, subst, arith}
use Rattle.meaning.specs.Tree.{Value, str, int, boolean, array, table, none', empty}
use Rattle.laws.specs.Cases.{on}
use Rattle.tree.specs.declared.Slot.{Slot}
use Rattle.agree.specs.Key.{Key, name, index}
use Rattle.agree.specs.Paths.{below, Beyond, beyond}
use Rattle.agree.specs.Log.{Log, kind_at, test, child, walk, top_none, test_parent, unreached, child_nothing, Hung, walk_else, walk_new}
use Rattle.agree.specs.Finds.{get, find, set_at, Takes, head, heads, elsewhere, there}
use Rattle.agree.specs.Meets.{Meets, Shown, Shows, Under, slot_of}

pub kind_of_lem : (a : Log) (p : ℕ) → (slot_of a p).kind ≡ kind_at a p
kind_of_lem a zero = refl
kind_of_lem a (suc zero) = refl
kind_of_lem a (suc (suc n)) = refl

to_head : (bytes : List ℕ) (v : Slot) (w : Value) → Shows bytes v w → Shows bytes v (head w)
to_head bytes v (str s) h = h
to_head bytes v (int i) h = h
to_head bytes v (boolean b) h = h
to_head bytes v (array a) h = h
to_head bytes v (table t) h = h

of_head : (bytes : List ℕ) (v : Slot) (w : Value) → Shows bytes v (head w) → Shows bytes v w
of_head bytes v (str s) h = h
of_head bytes v (int i) h = h
of_head bytes v (boolean b) h = h
of_head bytes v (array a) h = h
of_head bytes v (table t) h = h

none_some : {G : Type 0} (v : Value) → none ≡ some v → G
none_some v e = let z : ◌≡◌ {A = ℕ} 0 1 = cc in absurd (omega arith)

-- only the heads count
pub meets_heads : (bytes : List ℕ) (a : Log) (p : ℕ) (o r : Option Value) → heads o ≡ heads r → Meets bytes a p o → Meets bytes a p r
meets_heads bytes a p none none e h = h
meets_heads bytes a p none (some w) e h = none_some (head w) e
meets_heads bytes a p (some v) none e h = none_some (head v) (sym e)
meets_heads bytes a p (some v) (some w) e h =
    let d : head v ≡ head w = cc in
    (h.0, of_head bytes (slot_of a p) w (subst (λ (u : Value). Shows bytes (slot_of a p) u) d (to_head bytes (slot_of a p) v h.1)))

-- and what stands at the place
pub meets_slot : (bytes : List ℕ) (a b : Log) (p : ℕ) (o : Option Value) → slot_of b p ≡ slot_of a p → Meets bytes a p o → Meets bytes b p o
meets_slot bytes a b p none e h = h
meets_slot bytes a b p (some v) e h = (h.0, subst (λ (w : Slot). Shows bytes w v) (sym e) h.1)

slot_same : (bytes : List ℕ) (a b : Log) (n p : ℕ) (k : Key) → Hung bytes a b n p k → (q : ℕ) → (q ≡ n + 2 → ⊥) → slot_of b q ≡ slot_of a q
slot_same bytes a b n p k h zero d = refl
slot_same bytes a b n p k h (suc zero) d = refl
slot_same bytes a b n p k h (suc (suc m)) d = h.others m (λ e. d (omega arith))

-- one value more in the log is a value set in the tree
pub shown_hung : (bytes : List ℕ) (a b : Log) (n p : ℕ) (k : Key) (g : List Key) (x u : Value) → Shown bytes a x → Hung bytes a b n p k
    → walk bytes a 1 g ≡ p → Takes (find (some x) g) k → Under bytes b n u → Shown bytes b (set_at x (k ∷ g) u)
shown_hung bytes a b n p k g x u s h at w v q =
    on (below (k ∷ g) q)
    (λ c. let z : Beyond (k ∷ g) q = beyond (k ∷ g) q c in
    subst (λ (y : List Key). Meets bytes b (walk bytes b 1 y) (find (some (set_at x (k ∷ g) u)) y)) (sym z.is) (new z.rest))
    (λ c. subst (λ (y : ℕ). Meets bytes b y (find (some (set_at x (k ∷ g) u)) q)) (sym (walk_else bytes a b n p k h g at q c)) (old c))
  where
    new : (r : List Key) → Meets bytes b (walk bytes b 1 (r ++ (k ∷ g))) (find (some (set_at x (k ∷ g) u)) (r ++ (k ∷ g)))
    new r = rw (walk_new bytes a b n p k h g at r, there (k ∷ g) x u w r) (v r)

    old : below (k ∷ g) q ≡ false → Meets bytes b (walk bytes a 1 q) (find (some (set_at x (k ∷ g) u)) q)
    old c =
        meets_heads bytes b (walk bytes a 1 q) (find (some x) q) (find (some (set_at x (k ∷ g) u)) q) (sym (elsewhere (k ∷ g) x u w q c))
        (meets_slot bytes a b (walk bytes a 1 q) (find (some x) q) (slot_same bytes a b n p k h (walk bytes a 1 q) (unreached bytes a n h.free q)) (s q))

-- ---- a value with nothing under it

pub child_bare : (bytes : List ℕ) (b : Log) (p : ℕ) (j : Key) → ((m : ℕ) → (b.at m).parent ≡ p → ⊥) → child bytes b p j ≡ 0
child_bare bytes b p j d =
    top_none (test bytes b p j) b.size
    (λ m l. on (test bytes b p j m) (λ t. absurd (d m (test_parent bytes b p j m t))) (λ t. t))

module _ (bytes : List ℕ) (b : Log) (n : ℕ) (u : Value) (no : (m : ℕ) → (b.at m).parent ≡ n + 2 → ⊥) where
  pub walk_bare : (r : List Key) (j : Key) → walk bytes b (n + 2) (j ∷ r) ≡ 0
  walk_bare [] j = child_bare bytes b (n + 2) j no
  walk_bare (i ∷ r) j = rw (walk_bare r i) (child_nothing bytes b j)

  find_bare : ((j : Key) → get u j ≡ none) → (r : List Key) (j : Key) → find (some u) (j ∷ r) ≡ none
  find_bare e [] j = e j
  find_bare e (i ∷ r) j = rw (find_bare e r i)

  slot_at : slot_of b (n + 2) ≡ b.at n
  slot_at = let e : n + 2 ≡ suc (suc n) = omega arith in ap (slot_of b) e

  pub under_bare : ((j : Key) → get u j ≡ none) → Shows bytes (b.at n) u → Under bytes b n u
  under_bare e s [] = (omega arith, subst (λ (v : Slot). Shows bytes v u) (sym slot_at) s)
  under_bare e s (j ∷ r) = rw (walk_bare r j, find_bare e r j)

pub bare_table : (j : Key) → get (table empty) j ≡ none
bare_table (name k) = refl
bare_table (index i) = refl

pub bare_array : (j : Key) → get (array none') j ≡ none
bare_array (name k) = refl
bare_array (index i) = refl
