-- "Assignments go under the last header": the path of the last header, and that navigating along it again and again comes to its table.
use Rattle.std.specs.Prelude.{ℕ, zero, suc, List, [], ◌∷◌, ◌≡◌, refl}
use Rattle.std.proofs.Math.Option.{Option, none, some}
use Rattle.std.proofs.Common.{sym, ap, ◌∙◌, arith}
use Rattle.meaning.specs.Reading.{Grown, grown, stuck, grow_then, grow_map}
use Rattle.meaning.specs.Tree.{Value, Items, Table, str, int, boolean, array, table, none', item, read_as, lookup, insert, count as many, with_table, Grow, along_path, to_last_segment, must_exist, in_last_item, at_last_item}
use Rattle.meaning.specs.Document.{Under, tables, arrays, under_header}
use Rattle.agree.specs.Key.{Key, name, index}
use Rattle.agree.specs.Finds.{get, find, put, set_at, set_item, nth, nth_below, count_set, at, way, From, from}
use Rattle.agree.specs.Down.{onto, graft}
use Rattle.agree.proofs.Down.{graft_hang}
use Rattle.agree.specs.Here.{Held, init, last}

pub onto_last : (g : List Key) (k : List ℕ) (ks : List (List ℕ)) → onto g (k ∷ ks) ≡ name (last k ks) ∷ onto g (init k ks)
onto_last g k [] = refl
onto_last g k (j ∷ ks) = onto_last (name k ∷ g) j ks

pub to_last_is : (step : Option Value → Grow Table) (f : List ℕ → Table → Grow Table) (k : List ℕ) (ks : List (List ℕ)) (t : Table) (m : ℕ)
    → to_last_segment step f (k ∷ ks) t m ≡ along_path step (f (last k ks)) (init k ks) t m
to_last_is step f k [] t m = refl
to_last_is step f k (j ∷ ks) t m = go (step (lookup t k) m) (λ u n. to_last_is step f j ks u n)
  where
    go : (r : Grown Table) → ((u : Table) (n : ℕ) → to_last_segment step f (j ∷ ks) u n ≡ along_path step (f (last j ks)) (init j ks) u n)
        → grow_then r (λ u n. grow_map (with_table t k) (to_last_segment step f (j ∷ ks) u n)) ≡ grow_then r (λ u n. grow_map (with_table t k) (along_path step (f (last j ks)) (init j ks) u n))
    go (grown u n) h = ap (grow_map (with_table t k)) (h u n)
    go (stuck e) h = refl

-- ---- tables that are there

no_value : {G : Type 0} (u : Value) → none ≡ some u → G
no_value u e = let z : ◌≡◌ {A = ℕ} 0 1 = cc in absurd (omega arith)

named : (v : Value) (k : List ℕ) (u : Value) → get v (name k) ≡ some u → (t : Table) × (v ≡ table t)
named (str s) k u e = no_value u e
named (int i) k u e = no_value u e
named (boolean b) k u e = no_value u e
named (array a) k u e = no_value u e
named (table t) k u e = (t, refl)

-- what stands under a name stands under a table
pub over_table : (x : Value) (q : List Key) (k : List ℕ) (u : Value) → find (some x) (name k ∷ q) ≡ some u → (t : Table) × (find (some x) q ≡ some (table t))
over_table x q k u e =
    let f : From (find (some x) q) (name k) u = from (find (some x) q) (name k) u e in
    let n = named f.it k u f.has in
    (n.0, f.is ∙ ap some n.1)

onto_table : (x : Value) (ks : List (List ℕ)) (q : List Key) (u : Table) → find (some x) (onto q ks) ≡ some (table u) → (t : Table) × (find (some x) q ≡ some (table t))
onto_table x [] q u e = (u, e)
onto_table x (k ∷ ks) q u e =
    let w = onto_table x ks (name k ∷ q) u e in
    over_table x q k (table w.0) w.1

down_known : (x : Value) (f : Table → Grow Table) (ks : List (List ℕ)) (q : List Key) (t u : Table) (m : ℕ) → find (some x) q ≡ some (table t)
    → find (some x) (onto q ks) ≡ some (table u) → graft x q (along_path must_exist f ks t m) ≡ graft x (onto q ks) (f u m)
unfolding must_exist
down_known x f [] q t u m e d =
    let z : t ≡ u = cc in rw z
down_known x f (k ∷ ks) q t u m e d =
    let w = onto_table x ks (name k ∷ q) u d in
    let l : lookup t k ≡ some (table w.0) = sym (ap (read_as (λ v. get v (name k))) e) ∙ w.1 in
    rw l (graft_hang x q t k (along_path must_exist f ks w.0 m) e ∙ down_known x f ks (name k ∷ q) w.0 u m w.1 d)

-- ---- the last item of an array

turn_turn : {X Y Z : Type 0} (f : Y → Z) (g : X → Y) (r : Grown X) → grow_map f (grow_map g r) ≡ grow_map (λ x. f (g x)) r
turn_turn f g (grown x m) = refl
turn_turn f g (stuck e) = refl

in_last_is : (f : Table → Grow Table) (a : Items) (i : ℕ) (u : Table) (m : ℕ) → suc i ≡ many a → nth a i ≡ some (table u)
    → in_last_item f a m ≡ grow_map (λ w. set_item a i (table w)) (f u m)
in_last_is f none' i u m c e = no_value (table u) e
in_last_is f (item v none') zero u m c e = let z : v ≡ table u = cc in rw z (turn_turn (λ w. item w none') table (f u m))
in_last_is f (item v none') (suc i) u m c e = no_value (table u) e
in_last_is f (item v (item w is)) zero u m c e = absurd (omega arith)
in_last_is f (item v (item w is)) (suc i) u m c e =
    ap (grow_map (item v)) (in_last_is f (item w is) i u m (omega arith) e) ∙ turn_turn (item v) (λ y. set_item (item w is) i (table y)) (f u m)

graft_item : (x : Value) (q : List Key) (w : Table) (k : List ℕ) (a : Items) (i : ℕ) (r : Grown Table) → find (some x) q ≡ some (table w)
    → find (some x) (name k ∷ q) ≡ some (array a) → graft x q (grow_map (λ b. insert w k (array b)) (grow_map (λ v. set_item a i (table v)) r)) ≡ graft x (index i ∷ name k ∷ q) r
graft_item x q w k a i (grown v m) e d =
    ap (λ (o : Option Value). grown (set_at x q (put o (name k) (array (set_item a i (table v))))) m) (sym e)
    ∙ ap (λ (o : Option Value). grown (set_at x (name k ∷ q) (put o (index i) (table v))) m) (sym d)
graft_item x q w k a i (stuck f) e d = refl

under_last_is : (x : Value) (f : Table → Grow Table) (q : List Key) (w : Table) (k : List ℕ) (a : Items) (i : ℕ) (u : Table) (m : ℕ) → find (some x) q ≡ some (table w)
    → find (some x) (name k ∷ q) ≡ some (array a) → suc i ≡ many a → nth a i ≡ some (table u) → graft x q (at_last_item f k w m) ≡ graft x (index i ∷ name k ∷ q) (f u m)
under_last_is x f q w k a i u m e d c n =
    let l : lookup w k ≡ some (array a) = sym (ap (read_as (λ v. get v (name k))) e) ∙ d in
    rw (l, in_last_is f a i u m c n) (graft_item x q w k a i (f u m) e d)

-- navigating to the last header's table, by its path h
pub here_is : (root : Table) (u : Under) (h : List Key) (t : Table) → Held (table root) u h → find (some (table root)) h ≡ some (table t)
    → (f : Table → Grow Table) (m : ℕ) → graft (table root) [] (under_header u f root m) ≡ graft (table root) h (f t m)
here_is root (tables p) h t e d f m =
    down_known (table root) f p [] root t m refl (ap (find (some (table root))) (sym e) ∙ d) ∙ ap (λ (q : List Key). graft (table root) q (f t m)) (sym e)
here_is root (arrays []) h t e d f m =
    let z : table root ≡ array e.items = cc e.found in let y : ◌≡◌ {A = ℕ} 0 1 = cc in absurd (omega arith)
here_is root (arrays (k ∷ ks)) h t e d f m =
    let x : Value = table root in
    let q : List Key = onto [] (init k ks) in
    let l : onto [] (k ∷ ks) ≡ name (last k ks) ∷ q = onto_last [] k ks in
    let b : find (some x) (name (last k ks) ∷ q) ≡ some (array e.items) = ap (find (some x)) (sym l) ∙ e.found in
    let w = over_table x q (last k ks) (array e.items) b in
    let y : h ≡ index e.i ∷ name (last k ks) ∷ q = e.is ∙ ap (λ (r : List Key). index e.i ∷ r) l in
    let c : nth e.items e.i ≡ some (table t) = sym (ap (read_as (λ v. get v (index e.i))) b) ∙ ap (find (some x)) (sym y) ∙ d in
    ap (graft x []) (to_last_is must_exist (at_last_item f) k ks root m)
    ∙ down_known x (at_last_item f (last k ks)) (init k ks) [] root w.0 m refl w.1
    ∙ under_last_is x f q w.0 (last k ks) e.items e.i t m w.1 b e.last_one c
    ∙ ap (λ (r : List Key). graft x r (f t m)) (sym y)

-- what is set at the path keeps the path
pub held_set : (x : Value) (u : Under) (h : List Key) (t w : Table) → Held x u h → find (some x) h ≡ some (table t) → Held (set_at x h (table w)) u h
held_set x (tables p) h t w e d = e
held_set x (arrays p) h t w e d =
    let q : List Key = onto [] p in
    let c : nth e.items e.i ≡ some (table t) = sym (ap (read_as (λ v. get v (index e.i))) e.found) ∙ ap (find (some x)) (sym e.is) ∙ d in
    let y : set_at x h (table w) ≡ set_at x q (array (set_item e.items e.i (table w))) =
    ap (λ (r : List Key). set_at x r (table w)) e.is ∙ ap (λ (o : Option Value). set_at x q (put o (index e.i) (table w))) e.found in
    record {
      items = set_item e.items e.i (table w);
      i = e.i;
      is = e.is;
      found = ap (λ (z : Value). find (some z) q) y ∙ at q x (array (set_item e.items e.i (table w))) (way q x (array e.items) e.found);
      last_one = e.last_one ∙ sym (count_set e.items e.i (table w) (nth_below e.items e.i (table t) c));
    }
