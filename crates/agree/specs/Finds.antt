-- The tree of 01 along paths: what stands there, and that a value set at a path changes what stands there and under it, and nothing else.
use Rattle.std.specs.Prelude.{ℕ, zero, suc, ◌≤◌, ◌<◌, List, [], ◌∷◌, ◌++◌, true, false, ◌≡◌, refl, ◌⊎◌}
use Rattle.std.proofs.Math.Option.{Option, none, some}
use Rattle.std.proofs.Common.{sym, ap, ◌∙◌, inl, inr, ⊎_elim, arith}
use Rattle.meaning.specs.Base.{same}
use Rattle.meaning.specs.Tree.{Value, Items, Table, str, int, boolean, array, table, none', item, empty, entry, lookup, insert, snoc, count, read_as}
use Rattle.laws.specs.Cases.{on, never}
use Rattle.laws.specs.Never.{same_refl, lookup_insert}
use Rattle.laws.specs.Order.{lookup_other}
use Rattle.agree.specs.Key.{Key, name, index}
use Rattle.agree.specs.Paths.{same_path, below, paths_eq, eq_paths, Beyond, beyond}

abbrev pub nth : Items → ℕ → Option Value
nth none' i = none
nth (item v is) zero = some v
nth (item v is) (suc i) = nth is i

-- what stands under a value
abbrev pub get : Value → Key → Option Value
get (str s) k = none
get (int i) k = none
get (boolean b) k = none
get (array a) (name k) = none
get (array a) (index i) = nth a i
get (table t) (name k) = lookup t k
get (table t) (index i) = none

-- what stands at a path, innermost key first
abbrev pub find : Option Value → List Key → Option Value
find o [] = o
find o (k ∷ q) = read_as (λ v. get v k) (find o q)

abbrev pub set_item : Items → ℕ → Value → Items
set_item none' i u = item u none'
set_item (item v is) zero u = item u is
set_item (item v is) (suc i) u = item v (set_item is i u)

abbrev pub put_v : Value → Key → Value → Value
put_v (str s) k u = u
put_v (int i) k u = u
put_v (boolean b) k u = u
put_v (array a) (name k) u = u
put_v (array a) (index i) u = array (set_item a i u)
put_v (table t) (name k) u = table (insert t k u)
put_v (table t) (index i) u = u

abbrev pub put : Option Value → Key → Value → Value
put none k u = u
put (some v) k u = put_v v k u

-- u in the place of what x has at the path
abbrev pub set_at : Value → List Key → Value → Value
set_at x [] u = u
set_at x (k ∷ p) u = set_at x p (put (find (some x) p) k u)

-- a table takes a name, an array a place up to its end
abbrev pub TakesV : Value → Key → Type 0
TakesV (str s) k = ⊥
TakesV (int i) k = ⊥
TakesV (boolean b) k = ⊥
TakesV (array a) (name k) = ⊥
TakesV (array a) (index i) = i ≤ count a
TakesV (table t) (name k) = Unit {0}
TakesV (table t) (index i) = ⊥

abbrev pub Takes : Option Value → Key → Type 0
Takes none k = ⊥
Takes (some v) k = TakesV v k

-- a value without what stands under it
abbrev pub head : Value → Value
head (str s) = str s
head (int i) = int i
head (boolean b) = boolean b
head (array a) = array none'
head (table t) = table empty

abbrev pub heads : Option Value → Option Value
heads none = none
heads (some v) = some (head v)

abbrev pub Way : Value → List Key → Type 0
Way x [] = Unit {0}
Way x (k ∷ p) = Takes (find (some x) p) k

-- ---- items

pub nth_set : (a : Items) (i : ℕ) (u : Value) → i ≤ count a → nth (set_item a i u) i ≡ some u
nth_set none' zero u l = refl
nth_set none' (suc i) u l = absurd (omega arith)
nth_set (item v is) zero u l = refl
nth_set (item v is) (suc i) u l = nth_set is i u (omega arith)

nth_other : (a : Items) (i j : ℕ) (u : Value) → i ≤ count a → (i ≡ j → ⊥) → nth (set_item a i u) j ≡ nth a j
nth_other none' zero zero u l d = absurd (d refl)
nth_other none' zero (suc j) u l d = refl
nth_other none' (suc i) j u l d = absurd (omega arith)
nth_other (item v is) zero zero u l d = absurd (d refl)
nth_other (item v is) zero (suc j) u l d = refl
nth_other (item v is) (suc i) zero u l d = refl
nth_other (item v is) (suc i) (suc j) u l d = nth_other is i j u (omega arith) (λ e. d (ap suc e))

set_again : (a : Items) (i : ℕ) (u w : Value) → i ≤ count a → set_item (set_item a i u) i w ≡ set_item a i w
set_again none' zero u w l = refl
set_again none' (suc i) u w l = absurd (omega arith)
set_again (item v is) zero u w l = refl
set_again (item v is) (suc i) u w l = ap (item v) (set_again is i u w (omega arith))

set_nth : (a : Items) (i : ℕ) (u : Value) → nth a i ≡ some u → set_item a i u ≡ a
set_nth none' i u e = cc
set_nth (item v is) zero u e = cc
set_nth (item v is) (suc i) u e = ap (item v) (set_nth is i u e)

pub nth_below : (a : Items) (i : ℕ) (u : Value) → nth a i ≡ some u → i < count a
nth_below none' i u e = let z : ◌≡◌ {A = ℕ} 0 1 = cc in absurd (omega arith)
nth_below (item v is) zero u e = omega arith
nth_below (item v is) (suc i) u e = omega (arith, nth_below is i u e)

pub nth_beyond : (a : Items) (i : ℕ) → count a ≤ i → nth a i ≡ none
nth_beyond none' i l = refl
nth_beyond (item v is) zero l = absurd (omega arith)
nth_beyond (item v is) (suc i) l = nth_beyond is i (omega arith)

pub count_set : (a : Items) (i : ℕ) (u : Value) → i < count a → count (set_item a i u) ≡ count a
count_set none' i u l = absurd (omega arith)
count_set (item v is) zero u l = refl
count_set (item v is) (suc i) u l = ap suc (count_set is i u (omega arith))

pub snoc_set : (a : Items) (u : Value) → set_item a (count a) u ≡ snoc a u
snoc_set none' u = refl
snoc_set (item v is) u = ap (item v) (snoc_set is u)

pub count_snoc : (a : Items) (u : Value) → count (snoc a u) ≡ suc (count a)
count_snoc none' u = refl
count_snoc (item v is) u = ap suc (count_snoc is u)

-- ---- tables

insert_again : (t : Table) (k : List ℕ) (u w : Value) → insert (insert t k u) k w ≡ insert t k w
insert_again empty k u w = rw (same_refl k)
insert_again (entry j v t) k u w = on (same j k) (λ e. rw (e, e)) (λ e. rw (e, e, insert_again t k u w))

insert_same : (t : Table) (k : List ℕ) (u : Value) → lookup t k ≡ some u → insert t k u ≡ t
insert_same empty k u e = let z : ◌≡◌ {A = ℕ} 0 1 = cc in absurd (omega arith)
insert_same (entry j v t) k u e =
    on (same j k)
    (λ f. let g : some v ≡ some u = rw f at e in let h : v ≡ u = cc in rw (f, h))
    (λ f. let g : lookup t k ≡ some u = rw f at e in rw (f, insert_same t k u g))

-- ---- one step

get_put : (v : Value) (k : Key) (u : Value) → TakesV v k → get (put_v v k u) k ≡ some u
get_put (str s) k u h = absurd h
get_put (int i) k u h = absurd h
get_put (boolean b) k u h = absurd h
get_put (array a) (name k) u h = absurd h
get_put (array a) (index i) u h = nth_set a i u h
get_put (table t) (name k) u h = lookup_insert t k u
get_put (table t) (index i) u h = absurd h

get_other : (v : Value) (k m : Key) (u : Value) → TakesV v k → (k ≡ m → ⊥) → get (put_v v k u) m ≡ get v m
get_other (str s) k m u h d = absurd h
get_other (int i) k m u h d = absurd h
get_other (boolean b) k m u h d = absurd h
get_other (array a) (name k) m u h d = absurd h
get_other (array a) (index i) (name m) u h d = refl
get_other (array a) (index i) (index j) u h d = nth_other a i j u h (λ e. d (ap index e))
get_other (table t) (name k) (name m) u h d = lookup_other t k m u (λ e. d (ap name e))
get_other (table t) (name k) (index j) u h d = refl
get_other (table t) (index i) m u h d = absurd h

head_put : (v : Value) (k : Key) (u : Value) → TakesV v k → head (put_v v k u) ≡ head v
head_put (str s) k u h = absurd h
head_put (int i) k u h = absurd h
head_put (boolean b) k u h = absurd h
head_put (array a) (name k) u h = absurd h
head_put (array a) (index i) u h = refl
head_put (table t) (name k) u h = refl
head_put (table t) (index i) u h = absurd h

put_again : (v : Value) (k : Key) (u w : Value) → TakesV v k → put_v (put_v v k u) k w ≡ put_v v k w
put_again (str s) k u w h = absurd h
put_again (int i) k u w h = absurd h
put_again (boolean b) k u w h = absurd h
put_again (array a) (name k) u w h = absurd h
put_again (array a) (index i) u w h = ap array (set_again a i u w h)
put_again (table t) (name k) u w h = ap table (insert_again t k u w)
put_again (table t) (index i) u w h = absurd h

no_value : {G : Type 0} (u : Value) → none ≡ some u → G
no_value u e = let z : ◌≡◌ {A = ℕ} 0 1 = cc in absurd (omega arith)

put_same : (v : Value) (k : Key) (u : Value) → get v k ≡ some u → put_v v k u ≡ v
put_same (str s) k u e = no_value u e
put_same (int i) k u e = no_value u e
put_same (boolean b) k u e = no_value u e
put_same (array a) (name k) u e = no_value u e
put_same (array a) (index i) u e = ap array (set_nth a i u e)
put_same (table t) (name k) u e = ap table (insert_same t k u e)
put_same (table t) (index i) u e = no_value u e

get_takes : (v : Value) (k : Key) (u : Value) → get v k ≡ some u → TakesV v k
get_takes (str s) k u e = no_value u e
get_takes (int i) k u e = no_value u e
get_takes (boolean b) k u e = no_value u e
get_takes (array a) (name k) u e = no_value u e
get_takes (array a) (index i) u e = omega (arith, nth_below a i u e)
get_takes (table t) (name k) u e = tt
get_takes (table t) (index i) u e = no_value u e

-- ---- along a path

pub record From (o : Option Value) (k : Key) (u : Value) : Type 0 where
  pub it : Value
  pub is : o ≡ some it
  pub has : get it k ≡ some u

pub from : (o : Option Value) (k : Key) (u : Value) → read_as (λ v. get v k) o ≡ some u → From o k u
from none k u e = no_value u e
from (some v) k u e = record { it = v; is = refl; has = e }

-- what has something under it takes its key
above : (o : Option Value) (i k : Key) → Takes (read_as (λ v. get v i) o) k → Takes o i
above none i k h = h
above (some v) i k h = go (get v i) refl h
  where
    go : (g : Option Value) → get v i ≡ g → Takes g k → TakesV v i
    go none e t = absurd t
    go (some u) e t = get_takes v i u e

up : (x : Value) (p : List Key) (k : Key) → Takes (find (some x) p) k → Way x p
up x [] k h = tt
up x (i ∷ p) k h = above (find (some x) p) i k h

module _ (k : Key) (u : Value) where
  got_put : (o : Option Value) → Takes o k → get (put o k u) k ≡ some u
  got_put none h = absurd h
  got_put (some v) h = get_put v k u h

  got_other : (o : Option Value) (m : Key) → Takes o k → (k ≡ m → ⊥) → get (put o k u) m ≡ read_as (λ v. get v m) o
  got_other none m h d = absurd h
  got_other (some v) m h d = get_other v k m u h d

  heads_put : (o : Option Value) → Takes o k → some (head (put o k u)) ≡ heads o
  heads_put none h = absurd h
  heads_put (some v) h = ap some (head_put v k u h)

  puts_again : (o : Option Value) (w : Value) → Takes o k → put_v (put o k u) k w ≡ put o k w
  puts_again none w h = absurd h
  puts_again (some v) w h = put_again v k u w h

pub at : (h : List Key) (x u : Value) → Way x h → find (some (set_at x h u)) h ≡ some u
at [] x u w = refl
at (i ∷ p) x u w = rw (at p x (put (find (some x) p) i u) (up x p i w)) (got_put i u (find (some x) p) w)

pub find_split : (o : Option Value) (r h : List Key) → find o (r ++ h) ≡ find (find o h) r
find_split o [] h = refl
find_split o (j ∷ r) h = ap (read_as (λ v. get v j)) (find_split o r h)

-- under p is p itself, or a child of p and what is under that
split : (p q : List Key) → below p q ≡ true → (q ≡ p) ⊎ ((m : Key) × (below (m ∷ p) q ≡ true))
split p [] b = inl (paths_eq [] p b)
split p (j ∷ q) b =
    on (same_path (j ∷ q) p) (λ s. inl (paths_eq (j ∷ q) p s))
    (λ s. ⊎_elim (λ e. inr (j, rw (eq_paths (j ∷ q) (j ∷ p) (ap (λ (r : List Key). j ∷ r) e))))
    (λ w. inr (w.0, on (same_path (j ∷ q) (w.0 ∷ p)) (λ f. rw f) (λ f. rw f w.1)))
    (split p q (rw s at b)))

all_below : (q : List Key) → below [] q ≡ true
all_below [] = refl
all_below (j ∷ q) = all_below q

-- elsewhere the values are what they were, but for what stands under them
pub elsewhere : (h : List Key) (x u : Value) → Way x h → (q : List Key) → below h q ≡ false → heads (find (some (set_at x h u)) q) ≡ heads (find (some x) q)
elsewhere [] x u w q b = never (all_below q) b
elsewhere (i ∷ p) x u w q b =
    let y : Value = put (find (some x) p) i u in
    on (below p q)
    (λ c. ⊎_elim
    (λ (e : q ≡ p). ap (λ (r : List Key). heads (find (some (set_at x (i ∷ p) u)) r)) e ∙ ap heads (at p x y (up x p i w)) ∙ heads_put i u (find (some x) p) w
    ∙ ap (λ (r : List Key). heads (find (some x) r)) (sym e))
    (λ (m : (m : Key) × (below (m ∷ p) q ≡ true)). ap heads (beside p i x u w q m.0 m.1 (λ e. never (rw e m.1) b)))
    (split p q c))
    (elsewhere p x y (up x p i w) q)
  where
    beside : (p : List Key) (i : Key) (x u : Value) → Takes (find (some x) p) i → (q : List Key) (m : Key) → below (m ∷ p) q ≡ true → (i ≡ m → ⊥)
        → find (some (set_at x (i ∷ p) u)) q ≡ find (some x) q
    beside p i x u w q m c d =
        let z : Beyond (m ∷ p) q = beyond (m ∷ p) q c in
        let y : Value = put (find (some x) p) i u in
        let e : find (some (set_at x p y)) (m ∷ p) ≡ find (some x) (m ∷ p) =
        ap (read_as (λ v. get v m)) (at p x y (up x p i w)) ∙ got_other i u (find (some x) p) m w d in
        ap (find (some (set_at x p y))) z.is ∙ find_split (some (set_at x p y)) z.rest (m ∷ p) ∙ ap (λ (o : Option Value). find o z.rest) e
        ∙ sym (find_split (some x) z.rest (m ∷ p)) ∙ ap (find (some x)) (sym z.is)

-- at and under the path stands the value that was set
pub there : (h : List Key) (x u : Value) → Way x h → (r : List Key) → find (some (set_at x h u)) (r ++ h) ≡ find (some u) r
there h x u w r = find_split (some (set_at x h u)) r h ∙ ap (λ (o : Option Value). find o r) (at h x u w)

pub set_set : (h : List Key) (x u v : Value) → Way x h → set_at (set_at x h u) h v ≡ set_at x h v
set_set [] x u v w = refl
set_set (i ∷ p) x u v w =
    let y : Value = put (find (some x) p) i u in
    let e : put (find (some (set_at x p y)) p) i v ≡ put (find (some x) p) i v =
    ap (λ (o : Option Value). put o i v) (at p x y (up x p i w)) ∙ puts_again i u (find (some x) p) v w in
    ap (set_at (set_at x p y) p) e ∙ set_set p x y (put (find (some x) p) i v) (up x p i w)

pub set_same : (h : List Key) (x u : Value) → find (some x) h ≡ some u → set_at x h u ≡ x
set_same [] x u e = cc
set_same (i ∷ p) x u e =
    let f : From (find (some x) p) i u = from (find (some x) p) i u e in
    let g : put (find (some x) p) i u ≡ f.it = ap (λ (o : Option Value). put o i u) f.is ∙ put_same f.it i u f.has in
    ap (set_at x p) g ∙ set_same p x f.it f.is

-- what stands at a path has a way to it
pub way : (h : List Key) (x u : Value) → find (some x) h ≡ some u → Way x h
way [] x u e = tt
way (i ∷ p) x u e = let f : From (find (some x) p) i u = from (find (some x) p) i u e in rw f.is (get_takes f.it i u f.has)
