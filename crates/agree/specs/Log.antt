-- The values of the tree room as a log: what stands at each number, the way from a place along a path, and that a place reached has one path.
-- Places: 0 nothing, 1 the root, n + 2 value number n. A path is written innermost key first.
use Rattle.std.specs.Prelude.{ℕ, zero, suc, ◌+◌, ◌≤◌, ◌<◌, List, [], ◌∷◌, ◌++◌, Bool, true, false, ◌≡◌, refl, eqb, leb, length}
use Rattle.std.proofs.Math.Path.{sym}
use Rattle.std.proofs.Common.{ap, subst, ◌∙◌, arith, leb-true, leb-false, eqb-true, ne_eqb}
use Rattle.std.proofs.lemmas.Bool.{eqb-false}
use Rattle.meaning.specs.Base.{pick, same, part}
use Rattle.laws.specs.Cases.{on, never}
use Rattle.laws.specs.Order.{same_eq}
use Rattle.tree.specs.declared.Slot.{Slot}
use Rattle.tree.specs.Room.{keyed}
use Rattle.values.specs.Grow.{mine_s}
use Rattle.agree.specs.Key.{Key, name, index}
use Rattle.agree.specs.Paths.{below, apart, not_it, shorter}

pub record Log : Type 0 where
  pub at : ℕ → Slot
  pub size : ℕ

-- the place of the highest number below n for which the test holds
abbrev pub top : (ℕ → Bool) → ℕ → ℕ
top f zero = 0
top f (suc n) = pick (f n) (n + 2) (top f n)

abbrev pub kind_at : Log → ℕ → ℕ
kind_at a zero = 0
kind_at a (suc zero) = 5
kind_at a (suc (suc n)) = (a.at n).kind

-- how many values below n hang under p
abbrev pub count : Log → ℕ → ℕ → ℕ
count a zero p = 0
count a (suc n) p = pick (eqb (a.at n).parent p) (suc (count a n p)) (count a n p)

-- value number n hangs under p with the key j: by name under a table, by its place among the items under an array
abbrev pub test : List ℕ → Log → ℕ → Key → ℕ → Bool
test bytes a p (name k) n = pick (eqb (kind_at a p) 5) (mine_s bytes (a.at n) p k) false
test bytes a p (index i) n = pick (eqb (kind_at a p) 4) (pick (eqb (a.at n).parent p) (eqb (count a n p) i) false) false

abbrev pub child : List ℕ → Log → ℕ → Key → ℕ
child bytes a p j = top (test bytes a p j) a.size

abbrev pub walk : List ℕ → Log → ℕ → List Key → ℕ
walk bytes a p [] = p
walk bytes a p (j ∷ q) = child bytes a (walk bytes a p q) j

-- ---- the highest number

pub record Hit (f : ℕ → Bool) (high n : ℕ) : Type 0 where
  pub holds : f n ≡ true
  pub below : n < high

pub top_found : (f : ℕ → Bool) (high n : ℕ) → top f high ≡ n + 2 → Hit f high n
top_found f zero n e = absurd (omega arith)
top_found f (suc m) n e =
    on (f m)
    (λ t. let d : m + 2 ≡ n + 2 = rw t at e in let c : m ≡ n = omega arith in record { holds = rw c at t; below = omega arith })
    (λ t. let h : Hit f m n = top_found f m n (rw t at e) in record { holds = h.holds; below = omega (arith, h.below) })

pub record Some (r : ℕ) : Type 0 where
  pub number : ℕ
  pub is : r ≡ number + 2

pub top_some : (f : ℕ → Bool) (high : ℕ) → (top f high ≡ 0 → ⊥) → Some (top f high)
top_some f zero z = absurd (z refl)
top_some f (suc m) z = on (f m) (λ t. record { number = m; is = rw t }) (λ t. rw t (top_some f m (rw t at z)))

pub top_not_root : (f : ℕ → Bool) (high : ℕ) → top f high ≡ 1 → ⊥
top_not_root f zero e = omega arith
top_not_root f (suc m) e = on (f m) (λ t. let d : m + 2 ≡ 1 = rw t at e in omega arith) (λ t. top_not_root f m (rw t at e))

pub top_none : (f : ℕ → Bool) (high : ℕ) → ((n : ℕ) → n < high → f n ≡ false) → top f high ≡ 0
top_none f zero h = refl
top_none f (suc m) h = rw (h m (omega arith)) (top_none f m (λ n l. h n (omega arith)))

pub top_same : (f g : ℕ → Bool) (high : ℕ) → ((n : ℕ) → f n ≡ g n) → top f high ≡ top g high
top_same f g zero h = refl
top_same f g (suc m) h = rw (h m, top_same f g m h)

-- beyond size the test never holds
pub top_more : (f : ℕ → Bool) (size more : ℕ) → ((n : ℕ) → size ≤ n → f n ≡ false) → top f (size + more) ≡ top f size
top_more f size zero h = let e : size + 0 ≡ size = omega arith in rw e
top_more f size (suc more) h =
    let e : size + suc more ≡ suc (size + more) = omega arith in
    rw (e, h (size + more) (omega arith)) (top_more f size more h)

pub top_is : (f : ℕ → Bool) (high n : ℕ) → f n ≡ true → n < high → ((m : ℕ) → n < m → f m ≡ false) → top f high ≡ n + 2
top_is f zero n t l h = absurd (omega arith)
top_is f (suc m) n t l h =
    on (eqb m n)
    (λ e. let d : m ≡ n = eqb-true m n e in rw (d, t))
    (λ e. let d : m ≡ n → ⊥ = eqb-false m n e in rw (h m (omega arith)) (top_is f m n t (omega arith) h))

pub top_nonzero : (f : ℕ → Bool) (high n : ℕ) → f n ≡ true → n < high → top f high ≡ 0 → ⊥
top_nonzero f zero n t l e = omega arith
top_nonzero f (suc m) n t l e =
    on (f m) (λ g. let z : m + 2 ≡ 0 = rw g at e in omega arith)
    (λ g. top_nonzero f m n t (on (eqb m n) (λ d. let c : m ≡ n = eqb-true m n d in never (rw (← c) at t) g) (λ d. omega (arith, eqb-false m n d))) (rw g at e))

-- above it the test does not hold
pub top_last : (f : ℕ → Bool) (high n m : ℕ) → top f high ≡ n + 2 → n < m → m < high → f m ≡ false
top_last f zero n m e a b = absurd (omega arith)
top_last f (suc h) n m e a b =
    on (f h)
    (λ t. let d : h + 2 ≡ n + 2 = rw t at e in absurd (omega arith))
    (λ t. on (eqb m h) (λ c. let d : m ≡ h = eqb-true m h c in rw d t) (λ c. top_last f h n m (rw t at e) a (omega (arith, eqb-false m h c))))

-- ---- what a test says

pub both : (b c : Bool) → pick b c false ≡ true → (b ≡ true) × (c ≡ true)
both true c e = (refl, e)
both false c e = never e refl

module _ (bytes : List ℕ) where
  pub keyed_one : (v : Slot) (k l : List ℕ) → keyed bytes v k ≡ true → keyed bytes v l ≡ true → k ≡ l
  unfolding keyed
  keyed_one v k l e f =
      let d = both (leb (v.key + v.len) (length bytes)) (same (part v.key (v.key + v.len) bytes) k) e in
      let g = both (leb (v.key + v.len) (length bytes)) (same (part v.key (v.key + v.len) bytes) l) f in
      sym (same_eq (part v.key (v.key + v.len) bytes) k d.1) ∙ same_eq (part v.key (v.key + v.len) bytes) l g.1

  pub mine_both : (v : Slot) (p : ℕ) (k : List ℕ) → mine_s bytes v p k ≡ true → (eqb v.parent p ≡ true) × (keyed bytes v k ≡ true)
  unfolding mine_s
  mine_both v p k e = both (eqb v.parent p) (keyed bytes v k) e

  module _ (a : Log) where
    pub test_kind : (p : ℕ) (j : Key) (n : ℕ) → test bytes a p j n ≡ true → 1 ≤ p
    test_kind zero (name k) n e = never e refl
    test_kind zero (index i) n e = never e refl
    test_kind (suc p) j n e = omega arith

    pub test_parent : (p : ℕ) (j : Key) (n : ℕ) → test bytes a p j n ≡ true → (a.at n).parent ≡ p
    test_parent p (name k) n e =
        let d = both (eqb (kind_at a p) 5) (mine_s bytes (a.at n) p k) e in
        eqb-true (a.at n).parent p (mine_both (a.at n) p k d.1).0
    test_parent p (index i) n e =
        let d = both (eqb (kind_at a p) 4) (pick (eqb (a.at n).parent p) (eqb (count a n p) i) false) e in
        eqb-true (a.at n).parent p (both (eqb (a.at n).parent p) (eqb (count a n p) i) d.1).0

    pub test_key : (p : ℕ) (i j : Key) (n : ℕ) → test bytes a p i n ≡ true → test bytes a p j n ≡ true → i ≡ j
    test_key p (name k) (name l) n e f =
        let d = both (eqb (kind_at a p) 5) (mine_s bytes (a.at n) p k) e in
        let g = both (eqb (kind_at a p) 5) (mine_s bytes (a.at n) p l) f in
        ap name (keyed_one (a.at n) k l (mine_both (a.at n) p k d.1).1 (mine_both (a.at n) p l g.1).1)
    test_key p (name k) (index i) n e f =
        let d = both (eqb (kind_at a p) 5) (mine_s bytes (a.at n) p k) e in
        let g = both (eqb (kind_at a p) 4) (pick (eqb (a.at n).parent p) (eqb (count a n p) i) false) f in
        absurd (omega (arith, eqb-true (kind_at a p) 5 d.0, eqb-true (kind_at a p) 4 g.0))
    test_key p (index i) (name k) n e f =
        let d = both (eqb (kind_at a p) 4) (pick (eqb (a.at n).parent p) (eqb (count a n p) i) false) e in
        let g = both (eqb (kind_at a p) 5) (mine_s bytes (a.at n) p k) f in
        absurd (omega (arith, eqb-true (kind_at a p) 4 d.0, eqb-true (kind_at a p) 5 g.0))
    test_key p (index i) (index j) n e f =
        let d = both (eqb (kind_at a p) 4) (pick (eqb (a.at n).parent p) (eqb (count a n p) i) false) e in
        let g = both (eqb (kind_at a p) 4) (pick (eqb (a.at n).parent p) (eqb (count a n p) j) false) f in
        let x = both (eqb (a.at n).parent p) (eqb (count a n p) i) d.1 in
        let y = both (eqb (a.at n).parent p) (eqb (count a n p) j) g.1 in
        ap index (omega (arith, eqb-true (count a n p) i x.1, eqb-true (count a n p) j y.1))

    pub test_count : (p i n : ℕ) → test bytes a p (index i) n ≡ true → count a n p ≡ i
    test_count p i n e =
        let d = both (eqb (kind_at a p) 4) (pick (eqb (a.at n).parent p) (eqb (count a n p) i) false) e in
        eqb-true (count a n p) i (both (eqb (a.at n).parent p) (eqb (count a n p) i) d.1).1

    -- ---- a place that is reached has one path

    pub record Reached (p : ℕ) (j : Key) : Type 0 where
      pub number : ℕ
      pub is : child bytes a p j ≡ number + 2
      pub holds : test bytes a p j number ≡ true
      pub below : number < a.size

    pub reached : (p : ℕ) (j : Key) → (child bytes a p j ≡ 0 → ⊥) → Reached p j
    reached p j z =
        let s : Some (child bytes a p j) = top_some (test bytes a p j) a.size z in
        let h : Hit (test bytes a p j) a.size s.number = top_found (test bytes a p j) a.size s.number s.is in
        record { number = s.number; is = s.is; holds = h.holds; below = h.below }

    pub one_child : (p : ℕ) (i : Key) (q : ℕ) (j : Key) → child bytes a p i ≡ child bytes a q j → (child bytes a p i ≡ 0 → ⊥) → (1 ≤ p) × (p ≡ q) × (i ≡ j)
    one_child p i q j e z =
        let r : Reached p i = reached p i z in
        let s : Hit (test bytes a q j) a.size r.number = top_found (test bytes a q j) a.size r.number (sym e ∙ r.is) in
        let d : p ≡ q = sym (test_parent p i r.number r.holds) ∙ test_parent q j r.number s.holds in
        let t : test bytes a p j r.number ≡ true = subst (λ (w : ℕ). test bytes a w j r.number ≡ true) (sym d) s.holds in
        (test_kind p i r.number r.holds, d, test_key p i j r.number r.holds t)

    pub one_path : (p q : List Key) → walk bytes a 1 p ≡ walk bytes a 1 q → (walk bytes a 1 p ≡ 0 → ⊥) → p ≡ q
    one_path [] [] e z = refl
    one_path [] (j ∷ q) e z = absurd (top_not_root (test bytes a (walk bytes a 1 q) j) a.size (sym e))
    one_path (i ∷ p) [] e z = absurd (top_not_root (test bytes a (walk bytes a 1 p) i) a.size e)
    one_path (i ∷ p) (j ∷ q) e z =
        let h = one_child (walk bytes a 1 p) i (walk bytes a 1 q) j e z in
        let r : p ≡ q = one_path p q h.1 (λ w. omega (arith, h.0)) in
        let s : i ≡ j = h.2 in
        cc

    -- a value that is not hung up is reached by no path
    pub unreached : (n : ℕ) → (a.at n).parent ≡ 0 → (q : List Key) → walk bytes a 1 q ≡ n + 2 → ⊥
    unreached n f [] e = omega arith
    unreached n f (j ∷ q) e =
        let h : Hit (test bytes a (walk bytes a 1 q) j) a.size n = top_found (test bytes a (walk bytes a 1 q) j) a.size n e in
        omega (arith, test_kind (walk bytes a 1 q) j n h.holds, test_parent (walk bytes a 1 q) j n h.holds)

    -- a way in two pieces
    pub walk_split : (p : ℕ) (r h : List Key) → walk bytes a p (r ++ h) ≡ walk bytes a (walk bytes a p h) r
    walk_split p [] h = refl
    walk_split p (j ∷ r) h = ap (λ (w : ℕ). child bytes a w j) (walk_split p r h)

    -- nothing hangs under nothing
    pub child_nothing : (j : Key) → child bytes a 0 j ≡ 0
    child_nothing (name k) = top_none (test bytes a 0 (name k)) a.size (λ n l. refl)
    child_nothing (index i) = top_none (test bytes a 0 (index i)) a.size (λ n l. refl)

    pub walk_nothing : (r : List Key) → walk bytes a 0 r ≡ 0
    walk_nothing [] = refl
    walk_nothing (j ∷ r) = rw (walk_nothing r) (child_nothing j)

-- ---- one value more under a place

-- b is a, but that value number n, which was not hung up, now hangs under p with the key k, above all that hangs there
pub record Hung (bytes : List ℕ) (a b : Log) (n p : ℕ) (k : Key) : Type 0 where
  pub others : (m : ℕ) → (m ≡ n → ⊥) → b.at m ≡ a.at m
  pub free : (a.at n).parent ≡ 0
  pub holds : test bytes b p k n ≡ true
  pub late : (m : ℕ) → n < m → (a.at m).parent ≡ p → ⊥
  pub more : ℕ
  pub grows : b.size ≡ a.size + more
  pub below : n < b.size
  pub ends : (m : ℕ) → a.size ≤ m → (a.at m).parent ≡ 0

module _ (bytes : List ℕ) (a b : Log) (n p : ℕ) (k : Key) (h : Hung bytes a b n p k) where
  place : (b.at n).parent ≡ p
  place = test_parent bytes b p k n h.holds

  somewhere : 1 ≤ p
  somewhere = test_kind bytes b p k n h.holds

  kind_same : (q : ℕ) → (q ≡ n + 2 → ⊥) → kind_at b q ≡ kind_at a q
  kind_same zero d = refl
  kind_same (suc zero) d = refl
  kind_same (suc (suc m)) d = ap (λ (v : Slot). v.kind) (h.others m (λ e. d (omega arith)))

  count_same : (m q : ℕ) → 1 ≤ q → (q ≡ p → m ≤ n) → count b m q ≡ count a m q
  count_same zero q l c = refl
  count_same (suc m) q l c =
      let i : count b m q ≡ count a m q = count_same m q l (λ e. omega (arith, c e)) in
      on (eqb m n)
      (λ e. let d : m ≡ n = eqb-true m n e in
      let x : eqb (b.at m).parent q ≡ false = ne_eqb (b.at m).parent q (λ w. omega (arith, place, c (sym w ∙ ap (λ (z : ℕ). (b.at z).parent) d ∙ place))) in
      let y : eqb (a.at m).parent q ≡ false = ne_eqb (a.at m).parent q (λ w. omega (arith, ap (λ (z : ℕ). (a.at z).parent) d, h.free)) in
      rw (x, y) i)
      (λ e. rw (h.others m (eqb-false m n e), i))

  free_test : (q : ℕ) (j : Key) → test bytes a q j n ≡ false
  free_test q j =
      on (test bytes a q j n)
      (λ t. absurd (omega (arith, test_kind bytes a q j n t, test_parent bytes a q j n t, h.free))) (λ t. t)

  index_same : (q i m : ℕ) → (q ≡ n + 2 → ⊥) → (m ≡ n → ⊥) → test bytes b q (index i) m ≡ test bytes a q (index i) m
  index_same zero i m d o = refl
  index_same (suc q) i m d o =
      on (eqb (a.at m).parent (suc q))
      (λ t. let x : (a.at m).parent ≡ suc q = eqb-true (a.at m).parent (suc q) t in
      let y : count b m (suc q) ≡ count a m (suc q) =
      count_same m (suc q) (omega arith) (λ e. on (leb m n) (λ u. leb-true m n u) (λ u. absurd (h.late m (leb-false m n u) (x ∙ e)))) in
      rw (kind_same (suc q) d, h.others m o, y))
      (λ t. rw (kind_same (suc q) d, h.others m o, t))

  old_test : (q : ℕ) (j : Key) (m : ℕ) → (q ≡ n + 2 → ⊥) → (m ≡ n → ⊥) → test bytes b q j m ≡ test bytes a q j m
  old_test q (name l) m d o = rw (kind_same q d, h.others m o)
  old_test q (index i) m d o = index_same q i m d o

  new_test : (q : ℕ) (j : Key) → (q ≡ p → j ≡ k → ⊥) → test bytes b q j n ≡ false
  new_test q j c =
      on (test bytes b q j n)
      (λ t. let x : q ≡ p = sym (test_parent bytes b q j n t) ∙ place in
      let y : test bytes b p j n ≡ true = rw x at t in
      absurd (c x (test_key bytes b p j k n y h.holds))) (λ t. t)

  -- elsewhere the tests say what they said
  test_else : (q : ℕ) (j : Key) → (q ≡ n + 2 → ⊥) → (q ≡ p → j ≡ k → ⊥) → (m : ℕ) → test bytes b q j m ≡ test bytes a q j m
  test_else q j d c m =
      on (eqb m n)
      (λ e. let x : m ≡ n = eqb-true m n e in rw x (new_test q j c ∙ sym (free_test q j)))
      (λ e. old_test q j m d (eqb-false m n e))

  beyond_it : (q : ℕ) (j : Key) (m : ℕ) → a.size ≤ m → test bytes a q j m ≡ false
  beyond_it q j m l =
      on (test bytes a q j m)
      (λ t. absurd (omega (arith, test_kind bytes a q j m t, test_parent bytes a q j m t, h.ends m l))) (λ t. t)

  pub child_else : (q : ℕ) (j : Key) → (q ≡ n + 2 → ⊥) → (q ≡ p → j ≡ k → ⊥) → child bytes b q j ≡ child bytes a q j
  child_else q j d c =
      top_same (test bytes b q j) (test bytes a q j) b.size (test_else q j d c)
      ∙ ap (top (test bytes a q j)) h.grows ∙ top_more (test bytes a q j) a.size h.more (beyond_it q j)

  above_it : (m : ℕ) → n < m → test bytes b p k m ≡ false
  above_it m l =
      on (test bytes b p k m)
      (λ t. let e : b.at m ≡ a.at m = h.others m (λ w. omega arith) in
      absurd (h.late m l (ap (λ (v : Slot). v.parent) (sym e) ∙ test_parent bytes b p k m t))) (λ t. t)

  pub child_new : child bytes b p k ≡ n + 2
  child_new = top_is (test bytes b p k) b.size n h.holds h.below above_it

  module _ (g : List Key) (at : walk bytes a 1 g ≡ p) where
    -- the law of the log: elsewhere each path leads where it led
    pub walk_else : (q : List Key) → below (k ∷ g) q ≡ false → walk bytes b 1 q ≡ walk bytes a 1 q
    walk_else [] e = refl
    walk_else (j ∷ q) e =
        let i : walk bytes b 1 q ≡ walk bytes a 1 q = walk_else q (apart (k ∷ g) q j e) in
        rw i
        (child_else (walk bytes a 1 q) j (unreached bytes a n h.free q)
        (λ x y. let z : q ≡ g = one_path bytes a q g (x ∙ sym at) (λ w. omega (arith, somewhere)) in
        not_it (k ∷ g) (j ∷ q) e (cc)))

    pub walk_parent : walk bytes b 1 g ≡ p
    walk_parent = walk_else g (shorter (k ∷ g) g (omega arith)) ∙ at

    -- the new path leads to the value, and what goes on from it goes on from the value
    pub walk_new : (r : List Key) → walk bytes b 1 (r ++ (k ∷ g)) ≡ walk bytes b (n + 2) r
    walk_new r = walk_split bytes b 1 r (k ∷ g) ∙ ap (λ (w : ℕ). walk bytes b w r) (ap (λ (w : ℕ). child bytes b w k) walk_parent ∙ child_new)
