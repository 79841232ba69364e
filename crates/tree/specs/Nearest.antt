-- What the walk in byte order finds: of the keys above, the least, and of its values the newest. On any values and any store.
use Rattle.std.specs.Prelude.{ℕ, zero, suc, ◌≤◌, ◌<◌, Bool, true, false, List, ◌≡◌, refl, eqb, ltb, Option, Some, None}
use Rattle.std.proofs.Common.{sym, ap, ◌∙◌, arith}
use borrow.Author.Tests.{eqb-true, eqb-false, eq-eqb, ltb-true, ltb-false}
use Rattle.meaning.specs.Base.{pick, less}
use Rattle.laws.specs.Cases.{on, never}
use Rattle.laws.specs.Order.{less_self, less_on, less_most}
use Rattle.tree.specs.declared.Slot.{Slot}
use Rattle.tree.specs.Room.{Below}
use Rattle.tree.specs.Order.{key_of, has_key, before, above, nearer, follows, better, nearest, is_made, next, ahead}

-- ---- keys

both : (b c : Bool) → pick b c false ≡ true → (b ≡ true) × (c ≡ true)
both true c e = (refl, e)
both false c e = never e refl

module _ (store : List ℕ) where
  -- of values with keys
  pub before_less : (v w : Slot) → has_key store v ≡ true → has_key store w ≡ true → before store v w ≡ less (key_of store v) (key_of store w)
  unfolding before
  before_less v w e f = rw (e, f)

  pub record Before (v w : Slot) : Type 0 where
    pub left : has_key store v ≡ true
    pub right : has_key store w ≡ true
    pub is : less (key_of store v) (key_of store w) ≡ true

  pub before_says : (v w : Slot) → before store v w ≡ true → Before v w
  unfolding before
  before_says v w e =
      let a = both (has_key store v) (pick (has_key store w) (less (key_of store v) (key_of store w)) false) e in
      let b = both (has_key store w) (less (key_of store v) (key_of store w)) a.1 in
      record { left = a.0; right = b.0; is = b.1 }

  pub before_self : (v : Slot) → before store v v ≡ false
  before_self v = on (before store v v) (λ e. never (before_says v v e).is (less_self (key_of store v))) (λ e. e)

  pub before_on : (u v w : Slot) → before store u v ≡ true → before store v w ≡ true → before store u w ≡ true
  before_on u v w e f =
      let a : Before u v = before_says u v e in
      let b : Before v w = before_says v w f in
      before_less u w a.left b.right ∙ less_on (key_of store u) (key_of store v) (key_of store w) a.is b.is

  before_most : (u v w : Slot) → before store u v ≡ true → has_key store w ≡ true → before store w v ≡ false → before store u w ≡ true
  before_most u v w e h f =
      let a : Before u v = before_says u v e in
      before_less u w a.left h
      ∙ less_most (key_of store u) (key_of store v) (key_of store w) a.is (sym (before_less w v h a.right) ∙ f)

module _ (at : ℕ → Slot) (store : List ℕ) where
  above_key : (f : Option ℕ) (v : Slot) → above at store f v ≡ true → has_key store v ≡ true
  above_key (Some m) v e = (before_says store (at m) v e).right
  above_key None v e = e

  -- what is above what is above is above
  above_on : (f : Option ℕ) (v w : Slot) → above at store f v ≡ true → before store v w ≡ true → above at store f w ≡ true
  above_on (Some m) v w e h = before_on store (at m) v w e h
  above_on None v w e h = (before_says store v w h).right

  module _ (parent : ℕ) where
    pub record Follows (after : Option ℕ) (n : ℕ) : Type 0 where
      pub under : (at n).parent ≡ parent
      pub has : has_key store (at n) ≡ true
      pub over : above at store after (at n) ≡ true

    pub follows_says : (after : Option ℕ) (n : ℕ) → follows at store parent after n ≡ true → Follows after n
    unfolding follows
    follows_says after n e =
        let a = both (eqb (at n).parent parent) (above at store after (at n)) e in
        record { under = eqb-true (at n).parent parent a.0; has = above_key after (at n) a.1; over = a.1 }

    pub follows_where : (after : Option ℕ) (n : ℕ) → eqb (at n).parent parent ≡ true → above at store after (at n) ≡ true → follows at store parent after n ≡ true
    unfolding follows
    follows_where after n e f = rw (e, f)

    -- ---- the nearest

    module _ (after : Option ℕ) where
      -- value number n is the next among those from low to before high
      pub record Next (low high n : ℕ) : Type 0 where
        pub from : low ≤ n
        pub below : n < high
        pub here : follows at store parent after n ≡ true
        pub least : (m : ℕ) → low ≤ m → m < high → follows at store parent after m ≡ true → before store (at m) (at n) ≡ false
        pub newest : (m : ℕ) → n < m → m < high → follows at store parent after m ≡ true → before store (at n) (at m) ≡ true

      abbrev pub Best : ℕ → ℕ → Option ℕ → Type 0
      Best low high (Some n) = Next low high n
      Best low high None = (m : ℕ) → low ≤ m → m < high → follows at store parent after m ≡ false

      -- there is one next value
      pub next_one : (low high m n : ℕ) → Next low high m → Next low high n → m ≡ n
      next_one low high m n a b =
          on (eqb m n) (λ e. eqb-true m n e)
          (λ e. on (ltb m n)
          (λ l. never (a.newest n (ltb-true m n l) b.below b.here) (b.least m a.from a.below a.here))
          (λ l. never (b.newest m (omega (arith, ltb-false m n l, eqb-false m n e)) a.below a.here) (a.least n b.from b.below b.here)))

      module _ (i high : ℕ) (l : i < high) where
        same_best : (best : Option ℕ) → Best (suc i) high best → (follows at store parent after i ≡ true → nearer at store best (at i) ≡ false) → Best i high best
        same_best (Some n) h c =
            record {
              from = omega (arith, h.from);
              below = h.below;
              here = h.here;
              least = λ m a b e. on (eqb m i)
                  (λ t. let d : m ≡ i = eqb-true m i t in rw d (c (rw d at e)))
                  (λ t. h.least m (omega (arith, eqb-false m i t)) b e);
              newest = h.newest;
            }
        same_best None h c =
            λ m a b. on (eqb m i)
            (λ t. let d : m ≡ i = eqb-true m i t in rw d (on (follows at store parent after i) (λ e. never {b = true} refl (c e)) (λ e. e)))
            (λ t. h m (omega (arith, eqb-false m i t)) b)

        new_best : (best : Option ℕ) → Best (suc i) high best → follows at store parent after i ≡ true → nearer at store best (at i) ≡ true → Next i high i
        new_best (Some n) h e c =
            record {
              from = omega arith;
              below = l;
              here = e;
              least = λ m a b f. on (eqb m i)
                  (λ t. let d : m ≡ i = eqb-true m i t in rw d (before_self store (at i)))
                  (λ t. on (before store (at m) (at i))
                  (λ g. never (before_on store (at m) (at i) (at n) g c) (h.least m (omega (arith, eqb-false m i t)) b f)) (λ g. g));
              newest = λ m a b f. before_most store (at i) (at n) (at m) c (follows_says after m f).has (h.least m (omega arith) b f);
            }
        new_best None h e c =
            record {
              from = omega arith;
              below = l;
              here = e;
              least = λ m a b f. on (eqb m i)
                  (λ t. let d : m ≡ i = eqb-true m i t in rw d (before_self store (at i)))
                  (λ t. never f (h m (omega (arith, eqb-false m i t)) b));
              newest = λ m a b f. never f (h m (omega arith) b);
            }

        better_best : (best : Option ℕ) → Best (suc i) high best → Best i high (better at store parent after best i)
        unfolding better
        better_best best h =
            on (follows at store parent after i)
            (λ e. on (nearer at store best (at i)) (λ c. rw (e, c) (new_best best h e c)) (λ c. rw (e, c) (same_best best h (λ _. c))))
            (λ e. rw e (same_best best h (λ f. never f e)))

      nearest_best : (i high : ℕ) (best : Option ℕ) → i ≤ high → Best i high best → Best 0 high (nearest at store parent after i best)
      nearest_best zero high best l h = h
      nearest_best (suc i) high best l h =
          nearest_best i high (better at store parent after best i) (omega arith) (better_best i high (omega arith) best h)

      -- what is found is the next value, and there is none where nothing is found
      pub next_best : (made : ℕ) → is_made made after ≡ true → Best 0 made (next at store made parent after)
      unfolding next
      next_best made e = rw e (nearest_best made made None (omega arith) (λ m a b. absurd (omega arith)))

      -- the next value is found
      pub next_found : (made n : ℕ) → is_made made after ≡ true → Next 0 made n → next at store made parent after ≡ Some n
      next_found made n e h = go (next at store made parent after) (next_best made e)
        where
          go : (r : Option ℕ) → Best 0 made r → r ≡ Some n
          go (Some m) b = ap Some (next_one 0 made m n b h)
          go None b = never h.here (b n h.from h.below)

      -- after what is not made comes nothing
      pub next_unmade : (made : ℕ) → is_made made after ≡ false → next at store made parent after ≡ None
      unfolding next
      next_unmade made e = rw e

      -- nothing is found where no value follows
      pub next_nothing : (made : ℕ) → ((m : ℕ) → m < made → follows at store parent after m ≡ false) → next at store made parent after ≡ None
      next_nothing made h = on (is_made made after) (λ e. go (next at store made parent after) (next_best made e)) (λ e. next_unmade made e)
        where
          go : (r : Option ℕ) → Best 0 made r → r ≡ None
          go (Some m) b = never b.here (h m b.below)
          go None b = refl

    -- ---- the walk ends

    -- what follows the next value follows
    follows_on : (after : Option ℕ) (n m : ℕ) → follows at store parent after n ≡ true → follows at store parent (Some n) m ≡ true → follows at store parent after m ≡ true
    follows_on after n m e f =
        let a : Follows after n = follows_says after n e in
        let b : Follows (Some n) m = follows_says (Some n) m f in
        follows_where after m (eq-eqb (at m).parent parent b.under) (above_on after (at n) (at m) a.over b.over)

    not_itself : (n : ℕ) → follows at store parent (Some n) n ≡ false
    not_itself n =
        on (follows at store parent (Some n) n)
        (λ e. never (follows_says (Some n) n e).over (before_self store (at n))) (λ e. e)

    pub ahead_most : (after : Option ℕ) (k : ℕ) → ahead at store parent after k ≤ k
    ahead_most after zero = omega arith
    ahead_most after (suc k) = on (follows at store parent after k) (λ e. rw e (omega (arith, ahead_most after k))) (λ e. rw e (omega (arith, ahead_most after k)))

    ahead_on : (after : Option ℕ) (n k : ℕ) → follows at store parent after n ≡ true → ahead at store parent (Some n) k ≤ ahead at store parent after k
    ahead_on after n zero e = omega arith
    ahead_on after n (suc k) e =
        on (follows at store parent (Some n) k)
        (λ f. rw (f, follows_on after n k e f) (omega (arith, ahead_on after n k e)))
        (λ f. on (follows at store parent after k) (λ g. rw (f, g) (omega (arith, ahead_on after n k e))) (λ g. rw (f, g) (ahead_on after n k e)))

    pub ahead_less : (after : Option ℕ) (n k : ℕ) → n < k → follows at store parent after n ≡ true → ahead at store parent (Some n) k < ahead at store parent after k
    ahead_less after n zero l e = absurd (omega arith)
    ahead_less after n (suc k) l e =
        on (eqb n k)
        (λ t. let d : n ≡ k = eqb-true n k t in
        let a : follows at store parent (Some n) k ≡ false = rw (← d) (not_itself n) in
        let b : follows at store parent after k ≡ true = rw (← d) e in
        rw (a, b) (omega (arith, ahead_on after n k e)))
        (λ t. let i : ahead at store parent (Some n) k < ahead at store parent after k = ahead_less after n k (omega (arith, eqb-false n k t)) e in
        on (follows at store parent (Some n) k)
        (λ f. rw (f, follows_on after n k e f) (omega arith))
        (λ f. on (follows at store parent after k) (λ g. rw (f, g) (omega arith)) (λ g. rw (f, g) i)))

    -- fewer values follow what is found
    pub next_less : (made n : ℕ) (after : Option ℕ) → next at store made parent after ≡ Some n → ahead at store parent (Some n) made < ahead at store parent after made
    next_less made n after e =
        on (is_made made after)
        (λ t. let h : Next after 0 made n = rw e at (next_best after made t) in ahead_less after n made h.below h.here)
        (λ t. let z : ◌≡◌ {A = ℕ} 0 1 = cc (next_unmade after made t) in absurd (omega arith))

-- ---- values read in two ways

pub better_below : (at : ℕ → Slot) (store : List ℕ) (made parent n : ℕ) (after best : Option ℕ) → n < made → Below made best → Below made (better at store parent after best n)
unfolding better
better_below at store made parent n after best l h =
    on (follows at store parent after n)
    (λ t. rw t (on (nearer at store best (at n)) (λ u. rw u l) (λ u. rw u h)))
    (λ t. rw t h)

pub made_below : (made : ℕ) (f : Option ℕ) → is_made made f ≡ true → Below made f
made_below made (Some n) e = ltb-true n made e
made_below made None e = tt

-- the values made are the same, and so are their keys
pub record Alike (made : ℕ) (at bt : ℕ → Slot) (store bytes : List ℕ) : Type 0 where
  pub each : (m : ℕ) → m < made → at m ≡ bt m
  pub has : (m : ℕ) → m < made → has_key store (bt m) ≡ has_key bytes (bt m)
  pub key : (m : ℕ) → m < made → key_of store (bt m) ≡ key_of bytes (bt m)

module _ (made : ℕ) (at bt : ℕ → Slot) (store bytes : List ℕ) (h : Alike made at bt store bytes) where
  before_same : (m n : ℕ) → m < made → n < made → before store (at m) (at n) ≡ before bytes (bt m) (bt n)
  unfolding before
  before_same m n l k = rw (h.each m l, h.each n k, h.has m l, h.has n k, h.key m l, h.key n k)

  above_same : (f : Option ℕ) (n : ℕ) → Below made f → n < made → above at store f (at n) ≡ above bt bytes f (bt n)
  above_same (Some m) n l k = before_same m n l k
  above_same None n l k = rw (h.each n k) (h.has n k)

  nearer_same : (f : Option ℕ) (n : ℕ) → Below made f → n < made → nearer at store f (at n) ≡ nearer bt bytes f (bt n)
  nearer_same (Some m) n l k = before_same n m k l
  nearer_same None n l k = refl

  module _ (parent : ℕ) (after : Option ℕ) (low : Below made after) where
    follows_same : (n : ℕ) → n < made → follows at store parent after n ≡ follows bt bytes parent after n
    unfolding follows
    follows_same n l = rw (above_same after n low l, h.each n l)

    better_same : (best : Option ℕ) (n : ℕ) → Below made best → n < made → better at store parent after best n ≡ better bt bytes parent after best n
    unfolding better
    better_same best n b l = rw (follows_same n l, nearer_same best n b l)

    nearest_same : (i : ℕ) (best : Option ℕ) → i ≤ made → Below made best → nearest at store parent after i best ≡ nearest bt bytes parent after i best
    nearest_same zero best l b = refl
    nearest_same (suc i) best l b =
        nearest_same i (better at store parent after best i) (omega arith) (better_below at store made parent i after best (omega arith) b)
        ∙ ap (nearest bt bytes parent after i) (better_same best i b (omega arith))

  -- the same is found
  pub next_same : (parent : ℕ) (after : Option ℕ) → next at store made parent after ≡ next bt bytes made parent after
  unfolding next
  next_same parent after =
      on (is_made made after)
      (λ e. rw e (nearest_same parent after (made_below made after e) made None (omega arith) tt)) (λ e. rw e)
