-- Walking a table's keys in the rooms, step by step: the entries of the table in byte order of key, and then nothing.
use Rattle.std.specs.Prelude.{ℕ, zero, suc, ◌+◌, ◌<◌, true, false, ◌≡◌, refl, length, Option as Found, Some, None}
use mathlib.Core.List.{List, [], ◌∷◌}
use Rattle.std.proofs.Math.Option.{Option, none, some}
use Rattle.std.proofs.Math.Path.{sym, ap}
use Rattle.std.proofs.Common.{subst, ◌∙◌, arith}
use Rattle.std.proofs.Math.ListN.{get_or}
use borrow.Author.Tests.{eqb-true, eq-eqb, le-leb, lt-ltb}
use Rattle.meaning.specs.Base.{pick, same, less}
use Rattle.meaning.specs.declared.Limits.{Limits}
use Rattle.meaning.specs.Refusal.{accepted}
use Rattle.meaning.specs.Tree.{Value, Items, Table, str, int, boolean, array, table, none', item, empty, entry, lookup, read_as}
use Rattle.meaning.specs.Document.{Parsed, document}
use Rattle.meaning.specs.Order.{sorted, past, entries}
use Rattle.laws.specs.Cases.{on}
use Rattle.laws.specs.Never.{same_refl}
use Rattle.laws.specs.Order.{same_eq, less_on, less_else, Rises, first_least, rest_lookup, sorted_rises, sorted_lookup, past_rises, past_lookup, Distinct, sorted_entries}
use Rattle.laws.specs.Once.{Once, OnceAll, OnceIn, Maybe, Rooted, lookup_once, once_distinct, once}
use Rattle.tree.specs.declared.Slot.{Slot}
use Rattle.tree.specs.Room.{keyed}
use Rattle.tree.specs.Order.{key_of, has_key, before, above, follows}
use Rattle.tree.specs.Nearest.{before_less, Follows, follows_says, follows_where, Next, next_found, next_nothing}
use Rattle.values.specs.Grow.{void, mine_s}
use Rattle.agree.specs.Key.{Key, name, index}
use Rattle.agree.specs.Log.{mine_both, kind_at, test, top_last, top_nonzero, reached, Reached}
use Rattle.agree.specs.Finds.{get, find, nth}
use Rattle.agree.specs.Slots.{log_of}
use Rattle.agree.specs.Steps.{Agree, to}
use Rattle.agree.proofs.Steps.{meets_some, meets_none, table_at_lem}
use Rattle.agree.specs.Reads.{Place}
use Rattle.agree.specs.Order.{Entry, Left, Stepped, over, step_s}

over_on : (bytes : List ℕ) (vs : List Slot) (f : Found ℕ) (k j : List ℕ) → over bytes vs f k ≡ true → less k j ≡ true → over bytes vs f j ≡ true
over_on bytes vs (Some m) k j c d = less_on (key_of bytes (get_or vs m void)) k j c d
over_on bytes vs None k j c d = refl

-- at first all are left, in byte order, and after a key those above it
pub left_first : (bytes : List ℕ) (vs : List Slot) (t : Table) → Left bytes vs t None (sorted t)
left_first bytes vs t = record { made = refl; rises = sorted_rises t; is = sorted_lookup t }

pub left_past : (bytes : List ℕ) (vs : List Slot) (t : Table) (n : ℕ) (k : List ℕ) → n < length vs → key_of bytes (get_or vs n void) ≡ k
    → Left bytes vs t (Some n) (past k (sorted t))
left_past bytes vs t n k l e =
    record {
      made = lt-ltb n (length vs) l;
      rises = past_rises (sorted t) k (sorted_rises t);
      is = λ j. past_lookup (sorted t) k j (sorted_rises t) ∙ rw (sorted_lookup t j, e);
    }

none_some : {G : Type 0} (v : Value) → none ≡ some v → G
none_some v e = let z : ◌≡◌ {A = ℕ} 0 1 = cc in absurd (omega arith)

is_some : (o : Option Value) → (o ≡ none → ⊥) → (v : Value) × (o ≡ some v)
is_some none h = absurd (h refl)
is_some (some v) h = (v, refl)

module _ (bytes : List ℕ) (vs : List Slot) (x : Value) (a : Agree bytes vs x) where
  key_at : ℕ → List ℕ
  key_at n = key_of bytes (get_or vs n void)

  has : (n : ℕ) → has_key bytes (get_or vs n void) ≡ true
  unfolding has_key
  has n = le-leb ((get_or vs n void).key + (get_or vs n void).len) (length bytes) (a.within n)

  before_is : (m n : ℕ) → before bytes (get_or vs m void) (get_or vs n void) ≡ less (key_at m) (key_at n)
  unfolding key_at
  before_is m n = before_less bytes (get_or vs m void) (get_or vs n void) (has m) (has n)

  above_is : (f : Found ℕ) (n : ℕ) → above (λ i. get_or vs i void) bytes f (get_or vs n void) ≡ over bytes vs f (key_at n)
  unfolding key_at
  above_is (Some m) n = before_is m n
  above_is None n = has n

  keyed_is : (n : ℕ) (k : List ℕ) → keyed bytes (get_or vs n void) k ≡ same (key_at n) k
  unfolding keyed key_at
  keyed_is n k = rw (le-leb ((get_or vs n void).key + (get_or vs n void).len) (length bytes) (a.within n))

  module _ (p : ℕ) (t : Table) (h : Place bytes vs x p (table t)) where
    table_there : kind_at (log_of vs) (to bytes vs h.path) ≡ 5
    table_there = table_at_lem bytes vs x a h.path t h.found

    found_key : (k : List ℕ) → find (some x) (name k ∷ h.path) ≡ lookup t k
    found_key k = ap (read_as (λ v. get v (name k))) h.found

    -- a value with the key hangs under the table
    test_is : (k : List ℕ) (n : ℕ) → test bytes (log_of vs) (to bytes vs h.path) (name k) n ≡ mine_s bytes (get_or vs n void) p k
    test_is k n = rw (table_there, h.leads)

    mine_is : (k : List ℕ) (n : ℕ) → (get_or vs n void).parent ≡ p → mine_s bytes (get_or vs n void) p k ≡ same (key_at n) k
    unfolding mine_s
    mine_is k n e = rw (eq-eqb (get_or vs n void).parent p e) (keyed_is n k)

    -- what hangs under the table has a key of it
    key_there : (n : ℕ) → n < length vs → (get_or vs n void).parent ≡ p → (v : Value) × (lookup t (key_at n) ≡ some v)
    key_there n l e =
        let b : test bytes (log_of vs) (to bytes vs h.path) (name (key_at n)) n ≡ true = test_is (key_at n) n ∙ mine_is (key_at n) n e ∙ same_refl (key_at n) in
        is_some (lookup t (key_at n))
        (λ d. top_nonzero (test bytes (log_of vs) (to bytes vs h.path) (name (key_at n))) (length vs) n b l
        (meets_none bytes vs x a (name (key_at n) ∷ h.path) (found_key (key_at n) ∙ d)))

    -- a key of the table is that of the newest value with it
    pub record Held (k : List ℕ) (v : Value) : Type 0 where
      pub number : ℕ
      pub under : (get_or vs number void).parent ≡ p
      pub last : (m : ℕ) → number < m → m < length vs → (get_or vs m void).parent ≡ p → same (key_of bytes (get_or vs m void)) k ≡ false
      pub entry : Entry bytes vs x h.path number k v

    held : (k : List ℕ) (v : Value) → lookup t k ≡ some v → Held k v
    unfolding key_at
    held k v e =
        let f : find (some x) (name k ∷ h.path) ≡ some v = found_key k ∙ e in
        let r : Reached bytes (log_of vs) (to bytes vs h.path) (name k) =
        reached bytes (log_of vs) (to bytes vs h.path) (name k) (λ z. omega (arith, (meets_some bytes vs x a (name k ∷ h.path) v f).0)) in
        let b = mine_both bytes (get_or vs r.number void) p k (sym (test_is k r.number) ∙ r.holds) in
        record {
          number = r.number;
          under = eqb-true (get_or vs r.number void).parent p b.0;
          last = λ m l c d. sym (mine_is k m d) ∙ sym (test_is k m) ∙ top_last (test bytes (log_of vs) (to bytes vs h.path) (name k)) (length vs) r.number m r.is l c;
          entry =
              record {
                below = r.below;
                key = same_eq (key_at r.number) k (sym (keyed_is r.number k) ∙ b.1);
                leads = r.is;
                place = record { path = name k ∷ h.path; leads = r.is; found = f };
              };
        }

    module _ (after : Found ℕ) (u : Table) (left : Left bytes vs t after u) where
      -- what follows has a key that is left
      left_key : (n : ℕ) → n < length vs → follows (λ i. get_or vs i void) bytes p after n ≡ true → (v : Value) × (lookup u (key_at n) ≡ some v)
      left_key n l e =
          let f : Follows (λ i. get_or vs i void) bytes p after n = follows_says (λ i. get_or vs i void) bytes p after n e in
          let v = key_there n l f.under in
          (v.0, left.is (key_at n) ∙ rw (sym (above_is after n) ∙ f.over) v.1)

      -- nothing is left, and nothing is found
      pub step_end : u ≡ empty → step_s bytes vs p after ≡ None
      step_end e =
          next_nothing (λ i. get_or vs i void) bytes p after (length vs)
          (λ m l. on (follows (λ i. get_or vs i void) bytes p after m)
          (λ f. let v = left_key m l f in none_some v.0 (ap (λ (w : Table). lookup w (key_at m)) (sym e) ∙ v.1)) (λ f. f))

      module _ (k : List ℕ) (v : Value) (w : Table) (e : u ≡ entry k v w) where
        first_there : lookup u k ≡ some v
        first_there = ap (λ (y : Table). lookup y k) e ∙ rw (same_refl k)

        over_first : (over bytes vs after k ≡ true) × (lookup t k ≡ some v)
        over_first =
            on (over bytes vs after k)
            (λ b. (b, let d : pick (over bytes vs after k) (lookup t k) none ≡ some v = sym (left.is k) ∙ first_there in rw b at d))
            (λ b. let d : pick (over bytes vs after k) (lookup t k) none ≡ some v = sym (left.is k) ∙ first_there in none_some v (rw b at d))

        rises : Rises (entry k v w)
        rises = rw e at left.rises

        it : Held k v
        it = held k v over_first.1

        -- no key that follows is below the first, and another value with it is older
        not_below : (m : ℕ) → m < length vs → follows (λ i. get_or vs i void) bytes p after m ≡ true → less (key_at m) k ≡ false
        not_below m l f = let y = left_key m l f in first_least w k (key_at m) v y.0 rises (ap (λ (z : Table). lookup z (key_at m)) (sym e) ∙ y.1)

        key_is_lem : key_at it.number ≡ k
        unfolding key_at
        key_is_lem = it.entry.key

        next_is : Next (λ i. get_or vs i void) bytes p after 0 (length vs) it.number
        unfolding key_at
        next_is =
            record {
              from = omega arith;
              below = it.entry.below;
              here = follows_where (λ i. get_or vs i void) bytes p after it.number (eq-eqb (get_or vs it.number void).parent p it.under)
                  (above_is after it.number ∙ ap (over bytes vs after) key_is_lem ∙ over_first.0);
              least = λ m c l f. before_is m it.number ∙ ap (less (key_at m)) key_is_lem ∙ not_below m l f;
              newest = λ m c l f. before_is it.number m ∙ ap (λ (y : List ℕ). less y (key_at m)) key_is_lem
                  ∙ less_else (key_at m) k (not_below m l f) (it.last m c l (follows_says (λ i. get_or vs i void) bytes p after m f).under);
            }

        rest_left : Left bytes vs t (Some it.number) w
        unfolding key_at
        rest_left =
            record {
              made = lt-ltb it.number (length vs) it.entry.below;
              rises = rises.1;
              is = λ j. rest_lookup w k j v rises ∙ ap (λ (y : Table). pick (less k j) (lookup y j) none) (sym e) ∙ ap (λ (o : Option Value). pick (less k j) o none) (left.is j)
                  ∙ over_again j ∙ ap (λ (y : List ℕ). pick (less y j) (lookup t j) none) (sym key_is_lem);
            }
          where
            over_again : (j : List ℕ) → pick (less k j) (pick (over bytes vs after j) (lookup t j) none) none ≡ pick (less k j) (lookup t j) none
            over_again j = on (less k j) (λ b. rw (b, over_on bytes vs after k j over_first.0 b)) (λ b. rw b)

        -- the first that is left is found, and then the others are left
        pub step_entry : (n : ℕ) × (step_s bytes vs p after ≡ Some n) × Entry bytes vs x h.path n k v × Left bytes vs t (Some n) w
        step_entry = (it.number, next_found (λ i. get_or vs i void) bytes p after (length vs) it.number left.made next_is, it.entry, rest_left)

    -- ---- the other way round, for who has what a step found

    -- what is found is the first that is left
    pub step_at : (after : Found ℕ) (u : Table) (left : Left bytes vs t after u) (n : ℕ)
        → step_s bytes vs p after ≡ Some n → Stepped bytes vs x h.path t u n
    step_at after empty left n e = let z : ◌≡◌ {A = ℕ} 0 1 = cc (step_end after empty left refl) in absurd (omega arith)
    step_at after (entry k v w) left n e =
        let s = step_entry after (entry k v w) left k v w refl in
        let m : s.0 ≡ n = cc s.1 in
        record {
          key = k;
          value = v;
          rest = w;
          is = refl;
          stands = subst (λ (i : ℕ). Entry bytes vs x h.path i k v) m s.2;
          left = subst (λ (i : ℕ). Left bytes vs t (Some i) w) m s.3;
        }

    -- where nothing is found nothing is left
    pub step_over : (after : Found ℕ) (u : Table) (left : Left bytes vs t after u) → step_s bytes vs p after ≡ None → u ≡ empty
    step_over after empty left e = refl
    step_over after (entry k v w) left e =
        let s = step_entry after (entry k v w) left k v w refl in
        let z : ◌≡◌ {A = ℕ} 0 1 = cc s.1 in
        absurd (omega arith)

    -- ---- from the first key to the last

    -- the first step finds the least key
    pub first_entry : (k : List ℕ) (v : Value) (u : Table) → sorted t ≡ entry k v u → (n : ℕ) × (step_s bytes vs p None ≡ Some n) × Entry bytes vs x h.path n k v
    first_entry k v u e = let s = step_entry None (sorted t) (left_first bytes vs t) k v u e in (s.0, s.1, s.2)

    pub first_none : sorted t ≡ empty → step_s bytes vs p None ≡ None
    first_none e = step_end None (sorted t) (left_first bytes vs t) e

    -- from the entry of a key the next step finds the least key above it
    module _ (n : ℕ) (k : List ℕ) (v : Value) (s : Entry bytes vs x h.path n k v) where
      pub next_entry : (j : List ℕ) (w : Value) (u : Table) → past k (sorted t) ≡ entry j w u
          → (m : ℕ) × (step_s bytes vs p (Some n) ≡ Some m) × Entry bytes vs x h.path m j w
      next_entry j w u e =
          let r = step_entry (Some n) (past k (sorted t)) (left_past bytes vs t n k s.below s.key) j w u e in
          (r.0, r.1, r.2)

      pub next_none : past k (sorted t) ≡ empty → step_s bytes vs p (Some n) ≡ None
      next_none e = step_end (Some n) (past k (sorted t)) (left_past bytes vs t n k s.below s.key) e

    -- steps from a value find these entries, one after the other, and then nothing
    abbrev pub Walks : Found ℕ → Table → Type 0
    Walks after empty = step_s bytes vs p after ≡ None
    Walks after (entry k v u) = (n : ℕ) × (step_s bytes vs p after ≡ Some n) × Entry bytes vs x h.path n k v × Walks (Some n) u

    walks : (u : Table) (after : Found ℕ) → Left bytes vs t after u → Walks after u
    walks empty after left = step_end after empty left refl
    walks (entry k v u) after left =
        let s = step_entry after (entry k v u) left k v u refl in
        (s.0, s.1, s.2, walks u (Some s.0) s.3)

    -- the walk from nothing meets the table's entries in byte order of key
    pub walk_sorted : Walks None (sorted t)
    walk_sorted = walks (sorted t) None (left_first bytes vs t)

-- ---- a document's tables have each key once, so the walk meets as many entries as the table has

nth_once : (is : Items) (i : ℕ) → OnceAll is → Maybe Once (nth is i)
nth_once none' i h = tt
nth_once (item v is) zero h = h.0
nth_once (item v is) (suc i) h = nth_once is i h.1

get_once : (v : Value) (k : Key) → Once v → Maybe Once (get v k)
get_once (str s) k h = tt
get_once (int i) k h = tt
get_once (boolean b) k h = tt
get_once (array is) (name k) h = tt
get_once (array is) (index i) h = nth_once is i h
get_once (table t) (name k) h = lookup_once t k h
get_once (table t) (index i) h = tt

find_once : (x : Value) → Once x → (g : List Key) → Maybe Once (find (some x) g)
find_once x h [] = h
find_once x h (k ∷ g) = go (find (some x) g) (find_once x h g)
  where
    go : (o : Option Value) → Maybe Once o → Maybe Once (read_as (λ v. get v k) o)
    go none e = tt
    go (some v) e = get_once v k e

module _ (lim : Limits) (s : List ℕ) (r : Parsed) (e : document lim s ≡ accepted r) (g : List Key) (t : Table) (f : find (some (table r.root)) g ≡ some (table t)) where
  pub distinct_at : Distinct t
  distinct_at =
      let h : OnceIn r.root = subst Rooted e (once lim s) in
      once_distinct t (subst (Maybe Once) f (find_once (table r.root) h g))

  pub entries_at : entries (sorted t) ≡ entries t
  entries_at = sorted_entries t distinct_at
