-- What a reader of the rooms meets: a place that stands for a value of 01, its kind and payload, its keys and its items in order.
use Rattle.std.specs.Prelude.{ℕ, zero, suc, ◌+◌, ◌-◌, ◌≤◌, ◌<◌, List, [], ◌∷◌, false, ◌≡◌, refl, eqb, ltb, length, get_or, Option, Some, None}
use Rattle.std.proofs.Math.Option.{none, some}
use Rattle.std.proofs.Common.{sym, ap, ◌∙◌, arith, eqb-true, eq-eqb, ltb-true, ltb-false}
use Rattle.std.proofs.Math.Path.{subst}
use Rattle.std.proofs.lemmas.Bool.{eqb-false}
use Rattle.meaning.specs.Tree.{Value, Items, Table, array, table, lookup, read_as, count as many}
use Rattle.laws.specs.Cases.{on}
use Rattle.tree.specs.declared.Slot.{Slot}
use Rattle.values.specs.Grow.{void, look_s}
use Rattle.agree.specs.Key.{name, index}
use Rattle.agree.specs.Log.{count, test_parent, test_count, reached, Reached}
use Rattle.agree.specs.Finds.{get, find, nth}
use Rattle.agree.specs.Meets.{Shows, slot_of}
use Rattle.agree.specs.Slots.{log_of, place_of, count_up}
use Rattle.agree.specs.Steps.{Agree, to}
use Rattle.agree.proofs.Steps.{meets_some, meets_none, items_count}
use Rattle.agree.specs.Down.{Stand, Key-found}
use Rattle.agree.proofs.Down.{key_found, key_meets, search_is}
use Rattle.agree.specs.Reads.{Place, Says, first_s, next_s}

first_says : (vs : List Slot) (p k i : ℕ) → Says vs p i (i + k) (first_s vs p k i)
first_says vs p zero i = let z : i + 0 ≡ i = omega arith in ap (λ (n : ℕ). count (log_of vs) n p) z
first_says vs p (suc k) i =
    on (eqb (get_or vs i void).parent p)
    (λ t. rw t (omega arith, omega arith, eqb-true (get_or vs i void).parent p t, refl))
    (λ t. rw t (onto_next t (first_s vs p k (i + 1)) (first_says vs p k (i + 1))))
  where
    one_on : eqb (get_or vs i void).parent p ≡ false → count (log_of vs) (i + 1) p ≡ count (log_of vs) i p
    one_on t = let z : i + 1 ≡ suc i = omega arith in ap (λ (n : ℕ). count (log_of vs) n p) z ∙ rw t

    onto_next : eqb (get_or vs i void).parent p ≡ false → (r : Option ℕ) → Says vs p (i + 1) (i + 1 + k) r → Says vs p i (i + suc k) r
    onto_next t (Some n) h = (omega (arith, h.0), omega (arith, h.1), h.2, h.3 ∙ one_on t)
    onto_next t None h =
        let z : i + suc k ≡ i + 1 + k = omega arith in
        ap (λ (n : ℕ). count (log_of vs) n p) z ∙ h ∙ one_on t

module _ (bytes : List ℕ) (vs : List Slot) (x : Value) (a : Agree bytes vs x) where
  pub place_root : Place bytes vs x 1 x
  place_root = record { path = []; leads = refl; found = refl }

  module _ (p : ℕ) (v : Value) (h : Place bytes vs x p v) where
    pub place_shows : Shows bytes (slot_of (log_of vs) p) v
    place_shows = subst (λ (z : ℕ). Shows bytes (slot_of (log_of vs) z) v) h.leads (meets_some bytes vs x a h.path v h.found).1

    pub place_there : 1 ≤ p
    place_there = omega (arith, (meets_some bytes vs x a h.path v h.found).0, h.leads)

  -- ---- keys

  module _ (p : ℕ) (t : Table) (h : Place bytes vs x p (table t)) (k : List ℕ) where
    stand : Stand bytes vs x h.path t p
    stand = record { agree = a; found = h.found; leads = h.leads }

    key_found_is : find (some x) (name k ∷ h.path) ≡ lookup t k
    key_found_is = ap (read_as (λ v. get v (name k))) h.found

    search : place_of (look_s bytes 0 vs p k None) ≡ to bytes vs (name k ∷ h.path)
    search = search_is bytes vs x h.path t p stand k k refl

    key_by : (r : Option ℕ) → place_of r ≡ to bytes vs (name k ∷ h.path) → (v : Value) → lookup t k ≡ some v → (n : ℕ) × (r ≡ Some n) × Place bytes vs x (n + 2) v
    key_by (Some n) e v d = (n, refl, record { path = name k ∷ h.path; leads = sym e; found = key_found_is ∙ d })
    key_by None e v d = absurd (omega (arith, (meets_some bytes vs x a (name k ∷ h.path) v (key_found_is ∙ d)).0))

    -- a key of the table is found, and what is found stands for its value
    pub place_key : (v : Value) → lookup t k ≡ some v → (n : ℕ) × (look_s bytes 0 vs p k None ≡ Some n) × Place bytes vs x (n + 2) v
    place_key v d = key_by (look_s bytes 0 vs p k None) search v d

    no_key_by : (r : Option ℕ) → place_of r ≡ to bytes vs (name k ∷ h.path) → lookup t k ≡ none → r ≡ None
    no_key_by (Some n) e d = absurd (omega (arith, meets_none bytes vs x a (name k ∷ h.path) (key_found_is ∙ d)))
    no_key_by None e d = refl

    -- what is no key of the table is not found
    pub place_no_key : lookup t k ≡ none → look_s bytes 0 vs p k None ≡ None
    place_no_key d = no_key_by (look_s bytes 0 vs p k None) search d

    -- what is found is a key of the table
    pub key_place : (n : ℕ) → look_s bytes 0 vs p k None ≡ Some n → (v : Value) × (lookup t k ≡ some v) × Place bytes vs x (n + 2) v
    key_place n e =
        let l : n + 2 ≡ to bytes vs (name k ∷ h.path) = ap place_of (sym e) ∙ search in
        let f : Key-found bytes vs n (lookup t k) = key_found bytes vs (to bytes vs (name k ∷ h.path)) n (lookup t k) (key_meets bytes vs x h.path t p stand k) l in
        (f.it, f.is, record { path = name k ∷ h.path; leads = sym l; found = key_found_is ∙ f.is })

  -- ---- items

  module _ (p : ℕ) (is : Items) (h : Place bytes vs x p (array is)) where
    -- as many slots hang under it as it has items
    pub place_count : count (log_of vs) (length vs) p ≡ many is
    place_count = ap (count (log_of vs) (length vs)) (sym h.leads) ∙ sym (items_count bytes vs x a h.path is h.found)

    item_found_is : (i : ℕ) → find (some x) (index i ∷ h.path) ≡ nth is i
    item_found_is i = ap (read_as (λ v. get v (index i))) h.found

    module _ (from i : ℕ) (c : count (log_of vs) from p ≡ i) (low : from ≤ length vs) where
      length_is : from + (length vs - from) ≡ length vs
      length_is = omega arith

      says : Says vs p from (length vs) (next_s vs p from)
      unfolding next_s
      says = subst (λ (e : ℕ). Says vs p from e (next_s vs p from)) length_is (first_says vs p (length vs - from) from)

      item_by : (r : Option ℕ) → Says vs p from (length vs) r → (v : Value) → nth is i ≡ some v
          → (n : ℕ) × (r ≡ Some n) × (from ≤ n) × (n < length vs) × (count (log_of vs) (n + 1) p ≡ i + 1) × Place bytes vs x (n + 2) v
      item_by (Some n) s v d =
          let m = meets_some bytes vs x a (index i ∷ h.path) v (item_found_is i ∙ d) in
          let q : ℕ = to bytes vs h.path in
          let g : Reached bytes (log_of vs) q (index i) = reached bytes (log_of vs) q (index i) (λ z. omega (arith, m.0)) in
          let u : (get_or vs g.number void).parent ≡ p = test_parent bytes (log_of vs) q (index i) g.number g.holds ∙ h.leads in
          let w : count (log_of vs) g.number p ≡ i = ap (count (log_of vs) g.number) (sym h.leads) ∙ test_count bytes (log_of vs) q i g.number g.holds in
          let o : count (log_of vs) n p ≡ i = s.3 ∙ c in
          let y : g.number ≡ n =
          on (eqb g.number n) (λ t. eqb-true g.number n t)
          (λ t. on (ltb g.number n)
          (λ b. absurd (omega (arith, count_up (log_of vs) p g.number n (ltb-true g.number n b) u)))
          (λ b. absurd (omega (arith, count_up (log_of vs) p n g.number (omega (arith, ltb-false g.number n b, eqb-false g.number n t)) s.2)))) in
          let z : n + 1 ≡ suc n = omega arith in
          let f : count (log_of vs) (n + 1) p ≡ i + 1 = ap (λ (j : ℕ). count (log_of vs) j p) z ∙ rw (eq-eqb (get_or vs n void).parent p s.2, o) (omega arith) in
          (n, refl, s.0, s.1, f, record { path = index i ∷ h.path; leads = g.is ∙ ap (λ (j : ℕ). j + 2) y; found = item_found_is i ∙ d })
      item_by None s v d =
          let m = meets_some bytes vs x a (index i ∷ h.path) v (item_found_is i ∙ d) in
          let q : ℕ = to bytes vs h.path in
          let g : Reached bytes (log_of vs) q (index i) = reached bytes (log_of vs) q (index i) (λ z. omega (arith, m.0)) in
          let u : (get_or vs g.number void).parent ≡ p = test_parent bytes (log_of vs) q (index i) g.number g.holds ∙ h.leads in
          let w : count (log_of vs) g.number p ≡ i = ap (count (log_of vs) g.number) (sym h.leads) ∙ test_count bytes (log_of vs) q i g.number g.holds in
          absurd (omega (arith, count_up (log_of vs) p g.number (length vs) g.below u))

      -- after i items the next one found stands for item i
      pub place_item : (v : Value) → nth is i ≡ some v
          → (n : ℕ) × (next_s vs p from ≡ Some n) × (from ≤ n) × (n < length vs) × (count (log_of vs) (n + 1) p ≡ i + 1) × Place bytes vs x (n + 2) v
      place_item v d = item_by (next_s vs p from) says v d

      no_item_by : (r : Option ℕ) → Says vs p from (length vs) r → many is ≤ i → r ≡ None
      no_item_by (Some n) s l =
          absurd (omega (arith, count_up (log_of vs) p n (length vs) s.1 s.2, s.3, place_count))
      no_item_by None s l = refl

      -- after the last item none is found
      pub place_no_item : many is ≤ i → next_s vs p from ≡ None
      place_no_item l = no_item_by (next_s vs p from) says l
