-- What a table's fields and an array's items are: the children all stand between from and to, and the items go from child to child.
use Prim.Native.Nat.{ℕ, zero, suc, ◌+◌, ◌-◌, ◌≤◌, ◌<◌}
use Rattle.std.specs.Prelude.{false, List, [], ◌∷◌, ◌≡◌, refl, leb, ltb, length, unwrap_or, Option, Some, None}
use Rattle.std.proofs.Math.Path.{sym}
use Rattle.std.proofs.Common.{ap, ◌∙◌, add-one, add-zero}
use native.Mathlib.Omega.{arith}
use borrow.Author.Tests.{leb-true, leb-false, ltb-true, ltb-false}
use Rattle.meaning.specs.Base.{pick}
use Rattle.laws.specs.Cases.{on}
use Rattle.tree.specs.Room.{Holds, Finds, under, mine, look, first, child, count}
use Rattle.tree.specs.Doors.{Spread, newest, fields_of, look_in, among, items_in, items, first_of, nth_of}

module _ (room : List ℕ) (parent : ℕ) where
  -- ---- the newest child
  pub newest_high : (made : ℕ) → newest room made parent ≤ made
  newest_high zero = omega arith
  newest_high (suc n) = on (under room n parent) (λ p. rw p (omega arith)) (λ p. rw p (omega (arith, newest_high n)))

  -- ---- the first child
  -- among k values from number i on it stands below their end
  first_high : (k i : ℕ) → unwrap_or (first room parent k i) (i + k) ≤ i + k
  first_high zero i = omega arith
  first_high (suc k) i =
      let e : i + suc k ≡ i + 1 + k = omega arith in
      on (under room i parent) (λ p. rw p (omega arith)) (λ p. rw (p, e) (first_high k (i + 1)))

  -- and below it no value hangs under the parent
  first_clear : (k i j : ℕ) → i ≤ j → j < unwrap_or (first room parent k i) (i + k) → under room j parent ≡ false
  first_clear zero i j h l = absurd (omega arith)
  first_clear (suc k) i j h l =
      let e : i + suc k ≡ i + 1 + k = omega arith in
      on (under room i parent)
      (λ p. absurd (let q : j < i = rw p at l in omega arith))
      (λ p.
      on (ltb i j)
      (λ t. first_clear k (i + 1) j (omega (arith, ltb-true i j t)) (rw (p, e) at l))
      (λ t. let q : j ≡ i = omega (arith, ltb-false i j t) in rw q p))

  -- ---- the items
  first_of_items : (k i : ℕ) → first_of (items_in room parent k i) ≡ first room parent k i
  first_of_items zero i = refl
  first_of_items (suc k) i = on (under room i parent) (λ p. rw p) (λ p. rw p (first_of_items k (i + 1)))

  count_items_lem : (k i : ℕ) → length (items_in room parent k i) + count room i parent ≡ count room (i + k) parent
  count_items_lem zero i = let e : i + 0 ≡ i = omega arith in rw e (omega arith)
  count_items_lem (suc k) i =
      let e : i + suc k ≡ i + 1 + k = omega arith in
      let c : count room (i + 1) parent ≡ pick (under room i parent) (count room i parent + 1) (count room i parent) = rw (add-one i) in
      let s = count_items_lem k (i + 1) in
      on (under room i parent) (λ p. rw (p, e) (omega (arith, rw p at c))) (λ p. rw (p, e) (omega (arith, rw p at c)))

  -- a last value that hangs elsewhere is none of them
  last_items : (k i : ℕ) → under room (i + k) parent ≡ false → items_in room parent (suc k) i ≡ items_in room parent k i
  last_items zero i p = rw (rw (add-zero i) at p)
  last_items (suc k) i p =
      let e : i + suc k ≡ i + 1 + k = omega arith in
      rw (last_items k (i + 1) (rw e at p))

  -- nor are first ones that do
  first_items : (d k i : ℕ) → ((j : ℕ) → i ≤ j → j < i + d → under room j parent ≡ false) → items_in room parent (k + d) i ≡ items_in room parent k (i + d)
  first_items zero k i h = rw (add-zero i, add-zero k)
  first_items (suc d) k i h =
      let e : i + suc d ≡ i + 1 + d = omega arith in
      let s : k + suc d ≡ suc (k + d) = omega arith in
      let p : under room i parent ≡ false = h i (omega arith) (omega arith) in
      rw (s, e, p) (first_items d k (i + 1) (λ j l m. h j (omega arith) (omega arith)))

  -- from a child on: the child, and the items after it
  cons_items : (k i n : ℕ) → first room parent k i ≡ Some n → items_in room parent k i ≡ n ∷ items_in room parent (i + k - (n + 1)) (n + 1)
  cons_items zero i n e = let z : ◌≡◌ {A = ℕ} 0 1 = cc in absurd (omega arith)
  cons_items (suc k) i n e =
      on (under room i parent)
      (λ p.
      let f : Some i ≡ Some n = rw p at e in
      let g : i ≡ n = cc in
      let d : n + suc k - (n + 1) ≡ k = omega arith in
      rw (p, g, d))
      (λ p.
      let d : i + suc k ≡ i + 1 + k = omega arith in
      rw (p, d) (cons_items k (i + 1) n (rw p at e)))

  -- each stands among the k values
  among_items : (k j i n : ℕ) → nth_of (items_in room parent k j) i ≡ Some n → (j ≤ n) × (n < j + k)
  among_items zero j i n e = let z : ◌≡◌ {A = ℕ} 0 1 = cc in absurd (omega arith)
  among_items (suc k) j zero n e =
      on (under room j parent)
      (λ p. let f : Some j ≡ Some n = rw p at e in let g : j ≡ n = cc in (omega arith, omega arith))
      (λ p. let b = among_items k (j + 1) zero n (rw p at e) in (omega (arith, b.0), omega (arith, b.1)))
  among_items (suc k) j (suc i) n e =
      on (under room j parent)
      (λ p. let b = among_items k (j + 1) i n (rw p at e) in (omega (arith, b.0), omega (arith, b.1)))
      (λ p. let b = among_items k (j + 1) (suc i) n (rw p at e) in (omega (arith, b.0), omega (arith, b.1)))

-- ---- a table's fields
module _ (room : List ℕ) (to place : ℕ) where
  from_high : unwrap_or (child room to place 0) to ≤ to
  unfolding child
  from_high = let d : to - 0 ≡ to = omega arith in let z : 0 + to ≡ to = omega arith in rw d (rw z at (first_high room place to 0))

  from_clear : (j : ℕ) → j < unwrap_or (child room to place 0) to → under room j place ≡ false
  unfolding child
  from_clear j l =
      let d : to - 0 ≡ to = omega arith in
      let z : 0 + to ≡ to = omega arith in
      first_clear room place to 0 j (omega arith) (rw z (rw d at l))

pub spread_fields : (room : List ℕ) (made place : ℕ) → Holds room made → made ≤ 65000 → Spread room (fields_of room made place)
unfolding fields_of
spread_fields room made place h l =
    let t = newest_high room place made in
    record {
      order = from_high room (newest room made place) place;
      fits = record { fits = omega (arith, h.fits) };
      low = omega arith;
    }

module _ (room store : List ℕ) (place : ℕ) (key : List ℕ) where
  -- what hangs elsewhere is not looked at
  mine_not : (n : ℕ) → under room n place ≡ false → mine room store n place key ≡ false
  unfolding mine
  mine_not n p = rw p

  look_newest : (made : ℕ) → look room store (newest room made place) place key ≡ look room store made place key
  look_newest zero = refl
  look_newest (suc n) = on (under room n place) (λ p. rw p) (λ p. rw (p, mine_not n p) (look_newest n))

  look_clear : (from : ℕ) → ((j : ℕ) → j < from → under room j place ≡ false) → look room store from place key ≡ None
  look_clear zero h = refl
  look_clear (suc n) h = rw (mine_not n (h n (omega arith))) (look_clear n (λ (j : ℕ). λ (l : j < n). h j (omega arith)))

  look_from : (from k : ℕ) → ((j : ℕ) → j < from → under room j place ≡ false) → look_in room store from k place key ≡ look room store (from + k) place key
  look_from from zero h = rw (add-zero from) (sym (look_clear from h))
  look_from from (suc k) h = let e : from + suc k ≡ suc (from + k) = omega arith in rw (e, look_from from k h)

-- a field is looked for among the children alone, and nothing is lost
pub among_look : (room store : List ℕ) (made place : ℕ) (key : List ℕ) → among room store (fields_of room made place) key ≡ look room store made place key
unfolding among fields_of
among_look room store made place key =
    let to : ℕ = newest room made place in
    let from : ℕ = unwrap_or (child room to place 0) to in
    let e : from + (to - from) ≡ to = omega (arith, from_high room to place) in
    let f : look_in room store from (to - from) place key ≡ look room store (from + (to - from)) place key
    = look_from room store place key from (to - from) (from_clear room to place) in
    f ∙ ap (λ (x : ℕ). look room store x place key) e ∙ look_newest room store place key made

-- ---- an array's items
nth_first : (ns : List ℕ) → nth_of ns 0 ≡ first_of ns
nth_first [] = refl
nth_first (n ∷ ns) = refl

first_none : (ns : List ℕ) → first_of ns ≡ None → ns ≡ []
first_none [] e = refl
first_none (n ∷ ns) e = let z : ◌≡◌ {A = ℕ} 0 1 = cc in absurd (omega arith)

module _ (room : List ℕ) (made parent from : ℕ) where
  pub items_child : child room made parent from ≡ first_of (items room made parent from)
  unfolding child items
  items_child = sym (first_of_items room parent (made - from) from)

  -- number i of the items stands among the values made, from the number on
  pub items_from_lem : (i n : ℕ) → nth_of (items room made parent from) i ≡ Some n → from ≤ n
  unfolding items
  items_from_lem i n e = (among_items room parent (made - from) from i n e).0

  pub items_below : (i n : ℕ) → nth_of (items room made parent from) i ≡ Some n → n < made
  unfolding items
  items_below i n e =
      on (leb from made)
      (λ t. omega (arith, leb-true from made t, (among_items room parent (made - from) from i n e).1))
      (λ t.
      let d : made - from ≡ 0 = omega (arith, leb-false from made t) in
      absurd (omega (arith, among_items room parent 0 from i n (rw d at e))))

  -- a walk's step: the child and the items after it, or none
  pub items_next : (n : ℕ) → child room made parent from ≡ Some n → items room made parent from ≡ n ∷ items room made parent (n + 1)
  unfolding child items
  items_next n e =
      let f : first_of (items room made parent from) ≡ Some n = sym items_child ∙ e in
      let b : n < made = items_below 0 n (nth_first (items room made parent from) ∙ f) in
      let d : from + (made - from) - (n + 1) ≡ made - (n + 1) = omega (arith, items_from_lem 0 n (nth_first (items room made parent from) ∙ f)) in
      rw d at (cons_items room parent (made - from) from n e)

  pub items_none : child room made parent from ≡ None → items room made parent from ≡ []
  items_none e = first_none (items room made parent from) (sym items_child ∙ e)

  -- the same as the code learns of it
  pub items_step : (n : ℕ) (r : Option ℕ) → Finds from made (child room made parent from) r → r ≡ Some n
      → items room made parent from ≡ n ∷ items room made parent (n + 1)
  items_step n r h e = items_next n (sym h.is ∙ e)

  pub items_end : (r : Option ℕ) → Finds from made (child room made parent from) r → r ≡ None → items room made parent from ≡ []
  items_end r h e = items_none (sym h.is ∙ e)

  -- and as a walk over the list of items learns of it
  module _ (n : ℕ) (ns : List ℕ) (e : items room made parent from ≡ n ∷ ns) where
    pub item_child : child room made parent from ≡ Some n
    item_child = items_child ∙ ap first_of e

-- its items are those from the first child to the newest, and nothing is lost
module _ (room : List ℕ) (place : ℕ) where
  fewer_items : (n : ℕ) → under room n place ≡ false → items room (suc n) place 0 ≡ items room n place 0
  unfolding items
  fewer_items n p =
      let d : suc n - 0 ≡ suc n = omega arith in
      let e : n - 0 ≡ n = omega arith in
      let z : 0 + n ≡ n = omega arith in
      rw (d, e) (last_items room place n 0 (rw z p))

  items_newest : (made : ℕ) → items room (newest room made place) place 0 ≡ items room made place 0
  items_newest zero = refl
  items_newest (suc n) = on (under room n place) (λ p. rw p) (λ p. rw p (items_newest n ∙ sym (fewer_items n p)))

  items_first : (to : ℕ) → items room to place (unwrap_or (child room to place 0) to) ≡ items room to place 0
  unfolding items
  items_first to =
      let from : ℕ = unwrap_or (child room to place 0) to in
      let d : to - 0 ≡ to - from + from = omega (arith, from_high room to place) in
      let z : 0 + from ≡ from = omega arith in
      sym (rw d (rw z at (first_items room place from (to - from) 0 (λ j l m. from_clear room to place j (rw z at m)))))

  pub items_fields : (made : ℕ) → items room (fields_of room made place).to place (fields_of room made place).from ≡ items room made place 0
  unfolding fields_of
  items_fields made = items_first (newest room made place) ∙ items_newest made

pub items_count : (room : List ℕ) (made parent : ℕ) → length (items room made parent 0) ≡ count room made parent
unfolding items
items_count room made parent =
    let d : made - 0 ≡ made = omega arith in
    let z : 0 + made ≡ made = omega arith in
    rw d (omega (arith, rw z at (count_items_lem room parent made 0)))
