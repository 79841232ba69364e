-- Kinds of values and pieces in byte order: one law for each way out.
use Prim.Native.Nat.{ℕ, ◌≤◌, ◌<◌}
use mathlib.Core.Bool.{Bool, true, false}
use mathlib.Core.List.{List, [], ◌∷◌}
use mathlib.Core.Path.{◌≡◌, refl, ◌∙◌}
use borrow.Author.Tests.{lt-ltb, le-ltb, ne_eqb}
use lib.Dec.{eqb, ltb}
use lib.ListN.{length}
use Rattle.meaning.specs.Base.{pick, less}
use Rattle.laws.specs.Cases.{on}
use Rattle.laws.specs.Variants.{Left, others}
use Rattle.meaning.specs.Features.{words}
use Rattle.schema.specs.Texts.{clip}
use Rattle.tree.specs.Doors.{items}
use Rattle.tree.specs.contracts.Value.{enum}
use Rattle.tree.specs.declared.Value.{Value}
use Rattle.tree.specs.declared.Value.TheVariants as values
use Rattle.schema.specs.declared.Features.TheVariants.{Absent, Words, Items}
use Rattle.features.specs.declared.Piece.{Piece}
use Rattle.features.specs.declared.FeaturesRead.{FeaturesRead}
use Rattle.std.specs.Prelude.{Option, Some}
use Rattle.features.specs.Ordered.{words_length}
use Rattle.features.specs.Pieces.{piece_of, is_text, words_from, all_texts, few_words, items_fault, few_items, features_read, bytes_of, comes_after, ahead, better}

-- ---- what a value is
pub piece_is : (v w : Value) (p : Piece) → v ≡ w → p ≡ piece_of w → p ≡ piece_of v
piece_is v w p e h = rw e h

-- all but a text
module _ (v : Value) (o : Left enum (0 ∷ 2 ∷ 3 ∷ 4 ∷ 5 ∷ []) v) where
  pub piece_not : record { from = 0; len = 0 } ≡ piece_of v
  piece_not = others enum (λ w. record { from = 0; len = 0 } ≡ piece_of w) (0 ∷ 2 ∷ 3 ∷ 4 ∷ 5 ∷ []) (λ _. refl) (λ _. refl) (λ _. refl) (λ _. refl) (λ _. refl) v o

  pub text_not : false ≡ is_text v
  text_not = others enum (λ w. false ≡ is_text w) (0 ∷ 2 ∷ 3 ∷ 4 ∷ 5 ∷ []) (λ _. refl) (λ _. refl) (λ _. refl) (λ _. refl) (λ _. refl) v o

-- ---- the limit
module _ (store : List ℕ) (limit from len n : ℕ) (s : List ℕ) (e : n ≡ length (words s)) (f : s ≡ clip from len store) where
  count_is : length (words_from store from len 0) ≡ n
  count_is = words_length store from len ∙ rw (← f, e)

  pub words_many : (r : FeaturesRead) → limit < n → r ≡ record { fault = 25; features = Absent } → r ≡ few_words store limit from len
  words_many r h k = rw (count_is, lt-ltb limit n h) k

  pub words_few : n ≤ limit → record { fault = 0; features = Words from len } ≡ few_words store limit from len
  words_few h = rw (count_is, le-ltb limit n h)

module _ (tree store : List ℕ) (made limit place : ℕ) where
  by_fault : few_items tree store made limit place
      ≡ pick (eqb (items_fault tree store made limit place) 0) (record { fault = 0; features = Items place }) (record { fault = items_fault tree store made limit place; features = Absent })
  by_fault =
      let all = items tree made place 0 in
      on (ltb limit (length all)) (λ e. rw e) (λ e. on (all_texts tree store all) (λ g. rw (e, g)) (λ g. rw (e, g)))

  module _ (fault : ℕ) (e : fault ≡ items_fault tree store made limit place) where
    pub items_few : fault ≡ 0 → record { fault = 0; features = Items place } ≡ few_items tree store made limit place
    items_few z = rw (by_fault, ← e, z)

    pub items_wrong : (r : FeaturesRead) → (fault ≡ 0 → ⊥) → r ≡ record { fault = fault; features = Absent } → r ≡ few_items tree store made limit place
    items_wrong r f k = rw (by_fault, ← e, ne_eqb fault 0 f) k

module _ (tree store : List ℕ) (made limit : ℕ) (v : Value) (r : FeaturesRead) where
  pub read_words : (from len : ℕ) → v ≡ values.Text from len → r ≡ few_words store limit from len → r ≡ features_read tree store made limit v
  unfolding features_read
  read_words from len e h = rw e h

  pub read_items : (place : ℕ) → v ≡ values.Array place → r ≡ few_items tree store made limit place → r ≡ features_read tree store made limit v
  unfolding features_read
  read_items place e h = rw e h

  pub read_absent : v ≡ values.Absent → r ≡ record { fault = 0; features = Absent } → r ≡ features_read tree store made limit v
  unfolding features_read
  read_absent e h = rw e h

  -- all but a text, an array and none
  pub read_not : Left enum (2 ∷ 3 ∷ 5 ∷ []) v → r ≡ record { fault = 20; features = Absent } → r ≡ features_read tree store made limit v
  unfolding features_read
  read_not o h =
      h
      ∙ others enum (λ w. record { fault = 20; features = Absent } ≡ features_read tree store made limit w) (2 ∷ 3 ∷ 5 ∷ []) (λ _. refl) (λ _. refl) (λ _. refl) v o

-- ---- pieces
pub before_is : (store a b : List ℕ) (p q : Piece) (r : Bool) → a ≡ bytes_of store p → b ≡ bytes_of store q → r ≡ less a b → r ≡ less (bytes_of store p) (bytes_of store q)
before_is store a b p q r e f h = rw (← e, ← f) h

module _ (store : List ℕ) (after best : Option Piece) (p : Piece) (r : Bool) (e : r ≡ comes_after store after p) where
  pub better_not : r ≡ false → best ≡ better store after best p
  unfolding better
  better_not f = rw (← e, f)

  module _ (q : Bool) (f : r ≡ true) (g : q ≡ ahead store best p) where
    pub better_it : q ≡ true → Some p ≡ better store after best p
    unfolding better
    better_it t = rw (← e, f, ← g, t)

    pub better_best : q ≡ false → best ≡ better store after best p
    unfolding better
    better_best t = rw (← e, f, ← g, t)
