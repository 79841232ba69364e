-- Two lists side by side, in byte order and in the order of the text: one law for each way on and out.
use Prim.Native.Nat.{ℕ, zero, suc, ◌≤◌, ◌<◌}
use mathlib.Core.Bool.{Bool, true, false, not}
use mathlib.Core.List.{List, [], ◌∷◌}
use mathlib.Core.Path.{◌≡◌, refl, sym, ap, ◌∙◌}
use native.Mathlib.Omega.{arith}
use lib.ListN.{length, drop, length-drop}
use Rattle.meaning.specs.Base.{pick, same}
use Rattle.meaning.specs.Features.{ordered}
use Rattle.meaning.specs.Rules.{same_all}
use Rattle.laws.specs.Cases.{never}
use Rattle.laws.specs.Never.{same_refl}
use Rattle.laws.specs.Order.{same_eq}
use Rattle.schema.specs.declared.Features.{Features}
use Rattle.features.specs.declared.Piece.{Piece}
use Rattle.features.specs.declared.Raw.{Raw}
use Rattle.std.specs.Prelude.{Option, Some, None, is_some}
use Rattle.features.specs.Pieces.{Steps, pieces_from, pieces, bound, bytes_of, next_of, same_feature}
use Rattle.features.specs.Ordered.{bytes_all, Walks, walk_ordered}
use Rattle.features.proofs.Stepping.{step_at}

-- ---- same_piece and same_feature

pub piece_same : (store s t : List ℕ) (p q : Piece) (r : Bool) → s ≡ bytes_of store p → t ≡ bytes_of store q → r ≡ same s t → r ≡ same (bytes_of store p) (bytes_of store q)
piece_same store s t p q r i j h = rw (← i, ← j) h

-- ---- how many steps a walk has left

-- one more than after it, where there is one
abbrev more : Option Piece → ℕ → ℕ
more None n = 0
more (Some p) n = suc n

-- counted up to a bound, for it recurs on nothing else
abbrev steps_to : List ℕ → List Piece → ℕ → Option Piece → ℕ
steps_to store ps zero after = 0
steps_to store ps (suc n) after = more (next_of store after None ps) (steps_to store ps n (next_of store after None ps))

-- the bound: a walk gives the items in byte order and no more
abbrev pub steps : List ℕ → List Piece → Option Piece → ℕ
steps store ps after = steps_to store ps (length (ordered (bytes_all store ps))) after

steps_are : (store : List ℕ) (ps : List Piece) (n : ℕ) (after : Option Piece) (us : List (List ℕ)) → Walks store ps after us → length us ≤ n → steps_to store ps n after ≡ length us
steps_are store ps zero after us w h = omega arith
steps_are store ps (suc n) after [] w h = rw w
steps_are store ps (suc n) after (u ∷ us) w h = rw w.1 (ap suc (steps_are store ps n (Some w.0) us w.3 (omega arith)))

-- ---- equal_slow

-- what a test for nothing says
pub none_is : {A : Type 0} (o : Option A) (q : Bool) → is_some o ≡ not q → q ≡ true → o ≡ None
none_is None q e h = refl
none_is (Some x) q e h = never {b = not q} (sym e) (rw h)

pub some_is : {A : Type 0} (o : Option A) (q : Bool) → is_some o ≡ not q → q ≡ false → (x : A) × (o ≡ Some x)
some_is None q e h = never {b = not q} (rw h) (sym e)
some_is (Some x) q e h = (x, refl)

nothing_at : {G : Type 0} (p : Piece) → None ≡ Some p → G
nothing_at p e = let z : ◌≡◌ {A = ℕ} 0 1 = cc in absurd (omega arith)

-- true at the end of a walk, otherwise what the others say
abbrev onward : Option Piece → Bool → Bool
onward None t = true
onward (Some p) t = t

module _ (store : List ℕ) (ps qs : List Piece) where
  module _ (a b : Option Piece) where
    -- the first items decide, or the others
    firsts : (us vs : List (List ℕ)) → Walks store ps a us → Walks store qs b vs
        → same_all us vs ≡ pick (same_feature store (next_of store a None ps) (next_of store b None qs)) (onward (next_of store a None ps) (same_all (drop 1 us) (drop 1 vs))) false
    firsts [] [] w v = rw (w, v)
    firsts [] (y ∷ ys) w v = rw (w, v.1)
    firsts (x ∷ xs) [] w v = rw (w.1, v)
    firsts (x ∷ xs) (y ∷ ys) w v = rw (w.1, v.1, w.2, v.2)

    -- both walks go on
    others : (us vs : List (List ℕ)) (p : Piece) → Walks store ps a us → Walks store qs b vs → next_of store a None ps ≡ Some p
        → same_feature store (next_of store a None ps) (next_of store b None qs) ≡ true
        → (0 < length us) × Walks store ps (next_of store a None ps) (drop 1 us) × Walks store qs (next_of store b None qs) (drop 1 vs)
    others [] vs p w v e h = nothing_at p (sym w ∙ e)
    others (x ∷ xs) [] p w v e h = never {b = false} (rw (w.1, v) at h) refl
    others (x ∷ xs) (y ∷ ys) p w v e h = (omega arith, rw w.1 w.3, rw v.1 v.3)

  pub record Comparing (a b : Option Piece) : Type 0 where
    pub us : List (List ℕ)
    pub vs : List (List ℕ)
    pub one : Walks store ps a us
    pub two : Walks store qs b vs
    pub few : length us ≤ length (ordered (bytes_all store ps))
    pub left : same_all (ordered (bytes_all store ps)) (ordered (bytes_all store qs)) ≡ same_all us vs

  pub compare_start : Comparing None None
  compare_start =
      record {
        us = ordered (bytes_all store ps);
        vs = ordered (bytes_all store qs);
        one = walk_ordered store ps;
        two = walk_ordered store qs;
        few = omega arith;
        left = refl;
      }

  module _ (a b : Option Piece) (k : Comparing a b) (x y : Option Piece) (e : x ≡ next_of store a None ps) (f : y ≡ next_of store b None qs)
      (r : Bool) (h : r ≡ same_feature store x y) where
    decided : same_all (ordered (bytes_all store ps)) (ordered (bytes_all store qs)) ≡ pick r (onward x (same_all (drop 1 k.us) (drop 1 k.vs))) false
    decided = k.left ∙ firsts a b k.us k.vs k.one k.two ∙ rw (← e, ← f, ← h)

    pub compare_differ : r ≡ false → false ≡ same_all (ordered (bytes_all store ps)) (ordered (bytes_all store qs))
    compare_differ g = rw (decided, g)

    module _ (g : r ≡ true) where
      pub compare_end : x ≡ None → true ≡ same_all (ordered (bytes_all store ps)) (ordered (bytes_all store qs))
      compare_end n = rw (decided, g, n)

      module _ (p : Piece) (i : x ≡ Some p) where
        few_others : length (drop 1 k.us) ≤ length (ordered (bytes_all store ps))
        few_others = omega (arith, k.few, length-drop 1 k.us)

        others_walk : (0 < length k.us) × Walks store ps x (drop 1 k.us) × Walks store qs y (drop 1 k.vs)
        others_walk = rw (e, f) (others a b k.us k.vs p k.one k.two (sym e ∙ i) (rw (e, f) at (sym h ∙ g)))

        pub compare_on : Comparing x y
        compare_on =
            record {
              us = drop 1 k.us;
              vs = drop 1 k.vs;
              one = others_walk.1;
              two = others_walk.2;
              few = few_others;
              left = decided ∙ rw (g, i);
            }

        pub compare_less : steps store ps x < steps store ps a
        compare_less =
            let n = length (ordered (bytes_all store ps)) in
            omega (
              arith,
              others_walk.0,
              length-drop 1 k.us,
              steps_are store ps n a k.us k.one k.few,
              steps_are store ps n x (drop 1 k.us) others_walk.1 few_others,
            )

-- ---- alike

-- where the others are the same, all are
pub record Pairing (tree store : List ℕ) (made : ℕ) (f g : Features) (at bt : ℕ) : Type 0 where
  pub high : at ≤ bound tree store made f
  pub top : bt ≤ bound tree store made g
  pub left : bytes_all store (pieces_from tree store made f at) ≡ bytes_all store (pieces_from tree store made g bt)
      → bytes_all store (pieces tree store made f) ≡ bytes_all store (pieces tree store made g)

module _ (tree store : List ℕ) (made : ℕ) (f g : Features) where
  pub pair_start : Pairing tree store made f g 0 0
  pair_start = record { high = omega arith; top = omega arith; left = λ e. e }

  module _ (at bt : ℕ) (k : Pairing tree store made f g at bt) (r s : Option Raw)
      (h : Steps (pieces_from tree store made f) (bound tree store made f) at r) (i : Steps (pieces_from tree store made g) (bound tree store made g) bt s) where
    pub pair_on : (p q : Raw) (b : Bool) → r ≡ Some p → s ≡ Some q → b ≡ same (bytes_of store p.piece) (bytes_of store q.piece) → b ≡ true
        → Pairing tree store made f g p.next q.next
    pair_on p q b d e c t =
        let x = step_at tree store made at f r h p d in
        let y = step_at tree store made bt g s i q e in
        let z : bytes_of store p.piece ≡ bytes_of store q.piece = same_eq (bytes_of store p.piece) (bytes_of store q.piece) (sym c ∙ t) in
        record { high = x.2; top = y.2; left = λ w. k.left (rw (x.0, y.0, z, w)) }

-- ---- equal

same_all_lem : (xs : List (List ℕ)) → same_all xs xs ≡ true
same_all_lem [] = refl
same_all_lem (x ∷ xs) = rw (same_refl x) (same_all_lem xs)

pub alike_equal : (xs ys : List (List ℕ)) (b : Bool) → (b ≡ true → xs ≡ ys) → b ≡ true → true ≡ same_all (ordered xs) (ordered ys)
alike_equal xs ys b h e = rw (h e) (sym (same_all_lem (ordered ys)))
