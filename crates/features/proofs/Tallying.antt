-- How many items a list has in byte order: no more than the text or the array lets stand, and one law for each way on and out.
use Prim.Native.Nat.{ℕ, zero, suc, ◌+◌, ◌-◌, ◌≤◌}
use mathlib.Core.List.{List, [], ◌∷◌}
use mathlib.Core.Path.{◌≡◌, refl, sym, ap, subst, ◌∙◌}
use native.Mathlib.Omega.{arith}
use lib.ListN.{length, drop, length-drop}
use Rattle.meaning.specs.Base.{same, less}
use Rattle.meaning.specs.Features.{gap, placed, ordered}
use Rattle.laws.specs.Cases.{on}
use Rattle.laws.specs.Variants.{Left, others}
use Rattle.tree.specs.Room.{under}
use Rattle.tree.specs.declared.Fields.{Fields}
use Rattle.tree.specs.Doors.{Rooms, fields_of, items, items_in}
use Rattle.tree.specs.Spans.{spread_fields, items_fields}
use Rattle.schema.specs.contracts.Features.{enum}
use Rattle.schema.specs.declared.Features.{Features}
use Rattle.schema.specs.declared.Features.TheVariants as lists
use Rattle.schema.specs.Texts.{clip}
use Rattle.features.specs.declared.Piece.{Piece}
use Rattle.std.specs.Prelude.{Option, Some, None}
use Rattle.features.specs.Pieces.{close, words_at, pieces_at, pieces_from, pieces, bound, span, next_of}
use Rattle.features.specs.Ordered.{bytes_all, bytes_length, Walks, walk_ordered}

close_most : (i n : ℕ) (ps : List Piece) (k : ℕ) → length ps ≤ k → length (close i n ps) ≤ k + n
close_most i zero ps k h = omega arith
close_most i (suc n) ps k h = omega arith

words_most : (i n : ℕ) (s : List ℕ) → length (words_at i n s) ≤ length s + n
words_most i n [] = omega (arith, close_most i n [] 0 (omega arith))
words_most i n (b ∷ s) =
    on (gap b)
    (λ e. rw e (omega (arith, close_most i n (words_at (i + 1) 0 s) (length s) (omega (arith, words_most (i + 1) 0 s)))))
    (λ e. rw e (omega (arith, words_most (i + 1) (n + 1) s)))

items_most : (room : List ℕ) (place k i : ℕ) → length (items_in room place k i) ≤ k
items_most room place zero i = omega arith
items_most room place (suc k) i =
    on (under room i place) (λ e. rw e (omega (arith, items_most room place k (i + 1)))) (λ e. rw e (omega (arith, items_most room place k (i + 1))))

pieces_count : (room store ns : List ℕ) → length (pieces_at room store ns) ≡ length ns
pieces_count room store [] = refl
pieces_count room store (n ∷ ns) = ap suc (pieces_count room store ns)

pub pieces_most : (room store : List ℕ) (made : ℕ) (f : Features) (at : ℕ) → length (pieces_from room store made f at) ≤ bound room store made f
unfolding pieces_from items
pieces_most room store made lists.Absent at = omega arith
pieces_most room store made (lists.Words from len) at =
    omega (arith, words_most (from + at) 0 (drop at (clip from len store)), length-drop at (clip from len store))
pieces_most room store made (lists.Items place) at =
    omega (arith, pieces_count room store (items room made place at), items_most room place (made - at) at)

placed_most : (x : List ℕ) (ys : List (List ℕ)) → length (placed x ys) ≤ suc (length ys)
placed_most x [] = omega arith
placed_most x (y ∷ ys) =
    on (less y x)
    (λ e. rw e (omega (arith, placed_most x ys)))
    (λ e. on (same y x) (λ d. rw (e, d) (omega arith)) (λ d. rw (e, d) (omega arith)))

pub ordered_most : (xs : List (List ℕ)) → length (ordered xs) ≤ length xs
ordered_most [] = omega arith
ordered_most (x ∷ xs) = omega (arith, placed_most x (ordered xs), ordered_most xs)

-- so many items have been met
pub record Tallied (store : List ℕ) (ps : List Piece) (a : Option Piece) (n : ℕ) : Type 0 where
  pub us : List (List ℕ)
  pub walks : Walks store ps a us
  pub left : n + length us ≡ length (ordered (bytes_all store ps))

module _ (store : List ℕ) (ps : List Piece) where
  pub tally_start : Tallied store ps None 0
  tally_start = record { us = ordered (bytes_all store ps); walks = walk_ordered store ps; left = omega arith }

  ended : (a : Option Piece) (us : List (List ℕ)) → Walks store ps a us → next_of store a None ps ≡ None → length us ≡ 0
  ended a [] w e = refl
  ended a (u ∷ us) w e = let z : ◌≡◌ {A = ℕ} 0 1 = cc in absurd (omega arith)

  goes : (a : Option Piece) (us : List (List ℕ)) (p : Piece) → Walks store ps a us → next_of store a None ps ≡ Some p
      → (vs : List (List ℕ)) × Walks store ps (Some p) vs × (length us ≡ suc (length vs))
  goes a [] p w e = let z : ◌≡◌ {A = ℕ} 0 1 = cc in absurd (omega arith)
  goes a (u ∷ us) p w e = let d : w.0 ≡ p = cc in (us, rw (← d) w.3, refl)

  module _ (a : Option Piece) (n : ℕ) (k : Tallied store ps a n) (x : Option Piece) (e : x ≡ next_of store a None ps) where
    pub tally_end : x ≡ None → n ≡ length (ordered (bytes_all store ps))
    tally_end h = omega (arith, k.left, ended a k.us k.walks (sym e ∙ h))

    module _ (p : Piece) (h : x ≡ Some p) where
      gone : (vs : List (List ℕ)) × Walks store ps (Some p) vs × (length k.us ≡ suc (length vs))
      gone = goes a k.us p k.walks (sym e ∙ h)

      there : Walks store ps x gone.0
      there = subst (λ (y : Option Piece). Walks store ps y gone.0) (sym h) gone.1

      pub tally_on : Tallied store ps x (n + 1)
      tally_on = record { us = gone.0; walks = there; left = omega (arith, k.left, gone.2) }

-- ---- the bound

pub bound_words : (room store s : List ℕ) (made : ℕ) (f : Features) (from len : ℕ) → f ≡ lists.Words from len → s ≡ clip from len store → length s ≡ bound room store made f
bound_words room store s made f from len e h = rw (e, h)

-- it is of the store and the count alone
bound_any : (room other store : List ℕ) (made : ℕ) (f : Features) → bound other store made f ≡ bound room store made f
bound_any room other store made lists.Absent = refl
bound_any room other store made (lists.Words from len) = refl
bound_any room other store made (lists.Items place) = refl

pub tally_last : (room store : List ℕ) (made : ℕ) (f : Features) (from : ℕ) (a : Option Piece) (n end : ℕ)
    → Tallied store (pieces_from room store made f from) a n → end ≡ bound store store made f → end ≤ n → n ≤ end
    → end ≡ length (ordered (bytes_all store (pieces_from room store made f from)))
tally_last room store made f from a n end k e h l =
    omega (
      arith,
      k.left,
      bound_any room store store made f,
      pieces_most room store made f from,
      ordered_most (bytes_all store (pieces_from room store made f from)),
      bytes_length store (pieces_from room store made f from),
    )

-- ---- among which values the items stand

pub span_items : (room : List ℕ) (made : ℕ) (f : Features) (place : ℕ) (s : Fields) → f ≡ lists.Items place → s ≡ fields_of room made place
    → s ≡ span room made f
span_items room made f place s e h = rw e h

-- all but the items of an array
pub span_not : (room : List ℕ) (made : ℕ) (f : Features) → Left enum (0 ∷ 1 ∷ []) f → record { place = 0; from = 0; to = made } ≡ span room made f
span_not room made = others enum (λ f. record { place = 0; from = 0; to = made } ≡ span room made f) (0 ∷ 1 ∷ []) (λ _. refl) (λ _. refl)

spread : (room store : List ℕ) (made : ℕ) (f : Features) → Rooms room made
    → Rooms room (span room made f).to × ((span room made f).from ≤ bound room store (span room made f).to f)
spread room store made lists.Absent h = (h, omega arith)
spread room store made (lists.Words from len) h = (h, omega arith)
spread room store made (lists.Items place) h =
    let s = spread_fields room made place h.fits h.low in
    (record { fits = s.fits; low = s.low }, s.order)

pub span_in : (room store : List ℕ) (made : ℕ) (f : Features) (s : Fields) → Rooms room made → s ≡ span room made f
    → Rooms room s.to × (s.from ≤ bound room store s.to f)
span_in room store made f s h e = rw e (spread room store made f h)

span_pieces : (room store : List ℕ) (made : ℕ) (f : Features) → pieces_from room store (span room made f).to f (span room made f).from ≡ pieces room store made f
unfolding pieces_from
span_pieces room store made lists.Absent = refl
span_pieces room store made (lists.Words from len) = refl
span_pieces room store made (lists.Items place) = ap (pieces_at room store) (items_fields room place made)

pub span_all : (room store : List ℕ) (made : ℕ) (f : Features) (s : Fields) (n : ℕ) → s ≡ span room made f
    → n ≡ length (ordered (bytes_all store (pieces_from room store s.to f s.from))) → n ≡ length (ordered (bytes_all store (pieces room store made f)))
span_all room store made f s n e h = rw (e, span_pieces room store made f) at h
