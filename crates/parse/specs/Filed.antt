-- A file's name lies in its path, and is the name that is meant.
use Rattle.std.specs.Prelude.{ℕ, suc, ◌+◌, ◌-◌, ◌≤◌, List, [], ◌∷◌, ◌++◌, ◌≡◌, eqb, length, drop, Option, Some, None}
use Rattle.std.proofs.Common.{append-nil, append_assoc, ◌∙◌, arith, length-drop, drop-drop, take-add}
use Rattle.std.proofs.Math.Option.{none, some}
use Rattle.std.proofs.Math.Path.{refl, ap}
use Rattle.meaning.specs.Base.{pick, ascii, same, part, cut, on_first}
use Rattle.meaning.specs.Files.{piece?, last_piece, not_up, file_name}
use Rattle.laws.specs.Cases.{on, picked}
use Rattle.features.specs.declared.Piece.{Piece}
use Rattle.parse.specs.File.{piece_of, Inside, closed, last_at, not_up_at, file_at}

-- bytes before the first of some pieces
abbrev onto : List ℕ → List (List ℕ) → List (List ℕ)
onto p [] = p ∷ []
onto p (l ∷ ls) = (p ++ l) ∷ ls

onto_one : (p : List ℕ) (b : ℕ) (ls : List (List ℕ)) → onto (p ++ (b ∷ [])) ls ≡ onto p (on_first b ls)
onto_one p b [] = refl
onto_one p b (l ∷ ls) = rw append_assoc

onto_none : (s : List ℕ) → onto [] (cut 47 s) ≡ cut 47 s
onto_none [] = refl
onto_none (b ∷ s) = on (eqb b 47) (λ p. rw p) (λ p. rw p (go (cut 47 s)))
  where
    go : (ls : List (List ℕ)) → onto [] (on_first b ls) ≡ on_first b ls
    go [] = refl
    go (l ∷ ls) = refl

module _ (s : List ℕ) where
  -- the piece that is open, with one byte more
  part_more : (from len b : ℕ) (t : List ℕ) → b ∷ t ≡ drop (from + len) s → part from (from + (len + 1)) s ≡ part from (from + len) s ++ (b ∷ [])
  part_more from len b t e =
      let k : from + (len + 1) - from ≡ len + 1 = omega arith in
      let l : from + len - from ≡ len = omega arith in
      rw (k, l, take-add, drop-drop, ← e)

  rest_more : (from len b : ℕ) (t : List ℕ) → b ∷ t ≡ drop (from + len) s → t ≡ drop (from + len + 1) s
  rest_more from len b t e = rw (← (drop-drop 1 (from + len) s), ← e)

  part_none : (from : ℕ) → part from (from + 0) s ≡ []
  part_none from = let k : from + 0 - from ≡ 0 = omega arith in rw k

  closed_is : (best : Option Piece) (from len : ℕ) → piece_of s (closed s best from len)
      ≡ pick (piece? (part from (from + len) s)) (some (part from (from + len) s)) (piece_of s best)
  unfolding closed
  closed_is best from len = on (piece? (part from (from + len) s)) (λ p. rw p) (λ p. rw p)

  last_is : (best : Option Piece) (from len : ℕ) (t : List ℕ) → t ≡ drop (from + len) s
      → piece_of s (last_at s best from len t) ≡ last_piece (piece_of s best) (onto (part from (from + len) s) (cut 47 t))
  last_is best from len [] e = rw append-nil (closed_is best from len)
  last_is best from len (b ∷ t) e =
      let k : from + len + 1 + 0 ≡ from + len + 1 = omega arith in
      let j : from + (len + 1) ≡ from + len + 1 = omega arith in
      on (eqb b 47)
      (λ p.
      rw (p, append-nil)
      (last_is (closed s best from len) (from + len + 1) 0 t (rw k (rest_more from len b t e)) ∙ rw (part_none (from + len + 1), onto_none, closed_is)))
      (λ p. rw p (last_is best from (len + 1) t (rw j (rest_more from len b t e)) ∙ rw (part_more from len b t e, onto_one)))

  -- ---- it lies in the path
  closed_in : (best : Option Piece) (from len : ℕ) → Inside s best → from + len ≤ length s → Inside s (closed s best from len)
  unfolding closed
  closed_in best from len i h = picked (Inside s) (piece? (part from (from + len) s)) (λ _. h) (λ _. i)

  last_in : (best : Option Piece) (from len : ℕ) (t : List ℕ) → t ≡ drop (from + len) s → Inside s best → from + len ≤ length s → Inside s (last_at s best from len t)
  last_in best from len [] e i h = closed_in best from len i h
  last_in best from len (b ∷ t) e i h =
      let l : suc (length t) ≡ length s - (from + len) = ap length e ∙ length-drop (from + len) s in
      let k : from + len + 1 + 0 ≡ from + len + 1 = omega arith in
      let j : from + (len + 1) ≡ from + len + 1 = omega arith in
      picked (Inside s) (eqb b 47)
      (λ _. last_in (closed s best from len) (from + len + 1) 0 t (rw k (rest_more from len b t e)) (closed_in best from len i h) (omega arith))
      (λ _. last_in best from (len + 1) t (rw j (rest_more from len b t e)) i (omega arith))

  up_in : (p : Option Piece) → Inside s p → Inside s (not_up_at s p)
  unfolding not_up_at
  up_in None i = tt
  up_in (Some p) i = picked (Inside s) (same (part p.from (p.from + p.len) s) (ascii "..")) (λ _. tt) (λ _. i)

  up_is : (p : Option Piece) → piece_of s (not_up_at s p) ≡ not_up (piece_of s p)
  unfolding not_up_at not_up
  up_is None = refl
  up_is (Some p) = on (same (part p.from (p.from + p.len) s) (ascii "..")) (λ e. rw e) (λ e. rw e)

  pub file_inside : Inside s (file_at s)
  file_inside = up_in (last_at s None 0 0 s) (last_in None 0 0 s refl tt (omega arith))

  pub file_named : piece_of s (file_at s) ≡ file_name s
  unfolding file_name
  file_named = up_is (last_at s None 0 0 s) ∙ ap not_up (last_is None 0 0 s refl ∙ ap (last_piece none) (onto_none s))
