-- File names: what the loop keeps, and one law for each way on and out.
use Prim.Native.Nat.{ℕ, suc, ◌+◌, ◌-◌, ◌^◌, ◌≤◌, ◌<◌}
use mathlib.Core.Bool.{Bool, true, false}
use mathlib.Core.List.{List, [], ◌∷◌}
use mathlib.Core.Path.{◌≡◌, refl, sym, ap, ◌∙◌}
use native.Mathlib.Omega.{arith}
use native.Mathlib.Nat.{add-zero}
use mir.Syntax.{w64}
use mir.Val.{Fits}
use lib.Dec.{eqb}
use lib.ListN.{length, take, drop, length-drop, drop_of_length-le}
use lib.Seq.{drop-drop}
use Rattle.meaning.specs.Base.{ascii, nil?, same, part, before}
use Rattle.meaning.specs.Files.{piece?}
use Rattle.laws.specs.Cases.{on}
use Rattle.laws.specs.Parts.{rest_of}
use Rattle.slices.specs.Found.{Found}
use Rattle.std.specs.Prelude.{Option, Some, None}
use Rattle.features.specs.declared.Piece.{Piece}
use Rattle.parse.specs.File.{Inside, Ends, closed, last_at, not_up_at, file_at, Placed}

-- ---- one piece
module _ (s : List ℕ) (at n : ℕ) (f : Found 47 (take (length s - at) (drop at s)) n) (h : at ≤ length s) where
  rest : Found 47 (drop at s) n
  rest = rw rest_of at f

  pub ends_fit : at + n ≤ length s
  ends_fit = omega (arith, rest.fits, length-drop at s)

  pub ends : Ends s at (at + n)
  ends = record { is = ap (λ (k : ℕ). at + k) rest.is; fits = ends_fit }

pub piece_empty : (p : List ℕ) → length p ≡ 0 → false ≡ piece? p
unfolding piece?
piece_empty [] h = refl
piece_empty (b ∷ p) h = absurd (omega arith)

some : (p : List ℕ) → (length p ≡ 0 → ⊥) → nil? p ≡ false
some [] h = absurd (h refl)
some (b ∷ p) h = refl

module _ (p : List ℕ) (h : length p ≡ 0 → ⊥) (r : Bool) (e : r ≡ same p (ascii ".")) where
  pub piece_dot : r ≡ true → false ≡ piece? p
  unfolding piece?
  piece_dot q = rw (some p h, ← e, q)

  pub piece_is : r ≡ false → true ≡ piece? p
  unfolding piece?
  piece_is q = rw (some p h, ← e, q)

module _ (s : List ℕ) (best : Option Piece) (at end : ℕ) (o : at ≤ end) (r : Bool) (e : r ≡ piece? (take (end - at) (drop at s))) where
  whole : part at (at + (end - at)) s ≡ take (end - at) (drop at s)
  whole = let k : at + (end - at) ≡ end = omega arith in rw k

  pub closed_here : end ≤ length s → r ≡ true → Placed s (closed s best at (end - at)) (Some (record { from = at; len = end - at }))
  unfolding closed
  closed_here l q = record { is = rw (whole, ← e, q); inside = omega arith }

  pub closed_past : Inside s best → r ≡ false → Placed s (closed s best at (end - at)) best
  unfolding closed
  closed_past i q = record { is = rw (whole, ← e, q); inside = i }

-- ---- the pieces up to the next slash, and up to the end
run_on : (path : List ℕ) (best : Option Piece) (from len : ℕ) (t : List ℕ) → before 47 t < length t
    → last_at path best from len t ≡ last_at path (closed path best from (len + before 47 t)) (from + (len + before 47 t) + 1) 0 (drop (suc (before 47 t)) t)
run_on path best from len [] h = absurd (omega arith)
run_on path best from len (b ∷ t) h =
    on (eqb b 47) (λ p. rw (p, add-zero len))
    (λ p.
    let k : suc (before 47 t) < suc (length t) = rw p at h in
    let q : len + 1 + before 47 t ≡ len + suc (before 47 t) = omega arith in
    rw p (rw q at (run_on path best from (len + 1) t (omega arith))))

run_out : (path : List ℕ) (best : Option Piece) (from len : ℕ) (t : List ℕ) → length t ≤ before 47 t → last_at path best from len t ≡ closed path best from (len + before 47 t)
run_out path best from len [] h = rw (add-zero len)
run_out path best from len (b ∷ t) h =
    on (eqb b 47) (λ p. let k : suc (length t) ≤ 0 = rw p at h in absurd (omega arith))
    (λ p.
    let k : suc (length t) ≤ suc (before 47 t) = rw p at h in
    let q : len + 1 + before 47 t ≡ len + suc (before 47 t) = omega arith in
    rw p (rw q at (run_out path best from (len + 1) t (omega arith))))

-- ---- the loop
pub record Seeking (s : List ℕ) (best : Option Piece) (at : ℕ) : Type 0 where
  pub high : at ≤ length s
  pub inside : Inside s best
  pub left : last_at s None 0 0 s ≡ last_at s best at 0 (drop at s)

pub seek_start : (s : List ℕ) → Seeking s None 0
seek_start s = record { high = omega arith; inside = tt; left = refl }

module _ (s : List ℕ) (best : Option Piece) (at : ℕ) (k : Seeking s best at) where
  module _ (end : ℕ) (e : Ends s at end) (next : Option Piece) (n : Placed s (closed s best at (end - at)) next) where
    pub seek_on : end < length s → Seeking s next (end + 1)
    seek_on h =
        let u : before 47 (drop at s) ≡ end - at = omega (arith, e.is) in
        let l : before 47 (drop at s) < length (drop at s) = omega (arith, length-drop at s, e.is) in
        let v : 0 + (end - at) ≡ end - at = omega arith in
        let w : at + (end - at) + 1 ≡ end + 1 = omega (arith, e.is) in
        let x : at + suc (end - at) ≡ end + 1 = omega (arith, e.is) in
        record {
          high = omega arith;
          inside = n.inside;
          left = k.left ∙ (rw (u, v, w, drop-drop, x, ← n.is) at (run_on s best at 0 (drop at s) l));
        }

    pub seek_out : length s ≤ end → Placed s (last_at s None 0 0 s) next
    seek_out h =
        let u : before 47 (drop at s) ≡ end - at = omega (arith, e.is) in
        let l : length (drop at s) ≤ before 47 (drop at s) = omega (arith, length-drop at s, e.is) in
        let v : 0 + (end - at) ≡ end - at = omega arith in
        record { is = n.is ∙ sym (k.left ∙ (rw (u, v) at (run_out s best at 0 (drop at s) l))); inside = n.inside }

  pub seek_end : length s ≤ at → Placed s (last_at s None 0 0 s) best
  unfolding closed piece?
  seek_end h = let z : at + 0 - at ≡ 0 = omega arith in record { is = sym (k.left ∙ rw (drop_of_length-le s h, z)); inside = k.inside }

-- ---- the name
module _ (s : List ℕ) (p : Option Piece) (k : Placed s (last_at s None 0 0 s) p) where
  pub name_none : p ≡ None → Placed s (file_at s) None
  unfolding not_up_at
  name_none e = record { is = rw (← k.is, e); inside = tt }

  module _ (q : Piece) (e : p ≡ Some q) where
    pub name_fits : q.from + q.len ≤ length s
    name_fits = rw e at k.inside

    pub name_within : length s < 2 ^ 64 → Fits w64 (q.from + q.len)
    name_within h = record { fits = omega (arith, name_fits) }

    module _ (r : Bool) (f : r ≡ same (take (q.from + q.len - q.from) (drop q.from s)) (ascii "..")) where
      pub name_up : r ≡ true → Placed s (file_at s) None
      unfolding not_up_at
      name_up t = record { is = rw (← k.is, e, ← f, t); inside = tt }

      pub name_is : r ≡ false → Placed s (file_at s) (Some q)
      unfolding not_up_at
      name_is t = record { is = rw (← k.is, e, ← f, t); inside = name_fits }
