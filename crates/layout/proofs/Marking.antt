-- The marks of partitions: one law for each way on and out.
use Prim.Native.Nat.{ℕ, ◌+◌, ◌≤◌, ◌<◌}
use mathlib.Core.List.{List, [], ◌∷◌, ◌++◌, append_assoc, append-nil}
use mathlib.Core.Path.{◌≡◌, refl, sym, ap}
use native.Mathlib.Omega.{arith}
use native.Mathlib.Numerals.{add-one}
use lib.ListN.{length, get_or, take, drop, set, length-set, drop_of_length-le}
use lib.Seq.{drop-cons, take-suc-set}
use Rattle.schema.specs.declared.Partition.{Partition}
use Rattle.meaning.specs.declared.Refused.{Refused}
use Rattle.turns.specs.declared.Mark.{Mark}
use Rattle.layout.specs.Parts.{end_of, mark_of, marks_from, OnBlocks}
use Rattle.turns.specs.Marks.{no_marks}

-- ---- mark after mark

-- the first i marks are made; the last of those partitions ends at end
pub record Made (bytes : List ℕ) (block : ℕ) (ps : List Partition) (ms : List (Mark Refused)) (end i : ℕ) : Type 0 where
  pub high : i ≤ length ps
  pub few : length ps ≤ length ms
  pub left : marks_from bytes block 0 ps ≡ take i ms ++ marks_from bytes block end (drop i ps)

module _ (bytes : List ℕ) (block : ℕ) (ps : List Partition) where
  pub marks_start : (ms : List (Mark Refused)) → ms ≡ no_marks → OnBlocks (length ps) block → Made bytes block ps ms 0 0
  marks_start ms e h = record { high = omega arith; few = omega (arith, ap length e, h.fits); left = refl }

  module _ (ms : List (Mark Refused)) (end i : ℕ) (k : Made bytes block ps ms end i) where
    pub marks_end : length ps ≤ i → take (length ps) ms ≡ marks_from bytes block 0 ps
    marks_end l =
        let e : i ≡ length ps = omega (arith, k.high) in
        sym (rw (drop_of_length-le ps l, append-nil, e) at k.left)

    pub marks_on : (d : Partition) (m : Mark Refused) (end' : ℕ) → i < length ps → m ≡ mark_of bytes block end (get_or ps i d) → end' ≡ end_of (get_or ps i d)
        → Made bytes block ps (set ms i m) end' (i + 1)
    marks_on d m end' l e g =
        let a : drop i ps ≡ get_or ps i d ∷ drop (i + 1) ps = rw add-one (drop-cons ps i d l) in
        let b : take (i + 1) (set ms i m) ≡ take i ms ++ (m ∷ []) = rw add-one (take-suc-set ms i m (omega (arith, k.few))) in
        record {
          high = omega arith;
          few = omega (arith, k.few, length-set ms i m);
          left = rw (b, append_assoc, g) (rw (a, ← e) at k.left);
        }
