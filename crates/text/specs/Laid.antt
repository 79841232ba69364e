-- Kept lines one after the other: a joined line is a part of this text, and a line number is a count of LFs.
use Rattle.std.specs.Prelude.{ℕ, ◌+◌, ◌≤◌, ◌<◌, Bool, true, false, List, [], ◌∷◌, ◌++◌, ◌≡◌, eqb, ltb, length, get_or, take, drop}
use Rattle.meaning.specs.Base.{pick, nil?, final, before, cut}
pub use Rattle.meaning.specs.Rooms.{over}
use Rattle.meaning.specs.Lines.{drop_cr, physical, kept, kept_lines}
use Rattle.text.specs.declared.Piece.{Piece}

-- each line followed by LF
abbrev pub flat : List (List ℕ) → List ℕ
flat [] = []
flat (l ∷ ls) = l ++ (10 ∷ flat ls)

-- the kept bytes of every physical line
unfoldable pub laid : List ℕ → List ℕ
laid s = flat (kept_lines (physical s))

-- the lines of a laid text: what stands before each LF
abbrev pub init : List (List ℕ) → List (List ℕ)
init [] = []
init (l ∷ []) = []
init (l ∷ m ∷ ls) = l ∷ init (m ∷ ls)

unfoldable pub lines_of : List ℕ → List (List ℕ)
lines_of s = init (cut 10 s)

-- the first physical line of s, whose n bytes end at an LF or at the end of s
unfoldable pub first_line : ℕ → List ℕ → List ℕ
first_line n s = pick (ltb n (length s)) (drop_cr (take n s)) s

-- a line with its LF
abbrev pub ended : List ℕ → List ℕ
ended l = l ++ (10 ∷ [])

-- its first r bytes are that line without a CR before LF
pub record Begins (n : ℕ) (s : List ℕ) (r : ℕ) : Type 0 where
  pub fits : r ≤ n
  pub is : take r s ≡ first_line n s

-- the first line of s as it is laid
unfoldable pub laid_line : List ℕ → List ℕ
laid_line s = ended (kept (first_line (before 10 s) s))

-- there is a line, and room for all of s
pub record Fitting (s room : List ℕ) : Type 0 where
  pub some : 0 < length s
  pub wide : length (laid s) ≤ length room

-- what `lay_line` leaves: the first line laid, and what is left of s
pub record Lays1 (s room room' : List ℕ) (r : Piece) : Type 0 where
  pub some : 0 < r.taken
  pub fits : r.taken ≤ length s
  pub wrote : r.written ≡ length (laid_line s)
  pub goes : laid s ≡ laid_line s ++ laid (drop r.taken s)
  pub left : room' ≡ over (laid_line s) room

-- what `lay` leaves
pub record Lays (s room room' : List ℕ) (r : ℕ) : Type 0 where
  pub fits : r ≤ length room'
  pub most : r ≤ length s + 1
  pub used : r ≡ length (laid s)
  pub left : room' ≡ over (laid s) room

-- neither `#`, which may begin a comment, nor CR, which may belong to a line end
abbrev pub bare : ℕ → Bool
bare b = pick (eqb b 35) false (pick (eqb b 13) false true)

-- 0 for such a byte
abbrev pub changed : ℕ → ℕ
changed b = pick (bare b) 0 1

abbrev pub all_bare : List ℕ → Bool
all_bare [] = true
all_bare (b ∷ s) = pick (bare b) (all_bare s) false

-- an empty text, or one of such bytes that ends in LF: it is laid as it stands (`text/proofs/Standing.clean_stands`)
unfoldable pub clean : List ℕ → Bool
clean s = pick (nil? s) true (pick (eqb (final s) 10) (all_bare s) false)

-- a byte that neither begins a comment nor may belong to a line end
pub record Bare (b : ℕ) : Type 0 where
  pub comment : b ≡ 35 → ⊥
  pub cr : b ≡ 13 → ⊥

-- the first n bytes are such
pub record Bares (s : List ℕ) (n : ℕ) : Type 0 where
  pub fits : n ≤ length s
  pub all : (k : ℕ) → k < n → Bare (get_or s k 0)
