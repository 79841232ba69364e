-- Where a file's name lies in its path.
use Rattle.std.specs.Prelude.{ℕ, ◌+◌, ◌≤◌, List, [], ◌∷◌, ◌≡◌, eqb, length, drop, Option as Maybe, Some, None}
use Rattle.std.proofs.Math.Option.{Option, none, some}
use Rattle.meaning.specs.Base.{pick, ascii, same, part, before}
use Rattle.meaning.specs.Files.{piece?}
use Rattle.features.specs.declared.Piece.{Piece}

-- the part of a path that a piece is
abbrev pub piece_of : List ℕ → Maybe Piece → Option (List ℕ)
piece_of s None = none
piece_of s (Some p) = some (part p.from (p.from + p.len) s)

abbrev pub Inside : List ℕ → Maybe Piece → Type 0
Inside s None = Unit
Inside s (Some p) = p.from + p.len ≤ length s

-- the piece from a place on ends at r
pub record Ends (s : List ℕ) (at r : ℕ) : Type 0 where
  pub is : r ≡ at + before 47 (drop at s)
  pub fits : r ≤ length s

-- the piece from a place on where it is one, else the best so far
unfoldable pub closed : List ℕ → Maybe Piece → ℕ → ℕ → Maybe Piece
closed path best from len = pick (piece? (part from (from + len) path)) (Some (record { from = from; len = len })) best

-- the last piece: of the one that is open len bytes are passed, and s is to come
abbrev pub last_at : List ℕ → Maybe Piece → ℕ → ℕ → List ℕ → Maybe Piece
last_at path best from len [] = closed path best from len
last_at path best from len (b ∷ s) = pick (eqb b 47) (last_at path (closed path best from len) (from + len + 1) 0 s) (last_at path best from (len + 1) s)

-- "`..` gives none"
unfoldable pub not_up_at : List ℕ → Maybe Piece → Maybe Piece
not_up_at path None = None
not_up_at path (Some p) = pick (same (part p.from (p.from + p.len) path) (ascii "..")) None (Some p)

abbrev pub file_at : List ℕ → Maybe Piece
file_at path = not_up_at path (last_at path None 0 0 path)

-- the piece that is meant, and it lies in the path
pub record Placed (s : List ℕ) (meant r : Maybe Piece) : Type 0 where
  pub is : r ≡ meant
  pub inside : Inside s r
