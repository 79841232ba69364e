-- "A file's name is its last `/` piece that is neither empty nor `.`; `..` gives none. Its stem stops before the last
-- dot, unless that dot is first."
use Rattle.std.specs.Prelude.{ℕ, ◌+◌, Bool, true, false, List, [], ◌∷◌, eqb, take}
use Rattle.std.proofs.Math.Option.{Option, none, some}
use Rattle.meaning.specs.Base.{pick, nil?, ascii, same, cut}
use Rattle.meaning.specs.Bytes.{dot, slash}

-- "neither empty nor `.`"
unfoldable pub piece? : List ℕ → Bool
piece? p = pick (nil? p) false (pick (same p (ascii ".")) false true)

-- the last of these that is such a piece, else l
abbrev pub last_piece : Option (List ℕ) → List (List ℕ) → Option (List ℕ)
last_piece l [] = l
last_piece l (p ∷ ps) = last_piece (pick (piece? p) (some p) l) ps

-- "`..` gives none"
unfoldable pub not_up : Option (List ℕ) → Option (List ℕ)
not_up none = none
not_up (some p) = pick (same p (ascii "..")) none (some p)

-- "A file's name is its last `/` piece that is neither empty nor `.`"
unfoldable pub file_name : List ℕ → Option (List ℕ)
file_name s = not_up (last_piece none (cut slash s))

-- where the last dot stands, else d; i bytes stand before s
abbrev pub last_dot : ℕ → ℕ → List ℕ → ℕ
last_dot d i [] = d
last_dot d i (b ∷ s) = last_dot (pick (eqb b dot) i d) (i + 1) s

-- "Its stem stops before the last dot, unless that dot is first": of a file's name
unfoldable pub stem_of : List ℕ → List ℕ
stem_of n = pick (eqb (last_dot 0 0 n) 0) n (take (last_dot 0 0 n) n)

-- a file's stem; none where it has no name
abbrev pub stemmed : Option (List ℕ) → Option (List ℕ)
stemmed none = none
stemmed (some n) = some (stem_of n)

unfoldable pub file_stem : List ℕ → Option (List ℕ)
file_stem s = stemmed (file_name s)

unfoldable pub computes : Unit {0}
unfolding piece? not_up file_name stem_of file_stem
computes = tt
