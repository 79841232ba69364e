-- What a lent room holds at the end of a call, to its last byte.
use Rattle.std.specs.Prelude.{ℕ, List, ◌++◌, length, drop}
use Rattle.meaning.specs.Base.{zeros}
use Rattle.meaning.specs.Refusal.{Answer, accepted, refused}

-- bytes at the head of a room; after them it is as it was
abbrev pub over : List ℕ → List ℕ → List ℕ
over bytes room = bytes ++ drop (length bytes) room

-- a room of n bytes, however many that is. Accepted: what was laid into it, "The rest of both rooms is zero".
-- Refused, and so for 17 where it is too short: "all lent rooms then hold zero"
abbrev pub room_after : {X : Type 0} → (X → List ℕ) → ℕ → Answer X → List ℕ
room_after laid n (accepted x) = over (laid x) (zeros n)
room_after laid n (refused f section place) = zeros n

-- the output of a listing. Accepted: its lines, and after them what was there before. Refused: the same as any room
abbrev pub output_after : {X : Type 0} → (X → List ℕ) → List ℕ → Answer X → List ℕ
output_after lines out (accepted x) = over (lines x) out
output_after lines out (refused f section place) = zeros (length out)
