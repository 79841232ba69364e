-- 01, "Refusal numbers": what a refusal says.
use Rattle.std.specs.Prelude.{ℕ}

-- "The Rust's other parser errors (unknown table, empty path, array without elements) are met by no text"
pub data Unmet : Type 0 where
  -- "unknown table": nothing stands on the way to where assignments go
  unknown : Unmet
  -- what stands there is no table
  not_table : Unmet
  -- or no array
  not_array : Unmet
  -- "empty path"
  pathless : Unmet
  -- "array without elements"
  hollow : Unmet
  -- its last element is no table
  not_last : Unmet

-- a number of 01's table; or one of the errors met by no text
pub data Fault : Type 0 where
  numbered : ℕ → Fault
  unmet : Unmet → Fault

-- 01's number; the others have one that is not in 01's table, so that none of them is taken for an acceptance
abbrev pub number_of : Fault → ℕ
number_of (numbered n) = n
number_of (unmet e) = 999

-- the answer of a reader that knows no place: a value or a number
pub data R (X : Type 0) : Type 0 where
  ok : X → R X
  bad : ℕ → R X

abbrev pub ok_then : {X Y : Type 0} → R X → (X → R Y) → R Y
ok_then (ok x) f = f x
ok_then (bad n) f = bad n

-- "A refusal returns its number, a section .. and a place"
pub data Answer (X : Type 0) : Type 0 where
  accepted : X → Answer X
  refused : Fault → ℕ → ℕ → Answer X

abbrev pub accepted_then : {X Y : Type 0} → Answer X → (X → Answer Y) → Answer Y
accepted_then (accepted x) f = f x
accepted_then (refused f s p) k = refused f s p

-- "a section (0 text, 1 board, 2 image, 3 partition, 4 component, 5 application)"
abbrev pub in_text : ℕ
in_text = 0

abbrev pub in_board : ℕ
in_board = 1

abbrev pub in_image : ℕ
in_image = 2

abbrev pub in_partition : ℕ
in_partition = 3

abbrev pub in_component : ℕ
in_component = 4

abbrev pub in_application : ℕ
in_application = 5

-- "Place in section 0: the physical line, from 1, where the joined line starts"
abbrev pub at_line : {X : Type 0} → ℕ → ℕ → Answer X
at_line number line = refused (numbered number) in_text line

-- "0 for 1, 2 and 17"
abbrev pub at_no_line : {X : Type 0} → ℕ → Answer X
at_no_line number = refused (numbered number) in_text 0

-- "Elsewhere: the entry from 0 .., or 0 outside an entry": what a reader says, told in section s at place p
abbrev pub told : {X : Type 0} → ℕ → ℕ → R X → Answer X
told s p (ok x) = accepted x
told s p (bad n) = refused (numbered n) s p
