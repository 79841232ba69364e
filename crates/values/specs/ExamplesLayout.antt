-- Layouts of values beside what reading leaves, by computation.
use Rattle.std.specs.Prelude.{ℕ, List, [], ◌∷◌, ◌≡◌, refl, pos, negsuc}
use Rattle.meaning.specs.Base.{ascii}
use Rattle.meaning.specs.Limits.{of01}
use Rattle.meaning.specs.Tree.{Value, str, int, array, none', item}
use Rattle.tree.specs.declared.Slot.{Slot}
use Rattle.values.specs.Out.{Out, fine}
use Rattle.values.specs.Fill.{valued, value_out, computes}
use Rattle.values.specs.Layout.{layout}

-- by 01's limits, under no parent yet, where 7 bytes stand in the store and 3 values are made
abbrev leaves : List ℕ → Out
leaves s = value_out of01.values of01.arrays 0 7 3 s

abbrev lays : Value → List Slot
lays v = layout 0 7 3 v

-- `["x", ["yz"], -5]`: the store gets `xyz`, and each item hangs under its array, whose number is 3 or 5
pub nested_slots : leaves (ascii "[\"x\", [\"yz\"], -5]")
    ≡ fine (ascii "xyz") (valued 0 4 0 ∷ valued 5 1 65543 ∷ valued 5 4 0 ∷ valued 7 1 131080 ∷ valued 5 6 5 ∷ [])
unfolding computes
nested_slots = refl

pub nested_layout : lays (array (item (str (ascii "x")) (item (array (item (str (ascii "yz")) none')) (item (int (negsuc 4)) none'))))
    ≡ valued 0 4 0 ∷ valued 5 1 65543 ∷ valued 5 4 0 ∷ valued 7 1 131080 ∷ valued 5 6 5 ∷ []
nested_layout = refl

-- `-0` keeps its minus, and is the integer 0
pub minus_zero : leaves (ascii "-0") ≡ fine [] (valued 0 6 0 ∷ [])
unfolding computes
minus_zero = refl

pub zero_layout : lays (int (pos 0)) ≡ valued 0 2 0 ∷ []
zero_layout = refl

-- `["x", "y\q"]`: what was read before the fault stays
pub left_by_fault : leaves (ascii "[\"x\", \"y\\q\"]")
    ≡ record { fault = 8; bytes = ascii "xy"; slots = valued 0 4 0 ∷ valued 5 1 65543 ∷ [] }
unfolding computes
left_by_fault = refl
