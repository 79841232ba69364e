-- The log shows the tree of 01: along every path of keys and item places both have nothing, or a slot that shows the value.
use Rattle.std.specs.Prelude.{ℕ, zero, suc, ◌+◌, ◌*◌, ◌≤◌, List, Bool, ◌≡◌, length}
use Rattle.std.proofs.Math.Option.{Option, none, some}
use Rattle.meaning.specs.Base.{pick, part}
use Rattle.meaning.specs.Integers.{number_of}
use Rattle.meaning.specs.Tree.{Value, str, int, boolean, array, table}
use Rattle.tree.specs.declared.Slot.{Slot}
use Rattle.values.specs.Grow.{void}
use Rattle.values.specs.Fill.{truth}
use Rattle.agree.specs.Key.{Key}
use Rattle.agree.specs.Log.{Log, walk}
use Rattle.agree.specs.Finds.{find}

-- data is a place in the store and a length, and these bytes stand there
pub record Spells (bytes : List ℕ) (bits : ℕ) (s : List ℕ) : Type 0 where
  pub from : ℕ
  pub is : bits ≡ from + 65536 * length s
  pub fits : from + length s ≤ length bytes
  pub spelt : part from (from + length s) bytes ≡ s

-- a slot shows a value, without what stands under it; an integer is 2 with its magnitude, or 6 with a minus
abbrev pub Shows : List ℕ → Slot → Value → Type 0
Shows bytes v (str s) = (v.kind ≡ 1) × Spells bytes v.«data» s
Shows bytes v (int i) = (neg : Bool) × (v.kind ≡ pick neg 6 2) × (i ≡ number_of neg v.«data»)
Shows bytes v (boolean b) = (v.kind ≡ 3) × (v.«data» ≡ truth b)
Shows bytes v (array a) = v.kind ≡ 4
Shows bytes v (table t) = v.kind ≡ 5

-- the root counts as a table
abbrev pub slot_of : Log → ℕ → Slot
slot_of a zero = void
slot_of a (suc zero) = record { kind = 5; parent = 0; key = 0; len = 0; «data» = 0 }
slot_of a (suc (suc n)) = a.at n

abbrev pub Meets : List ℕ → Log → ℕ → Option Value → Type 0
Meets bytes a p none = p ≡ 0
Meets bytes a p (some v) = (1 ≤ p) × Shows bytes (slot_of a p) v

-- the log shows x
abbrev pub Shown : List ℕ → Log → Value → Type 0
Shown bytes a x = (q : List Key) → Meets bytes a (walk bytes a 1 q) (find (some x) q)

-- what stands at a place and under it is u
abbrev pub Under : List ℕ → Log → ℕ → Value → Type 0
Under bytes b n u = (r : List Key) → Meets bytes b (walk bytes b (n + 2) r) (find (some u) r)
