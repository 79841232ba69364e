-- Words of several statements: what stands where in a list, and which bytes a partition has.
use Rattle.std.specs.Prelude.{ℕ, zero, suc, ◌≤◌, ◌<◌, List, [], ◌∷◌, ◌≡◌}
use Rattle.meaning.specs.Schema.{Partition}
use Rattle.meaning.specs.Layout.{end_of}

-- x stands at place i of the list, counted from 0
abbrev pub At : {X : Type 0} → List X → ℕ → X → Type 0
At [] i x = ⊥
At (y ∷ ys) zero x = y ≡ x
At (y ∷ ys) (suc i) x = At ys i x

-- x stands somewhere in the list
abbrev pub In : {X : Type 0} → X → List X → Type 0
In x xs = (i : ℕ) × At xs i x

-- the byte at this address of the flash is one of the partition's
abbrev pub Holds : Partition → ℕ → Type 0
Holds p address = (p.offset ≤ address) × (address < end_of p)
