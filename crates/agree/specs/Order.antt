-- Walking a table's keys in the rooms, step by step: the entries of the table in byte order of key, and then nothing.
use Rattle.std.specs.Prelude.{ℕ, ◌+◌, ◌<◌, Bool, true, ◌≡◌, length, Option, Some, None}
use mathlib.Core.List.{List, ◌∷◌}
use Rattle.std.proofs.Math.Option.{none}
use Rattle.std.proofs.Math.ListN.{get_or}
use Rattle.meaning.specs.Base.{pick, less}
use Rattle.meaning.specs.Tree.{Value, Table, entry, lookup}
use Rattle.laws.specs.Order.{Rises}
use Rattle.tree.specs.declared.Slot.{Slot}
use Rattle.tree.specs.Order.{key_of, is_made, next}
use Rattle.values.specs.Grow.{void}
use Rattle.agree.specs.Key.{Key, name}
use Rattle.agree.specs.Steps.{to}
use Rattle.agree.specs.Reads.{Place}

-- one step among the slots, from the value found before to the next key's newest value
abbrev pub step_s : List ℕ → List Slot → ℕ → Option ℕ → Option ℕ
step_s bytes vs p after = next (λ n. get_or vs n void) bytes (length vs) p after

-- k lies above the key of the value found before
abbrev pub over : List ℕ → List Slot → Option ℕ → List ℕ → Bool
over bytes vs (Some n) k = less (key_of bytes (get_or vs n void)) k
over bytes vs None k = true

-- value number n stands for the key k and the value v of the table that the path g leads to
pub record Entry (bytes : List ℕ) (vs : List Slot) (x : Value) (g : List Key) (n : ℕ) (k : List ℕ) (v : Value) : Type 0 where
  pub below : n < length vs
  pub key : key_of bytes (get_or vs n void) ≡ k
  pub leads : to bytes vs (name k ∷ g) ≡ n + 2
  pub place : Place bytes vs x (n + 2) v

-- the entries u of the table t are left after the value found before
pub record Left (bytes : List ℕ) (vs : List Slot) (t : Table) (after : Option ℕ) (u : Table) : Type 0 where
  pub made : is_made (length vs) after ≡ true
  pub rises : Rises u
  pub is : (k : List ℕ) → lookup u k ≡ pick (over bytes vs after k) (lookup t k) none

-- value number n stands for the first of the entries u, and the others are left after it
pub record Stepped (bytes : List ℕ) (vs : List Slot) (x : Value) (g : List Key) (t u : Table) (n : ℕ) : Type 0 where
  pub key : List ℕ
  pub value : Value
  pub rest : Table
  pub is : u ≡ entry key value rest
  pub stands : Entry bytes vs x g n key value
  pub left : Left bytes vs t (Some n) rest
