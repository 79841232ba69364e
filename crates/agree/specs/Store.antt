-- A longer store, and values made that are not hung up yet, change nothing that is seen.
use Rattle.std.specs.Prelude.{ℕ, ◌+◌, ◌<◌, ◌≡◌}
use mathlib.Core.List.{List}
use Rattle.std.proofs.Math.ListN.{length, get_or}
use Rattle.meaning.specs.Tree.{Value}
use Rattle.tree.specs.declared.Slot.{Slot}
use Rattle.values.specs.Grow.{void}
use Rattle.agree.specs.Block.{Laid}

-- ---- a value made, not hung up

-- the slots ws, the first of which is number n, are the value v, which hangs nowhere and has no key
pub record Lain (bytes : List ℕ) (n : ℕ) (ws : List Slot) (v : Value) : Type 0 where
  pub laid : (at : ℕ → Slot) → ((i : ℕ) → i < length ws → at (n + i) ≡ get_or ws i void) → Laid bytes at n v (n + length ws)
  pub free : (get_or ws 0 void).parent ≡ 0
  pub keyless : (i : ℕ) → (get_or ws i void).key + (get_or ws i void).len ≡ 0
