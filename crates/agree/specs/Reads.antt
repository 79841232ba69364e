-- What a reader of the rooms meets: a place that stands for a value of 01, its kind and payload, its keys and its items in order.
use Rattle.std.specs.Prelude.{ℕ, zero, suc, ◌+◌, ◌-◌, ◌≤◌, ◌<◌, List, ◌≡◌, eqb, length, get_or, Option, Some, None}
use Rattle.std.proofs.Math.Option.{some}
use Rattle.meaning.specs.Base.{pick}
use Rattle.meaning.specs.Tree.{Value}
use Rattle.tree.specs.declared.Slot.{Slot}
use Rattle.values.specs.Grow.{void}
use Rattle.agree.specs.Key.{Key}
use Rattle.agree.specs.Log.{count}
use Rattle.agree.specs.Finds.{find}
use Rattle.agree.specs.Slots.{log_of}
use Rattle.agree.specs.Steps.{to}

-- the place p stands for the value v of the tree x
pub record Place (bytes : List ℕ) (vs : List Slot) (x : Value) (p : ℕ) (v : Value) : Type 0 where
  pub path : List Key
  pub leads : to bytes vs path ≡ p
  pub found : find (some x) path ≡ some v

-- the first of k values from number i on that hangs under p, and the first from a number on
abbrev pub first_s : List Slot → ℕ → ℕ → ℕ → Option ℕ
first_s vs p zero i = None
first_s vs p (suc k) i = pick (eqb (get_or vs i void).parent p) (Some i) (first_s vs p k (i + 1))

unfoldable pub next_s : List Slot → ℕ → ℕ → Option ℕ
next_s vs p from = first_s vs p (length vs - from) from

-- what such a search says
abbrev pub Says : List Slot → ℕ → ℕ → ℕ → Option ℕ → Type 0
Says vs p i e (Some n) = (i ≤ n) × (n < e) × ((get_or vs n void).parent ≡ p) × (count (log_of vs) n p ≡ count (log_of vs) i p)
Says vs p i e None = count (log_of vs) e p ≡ count (log_of vs) i p
