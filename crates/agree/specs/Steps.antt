-- The rooms agree with the tree of 01, and go on agreeing when a table, an array or an item is made.
use Prim.Native.Nat.{ℕ, ◌+◌, ◌≤◌, ◌<◌}
use Rattle.std.specs.Prelude.{List, ◌++◌, ◌≡◌, get_or}
use Rattle.std.proofs.Math.ListN.{length}
use Rattle.meaning.specs.Tree.{Value}
use Rattle.tree.specs.declared.Slot.{Slot}
use Rattle.values.specs.Grow.{void}
use Rattle.agree.specs.Key.{Key}
use Rattle.agree.specs.Log.{walk}
use Rattle.agree.specs.Meets.{Shown}
use Rattle.agree.specs.Slots.{log_of}

-- the slots and the store's bytes show x; every key lies in the store, and every parent is made
pub record Agree (bytes : List ℕ) (vs : List Slot) (x : Value) : Type 0 where
  pub shown : Shown bytes (log_of vs) x
  pub within : (n : ℕ) → (get_or vs n void).key + (get_or vs n void).len ≤ length bytes
  pub low : (n : ℕ) → (get_or vs n void).parent < length vs + 2

-- where a path leads
abbrev pub to : List ℕ → List Slot → List Key → ℕ
to bytes vs q = walk bytes (log_of vs) 1 q

-- ---- values that are not hung up yet

-- at the path and under it nothing numbered n or above hangs
abbrev pub Calm : List ℕ → List Slot → ℕ → List Key → Type 0
Calm bytes vs n g = (m : ℕ) → n ≤ m → (r : List Key) → (get_or vs m void).parent ≡ to bytes vs (r ++ g) → to bytes vs (r ++ g) ≡ 0

-- the values n to before e hang under each other only, and nothing else hangs under them
pub record Sealed (n e : ℕ) (vs : List Slot) : Type 0 where
  pub order : n ≤ e
  pub before : (m : ℕ) → m < n → (get_or vs m void).parent < n + 2
  pub inner : (m : ℕ) → n ≤ m → m < e → 1 ≤ (get_or vs m void).parent → (n + 2 ≤ (get_or vs m void).parent) × ((get_or vs m void).parent < e + 2)
  pub after : (m : ℕ) → e ≤ m → n + 2 ≤ (get_or vs m void).parent → e + 2 ≤ (get_or vs m void).parent
