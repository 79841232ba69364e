-- A value's slots, one after the other, show the value and all that is in it.
use Rattle.std.specs.Prelude.{ℕ, ◌+◌, ◌≤◌, ◌<◌, List, ◌≡◌}
use Rattle.std.proofs.Math.Option.{Option, none, some}
use Rattle.meaning.specs.Tree.{Value, Items, str, int, boolean, array, table, none', item}
use Rattle.tree.specs.declared.Slot.{Slot}
use Rattle.agree.specs.Log.{Log, count}
use Rattle.agree.specs.Meets.{Shows}

-- the value stands at the numbers n to before e: an array before its items, which hang under it and stand one after the other
abbrev mutual
  pub Laid : List ℕ → (ℕ → Slot) → ℕ → Value → ℕ → Type 0
  Laid bytes at n (str s) e = (e ≡ n + 1) × Shows bytes (at n) (str s)
  Laid bytes at n (int i) e = (e ≡ n + 1) × Shows bytes (at n) (int i)
  Laid bytes at n (boolean b) e = (e ≡ n + 1) × Shows bytes (at n) (boolean b)
  Laid bytes at n (array is) e = ((at n).kind ≡ 4) × LaidAll bytes at (n + 2) (n + 1) is e
  Laid bytes at n (table t) e = ⊥

  pub LaidAll : List ℕ → (ℕ → Slot) → ℕ → ℕ → Items → ℕ → Type 0
  LaidAll bytes at p n none' e = e ≡ n
  LaidAll bytes at p n (item v is) e = (m : ℕ) × ((at n).parent ≡ p) × Laid bytes at n v m × LaidAll bytes at p m is e

-- ---- in a log in which nothing else hangs under the value's slots

pub record Good (bytes : List ℕ) (b : Log) (n : ℕ) (v : Value) : Type 0 where
  pub end : ℕ
  pub laid : Laid bytes b.at n v end
  pub early : (m : ℕ) → m ≤ n → n + 2 ≤ (b.at m).parent → end + 2 ≤ (b.at m).parent
  pub outer : (m : ℕ) → end ≤ m → n + 2 ≤ (b.at m).parent → end + 2 ≤ (b.at m).parent
  pub high : end ≤ b.size

pub record Item_at (bytes : List ℕ) (b : Log) (p i : ℕ) (v : Value) (high : ℕ) : Type 0 where
  pub number : ℕ
  pub under : (b.at number).parent ≡ p
  pub place : count b number p ≡ i
  pub below : number < high
  pub good : Good bytes b number v

-- ---- along every path

-- nothing on both sides, or a value that stands at the place
abbrev pub Goes : List ℕ → Log → ℕ → Option Value → Type 0
Goes bytes b p none = p ≡ 0
Goes bytes b p (some v) = (m : ℕ) × (p ≡ m + 2) × Good bytes b m v
