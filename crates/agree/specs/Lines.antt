-- One line: the rooms and the tree of 01 go on agreeing, or refuse it by the same number.
use Rattle.std.specs.Prelude.{ℕ, ◌+◌, ◌≡◌, length}
use mathlib.Core.List.{List, ◌++◌}
use Rattle.std.proofs.Math.Option.{some}
use Rattle.meaning.specs.Refusal.{numbered, unmet, R, ok, bad}
use Rattle.meaning.specs.Reading.{Grown, grown, Got, got, failed}
use Rattle.meaning.specs.Tree.{Value, Table, table}
use Rattle.meaning.specs.Values.{value}
use Rattle.meaning.specs.Document.{Doc}
use Rattle.values.specs.Out.{Out}
use Rattle.values.specs.Fill.{value_out}
use Rattle.values.specs.Doc.{Doc as DocS}
use Rattle.agree.specs.Key.{Key}
use Rattle.agree.specs.Finds.{find, set_at}
use Rattle.agree.specs.Steps.{Agree, to}
use Rattle.agree.specs.Store.{Lain}
use Rattle.agree.specs.Here.{Held}

-- ---- what is asked of values

-- a value that was read, and what it left in the rooms: its bytes after any store of used bytes, and its slots, made from number made on
pub record Value-laid (used made : ℕ) (v : Value) (bs : List ℕ) (m : ℕ) (o : Out) : Type 0 where
  pub fault : o.fault ≡ 0
  pub bytes : o.bytes ≡ bs
  pub count : m ≡ made + length o.slots
  pub lain : (store : List ℕ) → length store ≡ used → Lain (store ++ o.bytes) made o.slots v

abbrev pub Value-agrees : ℕ → ℕ → Got Value → Out → Type 0
Value-agrees used made (got v bs m) o = Value-laid used made v bs m o
Value-agrees used made (failed (numbered n)) o = (o.fault ≡ n) × (n ≡ 0 → ⊥)
Value-agrees used made (failed (unmet u)) o = ⊥

-- the readers of values agree
abbrev pub Values-agree : Type 0
Values-agree = (limit depth used made : ℕ) (s : List ℕ) → Value-agrees used made (value limit depth s made) (value_out limit depth 0 used made s)

-- ---- a table taken out of its place again

pub record Ungrafted (x : Value) (h : List Key) (r : Grown Table) (y : Value) (m : ℕ) : Type 0 where
  pub it : Table
  pub is : r ≡ grown it m
  pub tree : y ≡ set_at x h (table it)

-- ---- the state between lines

pub record Same (d : Doc) (r : DocS) : Type 0 where
  pub agree : Agree r.bytes r.slots (table d.root)
  pub way_to : List Key
  pub held : Held (table d.root) d.under way_to
  pub tab : Table
  pub found : find (some (table d.root)) way_to ≡ some (table tab)
  pub leads : to r.bytes r.slots way_to ≡ r.here

-- a line that is read, or refused by the same number
abbrev pub Line-agrees : List ℕ → Got Doc → R DocS → Type 0
Line-agrees bytes (got d bs m) (ok r) = (r.bytes ≡ bytes ++ bs) × (m ≡ length r.slots) × Same d r
Line-agrees bytes (got d bs m) (bad n) = ⊥
Line-agrees bytes (failed f) (ok r) = ⊥
Line-agrees bytes (failed f) (bad n) = f ≡ numbered n
