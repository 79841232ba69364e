-- A table added to an array: the rooms and the tree of 01 add the same, or are refused by the same number.
use Rattle.std.specs.Prelude.{ℕ, ◌+◌, ◌≡◌, length}
use mathlib.Core.List.{List, ◌∷◌}
use Rattle.std.proofs.Math.Option.{some}
use Rattle.meaning.specs.Refusal.{numbered}
use Rattle.meaning.specs.Reading.{grown, stuck, make}
use Rattle.meaning.specs.Tree.{Value, Items, Table, array, table, empty, snoc, count as many, push_one}
use Rattle.tree.specs.declared.Slot.{Slot}
use Rattle.values.specs.Grow.{Grown as GrownS, grown as grownS, stuck as stuckS}
use Rattle.agree.specs.Key.{Key, name, index}
use Rattle.agree.specs.Finds.{find, set_at}
use Rattle.agree.specs.Steps.{Agree, to}
use Rattle.agree.specs.Down.{graft}

-- an item at the end of an array
abbrev pub item_slot : ℕ → Slot
item_slot p = record { kind = 5; parent = p; key = 0; len = 0; «data» = 0 }

abbrev pub longer : Items → Items
longer a = snoc a (table empty)

pub record Itemed (bytes : List ℕ) (vs : List Slot) (x : Value) (h : List Key) (a : Items) (vs' : List Slot) (p' : ℕ) : Type 0 where
  pub agree : Agree bytes vs' (set_at x h (array (longer a)))
  pub long : length vs' ≡ length vs + 1
  pub leads : to bytes vs' (index (many a) ∷ h) ≡ p'

abbrev pub Items-come : ℕ → List ℕ → List Slot → Value → List Key → Items → GrownS → Type 0
Items-come limit bytes vs x h a (grownS vs' p') = (make limit (longer a) (length vs) ≡ grown (longer a) (length vs')) × Itemed bytes vs x h a vs' p'
Items-come limit bytes vs x h a (stuckS n) = make limit (longer a) (length vs) ≡ stuck (numbered n)

-- ---- the array under a key

pub record Pushed (limit : ℕ) (bytes : List ℕ) (vs : List Slot) (x : Value) (g : List Key) (t : Table) (k : List ℕ) (vs' : List Slot) (p' : ℕ) : Type 0 where
  pub tree : Value
  pub items : Items
  pub agree : Agree bytes vs' tree
  pub is : graft x g (push_one limit k t (length vs)) ≡ grown tree (length vs')
  pub found : find (some tree) (name k ∷ g) ≡ some (array (longer items))
  pub leads : to bytes vs' (index (many items) ∷ name k ∷ g) ≡ p'

abbrev pub Pushes : ℕ → List ℕ → List Slot → Value → List Key → Table → List ℕ → GrownS → Type 0
Pushes limit bytes vs x g t k (grownS vs' p') = Pushed limit bytes vs x g t k vs' p'
Pushes limit bytes vs x g t k (stuckS n) = push_one limit k t (length vs) ≡ stuck (numbered n)
