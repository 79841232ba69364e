-- Along a path from a table on: the rooms and the tree of 01 walk or make the same tables.
use Rattle.std.specs.Prelude.{ℕ, ◌+◌, ◌≤◌, ◌≡◌, get_or}
use mathlib.Core.List.{List, [], ◌∷◌, ◌++◌}
use Rattle.std.proofs.Math.Option.{Option, some}
use Rattle.std.proofs.Math.ListN.{length}
use Rattle.meaning.specs.Base.{part}
use Rattle.meaning.specs.Refusal.{numbered}
use Rattle.meaning.specs.Reading.{Grown, grown, stuck}
use Rattle.meaning.specs.Tree.{Value, Table, table, Grow, along_path, table_or_new}
use Rattle.tree.specs.declared.Slot.{Slot}
use Rattle.values.specs.Grow.{Seg, void, Grown as GrownS, grown as grownS, stuck as stuckS}
use Rattle.agree.specs.Key.{Key, name}
use Rattle.agree.specs.Finds.{find, set_at}
use Rattle.agree.specs.Meets.{Shows}
use Rattle.agree.specs.Steps.{Agree, to, Calm, Sealed}

-- the path g with names below it
abbrev pub onto : List Key → List (List ℕ) → List Key
onto g [] = g
onto g (k ∷ ks) = onto (name k ∷ g) ks

-- a step's table in its place in the tree x
abbrev pub graft : Value → List Key → Grown Table → Grown Value
graft x g (grown t m) = grown (set_at x g (table t)) m
graft x g (stuck e) = stuck e

-- the segments spell the names, and lie in the store
abbrev pub Spelling : List ℕ → List Seg → List (List ℕ) → Type 0
Spelling bytes [] [] = Unit {0}
Spelling bytes [] (k ∷ ks) = ⊥
Spelling bytes (s ∷ ss) [] = ⊥
Spelling bytes (s ∷ ss) (k ∷ ks) = (part s.at (s.at + s.len) bytes ≡ k) × (s.at + s.len ≤ length bytes) × Spelling bytes ss ks

-- a table of the tree and its place in the rooms
pub record Stand (bytes : List ℕ) (vs : List Slot) (x : Value) (g : List Key) (t : Table) (p : ℕ) : Type 0 where
  pub agree : Agree bytes vs x
  pub found : find (some x) g ≡ some (table t)
  pub leads : to bytes vs g ≡ p

-- both came to a table, and what goes on there goes on in both
pub record Came (limit : ℕ) (bytes : List ℕ) (vs : List Slot) (x : Value) (g : List Key) (t : Table) (ks : List (List ℕ)) (vs' : List Slot) (p' : ℕ) : Type 0 where
  pub tree : Value
  pub tab : Table
  pub stand : Stand bytes vs' tree (onto g ks) tab p'
  pub is : (f : Table → Grow Table) → graft x g (along_path (table_or_new limit) f ks t (length vs)) ≡ graft tree (onto g ks) (f tab (length vs'))
  pub news : List Slot
  pub longer : vs' ≡ vs ++ news
  pub kept : (q : List Key) → length q ≤ length g → to bytes vs' q ≡ to bytes vs q
  pub calm : (n : ℕ) → Calm bytes vs n g → Calm bytes vs' n (onto g ks)
  pub closed : (n e : ℕ) → e ≤ length vs → Sealed n e vs → Sealed n e vs'

abbrev pub Comes : ℕ → List ℕ → List Slot → Value → List Key → Table → List (List ℕ) → GrownS → Type 0
Comes limit bytes vs x g t ks (grownS vs' p') = Came limit bytes vs x g t ks vs' p'
Comes limit bytes vs x g t ks (stuckS n) = (n ≡ 16) × ((f : Table → Grow Table) → along_path (table_or_new limit) f ks t (length vs) ≡ stuck (numbered 16))

-- a search that found n
pub record Key-found (bytes : List ℕ) (vs : List Slot) (n : ℕ) (o : Option Value) : Type 0 where
  pub it : Value
  pub is : o ≡ some it
  pub shows : Shows bytes (get_or vs n void) it
