-- Lines and keys of a text: no joined line is blank, no part of a key is empty, and no table has a key twice.
use Rattle.std.specs.Prelude.{ℕ, false, List, ◌≡◌}
use Rattle.std.proofs.Math.Option.{none}
use Rattle.meaning.specs.declared.Limits.{Limits}
use Rattle.meaning.specs.Base.{nil?}
use Rattle.meaning.specs.Refusal.{ok, accepted}
use Rattle.meaning.specs.Space.{blank}
use Rattle.meaning.specs.Lines.{Line, joined}
use Rattle.meaning.specs.Keys.{keys}
use Rattle.meaning.specs.Tree.{Value, Items, Table, str, int, boolean, array, table, none', item, empty, entry, lookup}
use Rattle.meaning.specs.Document.{Parsed, document}
use Rattle.theorems.specs.Words.{At}

-- no joined line is blank: the definition skips none where the original does
abbrev pub NoLineIsBlank : Type 0
NoLineIsBlank = (text : List ℕ) (ls : List Line) → joined text ≡ accepted ls
    → (i : ℕ) (l : Line) → At ls i l → blank l.text ≡ false

-- a key or header is split at every dot: no segment is empty, and none holds a dot (byte 46), quoted or not
abbrev pub SegmentsAreNames : Type 0
SegmentsAreNames = (limit : ℕ) (key : List ℕ) (segments : List (List ℕ)) → keys limit key ≡ ok segments
    → (i : ℕ) (k : List ℕ) → At segments i k
    → (nil? k ≡ false) × ((j byte : ℕ) → At k j byte → byte ≡ 46 → ⊥)

-- in a value, and in all that stands under it, no table has a key twice
abbrev mutual
  pub Once : Value → Type 0
  Once (str s) = Unit {0}
  Once (int i) = Unit {0}
  Once (boolean b) = Unit {0}
  Once (array is) = OnceAll is
  Once (table t) = OnceIn t

  pub OnceAll : Items → Type 0
  OnceAll none' = Unit {0}
  OnceAll (item v is) = Once v × OnceAll is

  pub OnceIn : Table → Type 0
  OnceIn empty = Unit {0}
  OnceIn (entry k v t) = (lookup t k ≡ none) × Once v × OnceIn t

abbrev pub NoKeyTwice : Type 0
NoKeyTwice = (lim : Limits) (text : List ℕ) (p : Parsed) → document lim text ≡ accepted p → OnceIn p.root
