-- Two feature sets of one package: one law for each way out.
use Prim.Native.Nat.{ℕ}
use mathlib.Core.Bool.{Bool, true, false, not}
use mathlib.Core.List.{List}
use mathlib.Core.Path.{◌≡◌}
use Rattle.meaning.specs.Rules.{twice, same_all}
use Rattle.laws.specs.Cases.{on}
use Rattle.schema.specs.declared.Features.{Features}
use Rattle.parse.specs.Meant.{feature_list}
use Rattle.schema.specs.Spots.{spotted, list_at}
use Rattle.validate.specs.declared.uses.Use.{Use}
use Rattle.validate.specs.Clashes.{differ}

module _ (room store : List ℕ) (made : ℕ) (u v : Use) (r : Bool) (e : r ≡ twice (spotted store u.«package») (spotted store v.«package»)) where
  pub differ_not : r ≡ false → false ≡ differ room store made u v
  unfolding differ
  differ_not h = rw (← e, h)

  pub differ_other : (s : Bool) (a b : Features) → r ≡ true → a ≡ list_at u.features → b ≡ list_at v.features
      → s ≡ same_all (feature_list room store made a) (feature_list room store made b) → not s ≡ differ room store made u v
  unfolding differ
  differ_other s a b h x y d = rw (← e, h, ← x, ← y, ← d) (on s (λ t. rw t) (λ t. rw t))
