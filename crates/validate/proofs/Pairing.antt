-- The packages that an entry uses: one law for each way out.
use Prim.Native.Nat.{ℕ, ◌%◌}
use mathlib.Core.Bool.{Bool, true, false}
use mathlib.Core.List.{List}
use mathlib.Core.Path.{◌≡◌, ◌∙◌}
use native.Mathlib.Omega.{arith}
use Rattle.meaning.specs.Rules.{twice}
use Rattle.tree.specs.declared.Span.{Span}
use Rattle.tree.specs.Steps.{KeyIs}
use Rattle.schema.specs.declared.Features.{Features}
use Rattle.schema.specs.declared.Component.{Component}
use Rattle.schema.specs.declared.spot.Spot.{Spot}
use Rattle.schema.specs.Spots.{no_spot, bytes_spot, text_spot, list_spot, spotted}
use Rattle.validate.specs.Clashes.{key_spot, pair_of_component, pair_of_application}

-- ---- pair_of_component

module _ (store : List ℕ) (c : Component) (p q g : Spot) (ep : p ≡ text_spot c.head.«package») (eq : q ≡ text_spot c.boot.pbp_package) (eg : g ≡ list_spot c.role.pbp_features) where
  pub pair_same : (t : Bool) → t ≡ twice (spotted store p) (spotted store q) → t ≡ true
      → record { «package» = p; features = g; pbp_package = q; pbp_features = g } ≡ pair_of_component store c
  unfolding pair_of_component
  pair_same t e h = rw (← ep, ← eq, ← eg, ← e, h)

  pub pair_apart : (t : Bool) (f : Spot) → t ≡ twice (spotted store p) (spotted store q) → t ≡ false → f ≡ list_spot c.role.features
      → record { «package» = p; features = f; pbp_package = q; pbp_features = g } ≡ pair_of_component store c
  unfolding pair_of_component
  pair_apart t f e h k = rw (← ep, ← eq, ← eg, ← e, h, k)

-- ---- pair_of_application

pub pair_made : (key : Spot) (f : Features) (x y z : Spot) → x ≡ list_spot f → y ≡ no_spot → z ≡ no_spot
    → record { «package» = key; features = x; pbp_package = y; pbp_features = z } ≡ pair_of_application key f
pair_made key f x y z a b c = rw (a, b, c)

-- a key is short, so that nothing of its place is lost
pub key_spot_lem : (room : List ℕ) (n : ℕ) (k : Span) (s : Spot) → KeyIs room n k → s ≡ bytes_spot k.from k.len → s ≡ key_spot room n
key_spot_lem room n k s h e =
    let a : k.from % 65536 ≡ k.from = omega (arith, h.near) in
    let b : k.len % 65536 ≡ k.len = omega (arith, h.short) in
    e ∙ rw (a, b, h.is)
