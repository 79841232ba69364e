-- Level 2 of 60: the packages that entries use, by where their names and features are.
use Rattle.std.specs.Prelude.{ℕ, Bool, true, false, List}
use Rattle.meaning.specs.Base.{pick}
use Rattle.meaning.specs.Rules.{twice, same_all}
use Rattle.tree.specs.Room.{slot_at}
use Rattle.schema.specs.declared.Features.{Features}
use Rattle.schema.specs.declared.Component.{Component}
use Rattle.parse.specs.Meant.{feature_list}
use Rattle.schema.specs.declared.spot.Spot.{Spot}
use Rattle.schema.specs.declared.spot.Spot.TheVariants.{Bytes}
use Rattle.schema.specs.Spots.{no_spot, text_spot, list_spot, spotted, list_at}
use Rattle.validate.specs.declared.uses.Use.{Use}
use Rattle.validate.specs.declared.uses.Pair.{Pair}

-- an entry's two uses
abbrev pub own_use : Pair → Use
own_use a = record { «package» = a.«package»; features = a.features }

abbrev pub pbp_use : Pair → Use
pbp_use a = record { «package» = a.pbp_package; features = a.pbp_features }

module _ (room store : List ℕ) (made : ℕ) where
  -- one package with two feature sets
  unfoldable pub differ : Use → Use → Bool
  differ u v =
      pick (twice (spotted store u.«package») (spotted store v.«package»))
      (pick (same_all (feature_list room store made (list_at u.features)) (feature_list room store made (list_at v.features))) false true) false

  -- a use and some use of an entry
  unfoldable pub use_differs : Use → Pair → Bool
  use_differs u b = pick (differ u (own_use b)) true (differ u (pbp_use b))

  -- some use of one and some use of the other
  unfoldable pub clash : Pair → Pair → Bool
  clash a b = pick (use_differs (own_use a) b) true (use_differs (pbp_use a) b)

module _ (store : List ℕ) where
  -- an entry uses a package
  unfoldable pub uses_package : Spot → Pair → Bool
  uses_package p b = pick (twice (spotted store p) (spotted store b.«package»)) true (twice (spotted store p) (spotted store b.pbp_package))

  -- two entries use one package
  unfoldable pub share_package : Pair → Pair → Bool
  share_package a b = pick (uses_package a.«package» b) true (uses_package a.pbp_package b)

  -- a package that an entry does not use
  unfoldable pub package_beyond : Spot → Pair → Spot
  package_beyond p b = pick (uses_package p b) no_spot p

  -- what one uses that the other does not
  unfoldable pub uses_beyond : Pair → Pair → Pair
  uses_beyond a b = record { «package» = package_beyond a.«package» b; features = a.features; pbp_package = package_beyond a.pbp_package b; pbp_features = a.pbp_features }

-- "where a component's `pbp_package` is its `package`, only `pbp_features` count"
unfoldable pub pair_of_component : List ℕ → Component → Pair
pair_of_component store c =
    let own = text_spot c.head.«package» in
    let pbp = text_spot c.boot.pbp_package in
    record {
      «package» = own;
      features = pick (twice (spotted store own) (spotted store pbp)) (list_spot c.role.pbp_features) (list_spot c.role.features);
      pbp_package = pbp;
      pbp_features = list_spot c.role.pbp_features;
    }

-- where the key of value number n is
abbrev pub key_spot : List ℕ → ℕ → Spot
key_spot room n = Bytes (slot_at room n).key (slot_at room n).len

-- an application's package is its key
abbrev pub pair_of_application : Spot → Features → Pair
pair_of_application key f = record { «package» = key; features = list_spot f; pbp_package = no_spot; pbp_features = no_spot }
