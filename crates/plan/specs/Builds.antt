-- Level 2 of builds: the uses of packages in their order, and the first of each package.
use Rattle.std.specs.Prelude.{ℕ, ◌+◌, ◌≤◌, Bool, true, false, List as Seq, [], ◌∷◌, ◌++◌, map, ◌≡◌, ltb, length, take, get_or, Option, Some, None}
use Rattle.meaning.specs.Base.{pick}
use Rattle.meaning.specs.Rules.{twice}
use Rattle.tree.specs.Doors.{Rooms, items}
use Rattle.schema.specs.declared.Text.{Text}
use Rattle.schema.specs.declared.Text.TheVariants as texts
use Rattle.schema.specs.declared.Features.{Features}
use Rattle.schema.specs.declared.Features.TheVariants as lists
use Rattle.schema.specs.declared.Component.{Component}
use Rattle.schema.specs.Texts.{or_text, is_given}
use Rattle.parse.specs.Entries.{component_at, application_at}
use Rattle.parse.specs.Views.{component_list}
use Rattle.turns.specs.Marks.{any_of}
use Rattle.schema.specs.Spots.{packed, no_spot, text_spot, list_spot, text_at, list_at}
use Rattle.plan.specs.declared.choice.Choice.{Choice}
use Rattle.plan.specs.declared.choice.Choice.TheVariants as choices
use Rattle.plan.specs.declared.component.Build.{Build}
use Rattle.plan.specs.declared.builds.BuildList.{BuildList}
use Rattle.plan.specs.declared.builds.Use.{Use}
use Rattle.plan.specs.declared.builds.Wanted.{Wanted}
use Rattle.plan.specs.Planned.{built}

abbrev pub blank : Build
blank = record { «package» = texts.Absent; bin = texts.Absent; features = lists.Absent }

-- ---- uses by where their texts are

-- none
abbrev pub no_use : Use
no_use = record { «package» = no_spot; bin = no_spot; features = no_spot }

-- the use of a package, whose bin is the package itself where isGiven is none
unfoldable pub use_of : Text → Text → Features → Use
use_of p bin fs = record { «package» = text_spot p; bin = text_spot (or_text bin p); features = list_spot fs }

-- the build of a use
unfoldable pub build_at : Use → Build
build_at u = record { «package» = text_at u.«package»; bin = text_at u.bin; features = list_at u.features }

-- the builds of a component's two packages
pub record Both : Type 0 where
  pub own : Build
  pub pbp : Build

-- those of a component's two uses
abbrev pub both_at : Wanted → Both
both_at w = record { own = build_at w.own; pbp = build_at w.pbp }

-- a component's package, then its `pbp_package`
unfoldable pub wanted : Component → Both
wanted c =
    record {
      own = built c.head.«package» c.head.bin c.role.features;
      pbp = built c.boot.pbp_package texts.Absent c.role.pbp_features;
    }

-- ---- what arrays hold

-- these are the uses at the head of an array, and are not more than most
pub record Used (most : ℕ) (us : Seq Build) (r : BuildList) : Type 0 where
  pub count : r.count ≡ length us
  pub fits : length us ≤ most
  pub items : map build_at (take (length us) r.items) ≡ us

pub record Wanting (room : Seq ℕ) (made end : ℕ) : Type 0 where
  pub rooms : Rooms room made
  pub within : end ≤ made

-- isGiven is a place for one more
pub record Room (u : BuildList) : Type 0 where
  pub few : u.count ≤ 128

-- ---- first uses

-- a use of a package that none of the earlier ones is of
unfoldable pub fresh : Seq ℕ → Seq Build → Build → Bool
fresh store earlier u =
    pick (is_given u.«package») (pick (any_of (λ (v : Build). twice (packed store u.«package») (packed store v.«package»)) earlier) false true) false

abbrev pub first_uses : Seq ℕ → Seq Build → Seq Build → Seq Build
first_uses store earlier [] = []
first_uses store earlier (u ∷ us) =
    let more : Seq Build = first_uses store (earlier ++ (u ∷ [])) us in
    pick (fresh store earlier u) (u ∷ more) more

-- ---- of a preset

module _ (room store : Seq ℕ) (made : ℕ) where
  abbrev pub wanted_at : ℕ → Both
  wanted_at n = wanted (component_at room store made n 32).component

  abbrev pub uses_of : Seq ℕ → Seq Build
  uses_of [] = []
  uses_of (n ∷ ns) = (wanted_at n).own ∷ (wanted_at n).pbp ∷ uses_of ns

  -- of no more than 64 components
  abbrev pub each_component : ℕ → ℕ → Seq Build
  each_component place end = uses_of (take 64 (items room end place 0))

  -- of the application that value number n is
  unfoldable pub application_use : ℕ → Build
  application_use n = built (application_at room store made n 32).application.«package» texts.Absent (application_at room store made n 32).application.features

  -- one use after those in an array
  pub record Followed (n : ℕ) (u r : BuildList) : Type 0 where
    pub count : r.count ≡ u.count + 1
    pub items : map build_at (take (u.count + 1) r.items) ≡ map build_at (take u.count u.items) ++ (application_use n ∷ [])

  abbrev pub own_uses : Seq Build
  own_uses = each_component (component_list room store made).place (component_list room store made).end

  -- "the application last"; of a key that is not declared isGiven are none
  abbrev pub uses : Choice → Seq Build
  uses choices.BootChain = own_uses
  uses choices.Undeclared = []
  uses (choices.At place n) = own_uses ++ (application_use n ∷ [])

  unfoldable pub builds_of : Choice → Seq Build
  builds_of c = first_uses store [] (uses c)

  unfoldable pub build : Choice → ℕ → Option Build
  build c i = pick (ltb i (length (builds_of c))) (Some (get_or (builds_of c) i blank)) None
