-- Views of a plan: one law for each way out.
use Prim.Native.Nat.{ℕ}
use mathlib.Core.Bool.{Bool, true, false}
use mathlib.Core.List.{List}
use mathlib.Core.Path.{◌≡◌, ap, ◌∙◌}
use Rattle.schema.specs.declared.Text.{Text}
use Rattle.schema.specs.declared.Text.TheVariants as texts
use Rattle.std.specs.Prelude.{Option, None}
use Rattle.schema.specs.declared.Component.{Component}
use Rattle.schema.specs.declared.Partition.{Partition}
use Rattle.parse.specs.Views.{holds_values}
use Rattle.plan.specs.declared.choice.Choice.{Choice}
use Rattle.plan.specs.declared.component.Build.{Build}
use Rattle.plan.specs.declared.component.Planned.{Planned}
use Rattle.plan.specs.declared.builds.BuildList.{BuildList}
use Rattle.plan.specs.Choices.{Chosen, choice}
use Rattle.plan.specs.Planned as composed
use Rattle.plan.specs.Builds as needed
use Rattle.plan.specs.Builds.{Used}
use Rattle.plan.specs.Stems as stems
use Rattle.host.specs.declared.records.Bytes.{Bytes}
use Rattle.host.specs.declared.records.FeatureList.{FeatureList}
use Rattle.host.specs.declared.records.PartitionView.{PartitionView}
use Rattle.host.specs.declared.records.HeadView.{HeadView}
use Rattle.host.specs.declared.records.RoleView.{RoleView}
use Rattle.host.specs.declared.records.BootView.{BootView}
use Rattle.host.specs.declared.records.LoadView.{LoadView}
use Rattle.host.specs.declared.plans.BuildView.{BuildView}
use Rattle.host.specs.Records.{no_bytes, no_list, bytes_of, partition_of, head_of, role_of, boot_of, load_of}
use Rattle.host.specs.Plans.{spec_of, no_source, build_of, target_of, target_shown, component, build_shown, counts_shown, stem_shown}

-- ---- a source

pub source_none : (p b i : Bytes) (f : FeatureList) → p ≡ no_bytes → b ≡ no_bytes → f ≡ no_list → i ≡ no_bytes
    → record { kind = 0; «package» = p; bin = b; features = f; file = i } ≡ no_source
source_none p b i f ep eb ef ei = rw (ep, eb, ef, ei)

-- ---- a component

-- of the component that was asked for
module _ (f g : Option Planned) (e : g ≡ f) where
  module _ (c : Option Component) (d : c ≡ spec_of g) where
    pub head_planned : (r : HeadView) → r ≡ head_of c → r ≡ head_of (spec_of f)
    head_planned r h = h ∙ rw (d, e)

    pub role_planned : (r : RoleView) → r ≡ role_of c → r ≡ role_of (spec_of f)
    role_planned r h = h ∙ rw (d, e)

    pub boot_planned : (r : BootView) → r ≡ boot_of c → r ≡ boot_of (spec_of f)
    boot_planned r h = h ∙ rw (d, e)

    pub load_planned : (r : LoadView) → r ≡ load_of c → r ≡ load_of (spec_of f)
    load_planned r h = h ∙ rw (d, e)

-- ---- of sound rooms

module _ (room store : List ℕ) (made : ℕ) where
  module _ (s : Bool) (e : s ≡ holds_values room made) where
    pub target_shown_lem : (f g : Option Planned) (q : Option Partition) (r : PartitionView) → s ≡ true → g ≡ f → q ≡ target_of room store made g → r ≡ partition_of q → r ≡ target_shown room store made f
    target_shown_lem f g q r p d k h = rw (← e, p) (h ∙ rw (k, d))

    pub no_target : (f : Option Planned) (r : PartitionView) → s ≡ false → r ≡ partition_of None → r ≡ target_shown room store made f
    no_target f r p h = rw (← e, p) h

    module _ (app : ℕ) (key : List ℕ) where
      module _ (p : s ≡ true) (c : Choice) (k : Chosen room (choice room store made app key) c) where
        pub component_planned : (i : ℕ) (r : Option Planned) → r ≡ composed.component room store made c i → r ≡ component room store made app key i
        component_planned i r h = rw (← e, p, ← k.is) h

        pub build_shown_lem : (i : ℕ) (b : Option Build) (r : BuildView) → b ≡ needed.build room store made c i → r ≡ build_of b → r ≡ build_shown room store made app key i
        build_shown_lem i b r d h = rw (← e, p, ← k.is) (h ∙ ap build_of d)

        pub counts_shown_lem : (b : BuildList) (n : ℕ) → Used 129 (needed.builds_of room store made c) b → n ≡ composed.count room store made c
            → record { components = n; builds = b.count } ≡ counts_shown room store made app key
        counts_shown_lem b n u h = rw (← e, p, ← k.is, h, u.count)

        pub stem_shown_lem : (name : List ℕ) (t : Text) (r : Bytes) → t ≡ stems.stem room store made name c → r ≡ bytes_of t → r ≡ stem_shown room store made name app key
        stem_shown_lem name t r d h = rw (← e, p, ← k.is) (h ∙ ap bytes_of d)

      module _ (p : s ≡ false) where
        pub no_component : (i : ℕ) → None ≡ component room store made app key i
        no_component i = rw (← e, p)

        pub no_build : (i : ℕ) (r : BuildView) → r ≡ build_of None → r ≡ build_shown room store made app key i
        no_build i r h = rw (← e, p) h

        pub no_counts : record { components = 0; builds = 0 } ≡ counts_shown room store made app key
        no_counts = rw (← e, p)

        pub no_stem : (name : List ℕ) (r : Bytes) → r ≡ bytes_of texts.Absent → r ≡ stem_shown room store made name app key
        no_stem name r h = rw (← e, p) h
