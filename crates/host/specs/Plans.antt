-- The export of planning: 01's answer to a text, a lent name and a selection; and views of the plan in the rooms.
use Rattle.std.specs.Prelude.{ℕ, List, length, Option, Some, None, option_map, option_and_then}
use Rattle.plan.specs.declared.component.Planned.{Planned}
use Rattle.plan.specs.declared.component.Build.{Build}
use Rattle.schema.specs.declared.Component.{Component}
use Rattle.schema.specs.declared.Partition.{Partition}
use Rattle.meaning.specs.Base.{pick}
use Rattle.meaning.specs.Refusal.{Answer, accepted, accepted_then}
use Rattle.meaning.specs.Preset.{Read}
use Rattle.meaning.specs.Plan as meant
use Rattle.schema.specs.declared.Text.TheVariants as texts
use Rattle.parse.specs.Views.{holds_values}
use Rattle.plan.specs.declared.choice.Choice.{Choice}
use Rattle.plan.specs.declared.component.Source.{Source}
use Rattle.plan.specs.declared.component.Source.TheVariants as sources
use Rattle.plan.specs.Choices as choices
use Rattle.plan.specs.ChoiceSaid.{selection}
use Rattle.plan.specs.Planned as composed
use Rattle.plan.specs.Builds as needed
use Rattle.plan.specs.Stems as stems
use Rattle.plan.specs.Targets as targets
use Rattle.host.specs.declared.records.Bytes.{Bytes}
use Rattle.host.specs.declared.records.PartitionView.{PartitionView}
use Rattle.host.specs.declared.plans.SourceView.{SourceView}
use Rattle.host.specs.declared.plans.BuildView.{BuildView}
use Rattle.host.specs.declared.plans.PlanCounts.{PlanCounts}
use Rattle.host.specs.Records.{no_bytes, no_list, bytes_of, list_of, partition_of}
use Rattle.host.specs.Presets.{validated}

-- 01's answer to a text, a lent name, a selection and rooms of these lengths: its records, where a plan can be made of them
abbrev pub planned : List ℕ → List ℕ → ℕ → List ℕ → List ℕ → List ℕ → Answer Read
planned text name app key store tree = accepted_then (validated text name store tree) (λ r. accepted_then (meant.plan_of r.preset (selection app key)) (λ p. accepted r))

-- ---- a planned component

abbrev pub spec_of : Option Planned → Option Component
spec_of f = option_map (λ p. p.spec) f

abbrev pub no_source : SourceView
no_source = record { kind = 0; «package» = no_bytes; bin = no_bytes; features = no_list; file = no_bytes }

abbrev pub source_of : Option Source → SourceView
source_of None = no_source
source_of (Some (sources.Package b)) = record { kind = 1; «package» = bytes_of b.«package»; bin = bytes_of b.bin; features = list_of b.features; file = no_bytes }
source_of (Some (sources.File t)) = record { kind = 2; «package» = no_bytes; bin = no_bytes; features = no_list; file = bytes_of t }

abbrev pub payload : Option Planned → SourceView
payload f = source_of (option_map (λ p. p.source) f)

abbrev pub pbp : Option Planned → SourceView
pbp f = source_of (option_and_then (λ p. p.pbp_source) f)

abbrev pub build_of : Option Build → BuildView
build_of None = record { found = 0; «package» = no_bytes; bin = no_bytes; features = no_list }
build_of (Some b) = record { found = 1; «package» = bytes_of b.«package»; bin = bytes_of b.bin; features = list_of b.features }

-- ---- of any rooms

module _ (room store : List ℕ) (made : ℕ) where
  abbrev pub target_of : Option Planned → Option Partition
  target_of f = option_and_then (λ p. targets.partition room store made p.spec.role.partition) f

  abbrev pub target_shown : Option Planned → PartitionView
  target_shown f = pick (holds_values room made) (partition_of (target_of f)) (partition_of None)

  module _ (app : ℕ) (key : List ℕ) where
    abbrev pub chosen : Choice
    chosen = choices.choice room store made app key

    abbrev pub component : ℕ → Option Planned
    component i = pick (holds_values room made) (composed.component room store made chosen i) None

    abbrev pub build_shown : ℕ → BuildView
    build_shown i = pick (holds_values room made) (build_of (needed.build room store made chosen i)) (build_of None)

    abbrev pub counts_shown : PlanCounts
    counts_shown =
        pick (holds_values room made) (record { components = composed.count room store made chosen; builds = length (needed.builds_of room store made chosen) })
        (record { components = 0; builds = 0 })

  abbrev pub stem_shown : List ℕ → ℕ → List ℕ → Bytes
  stem_shown name app key = pick (holds_values room made) (bytes_of (stems.stem room store made name (chosen app key))) (bytes_of texts.Absent)
