-- What the views show of the rooms that an accepted call leaves: decoded by the words of docs/HOST.md (`Decoding`),
-- every struct is the field of 01's record, for every field. A view's promise is an equation with a definition of
-- host/specs/Records or host/specs/Plans, and a clause here is about any v that meets it: whatever a view answers,
-- given the rooms, the count `made` of the call's answer, and the same lent name and selection.
use Rattle.std.specs.Prelude.{ℕ, ◌-◌, ◌≤◌, ◌<◌, List, ◌++◌, ◌≡◌, length}
use Rattle.std.proofs.Math.Option.{Option, none, some}
use Rattle.meaning.specs.Base.{zeros}
use Rattle.meaning.specs.Refusal.{Answer, accepted}
use Rattle.meaning.specs.Schema.{Component, Preset}
use Rattle.meaning.specs.Preset.{Read}
use Rattle.meaning.specs.Plan as meant
use Rattle.meaning.specs.Plan.{PlannedComponent, Plan, partition_for}
use Rattle.parse.specs.Views.{counts_at}
use Rattle.parse.specs.Given.{entry_at}
use Rattle.host.specs.declared.documents.Outcome.{Outcome}
use Rattle.host.specs.declared.records.Bytes.{Bytes}
use Rattle.host.specs.declared.records.Counts.{Counts}
use Rattle.host.specs.declared.records.BoardView.{BoardView}
use Rattle.host.specs.declared.records.ImageView.{ImageView}
use Rattle.host.specs.declared.records.PartitionView.{PartitionView}
use Rattle.host.specs.declared.records.HeadView.{HeadView}
use Rattle.host.specs.declared.records.RoleView.{RoleView}
use Rattle.host.specs.declared.records.BootView.{BootView}
use Rattle.host.specs.declared.records.LoadView.{LoadView}
use Rattle.host.specs.declared.records.ApplicationView.{ApplicationView}
use Rattle.host.specs.declared.plans.SourceView.{SourceView}
use Rattle.host.specs.declared.plans.BuildView.{BuildView}
use Rattle.host.specs.declared.plans.PlanCounts.{PlanCounts}
use Rattle.host.specs.Records as records
use Rattle.host.specs.Records.{board_shown, image_shown, partition_shown, application_shown, Worded}
use Rattle.host.specs.Plans as plans
use Rattle.host.specs.Plans.{planned, spec_of, target_shown, build_shown, counts_shown, stem_shown}
use Rattle.host.specs.Presets.{Answered}
use Rattle.theorems.specs.Answers.{plan_by01}
use Rattle.theorems.specs.Decoding.{word_by_number, text_by, board_by, image_by, partition_by, head_by, role_by, boot_by}
use Rattle.theorems.specs.Decoding.{load_by, application_by, source_by, build_by}

-- ---- of an entry, where there is one

-- a part of it
abbrev pub part_of : {X Y : Type 0} → (X → Y) → Option X → Option Y
part_of f none = none
part_of f (some x) = some (f x)

-- a part that it may have
abbrev pub part_in : {X Y : Type 0} → (X → Option Y) → Option X → Option Y
part_in f none = none
part_in f (some x) = f x

-- ---- a preset

module _ (name store tree : List ℕ) (made : ℕ) (r : Preset) where
  -- number i of the preset's components
  abbrev component_in : ℕ → Option Component
  component_in i = entry_at r.components i

  -- all views of the rooms show this preset; an entry past the last is not found
  pub record PresetShown : Type 0 where
    -- preset_counts
    pub counts : (v : Counts) → v ≡ records.counts_of (counts_at tree store made)
        → (v.partitions ≡ length r.partitions) × (v.components ≡ length r.components)
        × (v.applications ≡ length r.applications)
    -- preset_board, with the lent name
    pub board : (v : BoardView) → v ≡ board_shown tree store made name
        → board_by tree store made name v ≡ some (some r.board)
    -- preset_image, which is lent no name: the image is the same under any
    pub image : (other : List ℕ) (v : ImageView) → v ≡ image_shown tree store made
        → image_by tree store made other v ≡ some (some r.image)
    -- preset_partition
    pub partition : (i : ℕ) (v : PartitionView) → v ≡ partition_shown tree store made i
        → partition_by tree store made name v ≡ some (entry_at r.partitions i)
    -- preset_component_head, preset_component_role, preset_component_boot, preset_component_load
    pub head : (i : ℕ) (v : HeadView) → v ≡ records.head_of (records.component tree store made i)
        → head_by tree store made name v ≡ some (part_of (λ c. c.head) (component_in i))
    pub role : (i : ℕ) (v : RoleView) → v ≡ records.role_of (records.component tree store made i)
        → role_by tree store made name v ≡ some (part_of (λ c. c.role) (component_in i))
    pub boot : (i : ℕ) (v : BootView) → v ≡ records.boot_of (records.component tree store made i)
        → boot_by tree store made name v ≡ some (part_of (λ c. c.boot) (component_in i))
    pub load : (i : ℕ) (v : LoadView) → v ≡ records.load_of (records.component tree store made i)
        → load_by tree store made name v ≡ some (part_of (λ c. c.load) (component_in i))
    -- preset_application
    pub application : (i : ℕ) (v : ApplicationView) → v ≡ application_shown tree store made i
        → application_by tree store made name v ≡ some (entry_at r.applications i)

-- ---- a plan

module _ (name store tree : List ℕ) (made app : ℕ) (key : List ℕ) (q : Plan) where
  -- number i of the plan's components
  abbrev planned_in : ℕ → Option PlannedComponent
  planned_in i = entry_at q.components i

  -- all views of a plan show this one
  pub record PlanShown : Type 0 where
    -- preset_plan_counts
    pub counts : (v : PlanCounts) → v ≡ counts_shown tree store made app key
        → (v.components ≡ length q.components) × (v.builds ≡ length q.builds)
    -- preset_plan_head, preset_plan_role, preset_plan_boot, preset_plan_load
    pub head : (i : ℕ) (v : HeadView) → v ≡ records.head_of (spec_of (plans.component tree store made app key i))
        → head_by tree store made name v ≡ some (part_of (λ c. c.spec.head) (planned_in i))
    pub role : (i : ℕ) (v : RoleView) → v ≡ records.role_of (spec_of (plans.component tree store made app key i))
        → role_by tree store made name v ≡ some (part_of (λ c. c.spec.role) (planned_in i))
    pub boot : (i : ℕ) (v : BootView) → v ≡ records.boot_of (spec_of (plans.component tree store made app key i))
        → boot_by tree store made name v ≡ some (part_of (λ c. c.spec.boot) (planned_in i))
    pub load : (i : ℕ) (v : LoadView) → v ≡ records.load_of (spec_of (plans.component tree store made app key i))
        → load_by tree store made name v ≡ some (part_of (λ c. c.spec.load) (planned_in i))
    -- preset_plan_source: each component has one
    pub source : (i : ℕ) (v : SourceView) → v ≡ plans.payload (plans.component tree store made app key i)
        → source_by tree store made name v ≡ some (part_of (λ c. c.source) (planned_in i))
    -- preset_plan_pbp: some have none
    pub pbp : (i : ℕ) (v : SourceView) → v ≡ plans.pbp (plans.component tree store made app key i)
        → source_by tree store made name v ≡ some (part_in (λ c. c.pbp_source) (planned_in i))
    -- preset_plan_partition: what 01 finds by the component's reference
    pub partition : (i : ℕ) (v : PartitionView)
        → v ≡ target_shown tree store made (plans.component tree store made app key i)
        → partition_by tree store made name v
        ≡ some (part_in (λ c. partition_for q.partitions c.spec.role.partition) (planned_in i))
    -- preset_plan_build
    pub build : (i : ℕ) (v : BuildView) → v ≡ build_shown tree store made app key i
        → build_by tree store made name v ≡ some (entry_at q.builds i)
    -- preset_plan_stem, with the lent name
    pub stem : (v : Bytes) → v ≡ stem_shown tree store made name app key → text_by store name v ≡ some q.stem

-- ---- the statements

-- after a call of preset_read, preset_validate or preset_plan whose answer is `accepted x`
abbrev pub AcceptedIsShown : Type 0
AcceptedIsShown = (a : Answer Read) (text name store tree store' tree' : List ℕ) (r : Outcome) (x : Read)
    → Answered a text name store tree store' tree' r → a ≡ accepted x
    → PresetShown name store' tree' r.made x.preset

-- after a call of preset_plan that gives 01's plan
abbrev pub PlanIsShownByViews : Type 0
PlanIsShownByViews = (text name : List ℕ) (app : ℕ) (key store tree store' tree' : List ℕ) (r : Outcome)
    (x : meant.Planned)
    → Answered (planned text name app key store tree) text name store tree store' tree' r
    → plan_by01 text name app key store tree ≡ accepted x
    → PlanShown name store' tree' r.made app key x.plan

-- what preset_word leaves: the word of that number at the head of the room, zeros after it, and its length; or, where
-- there is no such word or it is longer than the room, zeros alone, and 0
pub record WordWritten (n : ℕ) (out out' : List ℕ) (r : ℕ) : Type 0 where
  pub fits : (w : List ℕ) → word_by_number n ≡ some w → length w ≤ length out
      → (r ≡ length w) × (out' ≡ w ++ zeros (length out - length w))
  pub longer : (w : List ℕ) → word_by_number n ≡ some w → length out < length w
      → (r ≡ 0) × (out' ≡ zeros (length out))
  pub no_word : word_by_number n ≡ none → (r ≡ 0) × (out' ≡ zeros (length out))

abbrev pub WordIsWritten : Type 0
WordIsWritten = (n : ℕ) (out out' : List ℕ) (r : ℕ) → Worded n out out' r → WordWritten n out out' r

-- every word fits into 32 bytes
abbrev pub WordsAreShort : Type 0
WordsAreShort = (n : ℕ) (w : List ℕ) → word_by_number n ≡ some w → length w ≤ 32
