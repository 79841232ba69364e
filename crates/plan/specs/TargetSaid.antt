-- The partition that a reference finds is the one that 01 says.
use Rattle.std.specs.Prelude.{ℕ, suc, ◌-◌, List as Seq, [], ◌∷◌, map, ◌≡◌, refl, eqb, ltb, length, get_or, Option as Maybe, Some, None}
use Rattle.std.proofs.Math.Option.{Option, none, some}
use Rattle.std.proofs.Common.{ap, ◌∙◌, arith, lt-ltb}
use Rattle.std.proofs.Math.Dec.{leb-suc-suc}
use Rattle.meaning.specs.Base.{pick, same, ascii}
use Rattle.meaning.specs.Refusal.{accepted}
use Rattle.meaning.specs.Rules.{name_of, first_named}
use Rattle.meaning.specs.Schema as schemas
use Rattle.meaning.specs.Plan as meant
use Rattle.laws.specs.Cases.{on}
use Rattle.tree.specs.Doors.{field, fields_of, nth_of}
use Rattle.schema.specs.declared.Text.{Text}
use Rattle.schema.specs.declared.Text.TheVariants as texts
use Rattle.schema.specs.declared.Partition.{Partition}
use Rattle.schema.specs.Words.{word}
use Rattle.schema.specs.Texts.{clip, spelled, or_text}
use Rattle.parse.specs.Fields.{text_read}
use Rattle.parse.specs.Entries.{table_at, component_at, application_at, partitions}
use Rattle.parse.specs.Views as views
use Rattle.parse.specs.Views.{partition_list}
use Rattle.parse.specs.Meant.{partition_meant}
use Rattle.parse.specs.Reads.{Kept, text_kept}
use Rattle.parse.specs.Refused.{partition_numbers}
use Rattle.parse.specs.Whole.{partition_of, component_of, application_of}
use Rattle.parse.specs.Given.{partitions_meant_lem}
use Rattle.layout.specs.Parts.{rank}
use Rattle.layout.specs.Parts.{part_name}
use Rattle.validate.specs.EntrySaid.{Named, application_kept}
use Rattle.validate.specs.Gathered.{components}
use Rattle.plan.specs.declared.choice.Choice.{Choice}
use Rattle.plan.specs.declared.choice.Choice.TheVariants as choices
use Rattle.plan.specs.declared.component.Planned.{Planned}
use Rattle.plan.specs.Planned as plans
use Rattle.plan.specs.PlannedSaid.{planned_meant, partition_read_lem}
use Rattle.plan.specs.Targets as targets
use Rattle.plan.specs.Targets.{found, partition}

-- ---- references that were read

or_named : (t : Text) (from len : ℕ) → Kept t → Named (or_text t (texts.Stored from len))
or_named texts.Absent from len h = tt
or_named (texts.Stored at long) from len h = tt
or_named texts.Lent from len h = absurd h
or_named (texts.Fixed w) from len h = absurd h
or_named (texts.WithAic at long) from len h = absurd h

module _ (room store : Seq ℕ) (made n : ℕ) where
  pub component_named : Named (component_at room store made n 32).component.role.partition
  component_named =
      let v = field room store (table_at room store made n).fields (ascii "partition") in
      rw (partition_read_lem room store made n) (or_named (text_read v).text 0 0 (text_kept v))

  pub application_named : Named (application_at room store made n 32).application.partition
  application_named = (application_kept room store made n).partition

module _ (room store : Seq ℕ) (made : ℕ) where
  -- of a component that was planned, if there is one
  abbrev NamedIn : Maybe Planned → Type 0
  NamedIn None = Unit {0}
  NamedIn (Some q) = Named q.spec.role.partition

  good_named : (n : ℕ) → NamedIn (plans.planned_found (views.good_component room store made n 32))
  unfolding views.good_component plans.planned
  good_named n = on (eqb (component_at room store made n 32).fault 0) (λ e. rw e (component_named room store made n)) (λ e. rw e tt)

  found_named : (f : Maybe ℕ) → NamedIn (plans.planned_found (views.component_of room store made 32 f))
  found_named None = tt
  found_named (Some n) = good_named n

  own_named : (i : ℕ) → NamedIn (plans.own room store made i)
  own_named i = found_named (nth_of (components room store made) i)

  selected_named : (n : ℕ) → NamedIn (Some (plans.planned_application room store made n))
  unfolding plans.planned plans.component_of
  selected_named n = application_named room store made n

  composed_named : (n i : ℕ) → NamedIn (plans.composed room store made n i)
  unfolding plans.composed
  composed_named n i =
      on (ltb i (plans.ahead room store made))
      (λ e. rw e (own_named i))
      (λ e. on (eqb i (plans.ahead room store made)) (λ d. rw (e, d) (selected_named n)) (λ d. rw (e, d) (own_named (i - 1))))

  all_named : (c : Choice) (i : ℕ) → NamedIn (plans.component room store made c i)
  all_named choices.BootChain i = own_named i
  all_named choices.Undeclared i = tt
  all_named (choices.At place n) i = composed_named n i

  -- the reference of a planned component
  pub planned_named : (c : Choice) (i : ℕ) (q : Planned) → plans.component room store made c i ≡ Some q → Named q.spec.role.partition
  planned_named c i q e = rw e at (all_named c i)

-- ---- the first of a name

module _ (room store : Seq ℕ) (made : ℕ) (name : Seq ℕ) where
  -- the partition that was found
  abbrev pub target_meant : Maybe Partition → Option schemas.Partition
  target_meant None = none
  target_meant (Some p) = some (partition_meant room store made name p)

  -- the partition of a rank
  abbrev ranked : Seq Partition → ℕ → Maybe Partition
  ranked ps at = pick (ltb at (length ps)) (Some (get_or ps at targets.none)) None

  ranked_means : (x : Seq ℕ) (ps : Seq Partition)
      → target_meant (ranked ps (rank x (map (part_name store) ps))) ≡ first_named x (map (partition_meant room store made name) ps)
  ranked_means x [] = refl
  ranked_means x (p ∷ ps) =
      on (same x (part_name store p))
      (λ e. rw (e, lt-ltb 0 (suc (length ps)) (omega arith)))
      (λ e. rw (e, leb-suc-suc (suc (rank x (map (part_name store) ps))) (length ps)) (ranked_means x ps))

  found_means : (ps : Seq Partition) (t : Text) → Named t
      → target_meant (found store ps t) ≡ meant.partition_for (map (partition_meant room store made name) ps) (spelled store name t)
  unfolding found meant.partition_for
  found_means ps texts.Absent h = absurd h
  found_means ps (texts.Stored from len) h = ranked_means (name_of (clip from len store)) ps
  found_means ps texts.Lent h = absurd h
  found_means ps (texts.Fixed w) h = ranked_means (name_of (word w)) ps
  found_means ps (texts.WithAic from len) h = absurd h

  -- 01's partitions
  abbrev pub partitions_meant : Seq schemas.Partition
  partitions_meant = map (partition_of room store made name) (partition_numbers room store made (fields_of room made 1))

  -- where no partition is refused
  module _ (ps : Seq Partition) (e : partitions room store made (partition_list room store made) 32 ≡ accepted ps) where
    -- the partition of a reference is 01's
    pub target_means : (t : Text) → Named t → target_meant (partition room store made t) ≡ meant.partition_for partitions_meant (spelled store name t)
    target_means t h =
        rw e (found_means ps t h ∙ ap (λ (qs : Seq schemas.Partition). meant.partition_for qs (spelled store name t)) (partitions_meant_lem room store made name (fields_of room made 1) 32 ps e))

    -- of a component
    pub component_target : (n : ℕ)
        → target_meant (partition room store made (component_at room store made n 32).component.role.partition)
        ≡ meant.partition_for partitions_meant (component_of room store made name 32 n).role.partition
    component_target n = target_means (component_at room store made n 32).component.role.partition (component_named room store made n)

    -- of an application
    pub application_target : (n : ℕ)
        → target_meant (partition room store made (application_at room store made n 32).application.partition)
        ≡ meant.partition_for partitions_meant (application_of room store made name 32 n).partition
    application_target n = target_means (application_at room store made n 32).application.partition (application_named room store made n)

    -- of a planned component
    pub planned_target : (c : Choice) (i : ℕ) (q : Planned) → plans.component room store made c i ≡ Some q
        → target_meant (partition room store made q.spec.role.partition)
        ≡ meant.partition_for partitions_meant (planned_meant room store made name q).spec.role.partition
    planned_target c i q d = target_means q.spec.role.partition (planned_named room store made c i q d)
