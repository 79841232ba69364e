-- Planned components say what 01 says of what they mean: each of them, the application as one, and all in composition order.
use Prim.Native.Nat.{ℕ, zero, suc, ◌-◌, ◌≤◌, ◌<◌}
use Rattle.std.specs.Prelude.{true, false, ◌≡◌, eqb, ltb, length, Option as Maybe, Some, None}
use mathlib.Core.List.{List as Seq, [], ◌∷◌, map}
use Rattle.std.proofs.Math.Option.{Option, none, some}
use Rattle.std.proofs.Math.Path.{refl, sym}
use Rattle.std.proofs.Common.{ap, ◌∙◌, arith}
use borrow.Author.Tests.{ltb-true, ltb-false, eqb-true, eqb-false}
use Rattle.meaning.specs.Base.{pick, nil?, ascii}
use Rattle.meaning.specs.Schema as schemas
use Rattle.meaning.specs.Plan as meant
use Rattle.laws.specs.Cases.{on}
use Rattle.tree.specs.Room.{slot_at}
use Rattle.tree.specs.Doors.{field, nth_of}
use Rattle.schema.specs.declared.Text.{Text}
use Rattle.schema.specs.declared.Text.TheVariants as texts
use Rattle.schema.specs.declared.Features.{Features}
use Rattle.schema.specs.declared.Head.{Head}
use Rattle.schema.specs.declared.Component.{Component}
use Rattle.schema.specs.declared.Application.{Application}
use Rattle.schema.specs.Texts.{clip, spelled, optional, or_text, is_given}
use Rattle.features.specs.Pieces.{pieces_from}
use Rattle.parse.specs.Fields.{text_read, text_at}
use Rattle.parse.specs.Component.{component_read, role_read}
use Rattle.parse.specs.Application.{application_read}
use Rattle.parse.specs.Entries.{table_at, component_at, application_at}
use Rattle.parse.specs.Views as views
use Rattle.parse.specs.Meant.{feature_list, head_meant, component_meant, application_meant}
use Rattle.parse.specs.Reads.{Kept, text_kept, else_spelled, clip_none}
use Rattle.parse.specs.Whole as whole
use Rattle.parse.specs.Whole.{Clear}
use Rattle.parse.specs.Given.{entry_at}
use Rattle.validate.specs.EntrySaid.{kept_spelled}
use Rattle.validate.specs.Gathered.{components}
use Rattle.plan.specs.declared.choice.Choice.{Choice}
use Rattle.plan.specs.declared.choice.Choice.TheVariants as choices
use Rattle.plan.specs.declared.component.Build.{Build}
use Rattle.plan.specs.declared.component.Source.{Source}
use Rattle.plan.specs.declared.component.Source.TheVariants as sources
use Rattle.plan.specs.declared.component.Planned.{Planned}
use Rattle.plan.specs.Planned.{built, payload, pbp_payload, head_left, planned, component_of, before, planned_found, placed, ahead, own, composed, component}
use Rattle.plan.specs.Planned as plans
use Rattle.plan.specs.ChoiceSaid.{selected, Met}

-- ---- texts

or_kept : (t : Text) (from len : ℕ) → Kept t → Kept (or_text t (texts.Stored from len))
or_kept texts.Absent from len h = tt
or_kept (texts.Stored at long) from len h = tt
or_kept texts.Lent from len h = h
or_kept (texts.Fixed w) from len h = h
or_kept (texts.WithAic at long) from len h = h

-- ---- what they stand for

module _ (room store : Seq ℕ) (made : ℕ) (name : Seq ℕ) where
  abbrev pub build_meant : Build → meant.Build
  build_meant b = record { pack = spelled store name b.«package»; bin = spelled store name b.bin; features = feature_list room store made b.features }

  abbrev pub source_meant : Source → meant.Source
  source_meant (sources.Package b) = meant.from_package (build_meant b)
  source_meant (sources.File t) = meant.from_file (spelled store name t)

  abbrev pub source_if : Maybe Source → Option meant.Source
  source_if None = none
  source_if (Some s) = some (source_meant s)

  abbrev pub planned_meant : Planned → meant.PlannedComponent
  planned_meant p =
      record {
        spec = component_meant room store made name p.spec;
        source = source_meant p.source;
        pbp_source = source_if p.pbp_source;
      }

  abbrev pub found_meant : Maybe Planned → Option meant.PlannedComponent
  found_meant None = none
  found_meant (Some p) = some (planned_meant p)

  -- ---- a component

  built_means : (p bin : Text) (fs : Features) (s : Seq ℕ) → spelled store name p ≡ s
      → build_meant (built p bin fs) ≡ meant.built s (optional store name bin) (feature_list room store made fs)
  built_means p bin fs s e = rw (else_spelled store name bin p, e)

  payload_by : (p bin file : Text) (fs : Features)
      → source_meant (pick (is_given p) (sources.Package (built p bin fs)) (sources.File (or_text file (texts.Stored 0 0))))
      ≡ meant.payload (optional store name p) (optional store name bin) (feature_list room store made fs) (optional store name file)
  payload_by texts.Absent bin file fs = rw (else_spelled store name file (texts.Stored 0 0), clip_none store)
  payload_by (texts.Stored from len) bin file fs = ap meant.from_package (built_means (texts.Stored from len) bin fs (clip from len store) refl)
  payload_by texts.Lent bin file fs = ap meant.from_package (built_means texts.Lent bin fs name refl)
  payload_by (texts.Fixed w) bin file fs = ap meant.from_package (built_means (texts.Fixed w) bin fs (spelled store name (texts.Fixed w)) refl)
  payload_by (texts.WithAic from len) bin file fs =
      ap meant.from_package (built_means (texts.WithAic from len) bin fs (spelled store name (texts.WithAic from len)) refl)

  pbp_package_lem : (p : Text) (fs : Features)
      → source_if (pick (is_given p) (Some (sources.Package (built p texts.Absent fs))) None) ≡ meant.pbp_payload none (optional store name p) (feature_list room store made fs)
  pbp_package_lem texts.Absent fs = refl
  pbp_package_lem (texts.Stored from len) fs = refl
  pbp_package_lem texts.Lent fs = refl
  pbp_package_lem (texts.Fixed w) fs = refl
  pbp_package_lem (texts.WithAic from len) fs = refl

  pbp_by : (f p : Text) (fs : Features)
      → source_if (pick (is_given f) (Some (sources.File f)) (pick (is_given p) (Some (sources.Package (built p texts.Absent fs))) None))
      ≡ meant.pbp_payload (optional store name f) (optional store name p) (feature_list room store made fs)
  pbp_by texts.Absent p fs = pbp_package_lem p fs
  pbp_by (texts.Stored from len) p fs = refl
  pbp_by texts.Lent p fs = refl
  pbp_by (texts.Fixed w) p fs = refl
  pbp_by (texts.WithAic from len) p fs = refl

  file_by : (p file : Text) → optional store name (pick (is_given p) file texts.Absent) ≡ meant.file_left (optional store name p) (optional store name file)
  file_by texts.Absent file = refl
  file_by (texts.Stored from len) file = refl
  file_by texts.Lent file = refl
  file_by (texts.Fixed w) file = refl
  file_by (texts.WithAic from len) file = refl

  head_means : (h : Head) → head_meant room store made name (head_left h) ≡ meant.head_left (head_meant room store made name h)
  unfolding head_left
  head_means h = rw (file_by h.«package» h.file)

  -- a planned component is 01's
  pub planned_means : (c : Component) → planned_meant (planned c) ≡ meant.planned (component_meant room store made name c)
  unfolding planned payload pbp_payload meant.planned
  planned_means c =
      rw (
        head_means c.head,
        payload_by c.head.«package» c.head.bin c.head.file c.role.features,
        pbp_by c.boot.pbp c.boot.pbp_package c.role.pbp_features,
      )

  -- a payload always has a source
  pub planned_sourced : (c : Component) → source_meant (planned c).source ≡ (planned_meant (planned c)).source
  planned_sourced c = refl

  -- ---- the application

  -- an application as a component is 01's
  pub component_of_means : (a : Application) (from len : ℕ) → a.«package» ≡ texts.Stored from len
      → component_meant room store made name (component_of a) ≡ meant.component_of (application_meant room store made name a)
  unfolding component_of meant.component_of pieces_from
  component_of_means a from len e = rw e

-- an application's package is its key
pub package_stored : (room store : Seq ℕ) (made n limit : ℕ) → (application_at room store made n limit).application.«package» ≡ texts.Stored (slot_at room n).key (slot_at room n).len
unfolding application_at application_read
package_stored room store made n limit = refl

pub selected_means : (room store : Seq ℕ) (made : ℕ) (name : Seq ℕ) (n : ℕ)
    → found_meant room store made name (Some (plans.planned_application room store made n)) ≡ some (meant.planned (meant.component_of (whole.application_of room store made name 32 n)))
selected_means room store made name n =
    let a = (application_at room store made n 32).application in
    ap (λ (p : meant.PlannedComponent). some p)
    (planned_means room store made name (component_of a)
    ∙ ap meant.planned (component_of_means room store made name a (slot_at room n).key (slot_at room n).len (package_stored room store made n 32)))

-- ---- the partition of a component

module _ (room store : Seq ℕ) (made n : ℕ) where
  pub partition_read_lem : (component_at room store made n 32).component.role.partition ≡ or_text (text_at room store (table_at room store made n).fields (ascii "partition")).text (texts.Stored 0 0)
  unfolding component_at component_read role_read
  partition_read_lem = refl

  partition_kept : Kept (component_at room store made n 32).component.role.partition
  partition_kept =
      let v = field room store (table_at room store made n).fields (ascii "partition") in
      rw partition_read_lem (or_kept (text_read v).text 0 0 (text_kept v))

  -- whether isGiven is one is what 01 asks
  pub placed_means : (name : Seq ℕ) → placed room store made n ≡ pick (nil? (whole.component_of room store made name 32 n).role.partition) false true
  unfolding placed
  placed_means name = rw (kept_spelled store name (component_at room store made n 32).component.role.partition partition_kept)

-- ---- in composition order

-- how many of 01's components stand before the first with a partition
abbrev leading : Seq schemas.Component → ℕ
leading [] = 0
leading (c ∷ cs) = pick (nil? c.role.partition) (suc (leading cs)) 0

module _ {X : Type 0} (f : schemas.Component → X) (a : schemas.Component) where
  ahead_before : (cs : Seq schemas.Component) (i : ℕ) → i < leading cs → entry_at (map f (meant.ahead a cs)) i ≡ entry_at (map f cs) i
  ahead_before [] i h = absurd (omega arith)
  ahead_before (c ∷ cs) zero h = on (nil? c.role.partition) (λ e. rw e) (λ e. absurd (let z : 0 < 0 = rw e at h in omega (arith, z)))
  ahead_before (c ∷ cs) (suc i) h =
      on (nil? c.role.partition)
      (λ e. let z : suc i < suc (leading cs) = rw e at h in rw e (ahead_before cs i (omega (arith, z))))
      (λ e. absurd (let z : suc i < 0 = rw e at h in omega (arith, z)))

  ahead_here : (cs : Seq schemas.Component) → entry_at (map f (meant.ahead a cs)) (leading cs) ≡ some (f a)
  ahead_here [] = refl
  ahead_here (c ∷ cs) = on (nil? c.role.partition) (λ e. rw e (ahead_here cs)) (λ e. rw e)

  ahead_after : (cs : Seq schemas.Component) (i : ℕ) → leading cs ≤ i → entry_at (map f (meant.ahead a cs)) (suc i) ≡ entry_at (map f cs) i
  ahead_after [] i h = refl
  ahead_after (c ∷ cs) zero h = on (nil? c.role.partition) (λ e. absurd (let z : suc (leading cs) ≤ 0 = rw e at h in omega (arith, z))) (λ e. rw e)
  ahead_after (c ∷ cs) (suc i) h =
      on (nil? c.role.partition)
      (λ e. let z : suc (leading cs) ≤ suc i = rw e at h in rw e (ahead_after cs i (omega (arith, z))))
      (λ e. rw e)

module _ (room store : Seq ℕ) (made : ℕ) (name : Seq ℕ) where
  leading_is : (ns : Seq ℕ) → before (placed room store made) ns ≡ leading (map (whole.component_of room store made name 32) ns)
  leading_is [] = refl
  leading_is (n ∷ ns) =
      let e = placed_means room store made n name in
      on (nil? (whole.component_of room store made name 32 n).role.partition)
      (λ t. rw (e, t, leading_is ns))
      (λ t. rw (e, t))

  own_by : (ns : Seq ℕ) (i : ℕ) → Clear (λ n. (component_at room store made n 32).fault) ns
      → found_meant room store made name (planned_found (views.component_of room store made 32 (nth_of ns i))) ≡ entry_at (map meant.planned (map (whole.component_of room store made name 32) ns)) i
  unfolding views.good_component
  own_by [] i c = refl
  own_by (n ∷ ns) zero c = rw c.0 (ap (λ (p : meant.PlannedComponent). some p) (planned_means room store made name (component_at room store made n 32).component))
  own_by (n ∷ ns) (suc i) c = own_by ns i c.1

  -- 01's components, of a list without fault
  abbrev pub components_meant : Seq schemas.Component
  components_meant = map (whole.component_of room store made name 32) (components room store made)

  module _ (clear : Clear (λ n. (component_at room store made n 32).fault) (components room store made)) where
    pub own_means : (i : ℕ) → found_meant room store made name (own room store made i) ≡ entry_at (map meant.planned components_meant) i
    own_means i = own_by (components room store made) i clear

    composed_means : (n i : ℕ)
        → found_meant room store made name (composed room store made n i)
        ≡ entry_at (map meant.planned (meant.ahead (meant.component_of (whole.application_of room store made name 32 n)) components_meant)) i
    unfolding composed
    composed_means n i =
        let a = meant.component_of (whole.application_of room store made name 32 n) in
        let k : ahead room store made ≡ leading components_meant = leading_is (components room store made) in
        on (ltb i (ahead room store made))
        (λ e. rw e (own_means i ∙ sym (ahead_before meant.planned a components_meant i (omega (arith, k, ltb-true i (ahead room store made) e)))))
        (λ e.
        on (eqb i (ahead room store made))
        (λ d. let j : i ≡ leading components_meant = eqb-true i (ahead room store made) d ∙ k in rw (e, d) (selected_means room store made name n ∙ sym (rw j (ahead_here meant.planned a components_meant))))
        (λ d.
        let l : ahead room store made ≤ i = ltb-false i (ahead room store made) e in
        let m : i ≡ ahead room store made → ⊥ = eqb-false i (ahead room store made) d in
        let j : i ≡ suc (i - 1) = omega (arith, l, m) in
        rw (e, d)
        (own_means (i - 1)
        ∙ sym (ap (entry_at (map meant.planned (meant.ahead a components_meant))) j ∙ ahead_after meant.planned a components_meant (i - 1) (omega (arith, k, l, m))))))

-- ---- all of them

entry_there : {X : Type 0} (xs : Seq X) (i : ℕ) → i < length xs → (x : X) × (entry_at xs i ≡ some x)
entry_there [] i h = absurd (omega arith)
entry_there (x ∷ xs) zero h = (x, refl)
entry_there (x ∷ xs) (suc i) h = entry_there xs i (omega arith)

entry_none : {X : Type 0} (xs : Seq X) (i : ℕ) → length xs ≤ i → entry_at xs i ≡ none
entry_none [] i h = refl
entry_none (x ∷ xs) zero h = absurd (omega arith)
entry_none (x ∷ xs) (suc i) h = entry_none xs i (omega arith)

module _ (room store : Seq ℕ) (made : ℕ) (name : Seq ℕ) where
  found_there : (f : Maybe Planned) (p : meant.PlannedComponent) → found_meant room store made name f ≡ some p → (q : Planned) × (f ≡ Some q) × (planned_meant room store made name q ≡ p)
  found_there None p e = let z : ◌≡◌ {A = ℕ} 0 1 = cc in absurd (omega arith)
  found_there (Some q) p e = (q, refl, cc)

  found_none : (f : Maybe Planned) → found_meant room store made name f ≡ none → f ≡ None
  found_none None e = refl
  found_none (Some q) e = let z : ◌≡◌ {A = ℕ} 0 1 = cc in absurd (omega arith)

  -- all components of 01's plan
  abbrev pub composition : Choice → Seq meant.PlannedComponent
  composition c = map meant.planned (meant.composition (selected room store made name c) (components_meant room store made name))

  module _ (clear : Clear (λ n. (component_at room store made n 32).fault) (components room store made)) where
    -- component number i of a plan is the one of 01's plan
    pub composition_means : (c : Choice) → Met room store made name c → (i : ℕ) → found_meant room store made name (component room store made c i) ≡ entry_at (composition c) i
    unfolding meant.composition
    composition_means choices.BootChain h i = own_means room store made name clear i
    composition_means choices.Undeclared h i = absurd h
    composition_means (choices.At place n) h i = composed_means room store made name clear n i

    module _ (c : Choice) (h : Met room store made name c) (i : ℕ) where
      pub composition_there : i < length (composition c) → (q : Planned) × (component room store made c i ≡ Some q) × (entry_at (composition c) i ≡ some (planned_meant room store made name q))
      composition_there l =
          let e = entry_there (composition c) i l in
          let f = found_there (component room store made c i) e.0 (composition_means c h i ∙ e.1) in
          (f.0, f.1, e.1 ∙ ap (λ (p : meant.PlannedComponent). some p) (sym f.2))

      pub composition_none : length (composition c) ≤ i → component room store made c i ≡ None
      composition_none l = found_none (component room store made c i) (composition_means c h i ∙ entry_none (composition c) i l)

      pub composition_end : component room store made c i ≡ None → length (composition c) ≤ i
      composition_end e =
          on (ltb i (length (composition c)))
          (λ t. let f = composition_there (ltb-true i (length (composition c)) t) in let g : None ≡ Some f.0 = sym e ∙ f.1 in let z : ◌≡◌ {A = ℕ} 0 1 = cc in absurd (omega arith))
          (λ t. ltb-false i (length (composition c)) t)
