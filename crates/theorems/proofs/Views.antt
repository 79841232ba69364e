-- All views of the rooms that an accepted call leaves, as they are exported: decoded, they are 01's records.
use Prim.Native.Nat.{ℕ}
use mathlib.Core.Bool.{true}
use mathlib.Core.List.{List, []}
use mathlib.Core.Option.{Option, some}
use mathlib.Core.Path.{◌≡◌, refl, sym, ap, subst, ◌∙◌}
use native.Mathlib.Omega.{arith}
use lib.ListN.{length}
use Rattle.meaning.specs.Limits.{of01}
use Rattle.meaning.specs.Refusal.{Answer, accepted}
use Rattle.meaning.specs.Schema as schemas
use Rattle.meaning.specs.Preset.{Read}
use Rattle.meaning.specs.Plan as meant
use Rattle.laws.specs.Answers.{accepted_one}
use Rattle.tree.specs.declared.Fields.{Fields}
use Rattle.tree.specs.Doors.{fields_of, items, nth_of}
use Rattle.schema.specs.declared.Text.{Text}
use Rattle.schema.specs.declared.Board.{Board}
use Rattle.schema.specs.declared.Image.{Image}
use Rattle.std.specs.Prelude.{Option as Maybe, Some, None}
use Rattle.plan.specs.declared.component.Build.{Build}
use Rattle.schema.specs.declared.Application.{Application}
use Rattle.schema.specs.declared.Component.{Component}
use Rattle.schema.specs.declared.Partition.{Partition}
use Rattle.parse.specs.Front.{front_of, board_read, front_read}
use Rattle.parse.specs.Refused.{lent_text}
use Rattle.parse.specs.Views as views
use Rattle.parse.specs.Views.{holds_values, counts_at}
use Rattle.parse.specs.Entries.{nth_key}
use Rattle.parse.specs.Meant.{board_meant, image_meant}
use Rattle.parse.specs.Answers.{accepted_says}
use Rattle.parse.specs.Whole.{preset_meant}
use Rattle.parse.specs.Given as goal
use Rattle.parse.specs.Given.{entry_at}
use Rattle.parse.specs.Numbered.{partition_seen, component_seen, application_seen}
use Rattle.plan.specs.declared.choice.Choice.TheVariants as choices
use Rattle.plan.specs.declared.component.Source.{Source}
use Rattle.plan.specs.declared.component.Source.TheVariants as sources
use Rattle.plan.specs.declared.component.Planned.{Planned}
use Rattle.plan.specs.Choices.{fault}
use Rattle.plan.specs.ChoiceSaid.{selection, selected, plan_says}
use Rattle.plan.specs.Builds as needed
use Rattle.plan.specs.Stems as stems
use Rattle.plan.specs.TargetSaid.{target_meant}
use Rattle.plan.specs.PlannedSaid.{source_if, planned_meant, found_meant}
use Rattle.host.specs.declared.documents.Outcome.{Outcome}
use Rattle.host.specs.declared.plans.PlanCounts.{PlanCounts}
use Rattle.host.specs.Records as records
use Rattle.host.specs.Plans as plans
use Rattle.host.specs.Presets.{Records, Recorded, outcome_by}
use Rattle.host.specs.Planned as shown
use Rattle.host.specs.Planned.{Composed, built_meant}
use Rattle.host.proofs.Shown.{partition_shown_lem, component_shown, application_shown_lem, partitions_shown, components_shown, applications_shown}
use Rattle.theorems.specs.Answers.{read_of}
use Rattle.theorems.specs.Decoding.{board_by, image_by, partition_by, head_by, role_by, boot_by, load_by, application_by, source_by, build_by}
use Rattle.theorems.specs.Views.{part_of, part_in, PresetShown, PlanShown, AcceptedIsShown, PlanIsShownByViews}
use Rattle.theorems.proofs.Decoding.{chip_by_lem, media_by_lem, kind_by_lem, flag_by_lem, amount_by_lem, optional_by_lem, text_by_lem, list_by_lem}
use Rattle.theorems.proofs.Presentable.{BoardWhole, ImageWhole, board_whole, image_whole, image_unlent, lent_given, WholeComponent, WholeApplication, component_found_lem, application_found}
use Rattle.theorems.proofs.Presentable.{WholeSource, WholeBuild, WholePlanned, planned_found_lem, build_found, stem_given}

-- ---- structs

module _ (room store : List ℕ) (made : ℕ) (name : List ℕ) where
  board_by_lem : (b : Board) → BoardWhole b → board_by room store made name (records.board_of b) ≡ some (some (board_meant room store made name b))
  board_by_lem b h =
      rw (chip_by_lem b.chip, text_by_lem store name b.name h.name, text_by_lem store name b.target h.target, text_by_lem store name b.profile h.profile)

  image_by_lem : (i : Image) → ImageWhole i → image_by room store made name (records.image_of i) ≡ some (some (image_meant room store made name i))
  image_by_lem i h =
      rw (
        media_by_lem i.media,
        text_by_lem store name i.platform h.platform,
        text_by_lem store name i.product h.product,
        text_by_lem store name i.version h.version,
        text_by_lem store name i.media_id h.media_id_lem,
        text_by_lem store name i.app h.app,
      )

  partition_by_lem : (f : Maybe Partition) → partition_by room store made name (records.partition_of f) ≡ some (partition_seen room store made name f)
  partition_by_lem None = refl
  partition_by_lem (Some p) = rw (flag_by_lem p.locked)

  head_by_lem : (f : Maybe Component) → WholeComponent f → head_by room store made name (records.head_of f) ≡ some (part_of (λ (c : schemas.Component). c.head) (component_seen room store made name f))
  head_by_lem None h = refl
  head_by_lem (Some c) h =
      rw (
        kind_by_lem c.head.kind,
        text_by_lem store name c.head.name h.name,
        optional_by_lem store name c.head.«package»,
        optional_by_lem store name c.head.bin,
        optional_by_lem store name c.head.file,
        text_by_lem store name c.head.filename h.filename,
      )

  boot_by_lem : (f : Maybe Component) → boot_by room store made name (records.boot_of f) ≡ some (part_of (λ (c : schemas.Component). c.boot) (component_seen room store made name f))
  boot_by_lem None = refl
  boot_by_lem (Some c) =
      rw (
        flag_by_lem c.boot.updater,
        amount_by_lem c.boot.ram,
        optional_by_lem store name c.boot.pbp,
        optional_by_lem store name c.boot.pbp_package,
        optional_by_lem store name c.boot.private,
      )

  load_by_lem : (f : Maybe Component) → load_by room store made name (records.load_of f) ≡ some (part_of (λ (c : schemas.Component). c.load) (component_seen room store made name f))
  load_by_lem None = refl
  load_by_lem (Some c) =
      rw (
        amount_by_lem c.load.load_address,
        amount_by_lem c.load.entry_point,
        amount_by_lem c.load.entry_offset,
        amount_by_lem c.load.header_version,
        flag_by_lem c.load.with_ext,
      )

  module _ (held : holds_values room made ≡ true) where
    role_by_lem : (f : Maybe Component) → WholeComponent f
        → role_by room store made name (records.role_of f) ≡ some (part_of (λ (c : schemas.Component). c.role) (component_seen room store made name f))
    role_by_lem None h = refl
    role_by_lem (Some c) h =
        rw (
          list_by_lem room store made held c.role.features h.lists.0,
          list_by_lem room store made held c.role.pbp_features h.lists.1,
          text_by_lem store name c.role.partition h.partition,
          text_by_lem store name c.role.attr h.attr,
          optional_by_lem store name c.role.target_attr,
          optional_by_lem store name c.role.target_filename,
        )

    application_by_lem : (f : Maybe Application) → WholeApplication f
        → application_by room store made name (records.application_of f) ≡ some (application_seen room store made name f)
    application_by_lem None h = refl
    application_by_lem (Some a) h =
        rw (
          text_by_lem store name a.«package» h.pack,
          text_by_lem store name a.name h.name,
          text_by_lem store name a.partition h.partition,
          text_by_lem store name a.filename h.filename,
          text_by_lem store name a.attr h.attr,
          list_by_lem room store made held a.features h.list,
          amount_by_lem a.load_address,
          amount_by_lem a.entry_offset,
        )

    source_by_lem : (s : Maybe Source) → WholeSource s → source_by room store made name (plans.source_of s) ≡ some (source_if room store made name s)
    source_by_lem None h = refl
    source_by_lem (Some (sources.Package b)) h = rw (text_by_lem store name b.«package» h.pack, text_by_lem store name b.bin h.bin, list_by_lem room store made held b.features h.list)
    source_by_lem (Some (sources.File t)) h = rw (text_by_lem store name t h)

    build_by_lem : (f : Maybe Build) → WholeBuild f → build_by room store made name (plans.build_of f) ≡ some (built_meant room store made name f)
    build_by_lem None h = refl
    build_by_lem (Some b) h = rw (text_by_lem store name b.«package» h.pack, text_by_lem store name b.bin h.bin, list_by_lem room store made held b.features h.list)

    -- ---- of a planned component

    -- a group of its record is shown as a component's
    planned_group : {View Y : Type 0} (by : View → Option (Option Y)) (of : Maybe Component → View) (group : schemas.Component → Y)
        → ((f : Maybe Component) → WholeComponent f → by (of f) ≡ some (part_of group (component_seen room store made name f)))
        → (f : Maybe Planned) → WholePlanned room store made held name f
        → by (of (plans.spec_of f)) ≡ some (part_of (λ (c : meant.PlannedComponent). group c.spec) (found_meant room store made name f))
    planned_group by of group law None h = law None tt
    planned_group by of group law (Some p) h = law (Some p.spec) h.spec

    planned_source : (f : Maybe Planned) → WholePlanned room store made held name f
        → source_by room store made name (plans.payload f) ≡ some (part_of (λ (c : meant.PlannedComponent). c.source) (found_meant room store made name f))
    planned_source None h = refl
    planned_source (Some p) h = source_by_lem (Some p.source) h.source

    planned_pbp : (f : Maybe Planned) → WholePlanned room store made held name f
        → source_by room store made name (plans.pbp f) ≡ some (part_in (λ (c : meant.PlannedComponent). c.pbp_source) (found_meant room store made name f))
    planned_pbp None h = refl
    planned_pbp (Some p) h = source_by_lem p.pbp_source h.pbp

  -- the partition of a planned component, where it is the one that 01 finds
  planned_target : (ps : List schemas.Partition) (f : Maybe Planned)
      → ((p : Planned) → f ≡ Some p
      → target_meant room store made name (plans.target_of room store made f) ≡ meant.partition_for ps (planned_meant room store made name p).spec.role.partition)
      → partition_by room store made name (records.partition_of (plans.target_of room store made f))
      ≡ some (part_in (λ (c : meant.PlannedComponent). meant.partition_for ps c.spec.role.partition) (found_meant room store made name f))
  planned_target ps None h = refl
  planned_target ps (Some p) h = partition_by_lem (plans.target_of room store made (Some p)) ∙ ap some (h p refl)

-- ---- no lent name changes the image, or whether there is one

module _ (room store : List ℕ) (made : ℕ) (root : Fields) (lent other : Text) where
  fault_same : (front_read room store made root lent).fault ≡ (front_read room store made root other).fault
  unfolding front_of board_read
  fault_same = refl

  image_same : (front_read room store made root lent).image ≡ (front_read room store made root other).image
  unfolding front_of
  image_same = refl

-- ---- a preset

module _ (name store tree : List ℕ) (p : Read) (h : Recorded name store tree p) where
  abbrev made : ℕ
  made = p.parsed.made

  clear : (front_read tree store made (fields_of tree made 1) (lent_text name)).fault.number ≡ 0
  clear = goal.front_clear tree store made (fields_of tree made 1) of01 (lent_text name) h.clear

  clear_unlent : (front_read tree store made (fields_of tree made 1) (lent_text [])).fault.number ≡ 0
  clear_unlent = ap (λ f. f.number) (fault_same tree store made (fields_of tree made 1) (lent_text []) (lent_text name)) ∙ clear

  board_is : board_by tree store made name (records.board_shown tree store made name) ≡ some (some p.preset.board)
  unfolding records.board_view
  board_is =
      rw (h.stands, clear)
      (board_by_lem tree store made name (front_read tree store made (fields_of tree made 1) (lent_text name)).board
      (board_whole tree store made (fields_of tree made 1) (lent_text name) (lent_given name))
      ∙ ap (λ (r : schemas.Preset). some (some r.board)) h.records)

  image_is : (other : List ℕ) → image_by tree store made other (records.image_shown tree store made) ≡ some (some p.preset.image)
  unfolding records.image_view
  image_is other =
      let root = fields_of tree made 1 in
      rw (h.stands, clear_unlent)
      (image_by_lem tree store made other (front_read tree store made root (lent_text [])).image (image_whole tree store made root (lent_text []))
      ∙ ap (λ (i : schemas.Image). some (some i)) (image_unlent tree store made root (lent_text []) name other)
      ∙ ap (λ (i : Image). some (some (image_meant tree store made name i))) (image_same tree store made root (lent_text []) (lent_text name))
      ∙ ap (λ (r : schemas.Preset). some (some r.image)) h.records)

  partition_is : (i : ℕ) → partition_by tree store made name (records.partition_shown tree store made i) ≡ some (entry_at p.preset.partitions i)
  partition_is i = rw h.stands (partition_by_lem tree store made name (views.partition tree store made i) ∙ ap some (partition_shown_lem name store tree p h i))

  component_whole : (i : ℕ) → WholeComponent (views.component tree store made i 32)
  component_whole i = component_found_lem tree store made h.stands 32 (nth_of (items tree (views.component_list tree store made).end (views.component_list tree store made).place 0) i)

  application_whole : (i : ℕ) → WholeApplication (views.application tree store made i 32)
  application_whole i = application_found tree store made h.stands 32 (nth_key tree store (views.application_list tree store made) i)

  -- a group of component number i
  group_is : {View Y : Type 0} (by : View → Option (Option Y)) (of : Maybe Component → View) (group : schemas.Component → Y)
      → ((f : Maybe Component) → WholeComponent f → by (of f) ≡ some (part_of group (component_seen tree store made name f)))
      → (i : ℕ) (v : View) → v ≡ of (records.component tree store made i) → by v ≡ some (part_of group (entry_at p.preset.components i))
  group_is by of group law i v e =
      rw (e, h.stands)
      (law (views.component tree store made i 32) (component_whole i)
      ∙ ap (λ (c : Option schemas.Component). some (part_of group c)) (component_shown name store tree p h i))

  application_is : (i : ℕ) → application_by tree store made name (records.application_shown tree store made i) ≡ some (entry_at p.preset.applications i)
  application_is i =
      rw h.stands
      (application_by_lem tree store made name h.stands (views.application tree store made i 32) (application_whole i)
      ∙ ap some (application_shown_lem name store tree p h i))

  counts_are : ((records.counts_of (counts_at tree store made)).partitions ≡ length p.preset.partitions)
      × ((records.counts_of (counts_at tree store made)).components ≡ length p.preset.components)
      × ((records.counts_of (counts_at tree store made)).applications ≡ length p.preset.applications)
  counts_are = rw h.stands (partitions_shown name store tree p h, components_shown name store tree p h, applications_shown name store tree p h)

  preset_shown : PresetShown name store tree made p.preset
  preset_shown =
      record {
        counts = λ v e. rw e counts_are;
        board = λ v e. rw e board_is;
        image = λ other v e. rw e (image_is other);
        partition = λ i v e. rw e (partition_is i);
        head = group_is (head_by tree store made name) records.head_of (λ c. c.head) (head_by_lem tree store made name);
        role = group_is (role_by tree store made name) records.role_of (λ c. c.role) (role_by_lem tree store made name h.stands);
        boot = group_is (boot_by tree store made name) records.boot_of (λ c. c.boot) (λ f k. boot_by_lem tree store made name f);
        load = group_is (load_by tree store made name) records.load_of (λ c. c.load) (λ f k. load_by_lem tree store made name f);
        application = λ i v e. rw e (application_is i);
      }

-- ---- a plan

module _ (name store tree : List ℕ) (made app : ℕ) (key : List ℕ) (q : meant.Plan) (held : holds_values tree made ≡ true)
    (declared : plans.chosen tree store made app key ≡ choices.Undeclared → ⊥) (g : Composed name store tree app key made q) where
  whole : (i : ℕ) → WholePlanned tree store made held name (plans.component tree store made app key i)
  whole i = rw held (planned_found_lem tree store made held name (plans.chosen tree store made app key) i)

  -- what is shown of component number i
  planned_is : {View Y : Type 0} (by : View → Option (Option Y)) (of : Maybe Planned → View) (Some-of : Option meant.PlannedComponent → Option Y)
      → ((f : Maybe Planned) → WholePlanned tree store made held name f → by (of f) ≡ some (Some-of (found_meant tree store made name f)))
      → (i : ℕ) (v : View) → v ≡ of (plans.component tree store made app key i) → by v ≡ some (Some-of (entry_at q.components i))
  planned_is by of Some-of law i v e =
      rw e
      (law (plans.component tree store made app key i) (whole i)
      ∙ ap (λ (c : Option meant.PlannedComponent). some (Some-of c)) (g.components i))

  -- a group of its record
  spec_is : {View Y : Type 0} (by : View → Option (Option Y)) (of : Maybe Component → View) (group : schemas.Component → Y)
      → ((f : Maybe Component) → WholeComponent f → by (of f) ≡ some (part_of group (component_seen tree store made name f)))
      → (i : ℕ) (v : View) → v ≡ of (plans.spec_of (plans.component tree store made app key i))
      → by v ≡ some (part_of (λ (c : meant.PlannedComponent). group c.spec) (entry_at q.components i))
  spec_is by of group law =
      planned_is by (λ f. of (plans.spec_of f)) (part_of (λ c. group c.spec)) (planned_group tree store made name held by of group law)

  plan_shown : PlanShown name store tree made app key q
  plan_shown =
      record {
        counts = λ v e. (ap (λ (c : PlanCounts). c.components) (e ∙ g.counts), ap (λ (c : PlanCounts). c.builds) (e ∙ g.counts));
        head = spec_is (head_by tree store made name) records.head_of (λ c. c.head) (head_by_lem tree store made name);
        role = spec_is (role_by tree store made name) records.role_of (λ c. c.role) (role_by_lem tree store made name held);
        boot = spec_is (boot_by tree store made name) records.boot_of (λ c. c.boot) (λ f k. boot_by_lem tree store made name f);
        load = spec_is (load_by tree store made name) records.load_of (λ c. c.load) (λ f k. load_by_lem tree store made name f);
        source = planned_is (source_by tree store made name) plans.payload (part_of (λ c. c.source)) (planned_source tree store made name held);
        pbp = planned_is (source_by tree store made name) plans.pbp (part_in (λ c. c.pbp_source)) (planned_pbp tree store made name held);
        partition = λ i v e. rw (e, g.targeted i)
            (planned_target tree store made name q.partitions (plans.component tree store made app key i) (g.target i)
            ∙ ap (λ (c : Option meant.PlannedComponent). some (part_in (λ c. meant.partition_for q.partitions c.spec.role.partition) c)) (g.components i));
        build = λ i v e. rw (e, g.built i)
            (build_by_lem tree store made name held (needed.build tree store made (plans.chosen tree store made app key) i)
            (build_found tree store made held name (plans.chosen tree store made app key) i) ∙ ap some (g.builds i));
        stem = λ v e. rw (e, g.stemmed)
            (text_by_lem store name (stems.stem tree store made name (plans.chosen tree store made app key))
            (stem_given tree store made held name (plans.chosen tree store made app key) declared) ∙ ap some g.stem);
      }

-- ---- all of it

accepted_made : (a : Answer Read) (r : Outcome) (x : Read) → r ≡ outcome_by a → a ≡ accepted x → r.made ≡ x.parsed.made
accepted_made a r x d e = rw (d, e)

pub accepted_is_shown : AcceptedIsShown
accepted_is_shown a text name store tree store' tree' r x g e =
    let h : Recorded name store' tree' x = subst (Records name store' tree') e g.shows in
    rw (accepted_made a r x g.says e) (preset_shown name store' tree' x h)

-- a key that is planned is declared
planned_declared : (name store tree : List ℕ) (app : ℕ) (key : List ℕ) (x : Read) (h : Recorded name store tree x) (q : meant.Plan)
    → meant.plan_of x.preset (selection app key) ≡ accepted q → plans.chosen tree store x.parsed.made app key ≡ choices.Undeclared → ⊥
planned_declared name store tree app key x h q e u =
    let made : ℕ = x.parsed.made in
    let c = plans.chosen tree store made app key in
    let r = preset_meant tree store made name (fields_of tree made 1) of01 (lent_text name) in
    let z : (fault tree store made c).number ≡ 0 =
    (accepted_says (meant.plan_of r (selection app key)) (fault tree store made c) q (meant.composed r (selection app key) (selected tree store made name c))
    (plan_says tree store made name app key) (rw h.records e)).0 in
    let y : ◌≡◌ {A = ℕ} 80 0 = rw u at z in
    omega (arith, y)

pub plan_is_shown_by_views : PlanIsShownByViews
plan_is_shown_by_views text name app key store tree store' tree' r x g e =
    let d = shown.planned_read text name app key store tree ∙ ap read_of e in
    let h : Recorded name store' tree' x.read = subst (Records name store' tree') d g.shows in
    let s = shown.planned_shown text name app key store tree store' tree' r x.read g d in
    let same : s.0 ≡ x.plan = ap (λ (y : meant.Planned). y.plan) (accepted_one (record { read = x.read; plan = s.0 }) x (sym s.1 ∙ e)) in
    rw (accepted_made (plans.planned text name app key store tree) r x.read g.says d, ← same)
    (plan_shown name store' tree' x.read.parsed.made app key s.0 h.stands (planned_declared name store' tree' app key x.read h s.0 s.2) s.3)
