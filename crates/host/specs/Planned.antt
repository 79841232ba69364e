-- An accepted plan: what the views read from its rooms is 01's plan.
use Rattle.std.specs.Prelude.{ℕ, zero, suc, ◌+◌, ◌≤◌, ◌<◌, ◌≡◌, ltb, length, get_or, Option as Maybe, Some, None}
use mathlib.Core.List.{List, [], ◌∷◌, map}
use Rattle.std.proofs.Math.Option.{Option, none, some}
use Rattle.std.proofs.Math.Path.{refl, sym, ap}
use Rattle.std.proofs.Common.{subst, ◌∙◌, arith, ltb-true, ltb-false, le-ltb}
use Rattle.std.proofs.Math.ListN.{length-map}
use Rattle.meaning.specs.Base.{nil?}
use Rattle.meaning.specs.Limits.{of01}
use Rattle.meaning.specs.Refusal.{Answer, accepted, refused, accepted_then}
use Rattle.meaning.specs.Fields.{each, listed}
use Rattle.meaning.specs.Schema as schemas
use Rattle.meaning.specs.Preset.{Read}
use Rattle.meaning.specs.Plan as meant
use Rattle.laws.specs.Answers.{accepted_one, after_accepted}
use Rattle.laws.specs.Cases.{on}
use Rattle.tree.specs.Doors.{fields_of}
use Rattle.parse.specs.Answers.{accepted_says}
use Rattle.schema.specs.declared.Partition.{Partition}
use Rattle.schema.specs.Texts.{spelled}
use Rattle.parse.specs.Entries.{partition_at, component_at, partitions}
use Rattle.parse.specs.Views.{partition_list}
use Rattle.parse.specs.Given as given
use Rattle.parse.specs.Given.{entry_at}
use Rattle.parse.specs.Refused.{lent_text, partition_numbers}
use Rattle.parse.specs.Whole.{Clear, reader, preset_meant, component_of, application_of}
use Rattle.validate.specs.Gathered.{components}
use Rattle.plan.specs.declared.choice.Choice.{Choice}
use Rattle.plan.specs.declared.choice.Choice.TheVariants as choices
use Rattle.plan.specs.declared.component.Build.{Build}
use Rattle.plan.specs.Choices.{choice, fault}
use Rattle.plan.specs.ChoiceSaid.{selection, selected, Met, plan_says}
use Rattle.plan.specs.declared.component.Planned as composing
use Rattle.plan.specs.Planned as composed
use Rattle.plan.specs.Stems as stems
use Rattle.plan.specs.StemSaid.{stem_means}
use Rattle.plan.specs.TargetSaid.{target_meant, partitions_meant, planned_target}
use Rattle.plan.specs.PlannedSaid.{found_meant, planned_meant, build_meant, components_meant, composition, composition_means}
use Rattle.plan.specs.Builds as needed
use Rattle.plan.specs.BuildsSaid.{builds_say}
use Rattle.host.specs.declared.documents.Outcome.{Outcome}
use Rattle.host.specs.Presets.{Records, Recorded, Answered, validated}
use Rattle.host.specs.Plans.{planned, chosen, component, build_of, build_shown, counts_shown, target_of, target_shown, stem_shown}
use Rattle.host.specs.Records.{bytes_of, partition_of}

-- ---- 01's plan of a text

module _ (text name : List ℕ) (app : ℕ) (key store tree : List ℕ) where
  -- 01's answer to a text, a lent name, a selection and rooms of these lengths
  abbrev pub plan : Answer meant.Planned
  plan = meant.plan of01 (length store) (length tree) name (selection app key) text

  -- the records of a plan are those of what was read
  pub planned_read : planned text name app key store tree ≡ accepted_then plan (λ x. accepted x.read)
  unfolding meant.plan
  planned_read = go (validated text name store tree)
    where
      made : (r : Read) (a : Answer meant.Plan)
          → accepted_then {Y = Read} a (λ p. accepted r) ≡ accepted_then {Y = Read} (accepted_then {Y = meant.Planned} a (λ p. accepted (record { read = r; plan = p }))) (λ x. accepted x.read)
      made r (accepted p) = refl
      made r (refused f s n) = refl

      go : (v : Answer Read)
          → accepted_then {Y = Read} v (λ r. accepted_then {Y = Read} (meant.plan_of r.preset (selection app key)) (λ p. accepted r))
          ≡ accepted_then {Y = Read} (accepted_then {Y = meant.Planned} v (λ r. accepted_then {Y = meant.Planned} (meant.plan_of r.preset (selection app key)) (λ p. accepted (record { read = r; plan = p })))) (λ x. accepted x.read)
      go (accepted r) = made r (meant.plan_of r.preset (selection app key))
      go (refused f s n) = refl

  plan_by : (p : Read) (q : meant.Plan) → validated text name store tree ≡ accepted p → meant.plan_of p.preset (selection app key) ≡ accepted q → plan ≡ accepted (record { read = p; plan = q })
  unfolding meant.plan
  plan_by p q v m = rw (v, m)

  -- where there are records there is a plan of them
  pub planned_made : (p : Read) → planned text name app key store tree ≡ accepted p
      → (q : meant.Plan) × (meant.plan_of p.preset (selection app key) ≡ accepted q) × (plan ≡ accepted (record { read = p; plan = q }))
  planned_made p e =
      let r = after_accepted (λ (r : Read). accepted_then {Y = Read} (meant.plan_of r.preset (selection app key)) (λ q. accepted r)) (validated text name store tree) p e in
      let q = after_accepted {Y = Read} (λ (q : meant.Plan). accepted r.0) (meant.plan_of r.0.preset (selection app key)) p r.2 in
      let d : r.0 ≡ p = accepted_one r.0 p q.2 in
      let v : validated text name store tree ≡ accepted p = r.1 ∙ ap accepted d in
      let m : meant.plan_of p.preset (selection app key) ≡ accepted q.0 = subst (λ (x : Read). meant.plan_of x.preset (selection app key) ≡ accepted q.0) d q.1 in
      (q.0, m, plan_by p q.0 v m)

-- ---- what the rooms of a plan show

module _ (room store : List ℕ) (made : ℕ) (name : List ℕ) where
  abbrev pub built_meant : Maybe Build → Option meant.Build
  built_meant None = none
  built_meant (Some b) = some (build_meant room store made name b)

-- components and builds by number, and how many there are; the partition of each component's reference, and the stem
pub record Composed (name store tree : List ℕ) (app : ℕ) (key : List ℕ) (made : ℕ) (q : meant.Plan) : Type 0 where
  pub components : (i : ℕ) → found_meant tree store made name (component tree store made app key i) ≡ entry_at q.components i
  pub builds : (i : ℕ) → built_meant tree store made name (needed.build tree store made (chosen tree store made app key) i) ≡ entry_at q.builds i
  pub built : (i : ℕ) → build_shown tree store made app key i ≡ build_of (needed.build tree store made (chosen tree store made app key) i)
  pub counts : counts_shown tree store made app key ≡ record { components = length q.components; builds = length q.builds }
  pub target : (i : ℕ) (p : composing.Planned) → component tree store made app key i ≡ Some p
      → target_meant tree store made name (target_of tree store made (component tree store made app key i)) ≡ meant.partition_for q.partitions (planned_meant tree store made name p).spec.role.partition
  pub targeted : (i : ℕ) → target_shown tree store made (component tree store made app key i) ≡ partition_of (target_of tree store made (component tree store made app key i))
  pub stem : spelled store name (stems.stem tree store made name (chosen tree store made app key)) ≡ q.stem
  pub stemmed : stem_shown tree store made name app key ≡ bytes_of (stems.stem tree store made name (chosen tree store made app key))

-- ---- lists

entry_got : {X Y : Type 0} (f : X → Y) (xs : List X) (i : ℕ) (d : X) → i < length xs → some (f (get_or xs i d)) ≡ entry_at (map f xs) i
entry_got f [] i d h = absurd (omega arith)
entry_got f (x ∷ xs) zero d h = refl
entry_got f (x ∷ xs) (suc i) d h = entry_got f xs i d (omega arith)

entry_past : {X Y : Type 0} (f : X → Y) (xs : List X) (i : ℕ) → length xs ≤ i → none ≡ entry_at (map f xs) i
entry_past f [] i h = refl
entry_past f (x ∷ xs) zero h = absurd (omega arith)
entry_past f (x ∷ xs) (suc i) h = entry_past f xs i (omega arith)

ahead_length : (a : schemas.Component) (cs : List schemas.Component) → length (meant.ahead a cs) ≡ suc (length cs)
ahead_length a [] = refl
ahead_length a (c ∷ cs) = on (nil? c.role.partition) (λ t. rw t (ap suc (ahead_length a cs))) (λ t. rw t)

-- a list without fault, not too long, is accepted
module _ {Y : Type 0} (fault : ℕ → ℕ) (given' : ℕ → Y) (section : ℕ) where
  each_accepted : (ns : List ℕ) (i : ℕ) → Clear fault ns → each (reader fault given' section) section i ns ≡ accepted (map given' ns)
  each_accepted [] i k = refl
  each_accepted (n ∷ ns) i k = rw (k.0, each_accepted ns (i + 1) k.1)

  listed_accepted : (limit : ℕ) (ns : List ℕ) → length ns ≤ limit → Clear fault ns → listed (reader fault given' section) section limit ns ≡ accepted (map given' ns)
  unfolding listed
  listed_accepted limit ns l k = rw (le-ltb limit (length ns) l) (each_accepted ns 0 k)

-- ---- a choice that is met

module _ (room store : List ℕ) (made : ℕ) (name : List ℕ) where
  clear_met : (c : Choice) → (fault room store made c).number ≡ 0 → Met room store made name c
  clear_met choices.BootChain e = tt
  clear_met choices.Undeclared e = absurd (omega (arith, e))
  clear_met (choices.At place n) e = tt

  build_means : (c : Choice) (i : ℕ) → built_meant room store made name (needed.build room store made c i) ≡ entry_at (map (build_meant room store made name) (needed.builds_of room store made c)) i
  unfolding needed.build
  build_means c i =
      let bs : List Build = needed.builds_of room store made c in
      on (ltb i (length bs))
      (λ t. rw t (entry_got (build_meant room store made name) bs i needed.blank (ltb-true i (length bs) t)))
      (λ t. rw t (entry_past (build_meant room store made name) bs i (ltb-false i (length bs) t)))

  count_means : (c : Choice) → Met room store made name c → composed.count room store made c ≡ length (composition room store made name c)
  unfolding meant.composition
  count_means choices.BootChain h =
      let cs = components_meant room store made name in
      sym (length-map cs meant.planned ∙ length-map (components room store made) (component_of room store made name 32))
  count_means choices.Undeclared h = absurd h
  count_means (choices.At place n) h =
      let cs = components_meant room store made name in
      let a : schemas.Component = meant.component_of (application_of room store made name 32 n) in
      omega (arith, length-map (meant.ahead a cs) meant.planned, ahead_length a cs, length-map (components room store made) (component_of room store made name 32))

-- ---- the plan of the rooms

module _ (name store tree : List ℕ) (app : ℕ) (key : List ℕ) (p : Read) (h : Recorded name store tree p) (q : meant.Plan)
    (e : meant.plan_of p.preset (selection app key) ≡ accepted q) where
  abbrev made : ℕ
  made = p.parsed.made

  abbrev c : Choice
  c = choice tree store made app key

  says : ((fault tree store made c).number ≡ 0)
      × (meant.composed (preset_meant tree store made name (fields_of tree made 1) of01 (lent_text name)) (selection app key) (selected tree store made name c) ≡ q)
  says =
      accepted_says (meant.plan_of (preset_meant tree store made name (fields_of tree made 1) of01 (lent_text name)) (selection app key)) (fault tree store made c) q
      (meant.composed (preset_meant tree store made name (fields_of tree made 1) of01 (lent_text name)) (selection app key) (selected tree store made name c))
      (plan_says tree store made name app key) (rw h.records e)

  met : Met tree store made name c
  met = clear_met tree store made name c says.0

  clear : Clear (λ n. (component_at tree store made n 32).fault) (components tree store made)
  clear = given.components_clear tree store made (fields_of tree made 1) of01 (lent_text name) h.clear

  few : length (components tree store made) ≤ 64
  few = given.components_few tree store made (fields_of tree made 1) of01 (lent_text name) h.clear

  components_are : composition tree store made name c ≡ q.components
  unfolding meant.composed
  components_are = ap (λ (r : meant.Plan). r.components) says.1

  builds_are : map (build_meant tree store made name) (needed.builds_of tree store made c) ≡ q.builds
  unfolding meant.composed
  builds_are =
      builds_say tree store made name c met few
      ∙ ap (λ (r : meant.Plan). r.builds) says.1

  -- no partition is refused
  parts_read : (ps : List Partition) × (partitions tree store made (partition_list tree store made) 32 ≡ accepted ps)
  parts_read = (
    _,
    listed_accepted (λ n. (partition_at tree store made n).fault) (λ n. (partition_at tree store made n).partition) 3 32 (partition_numbers tree store made (fields_of tree made 1))
        (given.partitions_few tree store made (fields_of tree made 1) of01 (lent_text name) h.clear) (given.partitions_clear tree store made (fields_of tree made 1) of01 (lent_text name) h.clear),
  )

  partitions_are : partitions_meant tree store made name ≡ q.partitions
  unfolding meant.composed
  partitions_are = ap (λ (r : meant.Plan). r.partitions) says.1

  declared_key : c ≡ choices.Undeclared → ⊥
  declared_key e = absurd (rw e at met)

  stem_is : spelled store name (stems.stem tree store made name c) ≡ q.stem
  unfolding meant.composed
  stem_is = stem_means tree store made name app key declared_key ∙ ap (λ (r : meant.Plan). r.stem) says.1

  target_is : (i : ℕ) (p : composing.Planned) → composed.component tree store made c i ≡ Some p
      → target_meant tree store made name (target_of tree store made (composed.component tree store made c i)) ≡ meant.partition_for q.partitions (planned_meant tree store made name p).spec.role.partition
  target_is i p d =
      rw d (planned_target tree store made name parts_read.0 parts_read.1 c i p d ∙ ap (λ (ps : List schemas.Partition). meant.partition_for ps (planned_meant tree store made name p).spec.role.partition) partitions_are)

  pub plan_shown : Composed name store tree app key made q
  plan_shown =
      record {
        components = λ i. rw h.stands (composition_means tree store made name clear c met i ∙ ap (λ (cs : List meant.PlannedComponent). entry_at cs i) components_are);
        builds = λ i. build_means tree store made name c i ∙ ap (λ (bs : List meant.Build). entry_at bs i) builds_are;
        built = λ i. rw h.stands;
        target = λ i p d. rw h.stands (target_is i p (rw h.stands at d));
        targeted = λ i. rw h.stands;
        stem = stem_is;
        stemmed = rw h.stands;
        counts =
            rw (
              h.stands,
              count_means tree store made name c met,
              components_are,
              sym (length-map (needed.builds_of tree store made c) (build_meant tree store made name)) ∙ ap (λ (bs : List meant.Build). length bs) builds_are,
            );
      }

-- ---- all of it

-- what a call leaves that plans: 01's plan, and its views
pub planned_shown : (text name : List ℕ) (app : ℕ) (key store tree store' tree' : List ℕ) (r : Outcome) (p : Read)
    → Answered (planned text name app key store tree) text name store tree store' tree' r → planned text name app key store tree ≡ accepted p
    → (q : meant.Plan) × (plan text name app key store tree ≡ accepted (record { read = p; plan = q })) × (meant.plan_of p.preset (selection app key) ≡ accepted q)
    × Composed name store' tree' app key p.parsed.made q
planned_shown text name app key store tree store' tree' r p g e =
    let m = planned_made text name app key store tree p e in
    let h : Recorded name store' tree' p = subst (Records name store' tree') e g.shows in
    (m.0, m.2, m.1, plan_shown name store' tree' app key p h m.0 m.1)
