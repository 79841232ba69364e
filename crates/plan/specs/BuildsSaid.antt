-- Builds over what was read are 01's builds over what it means.
use Rattle.std.specs.Prelude.{ℕ, ◌≤◌, true, false, ◌≡◌, length}
use mathlib.Core.List.{List, [], ◌∷◌, ◌++◌, map, append_assoc, append-nil}
use Rattle.std.proofs.Math.Option.{none, some}
use Rattle.std.proofs.Math.Path.{refl, sym, ap}
use Rattle.std.proofs.Common.{◌∙◌, take_all}
use Rattle.meaning.specs.Base.{pick, ascii}
use Rattle.meaning.specs.Verdict.{among, with_last}
use Rattle.meaning.specs.Rules.{twice}
use Rattle.meaning.specs.Schema as schema
use Rattle.meaning.specs.Plan as meant
use Rattle.laws.specs.Cases.{on}
use Rattle.tree.specs.Doors.{field}
use Rattle.schema.specs.declared.Text.{Text}
use Rattle.schema.specs.declared.Text.TheVariants as texts
use Rattle.schema.specs.declared.Features.{Features}
use Rattle.schema.specs.declared.Component.{Component}
use Rattle.schema.specs.Texts.{clip, spelled, optional, is_given}
use Rattle.parse.specs.Meant.{feature_list, component_meant}
use Rattle.parse.specs.Component as parsed
use Rattle.parse.specs.Application as reading
use Rattle.parse.specs.Entries as parsing
use Rattle.parse.specs.Reads.{Kept, text_kept, else_spelled}
use Rattle.parse.specs.Whole.{component_of, application_of}
use Rattle.turns.specs.Marks.{any_of}
use Rattle.schema.specs.Spots.{packed}
use Rattle.validate.specs.Gathered.{components}
use Rattle.plan.specs.declared.choice.Choice.{Choice}
use Rattle.plan.specs.declared.choice.Choice.TheVariants as choices
use Rattle.plan.specs.declared.component.Build.{Build}
use Rattle.plan.specs.Planned.{built}
use Rattle.plan.specs.ChoiceSaid.{selected, Met}
use Rattle.plan.specs.PlannedSaid.{build_meant}
use Rattle.plan.specs.Builds.{wanted, fresh, first_uses, uses_of, application_use, builds_of}

-- ---- texts that were read

-- absent or stored
kept_cases {κ} : {G : Type κ} (t : Text) → Kept t → (t ≡ texts.Absent → G) → ((from len : ℕ) → t ≡ texts.Stored from len → G) → G
kept_cases texts.Absent h f g = f refl
kept_cases (texts.Stored from len) h f g = g from len refl
kept_cases texts.Lent h f g = absurd h
kept_cases (texts.Fixed w) h f g = absurd h
kept_cases (texts.WithAic from len) h f g = absurd h

-- the packages of some uses were read
abbrev pub KeptAll : List Build → Type 0
KeptAll [] = Unit {0}
KeptAll (u ∷ us) = Kept u.«package» × KeptAll us

kept_after : (us : List Build) (u : Build) → KeptAll us → Kept u.«package» → KeptAll (us ++ (u ∷ []))
kept_after [] u h k = (k, tt)
kept_after (v ∷ us) u h k = (h.0, kept_after us u h.1 k)

module _ (room store : List ℕ) (made n : ℕ) where
  -- a component's packages
  pub package_kept : Kept (parsing.component_at room store made n 32).component.head.«package»
  unfolding parsing.component_at parsed.component_read parsed.head_read parsed.sources
  package_kept = text_kept (field room store (parsing.table_at room store made n).fields (ascii "package"))

  pub pbp_package_kept : Kept (parsing.component_at room store made n 32).component.boot.pbp_package
  unfolding parsing.component_at parsed.component_read parsed.boot_read
  pbp_package_kept = text_kept (field room store (parsing.table_at room store made n).fields (ascii "pbp_package"))

  -- an application's package is its key
  pub application_package_kept : Kept (parsing.application_at room store made n 32).application.«package»
  unfolding parsing.application_at reading.application_read
  application_package_kept = tt

module _ (room store : List ℕ) (made : ℕ) where
  uses_kept : (ns : List ℕ) → KeptAll (uses_of room store made ns)
  unfolding wanted
  uses_kept [] = tt
  uses_kept (n ∷ ns) = (package_kept room store made n, (pbp_package_kept room store made n, uses_kept ns))

  application_use_kept : (n : ℕ) → Kept (application_use room store made n).«package»
  unfolding application_use
  application_use_kept n = application_package_kept room store made n

-- ---- what a build means

module _ (room store : List ℕ) (made : ℕ) (name : List ℕ) where
  -- uses whose package is absent are none
  abbrev pub uses_meant : List Build → List meant.Build
  uses_meant [] = []
  uses_meant (u ∷ us) = pick (is_given u.«package») ((build_meant room store made name) u ∷ uses_meant us) (uses_meant us)

  -- the packages of those
  abbrev pub packs : List Build → List (List ℕ)
  packs [] = []
  packs (u ∷ us) = pick (is_given u.«package») (spelled store name u.«package» ∷ packs us) (packs us)

  -- ---- first uses

  packs_skip : (es : List Build) (u : Build) → is_given u.«package» ≡ false → packs (es ++ (u ∷ [])) ≡ packs es
  packs_skip [] u h = rw h
  packs_skip (e ∷ es) u h = rw (packs_skip es u h)

  packs_after : (es : List Build) (u : Build) → is_given u.«package» ≡ true → packs (es ++ (u ∷ [])) ≡ with_last (packs es) (spelled store name u.«package»)
  packs_after [] u h = rw h
  packs_after (e ∷ es) u h = rw (packs_after es u h) (on (is_given e.«package») (λ t. rw t) (λ t. rw t))

  -- a package stands among those of the earlier uses where one of them is of it
  among_packs : (from len : ℕ) (es : List Build) → KeptAll es
      → among (clip from len store) (packs es) ≡ any_of (λ (v : Build). twice (some (clip from len store)) (packed store v.«package»)) es
  among_packs from len [] h = refl
  among_packs from len (e ∷ es) h =
      kept_cases e.«package» h.0 (λ t. rw t (among_packs from len es h.1)) (λ at n t. rw (t, among_packs from len es h.1))

  fresh_absent : (es : List Build) (u : Build) → u.«package» ≡ texts.Absent → fresh store es u ≡ false
  unfolding fresh
  fresh_absent es u t = rw t

  fresh_stored : (es : List Build) (u : Build) (from len : ℕ) → KeptAll es → u.«package» ≡ texts.Stored from len
      → fresh store es u ≡ pick (among (spelled store name u.«package») (packs es)) false true
  unfolding fresh
  fresh_stored es u from len h t = rw (t, among_packs from len es h)

  pub first_uses_say : (es us : List Build) → KeptAll es → KeptAll us → map (build_meant room store made name) (first_uses store es us) ≡ meant.first_uses (packs es) (uses_meant us)
  first_uses_say es [] h k = refl
  first_uses_say es (u ∷ us) h k =
      let more = first_uses_say (es ++ (u ∷ [])) us (kept_after es u h k.0) k.1 in
      kept_cases u.«package» k.0
      (λ t. rw (fresh_absent es u t, ap is_given t) (rw (packs_skip es u (ap is_given t)) at more))
      (λ from len t.
      let m = rw (packs_after es u (ap is_given t)) at more in
      rw (fresh_stored es u from len h t, ap is_given t)
      (on (among (spelled store name u.«package») (packs es)) (λ f. rw f m) (λ f. rw f (ap (λ (bs : List meant.Build). (build_meant room store made name) u ∷ bs) m))))

  -- ---- uses

  one_use_says : (p bin : Text) (fs : Features) (us : List Build)
      → uses_meant (built p bin fs ∷ us) ≡ meant.built? (optional store name p) (optional store name bin) (feature_list room store made fs) ++ uses_meant us
  one_use_says texts.Absent bin fs us = refl
  one_use_says (texts.Stored from len) bin fs us = rw (else_spelled store name bin (texts.Stored from len))
  one_use_says texts.Lent bin fs us = rw (else_spelled store name bin texts.Lent)
  one_use_says (texts.Fixed w) bin fs us = rw (else_spelled store name bin (texts.Fixed w))
  one_use_says (texts.WithAic from len) bin fs us = rw (else_spelled store name bin (texts.WithAic from len))

  wanted_says : (c : Component) (us : List Build) → uses_meant ((wanted c).own ∷ (wanted c).pbp ∷ us) ≡ meant.wanted (component_meant room store made name c) ++ uses_meant us
  unfolding wanted meant.wanted
  wanted_says c us =
      let own : List meant.Build = meant.built? (optional store name c.head.«package») (optional store name c.head.bin) (feature_list room store made c.role.features) in
      let pbp : List meant.Build = meant.built? (optional store name c.boot.pbp_package) none (feature_list room store made c.role.pbp_features) in
      one_use_says c.head.«package» c.head.bin c.role.features (built c.boot.pbp_package texts.Absent c.role.pbp_features ∷ us)
      ∙ ap (λ (bs : List meant.Build). own ++ bs) (one_use_says c.boot.pbp_package texts.Absent c.role.pbp_features us)
      ∙ sym (append_assoc own pbp (uses_meant us))

  pub uses_say : (ns : List ℕ) → uses_meant (uses_of room store made ns) ≡ meant.wanted_by (map (component_of room store made name 32) ns)
  uses_say [] = refl
  uses_say (n ∷ ns) =
      wanted_says (parsing.component_at room store made n 32).component (uses_of room store made ns) ∙ ap (λ (bs : List meant.Build). meant.wanted (component_of room store made name 32 n) ++ bs) (uses_say ns)

  -- "Builds stand in first use"
  pub first_uses_of_say : (ns : List ℕ) → map (build_meant room store made name) (first_uses store [] (uses_of room store made ns)) ≡ meant.first_uses [] (meant.wanted_by (map (component_of room store made name 32) ns))
  first_uses_of_say ns = first_uses_say [] (uses_of room store made ns) tt (uses_kept room store made ns) ∙ ap (meant.first_uses []) (uses_say ns)

  -- ---- with the application

  uses_after : (us : List Build) (u : Build) → uses_meant (us ++ (u ∷ [])) ≡ uses_meant us ++ uses_meant (u ∷ [])
  uses_after [] u = refl
  uses_after (v ∷ us) u = rw (uses_after us u) (on (is_given v.«package») (λ t. rw t) (λ t. rw t))

  wanted_after : (cs : List schema.Component) (c : schema.Component) → meant.wanted_by (with_last cs c) ≡ meant.wanted_by cs ++ meant.wanted c
  wanted_after [] c = append-nil (meant.wanted c)
  wanted_after (d ∷ cs) c = rw (wanted_after cs c) (sym (append_assoc (meant.wanted d) (meant.wanted_by cs) (meant.wanted c)))

  application_use_says : (n : ℕ) → uses_meant (application_use room store made n ∷ []) ≡ meant.wanted (meant.component_of (application_of room store made name 32 n))
  unfolding application_use meant.wanted meant.component_of parsing.application_at reading.application_read
  application_use_says n = refl

  pub builds_of_say : (ns : List ℕ) (n : ℕ)
      → map (build_meant room store made name) (first_uses store [] (uses_of room store made ns ++ (application_use room store made n ∷ [])))
      ≡ meant.builds_of (some (application_of room store made name 32 n)) (map (component_of room store made name 32) ns)
  unfolding meant.builds_of meant.in_order
  builds_of_say ns n =
      let us : List Build = uses_of room store made ns in
      let u : Build = application_use room store made n in
      let k : KeptAll (us ++ (u ∷ [])) = kept_after us u (uses_kept room store made ns) (application_use_kept room store made n) in
      let cs : List schema.Component = map (component_of room store made name 32) ns in
      first_uses_say [] (us ++ (u ∷ [])) tt k
      ∙ ap (meant.first_uses [])
      (uses_after us u
      ∙ ap (λ (bs : List meant.Build). bs ++ uses_meant (u ∷ [])) (uses_say ns)
      ∙ ap (λ (bs : List meant.Build). meant.wanted_by cs ++ bs) (application_use_says n)
      ∙ sym (wanted_after cs (meant.component_of (application_of room store made name 32 n))))

  boot_builds_say : (ns : List ℕ) → map (build_meant room store made name) (first_uses store [] (uses_of room store made ns)) ≡ meant.builds_of none (map (component_of room store made name 32) ns)
  unfolding meant.builds_of meant.in_order
  boot_builds_say ns = first_uses_of_say ns

  -- a preset's components are no more than 64
  pub builds_say : (c : Choice) → Met room store made name c → length (components room store made) ≤ 64
      → map (build_meant room store made name) (builds_of room store made c) ≡ meant.builds_of (selected room store made name c) (map (component_of room store made name 32) (components room store made))
  unfolding builds_of
  builds_say choices.BootChain m h = rw (take_all 64 (components room store made) h) (boot_builds_say (components room store made))
  builds_say choices.Undeclared m h = absurd m
  builds_say (choices.At place n) m h = rw (take_all 64 (components room store made) h) (builds_of_say (components room store made) n)
