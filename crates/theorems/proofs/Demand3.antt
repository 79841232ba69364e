-- The plan of an accepted preset has all clauses of `PassedPreset`, whatever was selected.
use Prim.Native.Nat.{ℕ, zero, suc, ◌+◌, ◌*◌, ◌≤◌}
use mathlib.Core.Bool.{true, false}
use mathlib.Core.List.{List, [], ◌∷◌, map}
use mathlib.Core.Logic.{◌⊎◌, inl, inr}
use mathlib.Core.Option.{Option, none, some}
use mathlib.Core.Path.{◌≡◌, refl, sym, ap, ◌∙◌, subst}
use native.Mathlib.Omega.{arith}
use borrow.Author.Tests.{eqb-true}
use lib.Dec.{eqb}
use lib.ListN.{length, take, get_or, length-map}
use Rattle.meaning.specs.Base.{pick, nil?, same, before}
use Rattle.meaning.specs.Refusal.{numbered, accepted, in_application}
use Rattle.meaning.specs.Schema.{Partition, Component, Application, Preset}
use Rattle.meaning.specs.Verdict.{fine, among}
use Rattle.meaning.specs.Rules.{given, name_of, first_named, partition_names, all_uses, uses_of, rules}
use Rattle.meaning.specs.Plan.{Selection, boot_chain, app, Entry, declared, component_names, admitted, Build, built?, Source, from_package, from_file, PlannedComponent, Plan, payload, pbp_payload, planned, component_of, chosen, composition, wanted, wanted_by, first_uses, in_order, builds_of, partition_for, composed, plan_of}
use Rattle.laws.specs.Cases.{on, never}
use Rattle.laws.specs.Order.{same_eq, eq_same}
use Rattle.laws.specs.Accepted.{Kept, Meant, Groups, rules_groups, components_kept, layout_at, layout_meant, layout_disjoint}
use Rattle.laws.specs.Places.{At, In, at_inside, at_get_or, get_d_at, all_of, at_map, map_at, in_left, in_right, in_split, none_some, some_one}
use Rattle.laws.specs.Answers.{accepted_one, refused_never}
use Rattle.laws.specs.Uses.{AllAlike, uses_alike, application_uses, uses_append}
use Rattle.laws.specs.Builds.{First, firsts_first, firsts_has, firsts_one, asked, Agrees, wanted_use, wanted_by_lem, by_wanted, Among, composition_in, in_composition, composition_length, order_in, in_order_lem, builds_length}
use Rattle.laws.specs.Chosen.{some_declared, declared_some, plan_made, chosen_in, Open, named_among, application_open}
use Rattle.laws.specs.Plans.{valid_rules, text_planned}
use Rattle.laws.specs.Rooms.{valid_anywhere}
use Rattle.theorems.specs.Words as words
use Rattle.theorems.specs.Words.{Holds}
use Rattle.theorems.specs.PassedPreset.{NoSemicolon, Selected, by_key, Origin, own, selected, Payload, package_only, file_only, Lies, Finds, Uses, as_payload, as_pbp, BuiltOnce, Premise1, ApplicationIsOpen, Premise2}
use Rattle.theorems.specs.Demand3.{PlanMeetsDemand, PlanIsSmall, PlainNameIsFound, TextMeetsDemand, AcceptedInAllLargeRooms}
use Rattle.theorems.proofs.Standing.{lemma_at, at_lemma}
use Rattle.theorems.proofs.Refusals.{declared_lemma, lemma_declared}

-- ---- payloads

-- 53, 54
kept_payload : (parts : List (List ℕ)) (c : Component) → Kept parts c → Payload c (planned c).source
unfolding planned
kept_payload parts c k = go c.head.pack c.head.file refl refl k.source
  where
    go : (p f : Option (List ℕ)) → c.head.pack ≡ p → c.head.file ≡ f → given p ≡ pick (given f) false true → Payload c (payload p c.head.bin c.role.features f)
    go none none h g e = never e refl
    go none (some path) h g e = file_only path h g refl
    go (some p) none h g e = package_only p h g refl
    go (some p) (some path) h g e = never refl e

application_payload : (a : Application) → Payload (component_of a) (planned (component_of a)).source
unfolding planned component_of
application_payload a = package_only a.pack refl refl refl

-- ---- partitions

abbrev nowhere : Partition
nowhere = record { name = []; offset = 0; size = 0; locked = false }

layout_lies : (r : Preset) (name : List ℕ) → Groups r → among name (partition_names r.partitions) ≡ true → Lies r.partitions name
layout_lies r name g t =
    let ps = r.partitions in
    let m : Meant name ps = layout_meant r.board.chip ps name g.laid t in
    record {
      place = m.place;
      partition = get_or ps m.place nowhere;
      here = at_lemma ps m.place (get_or ps m.place nowhere) (get_d_at ps m.place nowhere m.inside);
      is = sym (same_eq name _ (m.is nowhere));
      only = λ j q h n. m.only nowhere j (at_inside ps j q (lemma_at ps j q h)) (eq_same name _ (sym n ∙ ap (λ (z : Partition). z.name) (sym (at_get_or ps j q nowhere (lemma_at ps j q h)))));
      ends = (layout_at r.board.chip ps nowhere g.laid m.place m.inside).fits;
      apart = λ j x q h n k l. layout_disjoint r.board.chip ps nowhere g.laid m.place j x (λ e. n (sym e)) m.inside (at_inside ps j q (lemma_at ps j q h)) k
          (subst (λ (z : Partition). Holds z x) (sym (at_get_or ps j q nowhere (lemma_at ps j q h))) l);
    }

first_named_lem : (name : List ℕ) (ps : List Partition) (i : ℕ) (p : Partition) → At ps i p → p.name ≡ name
    → ((j : ℕ) (q : Partition) → At ps j q → q.name ≡ name → j ≡ i) → first_named name ps ≡ some p
first_named_lem name [] i p h e only = absurd h
first_named_lem name (x ∷ ps) zero p h e only = rw (eq_same name x.name (sym e ∙ ap (λ (z : Partition). z.name) (sym h))) (ap some h)
first_named_lem name (x ∷ ps) (suc i) p h e only =
    on (same name x.name)
    (λ t. let z : 0 ≡ suc i = only 0 x refl (sym (same_eq name x.name t)) in absurd (omega arith))
    (λ t. rw t (first_named_lem name ps i p h e (λ j q g n. let z : suc j ≡ suc i = only (suc j) q g n in omega arith)))

lies_first : (ps : List Partition) (name : List ℕ) (l : Lies ps name) → first_named name ps ≡ some l.partition
lies_first ps name l =
    first_named_lem name ps l.place l.partition (lemma_at ps l.place l.partition l.here) l.is (λ j q h n. l.only j q (at_lemma ps j q h) n)

lies_finds : (ps : List Partition) (reference : List ℕ) → Lies ps (name_of reference) → Finds ps reference
unfolding partition_for
lies_finds ps reference l = record { lies = l; found = lies_first ps (name_of reference) l }

-- ---- builds

package_one : (b d : Build) → from_package b ≡ from_package d → b ≡ d
package_one b d e = ap of e
  where
    of : Source → Build
    of (from_package x) = x
    of (from_file path) = b

file_never {κ} : {G : Type κ} (path : List ℕ) (b : Build) → from_file path ≡ from_package b → G
file_never path b e = let z : ◌≡◌ {A = ℕ} 0 1 = cc in absurd (omega arith)

module _ (c : Component) (b : Build) where
  abbrev payloads : List Build
  payloads = built? c.head.pack c.head.bin c.role.features

  abbrev pbps : List Build
  pbps = built? c.boot.pbp_pack none c.role.pbp_features

  uses_wanted : Uses (planned c) b → In b (wanted c)
  unfolding planned wanted
  uses_wanted (as_payload e) = in_left b payloads pbps (go c.head.pack e)
    where
      go : (p : Option (List ℕ)) → payload p c.head.bin c.role.features c.head.file ≡ from_package b → In b (built? p c.head.bin c.role.features)
      go none f = file_never _ b f
      go (some p) f = (0, package_one _ b f)
  uses_wanted (as_pbp e) = in_right b payloads pbps (go c.boot.pbp c.boot.pbp_pack e)
    where
      go : (path p : Option (List ℕ)) → pbp_payload path p c.role.pbp_features ≡ some (from_package b) → In b (built? p none c.role.pbp_features)
      go (some path) p f = file_never path b (some_one (from_file path) (from_package b) f)
      go none none f = none_some (from_package b) f
      go none (some p) f = (0, package_one _ b (some_one _ (from_package b) f))

  -- 55: no PBP package stands beside a PBP file, which would be used in its place
  wanted_uses : pick (given c.boot.pbp) (given c.boot.pbp_pack) false ≡ false → In b (wanted c) → Uses (planned c) b
  unfolding planned wanted
  wanted_uses h g = go (in_split b payloads pbps g)
    where
      first : (p : Option (List ℕ)) (i : ℕ) → At (built? p c.head.bin c.role.features) i b → payload p c.head.bin c.role.features c.head.file ≡ from_package b
      first none i k = absurd k
      first (some p) zero k = ap from_package k
      first (some p) (suc i) k = absurd k

      second : (path p : Option (List ℕ)) (i : ℕ) → pick (given path) (given p) false ≡ false → At (built? p none c.role.pbp_features) i b
          → pbp_payload path p c.role.pbp_features ≡ some (from_package b)
      second path none i e k = absurd k
      second (some path) (some p) i e k = never {b = true} refl e
      second none (some p) zero e k = ap (λ (x : Build). some (from_package x)) k
      second none (some p) (suc i) e k = absurd k

      go : In b payloads ⊎ In b pbps → Uses (planned c) b
      go (inl k) = as_payload (first c.head.pack k.0 k.1)
      go (inr k) = as_pbp (second c.boot.pbp c.boot.pbp_pack k.0 h k.1)

-- ---- a name that is found as it is written

no_cut : (name : List ℕ) → NoSemicolon name → before 59 name ≡ length name
no_cut [] h = refl
no_cut (b ∷ name) h = on (eqb b 59) (λ t. absurd (h 0 (eqb-true b 59 t))) (λ t. rw t (ap suc (no_cut name (λ i g. h (suc i) g))))

take_all : (s : List ℕ) → take (length s) s ≡ s
take_all [] = refl
take_all (b ∷ s) = ap (λ (l : List ℕ). b ∷ l) (take_all s)

pub plain_name : PlainNameIsFound
unfolding name_of
plain_name name h t = rw (no_cut name h, take_all name, t)

-- ---- the application that is selected

module _ (r : Preset) where
  chosen_selected : (s : Selection) (a : Application) → chosen r s ≡ accepted (some a) → Selected r s a
  unfolding chosen admitted
  chosen_selected boot_chain a e = none_some a (accepted_one none (some a) e)
  chosen_selected (app key) a e = go (declared 0 key r.applications) refl e
    where
      go : (o : Option Entry) → declared 0 key r.applications ≡ o → admitted r.components o ≡ accepted (some a) → Selected r (app key) a
      go none h f = refused_never (numbered 80) in_application 0 (some a) f
      go (some x) h f =
          let d = some_declared key 0 r.applications x h in
          on (among x.application.name (component_names r.components))
          (λ t. refused_never (numbered 81) in_application x.place (some a) (rw t at f))
          (λ t. subst (λ (b : Application). Selected r (app key) b) (some_one x.application a (accepted_one (some x.application) (some a) (rw t at f)))
          (by_key key d.0 x.application (declared_lemma r.applications key d.0 x.application d.2)))

  -- it is the one that was chosen
  selected_chosen : (s : Selection) (o : Option Application) → chosen r s ≡ accepted o → (a : Application) → Selected r s a → chosen r s ≡ accepted (some a)
  unfolding chosen admitted
  selected_chosen s o e a (by_key key i b h) =
      let d = declared_some key 0 r.applications i i b (omega arith) (lemma_declared r.applications key i b h) in
      on (among b.name (component_names r.components))
      (λ t. refused_never (numbered 81) in_application i o (rw (d, t) at e))
      (λ t. rw (d, t))

-- ---- the plan of an accepted preset

module _ (r : Preset) (s : Selection) (p : Plan) (obeys : rules r ≡ fine) (made : plan_of r s ≡ accepted p) where
  groups : Groups r
  groups = rules_groups r obeys

  abbrev chosen_one : Option Application
  chosen_one = (plan_made r s p made).0

  origin_of : (c : Component) → Among chosen_one r.components c → Origin r s c
  origin_of c (inl h) = own h.0 (at_lemma r.components h.0 c h.1)
  origin_of c (inr h) = selected h.0 (chosen_selected r s h.0 ((plan_made r s p made).1 ∙ ap accepted h.1)) h.2

  the_chosen : (a : Application) → Selected r s a → chosen r s ≡ accepted (some a)
  the_chosen = selected_chosen r s chosen_one (plan_made r s p made).1

  of_origin : (c : Component) → Origin r s c → Among chosen_one r.components c
  of_origin c (own j h) = inl (j, lemma_at r.components j c h)
  of_origin c (selected a e h) = inr (a, accepted_one chosen_one (some a) (sym (plan_made r s p made).1 ∙ the_chosen a e), h)

  kept : (j : ℕ) (c : Component) → At r.components j c → Kept (partition_names r.partitions) c
  kept j c h = all_of (Kept (partition_names r.partitions)) r.components j c (components_kept (partition_names r.partitions) r.components groups.made) h

  components_are : map planned (composition chosen_one r.components) ≡ p.components
  unfolding composed
  components_are = ap (λ (z : Plan). z.components) (plan_made r s p made).2

  builds_are : first_uses [] (wanted_by (in_order chosen_one r.components)) ≡ p.builds
  unfolding composed builds_of
  builds_are = ap (λ (z : Plan). z.builds) (plan_made r s p made).2

  partitions_are : r.partitions ≡ p.partitions
  unfolding composed
  partitions_are = ap (λ (z : Plan). z.partitions) (plan_made r s p made).2

  origin : (i : ℕ) (q : PlannedComponent) → At p.components i q → (c : Component) × Origin r s c × (q ≡ planned c)
  origin i q h =
      let m = at_map planned (composition chosen_one r.components) i q (subst (λ (l : List PlannedComponent). At l i q) (sym components_are) h) in
      (m.0, origin_of m.0 (composition_in chosen_one r.components m.0 (i, m.1)), m.2)

  is_planned : (c : Component) → Origin r s c → In (planned c) p.components
  is_planned c h =
      let k = in_composition chosen_one r.components c (of_origin c h) in
      (k.0, subst (λ (l : List PlannedComponent). At l k.0 (planned c)) components_are (map_at planned (composition chosen_one r.components) k.0 c k.1))

  payload_of : (c : Component) → Origin r s c → Payload c (planned c).source
  payload_of c (own j h) = kept_payload (partition_names r.partitions) c (kept j c (lemma_at r.components j c h))
  payload_of c (selected a e h) = subst (λ (d : Component). Payload d (planned d).source) (sym h) (application_payload a)

  known_lies : (name : List ℕ) → among name (partition_names r.partitions) ≡ true → Lies p.partitions name
  known_lies name t = subst (λ (ps : List Partition). Lies ps name) partitions_are (layout_lies r name groups t)

  component_finds : (j : ℕ) (c : Component) → At r.components j c → nil? c.role.partition ≡ false → Finds p.partitions c.role.partition
  component_finds j c h n = lies_finds p.partitions c.role.partition (known_lies (name_of c.role.partition) ((kept j c h).known n))

  selected_open : (a : Application) → Selected r s a → Open a.partition r.partitions
  selected_open a e = application_open r.partitions r.applications a groups.applied (chosen_in r s a (the_chosen a e))

  application_lies : (a : Application) → Selected r s a → Lies p.partitions a.partition
  application_lies a e = let o = selected_open a e in known_lies a.partition (named_among a.partition r.partitions o.partition o.named)

  -- 67: whatever the name finds is open
  named_open : (a : Application) → Selected r s a → (q : Partition) → first_named a.partition p.partitions ≡ some q → q.locked ≡ false
  named_open a e q h =
      let o = selected_open a e in
      let f : first_named a.partition p.partitions ≡ some o.partition
      = subst (λ (ps : List Partition). first_named a.partition ps ≡ some o.partition) partitions_are o.named in
      ap (λ (z : Partition). z.locked) (some_one q o.partition (sym h ∙ f)) ∙ o.unlocked

  found_is_open : Premise1 r s → ApplicationIsOpen r s p
  unfolding partition_for planned component_of
  found_is_open plain a e q h =
      named_open a e q
      (subst (λ (name : List ℕ). first_named name p.partitions ≡ some q) (plain_name a.partition (plain.no_semicolon a e) (plain.no_white_ends a e)) h)

  finds_of : Premise1 r s → (c : Component) → Origin r s c → nil? c.role.partition ≡ false → Finds p.partitions c.role.partition
  unfolding component_of
  finds_of plain c (own j h) n = component_finds j c (lemma_at r.components j c h) n
  finds_of plain c (selected a e h) n =
      subst (λ (d : Component). Finds p.partitions d.role.partition) (sym h)
      (lies_finds p.partitions a.partition
      (subst (Lies p.partitions) (sym (plain_name a.partition (plain.no_semicolon a e) (plain.no_white_ends a e))) (application_lies a e)))

  abbrev wants : List Build
  wants = wanted_by (in_order chosen_one r.components)

  use_wanted : (i : ℕ) (q : PlannedComponent) (b : Build) → At p.components i q → Uses q b → In b wants
  use_wanted i q b h u =
      let o = origin i q h in
      wanted_by_lem (in_order chosen_one r.components) o.0 b (in_order_lem chosen_one r.components o.0 (of_origin o.0 o.1))
      (uses_wanted o.0 b (subst (λ (z : PlannedComponent). Uses z b) o.2 u))

  build_first : (k : ℕ) (d : Build) → At p.builds k d → First wants d
  build_first k d h = (firsts_first [] wants k d (subst (λ (l : List Build). At l k d) (sym builds_are) h)).0

  once : (b : Build) → In b wants → BuiltOnce p.builds b.pack
  once b h =
      let f = firsts_has [] wants h.0 b h.1 refl in
      subst (λ (l : List Build). BuiltOnce l b.pack) builds_are
      (record {
        place = f.0;
        build = f.1;
        here = at_lemma (first_uses [] wants) f.0 f.1 f.2;
        is = f.3;
        only = λ j d g e. firsts_one [] wants j f.0 d f.1 (lemma_at (first_uses [] wants) j d g) f.2 (e ∙ sym f.3);
      })

  one_pbp : (c : Component) → Origin r s c → pick (given c.boot.pbp) (given c.boot.pbp_pack) false ≡ false
  unfolding component_of
  one_pbp c (own j h) = (kept j c (lemma_at r.components j c h)).one_pbp
  one_pbp c (selected a e h) = subst (λ (d : Component). pick (given d.boot.pbp) (given d.boot.pbp_pack) false ≡ false) (sym h) refl

  build_used : (d : Build) → In d wants → (i : ℕ) × (q : PlannedComponent) × At p.components i q × Uses q d
  build_used d h =
      let w = by_wanted (in_order chosen_one r.components) d h in
      let o = origin_of w.0 (order_in chosen_one r.components w.0 w.1) in
      let k = is_planned w.0 o in
      (k.0, planned w.0, k.1, wanted_uses w.0 d (one_pbp w.0 o) w.2)

  agrees_of : Premise2 r → (c : Component) → Origin r s c → Agrees c
  unfolding component_of
  agrees_of agrees c (own j h) = agrees j c h
  agrees_of agrees c (selected a e h) = subst Agrees (sym h) (λ n k l. none_some n l)

  all_alike : (a : Option Application) → chosen r s ≡ accepted a → AllAlike (all_uses (in_order a r.components))
  unfolding in_order uses_of component_of
  all_alike none e = uses_alike r.components r.applications groups.built
  all_alike (some x) e =
      let k = chosen_in r s x e in
      subst AllAlike (sym (uses_append r.components (component_of x ∷ []))) (application_uses r.components r.applications groups.built k.0 x k.1)

  same_features : Premise2 r → (b d : Build) → In b wants → In d wants → d.pack ≡ b.pack → d.features ≡ b.features
  same_features agrees b d h g =
      let cs = in_order chosen_one r.components in
      let each : (j : ℕ) (c : Component) → At cs j c → Agrees c = λ j c k. agrees_of agrees c (origin_of c (order_in chosen_one r.components c (j, k))) in
      all_alike chosen_one (plan_made r s p made).1 (asked d) (asked b) (wanted_use cs d each g) (wanted_use cs b each h)

pub demand : PlanMeetsDemand
unfolding planned
demand r s p obeys made =
    let planned-at : (i : ℕ) (q : PlannedComponent) → words.At p.components i q → At p.components i q = lemma_at p.components in
    let built-at : (k : ℕ) (d : Build) → words.At p.builds k d → First (wants r s p obeys made) d = λ k d h. build_first r s p obeys made k d (lemma_at p.builds k d h) in
    record {
      sources = λ i q h. let o = origin r s p obeys made i q (planned-at i q h) in
          (o.0, o.1, o.2, subst (λ (z : PlannedComponent). Payload o.0 z.source) (sym o.2) (payload_of r s p obeys made o.0 o.1));
      complete = λ c h. let k = is_planned r s p obeys made c h in (k.0, at_lemma p.components k.0 (planned c) k.1);
      same_partitions = sym (partitions_are r s p obeys made);
      references = λ plain i q h. let o = origin r s p obeys made i q (planned-at i q h) in
          subst (λ (z : PlannedComponent). nil? z.spec.role.partition ≡ false → Finds p.partitions z.spec.role.partition) (sym o.2) (finds_of r s p obeys made plain o.0 o.1);
      own_references = λ j c h. component_finds r s p obeys made j c (lemma_at r.components j c h);
      exactly = application_lies r s p obeys made;
      exactly_open = λ a e. let l = application_lies r s p obeys made a e in named_open r s p obeys made a e l.partition (lies_first p.partitions a.partition l);
      found_open = found_is_open r s p obeys made;
      built_once = λ i q b h u. once r s p obeys made b (use_wanted r s p obeys made i q b (planned-at i q h) u);
      features = λ agrees i q b h u k d g. let f = built-at k d g in
          same_features r s p obeys made agrees b d (use_wanted r s p obeys made i q b (planned-at i q h) u) (f.place, f.here);
      needed = λ k d h. let f = built-at k d h in
          let u = build_used r s p obeys made d (f.place, f.here) in
          (u.0, u.1, at_lemma p.components u.0 u.1 u.2, u.3);
    }

pub text_demand : TextMeetsDemand
text_demand lim store tree name text s q e =
    let h = text_planned lim store tree name text s q e in
    demand q.read.preset s q.plan (valid_rules lim store tree name text q.read h.0) h.1

-- ---- beside it

pub plan_size : PlanIsSmall
unfolding composed
plan_size r s p e =
    let m = plan_made r s p e in
    subst (λ (q : Plan). (length q.components ≤ suc (length r.components)) × (length q.builds ≤ 2 * length r.components + 1)) m.2
    (rw (length-map (composition m.0 r.components) planned) (composition_length m.0 r.components), builds_length m.0 r.components)

pub accepted_anywhere : AcceptedInAllLargeRooms
accepted_anywhere lim store tree store₂ tree₂ name text x e h k =
    valid_anywhere lim store tree store₂ tree₂ name text x e (record { store_takes = h; tree_takes = k })
