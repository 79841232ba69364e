-- A line for each entry of a list: one law for each way on and out.
use Prim.Native.Nat.{ℕ, suc, ◌+◌, ◌-◌, ◌≤◌, ◌<◌}
use mathlib.Core.List.{List as Seq, [], ◌∷◌, ◌++◌, append_assoc, append-nil}
use mathlib.Core.Path.{◌≡◌, refl, sym, ap, ◌∙◌}
use native.Mathlib.Omega.{arith}
use native.Mathlib.Numerals.{add-one}
use lib.ListN.{length, drop, get_or, drop_of_length-le}
use lib.Seq.{drop-cons}
use Rattle.meaning.specs.Print.{ended}
use Rattle.meaning.specs.Listing.{stem_line}
use Rattle.std.specs.Prelude.{Option, Some, None}
use Rattle.tree.specs.declared.Step.{Step}
use Rattle.tree.specs.declared.Items.{Items}
use Rattle.tree.specs.declared.Keys.{Keys}
use Rattle.tree.specs.Room.{Holds}
use Rattle.tree.specs.Doors.{Rooms, Stood, items}
use Rattle.tree.specs.Steps.{items_from, to_come, Gives, item_room, item_ended, item_given, item_stands, Over, Begins, KeyGives, key_given, key_stands}
use Rattle.schema.specs.declared.Text.{Text}
use Rattle.schema.specs.Texts.{spelled}
use Rattle.parse.specs.declared.entry.List.{List}
use Rattle.parse.specs.declared.entry.PartitionRead.{PartitionRead}
use Rattle.parse.specs.declared.view.Lists.{Lists}
use Rattle.parse.specs.Entries.{partition_at, component_at, application_at, walk}
use Rattle.parse.specs.Meant.{feature_list}
use Rattle.parse.specs.Views.{partition_list, component_list, application_list, lists_of}
use Rattle.parse.proofs.Entering.{walk_ended, walk_given}
use Rattle.parse.proofs.Judging.{partitions_among, components_among, applications_among, applications_hold}
use Rattle.plan.specs.declared.builds.Use.{Use}
use Rattle.plan.specs.declared.builds.BuildList.{BuildList}
use Rattle.plan.specs.declared.choice.Choice.TheVariants.{BootChain}
use Rattle.plan.specs.declared.component.Build.{Build}
use Rattle.plan.specs.Builds.{Used, blank, no_use, build_at, builds_of}
use Rattle.plan.specs.Stems.{stem}
use Rattle.plan.proofs.Building.{used_at}
use Rattle.page.specs.declared.Page.{Page}
use Rattle.page.specs.Page.{Adds}
use Rattle.report.specs.declared.brief.ComponentBrief.{ComponentBrief}
use Rattle.report.specs.declared.brief.ApplicationBrief.{ApplicationBrief}
use Rattle.report.specs.Shown as shown
use Rattle.report.specs.Shown.{each}
use Rattle.page.proofs.Pages.{adds_nil, adds_then, adds_as}

-- the lines of some entries stand on the page, and with those of the entries that are left they are the lines of all
pub record Left {X : Type 0} (f : X → Seq ℕ) (all left : Seq X) (p q : Page) : Type 0 where
  pub done : Seq ℕ
  pub adds : Adds done p q
  pub lines : done ++ each f left ≡ each f all

module _ {X : Type 0} (f : X → Seq ℕ) (all : Seq X) (p : Page) where
  pub left_start : Left f all all p p
  left_start = record { done = []; adds = adds_nil p; lines = refl }

  module _ (left : Seq X) (q : Page) (k : Left f all left p q) where
    left_end : left ≡ [] → Adds (each f all) p q
    left_end e = adds_as (sym (append-nil k.done) ∙ rw e at k.lines) k.adds

    left_on : (x : X) (more : Seq X) → left ≡ x ∷ more → (r : Page) → Adds (f x) q r → Left f all more p r
    left_on x more e r w =
        record {
          done = k.done ++ f x;
          adds = adds_then k.adds w;
          lines = append_assoc k.done (f x) (each f more) ∙ rw e at k.lines;
        }

-- ---- items one after the other

-- the lines of the items met, on a walk that began as v
pub record Walked (f : ℕ → Seq ℕ) (room : Seq ℕ) (v : Items) (p : Page) (w : Items) (q : Page) : Type 0 where
  pub left : Left f (to_come room v) (to_come room w) p q
  pub among : w.end ≡ v.end

pub items_start : (f : ℕ → Seq ℕ) (room : Seq ℕ) (v : Items) (p : Page) → Walked f room v p v p
items_start f room v p = record { left = left_start f (to_come room v) p; among = refl }

module _ (f : ℕ → Seq ℕ) (room : Seq ℕ) (v : Items) (p : Page) (w : Items) (q : Page) (k : Walked f room v p w q) (step : Option (Step Items)) (h : Gives room w step) where
  pub items_none : (l m : List) → l ≡ m → v ≡ items_from l.place 0 l.end → step ≡ None → Adds (each f (items room m.end m.place 0)) p q
  items_none l m d e g = rw (e, d) at (left_end f (to_come room v) p (to_come room w) q k.left (item_ended room w step h g))

  pub items_on : (given : Step Items) → step ≡ Some given → (r : Page) → Adds (f given.value) q r → Walked f room v p given.rest r
  items_on given g r x =
      let s = item_given room w step h given g in
      record { left = left_on f (to_come room v) p (to_come room w) q k.left given.value (to_come room given.rest) s.come r x; among = s.end ∙ k.among }

-- ---- steps by key

-- the lines of the keys met, on a walk that began as v
pub record Keyed (f : ℕ → Seq ℕ) (room store : Seq ℕ) (v : Keys) (p : Page) (w : Keys) (i : ℕ) (q : Page) : Type 0 where
  pub over : Over room v.place v.end w
  pub left : Left f (walk room store v.end v.place 65 None) (walk room store v.end v.place (65 - i) w.after) p q

pub keys_start : (f : ℕ → Seq ℕ) (room store : Seq ℕ) (place end : ℕ) (v : Keys) (p : Page) → Begins room place end None v → Keyed f room store v p v 0 p
keys_start f room store place end v p b =
    record { over = record { ready = b.over.ready; place = refl; end = refl }; left = rw b.after (left_start f (walk room store v.end v.place 65 None) p) }

module _ (f : ℕ → Seq ℕ) (room store : Seq ℕ) (v : Keys) (p : Page) (w : Keys) (i : ℕ) (q : Page) (k : Keyed f room store v p w i q) where
  module _ (l m : List) (d : l ≡ m) (b : Begins room l.place l.end None v) where
    here : Keyed f room store (record { place = m.place; low = v.low; end = m.end; after = v.after }) p w i q
    here = rw (b.over.place, b.over.end, d) at k

    keys_out : walk room store m.end m.place (65 - i) w.after ≡ [] → Adds (each f (walk room store m.end m.place 65 None)) p q
    keys_out e = left_end f (walk room store m.end m.place 65 None) p (walk room store m.end m.place (65 - i) w.after) q here.left e

    pub keys_past : 65 ≤ i → Adds (each f (walk room store m.end m.place 65 None)) p q
    keys_past h = let z : 65 - i ≡ 0 = omega arith in keys_out (rw z)

    pub keys_none : (step : Option (Step Keys)) → KeyGives room store w step → step ≡ None → Adds (each f (walk room store m.end m.place 65 None)) p q
    keys_none step h g = keys_out (walk_ended room store m.place m.end w here.over step h (65 - i) g)

  module _ (step : Option (Step Keys)) (h : KeyGives room store w step) (given : Step Keys) (g : step ≡ Some given) where
    pub keys_on : i < 65 → (r : Page) → Adds (f given.value) q r → Keyed f room store v p given.rest (i + 1) r
    keys_on c r x =
        let z : 65 - i ≡ suc (65 - (i + 1)) = omega arith in
        let s : walk room store v.end v.place (65 - i) w.after ≡ given.value ∷ walk room store v.end v.place (65 - (i + 1)) given.rest.after
        = rw z (walk_given room store v.place v.end w k.over step h (65 - (i + 1)) given g) in
        record {
          over = (key_given room store v.place v.end w k.over step h given g).over;
          left = left_on f (walk room store v.end v.place 65 None) p (walk room store v.end v.place (65 - i) w.after) q k.left given.value
              (walk room store v.end v.place (65 - (i + 1)) given.rest.after) s r x;
        }

    pub keys_stood : (made : ℕ) (l : List) → Begins room l.place l.end None v → Rooms room made → l.end ≤ made → Stood room given.value
    keys_stood made l b r e =
        let a : v.end ≤ made = omega (arith, b.over.end, e) in
        key_stands room store v.place v.end w k.over step h given g made r a

-- ---- what a line is made of

pub parts_on : (room store : Seq ℕ) (made : ℕ) (v : Items) (p : Page) (w : Items) (q : Page)
    → Walked (shown.part_at room store made) room v p w q → (step : Option (Step Items)) → Gives room w step → (given : Step Items) → step ≡ Some given
    → (d : PartitionRead) → d ≡ partition_at room store made given.value → (r : Page) → Adds (shown.part store d.partition) q r
    → Walked (shown.part_at room store made) room v p given.rest r
parts_on room store made v p w q k step h given g d e r x = items_on (shown.part_at room store made) room v p w q k step h given g r (rw e at x)

module _ (room store : Seq ℕ) (made : ℕ) (name : Seq ℕ) where
  pub comps_on : (v : Items) (p : Page) (w : Items) (q : Page)
      → Walked (shown.comp_at room store made name) room v p w q → (step : Option (Step Items)) → Gives room w step → (given : Step Items) → step ≡ Some given
      → (x : ComponentBrief) → x ≡ shown.component_brief (component_at room store made given.value 32).component → (r : Page) → Adds (shown.comp store name x) q r
      → Walked (shown.comp_at room store made name) room v p given.rest r
  comps_on v p w q k step h given g x e r y = items_on (shown.comp_at room store made name) room v p w q k step h given g r (rw e at y)

  pub apps_on : (v : Keys) (p : Page) (w : Keys) (i : ℕ) (q : Page) → Keyed (shown.app_at room store made name) room store v p w i q
      → (step : Option (Step Keys)) → KeyGives room store w step → (given : Step Keys) → step ≡ Some given → i < 65
      → (x : ApplicationBrief) → x ≡ shown.application_brief (application_at room store made given.value 32).application → (r : Page) → Adds (shown.app store name x) q r
      → Keyed (shown.app_at room store made name) room store v p given.rest (i + 1) r
  apps_on v p w i q k step h given g c x e r y = keys_on (shown.app_at room store made name) room store v p w i q k step h given g c r (rw e at y)

-- ---- the lists of a preset in the rooms

pub stands : (room store : Seq ℕ) (made : ℕ) (l : Lists) → Rooms room made → l ≡ lists_of room store made → shown.Stands room store made l
stands room store made l r e = record { rooms = r; found = e }

module _ (room store : Seq ℕ) (made : ℕ) (lists : Lists) (h : shown.Stands room store made lists) where
  pub parts_list : lists.partitions ≡ partition_list room store made
  parts_list = ap (λ (x : Lists). x.partitions) h.found

  pub comps_list : lists.components ≡ component_list room store made
  comps_list = ap (λ (x : Lists). x.components) h.found

  pub apps_list : lists.applications ≡ application_list room store made
  apps_list = ap (λ (x : Lists). x.applications) h.found

  parts_within : lists.partitions.end ≤ made
  parts_within = (partitions_among room store made lists.partitions h.rooms parts_list).end

  comps_within : lists.components.end ≤ made
  comps_within = (components_among room store made lists.components h.rooms comps_list).end

  pub apps_within : lists.applications.end ≤ made
  apps_within = (applications_among room store made lists.applications h.rooms apps_list).end

  pub apps_hold : Holds room lists.applications.end
  apps_hold = applications_hold room store made lists.applications h.rooms apps_list

  module _ (v w : Items) (k : w.end ≡ v.end) where
    walk_end : (l : List) → v ≡ items_from l.place 0 l.end → w.end ≡ l.end
    walk_end l e = k ∙ ap (λ (x : Items). x.end) e

    module _ (ev : v ≡ items_from lists.partitions.place 0 lists.partitions.end) where
      low : w.end ≤ made
      low = let a = walk_end lists.partitions ev in omega (arith, a, parts_within)

      pub parts_hold : Holds room w.end
      parts_hold = item_room room made w h.rooms low

      pub parts_stood : (step : Option (Step Items)) → Gives room w step → (given : Step Items) → step ≡ Some given → Stood room given.value
      parts_stood step s given g = item_stands room w step s given g made h.rooms low

    module _ (ev : v ≡ items_from lists.components.place 0 lists.components.end) where
      low' : w.end ≤ made
      low' = let a = walk_end lists.components ev in omega (arith, a, comps_within)

      pub comps_hold : Holds room w.end
      comps_hold = item_room room made w h.rooms low'

      pub comps_stood : (step : Option (Step Items)) → Gives room w step → (given : Step Items) → step ≡ Some given → Stood room given.value
      comps_stood step s given g = item_stands room w step s given g made h.rooms low'

-- ---- builds

module _ (room store : Seq ℕ) (made : ℕ) (name : Seq ℕ) (b : BuildList) (u : Used 129 (builds_of room store made BootChain) b) (p : Page) (i : ℕ) (q : Page)
    (k : Left (shown.build_of room store made name) (builds_of room store made BootChain) (drop i (builds_of room store made BootChain)) p q) where
  -- the boot chain's builds
  abbrev bs : Seq Build
  bs = builds_of room store made BootChain

  pub builds_past : b.count ≤ i → Adds (shown.builds room store made name) p q
  builds_past h =
      let l : length bs ≤ i = omega (arith, u.count, h) in
      left_end (shown.build_of room store made name) bs p (drop i bs) q k (drop_of_length-le bs l)

  pub builds_on : i < b.count → (y : Use) (x : Build) (n : ℕ) → y ≡ get_or b.items i no_use → x ≡ build_at y → n ≡ length (feature_list room store made x.features)
      → (r : Page) → Adds (shown.build store name x.«package» n) q r
      → Left (shown.build_of room store made name) bs (drop (i + 1) bs) p r
  builds_on h y x n e g f r w =
      let d : get_or bs i blank ≡ x = used_at 129 bs b i u h ∙ sym (g ∙ ap build_at e) in
      left_on (shown.build_of room store made name) bs p (drop i bs) q k x (drop (i + 1) bs)
      (rw (add-one i, ← d) (drop-cons bs i blank (omega (arith, h, u.count)))) r (rw f at w)

-- the builds and the stem after them
pub outcome_wrote : (room store : Seq ℕ) (made : ℕ) (name : Seq ℕ) (p q r : Page) (t : Text) → Adds (shown.builds room store made name) p q → t ≡ stem room store made name BootChain
    → Adds (ended (stem_line (spelled store name t))) q r → Adds (shown.outcome room store made name) p r
outcome_wrote room store made name p q r t h e k = adds_then h (rw e at k)
