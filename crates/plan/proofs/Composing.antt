-- A planned component, and all of them in composition order: one law for each way on and out.
use Prim.Native.Nat.{ℕ, ◌+◌, ◌-◌, ◌≤◌, ◌<◌}
use mathlib.Core.Bool.{Bool, true, false, not}
use mathlib.Core.List.{List as Seq, [], ◌∷◌}
use mathlib.Core.Path.{◌≡◌, refl, sym, ◌∙◌}
use native.Mathlib.Omega.{arith}
use mir.Syntax.{w64}
use mir.Val.{Fits}
use borrow.Author.Tests.{lt-ltb, le-ltb, eq-eqb, ne_eqb}
use lib.Dec.{eqb}
use lib.ListN.{length}
use Rattle.meaning.specs.Base.{pick, ascii, nil?}
use Rattle.tree.specs.declared.Items.{Items}
use Rattle.std.specs.Prelude.{Option, Some, None}
use Rattle.tree.specs.Steps.{to_come}
use Rattle.tree.specs.declared.Value.{Value}
use Rattle.tree.specs.Room.{Counts}
use Rattle.tree.specs.Doors.{Rooms, Stood, value_at}
use Rattle.tree.specs.Spans.{items_count}
use Rattle.schema.specs.declared.Text.{Text}
use Rattle.schema.specs.declared.Text.TheVariants as texts
use Rattle.schema.specs.declared.Features.{Features}
use Rattle.schema.specs.declared.Head.{Head}
use Rattle.schema.specs.declared.Boot.{Boot}
use Rattle.schema.specs.declared.Load.{Load}
use Rattle.schema.specs.declared.Component.{Component}
use Rattle.schema.specs.declared.Application.{Application}
use Rattle.schema.specs.declared.Kind.TheVariants as kinds
use Rattle.schema.specs.declared.Features.TheVariants as lists
use Rattle.schema.specs.Texts.{clip, start_of, length_of, or_text, is_given}
use Rattle.parse.specs.declared.field.TextRead.{TextRead}
use Rattle.parse.specs.declared.front.TableRead.{TableRead}
use Rattle.parse.specs.declared.entry.List.{List}
use Rattle.parse.specs.Fields.{text_at}
use Rattle.parse.specs.Entries.{entry_table, table_at}
use Rattle.parse.specs.Views as views
use Rattle.parse.proofs.Judging.{components_among}
use Rattle.validate.specs.Entries.{kept}
use Rattle.validate.specs.Gathered.{components}
use Rattle.plan.specs.declared.choice.Choice.{Choice}
use Rattle.plan.specs.declared.choice.Choice.TheVariants as choices
use Rattle.plan.specs.declared.component.Build.{Build}
use Rattle.plan.specs.declared.component.Source.{Source}
use Rattle.plan.specs.declared.component.Source.TheVariants as sources
use Rattle.plan.specs.declared.component.Planned.{Planned}
use Rattle.plan.specs.Choices.{Standing}
use Rattle.plan.specs.Planned as plans
use Rattle.plan.specs.PlannedSaid.{partition_read_lem}
use Rattle.plan.specs.Planned.{built, payload, pbp_payload, head_left, boot_left, planned, no_boot, loads, component_of, before, placed, ahead, own, planned_application, composed, component}

-- ---- a component

pub built_is : (p bin b : Text) (fs : Features) → b ≡ or_text bin p → record { «package» = p; bin = b; features = fs } ≡ built p bin fs
built_is p bin b fs e = rw e

module _ (h : Head) (fs : Features) (t : Bool) (e : t ≡ is_given h.«package») where
  pub payload_built : (b : Build) → t ≡ true → b ≡ built h.«package» h.bin fs → sources.Package b ≡ payload h fs
  unfolding payload
  payload_built b y f = rw (← e, y, f)

  pub payload_file : (r : Text) → t ≡ false → r ≡ or_text h.file (texts.Stored 0 0) → sources.File r ≡ payload h fs
  unfolding payload
  payload_file r y f = rw (← e, y, f)

module _ (b : Boot) (fs : Features) (t : Bool) (e : t ≡ is_given b.pbp) where
  pub pbp_file : t ≡ true → Some (sources.File b.pbp) ≡ pbp_payload b fs
  unfolding pbp_payload
  pbp_file y = rw (← e, y)

  module _ (y : t ≡ false) (u : Bool) (f : u ≡ is_given b.pbp_package) where
    pub pbp_built : (r : Build) → u ≡ true → r ≡ built b.pbp_package texts.Absent fs → Some (sources.Package r) ≡ pbp_payload b fs
    unfolding pbp_payload
    pbp_built r z g = rw (← e, y, ← f, z, g)

    pub pbp_none : u ≡ false → None ≡ pbp_payload b fs
    unfolding pbp_payload
    pbp_none z = rw (← e, y, ← f, z)

module _ (h : Head) (t : Bool) (e : t ≡ is_given h.«package») where
  pub left_whole : t ≡ true → h ≡ head_left h
  unfolding head_left
  left_whole y = rw (← e, y)

  pub left_without : t ≡ false → record { kind = h.kind; name = h.name; «package» = h.«package»; bin = h.bin; file = texts.Absent; filename = h.filename } ≡ head_left h
  unfolding head_left
  left_without y = rw (← e, y)

pub planned_is : (c : Component) (h : Head) (b : Boot) (s : Source) (p : Option Source)
    → h ≡ head_left c.head → b ≡ boot_left c.boot → s ≡ payload c.head c.role.features → p ≡ pbp_payload c.boot c.role.pbp_features
    → record { spec = record { head = h; role = c.role; boot = b; load = c.load }; source = s; pbp_source = p } ≡ planned c
unfolding planned
planned_is c h b s p e1 e2 e3 e4 = rw (e1, e2, e3, e4)

pub component_of_is : (a : Application) (b : Boot) (l : Load) → b ≡ no_boot → l ≡ loads a.load_address a.entry_offset
    → record {
      head = record { kind = kinds.App; name = a.name; «package» = a.«package»; bin = texts.Absent; file = texts.Absent; filename = a.filename };
      role = record {
        features = a.features;
        pbp_features = lists.Absent;
        partition = a.partition;
        attr = a.attr;
        target_attr = texts.Absent;
        target_filename = texts.Absent;
      };
      boot = b;
      load = l;
    }
    ≡ component_of a
unfolding component_of
component_of_is a b l e f = rw (e, f)

-- ---- whether a component has a partition

some_long : (s : Seq ℕ) → not (eqb (length s) 0) ≡ pick (nil? s) false true
some_long [] = refl
some_long (b ∷ s) = rw (ne_eqb (length (b ∷ s)) 0 (λ h. omega arith))

-- no bytes stand for an absent text
kept_or : (store : Seq ℕ) (t : Text) → kept store t ≡ kept store (or_text t (texts.Stored 0 0))
kept_or store texts.Absent = refl
kept_or store (texts.Stored from len) = refl
kept_or store texts.Lent = refl
kept_or store (texts.Fixed w) = refl
kept_or store (texts.WithAic from len) = refl

module _ (room store : Seq ℕ) (made n : ℕ) where
  pub placed_is : (v : Value) (t : TableRead) (o : TextRead) (a b : ℕ) (s : Seq ℕ)
      → v ≡ value_at room store n → t ≡ entry_table room made v → o ≡ text_at room store t.fields (ascii "partition")
      → a ≡ start_of o.text → b ≡ length_of o.text → s ≡ clip a b store
      → not (eqb (length s) 0) ≡ placed room store made n
  unfolding placed
  placed_is v t o a b s e1 e2 e3 e4 e5 e6 =
      let k : s ≡ kept store o.text = rw (e6, e4, e5) in
      let p : o.text ≡ (text_at room store (table_at room store made n).fields (ascii "partition")).text = rw (e3, e2, e1) in
      rw (partition_read_lem room store made n, ← kept_or store (text_at room store (table_at room store made n).fields (ascii "partition")).text, ← p, ← k) (some_long s)

-- ---- how many stand before the first with a partition

-- of a walk that began as v, i stand before what is to come, and none of them has a partition
pub record Counting (room store : Seq ℕ) (made : ℕ) (v : Items) (i : ℕ) (w : Items) : Type 0 where
  pub low : i ≤ w.at
  pub high : w.at ≤ made
  pub within : v.end ≤ made
  pub among : w.end ≡ v.end
  pub left : before (placed room store made) (to_come room v) ≡ i + before (placed room store made) (to_come room w)

-- ---- by number

module _ (room store : Seq ℕ) (made n i at : ℕ) (r : Option Planned) (e : at ≡ ahead room store made) where
  pub composed_before : i < at → r ≡ own room store made i → r ≡ composed room store made n i
  unfolding composed
  composed_before h f = rw (← e, lt-ltb i at h) f

  module _ (h : at ≤ i) where
    pub composed_here : (p : Planned) → i ≡ at → p ≡ planned_application room store made n → Some p ≡ composed room store made n i
    unfolding composed
    composed_here p k f = rw (← e, le-ltb i at h, eq-eqb i at k, f)

    pub composed_after : (i ≡ at → ⊥) → r ≡ own room store made (i - 1) → r ≡ composed room store made n i
    unfolding composed
    composed_after k f = rw (← e, le-ltb i at h, ne_eqb i at k) f

module _ (room store : Seq ℕ) (made : ℕ) (c : Choice) (i : ℕ) where
  pub chain_is : (r : Option Planned) → c ≡ choices.BootChain → r ≡ own room store made i → r ≡ component room store made c i
  chain_is r e f = rw e f

  module _ (place n : ℕ) (e : c ≡ choices.At place n) where
    pub chosen_is : (r : Option Planned) → r ≡ composed room store made n i → r ≡ component room store made c i
    chosen_is r f = rw e f

pub chosen_stood : (room : Seq ℕ) (c : Choice) (place n : ℕ) → c ≡ choices.At place n → Standing room c → Stood room n
chosen_stood room c place n e h = rw e at h

-- ---- how many

module _ (room store : Seq ℕ) (made : ℕ) (l : List) (n : ℕ) (h : Rooms room made) (e : l ≡ views.component_list room store made) (k : Counts room l.end l.place n) where
  counted : n ≡ length (components room store made)
  counted = k.is ∙ sym (items_count room l.end l.place) ∙ rw e

  pub total_fits : Fits w64 (n + 1)
  total_fits = record { fits = omega (arith, k.fits, (components_among room store made l h e).end, h.low) }

  pub total_boot : (c : Choice) → c ≡ choices.BootChain → n ≡ plans.count room store made c
  total_boot c g = rw g counted

  pub total_more : (c : Choice) (p v : ℕ) → c ≡ choices.At p v → n + 1 ≡ plans.count room store made c
  total_more c p v g = rw (g, ← counted)
