-- The whole of a preset's records: one law for each way out.
use Prim.Native.Nat.{ℕ, ◌/◌, ◌≤◌, ◌<◌}
use mathlib.Core.Bool.{Bool, true, false}
use mathlib.Core.List.{List as Seq}
use mathlib.Core.Path.{◌≡◌, sym, ap, subst, ◌∙◌}
use native.Mathlib.Omega.{arith}
use borrow.Author.Tests.{eq-eqb, ne_eqb, lt-ltb, le-ltb, ltb-false}
use lib.Dec.{ltb}
use lib.ListN.{length}
use Rattle.meaning.specs.declared.Limits.{Limits}
use Rattle.meaning.specs.Base.{pick, ascii}
use Rattle.meaning.specs.Limits.{of01}
use Rattle.laws.specs.Cases.{on}
use Rattle.tree.specs.declared.Value.{Value}
use Rattle.tree.specs.declared.Value.TheVariants as values
use Rattle.tree.specs.declared.Fields.{Fields}
use Rattle.tree.specs.Room.{Holds, Counts as Counted}
use Rattle.tree.specs.Doors.{Rooms, Spread, field, fields_of}
use Rattle.tree.specs.Spans.{spread_fields}
use Rattle.schema.specs.declared.Text.{Text}
use Rattle.schema.specs.declared.Media.{Media}
use Rattle.parse.specs.declared.field.MediaRead.{MediaRead}
use Rattle.schema.specs.Words.{media_choice}
use Rattle.parse.specs.declared.Refusal.{Refusal}
use Rattle.parse.specs.declared.front.TableRead.{TableRead}
use Rattle.parse.specs.declared.front.ChipFound.{ChipFound}
use Rattle.parse.specs.declared.front.Front.{Front}
use Rattle.parse.specs.declared.entry.List.{List}
use Rattle.parse.specs.declared.entry.Partitions.{Partitions}
use Rattle.parse.specs.declared.view.Lists.{Lists}
use Rattle.parse.specs.Refusals.{in_section, earlier}
use Rattle.parse.specs.Fields.{media_at}
use Rattle.parse.specs.Front.{table_at, chip_of, board_read, image_read, front_of, front_read}
use Rattle.parse.specs.Given.{partitioned_fault}
use Rattle.parse.specs.Entries.{list_of, or_other, list_at, keys_of, keys_at, Among, Partitioned, partitions, components, applications, Keyed}
use Rattle.parse.specs.Views.{partition_list, component_list, application_list, lists_of, counts_of, device_of, holds_values}
use Rattle.parse.specs.Refused as refused
use Rattle.parse.specs.Placed.{verdict_place}
use Rattle.parse.specs.Refused.{lent_text}
use Rattle.parse.specs.Verdict.{Judging, front_fault, partition_fault, component_fault, application_fault, verdict, reading, Told}

-- ---- the root
pub root_spread : (room : Seq ℕ) (made place : ℕ) (f : Fields) → Rooms room made → f ≡ fields_of room made place → Spread room f
root_spread room made place f h e = subst (Spread room) (sym e) (spread_fields room made place h.fits h.low)

module _ (room store : Seq ℕ) (made : ℕ) (f : Fields) (e : f ≡ fields_of room made 1) where
  pub list_root : (one many : Seq ℕ) (l : List) → l ≡ list_at room store made f one many → l ≡ list_at room store made (fields_of room made 1) one many
  list_root one many l d = d ∙ ap (λ (g : Fields). list_at room store made g one many) e

  pub keys_root : (l : List) → l ≡ keys_at room store made f → l ≡ application_list room store made
  keys_root l d = d ∙ ap (keys_at room store made) e

  pub front_root : (name : Seq ℕ) (t : Text) (r : Front) → t ≡ lent_text name → r ≡ front_read room store made f t → r.fault ≡ front_fault room store made name
  front_root name t r d q = ap (λ (x : Front). x.fault) (q ∙ ap (λ (g : Fields). front_read room store made g t) e ∙ ap (front_read room store made (fields_of room made 1)) d)

-- ---- a list's entries stand among the values made
list_end : (made : ℕ) (v : Value) → (list_of made v).end ≤ made
list_end made values.Absent = omega arith
list_end made (values.Text f n) = omega arith
list_end made (values.Number f n) = omega arith
list_end made (values.Flag b) = omega arith
list_end made (values.Array p) = omega arith
list_end made (values.Table p) = omega arith

keys_end : (made : ℕ) (v : Value) → (keys_of made v).end ≤ made
keys_end made values.Absent = omega arith
keys_end made (values.Text f n) = omega arith
keys_end made (values.Number f n) = omega arith
keys_end made (values.Flag b) = omega arith
keys_end made (values.Array p) = omega arith
keys_end made (values.Table p) = omega arith

among : (room : Seq ℕ) (made : ℕ) (l k : List) → Rooms room made → l ≡ k → k.end ≤ made → Among room made l
among room made l k h e b = record { rooms = h; end = omega (arith, ap (λ (x : List). x.end) e) }

module _ (room store : Seq ℕ) (made : ℕ) (l : List) (h : Rooms room made) where
  pub partitions_among : l ≡ partition_list room store made → Among room made l
  partitions_among e =
      among room made l (partition_list room store made) h e
      (list_end made (or_other (field room store (fields_of room made 1) (ascii "partition")) (field room store (fields_of room made 1) (ascii "partitions"))))

  pub components_among : l ≡ component_list room store made → Among room made l
  components_among e =
      among room made l (component_list room store made) h e
      (list_end made (or_other (field room store (fields_of room made 1) (ascii "component")) (field room store (fields_of room made 1) (ascii "components"))))

  pub applications_among : l ≡ application_list room store made → Among room made l
  applications_among e = among room made l (application_list room store made) h e (keys_end made (field room store (fields_of room made 1) (ascii "apps")))

among_holds : (room : Seq ℕ) (made : ℕ) (l : List) → Among room made l → Holds room l.end
among_holds room made l h = record { fits = omega (arith, h.rooms.fits.fits, h.end) }

module _ (room store : Seq ℕ) (made : ℕ) (l : List) (h : Rooms room made) where
  pub partitions_hold : l ≡ partition_list room store made → Holds room l.end
  partitions_hold e = among_holds room made l (partitions_among room store made l h e)

  pub components_hold : l ≡ component_list room store made → Holds room l.end
  components_hold e = among_holds room made l (components_among room store made l h e)

  pub applications_hold : l ≡ application_list room store made → Holds room l.end
  applications_hold e = among_holds room made l (applications_among room store made l h e)

-- ---- one group after the other
module _ (room store : Seq ℕ) (made : ℕ) (lim : Limits) (l : List) where
  pub partitions_judged_lem : (r : Partitions) (a b : Refusal) → l ≡ partition_list room store made → Partitioned (partitions room store made l lim.partitions) r
      → a ≡ in_section 3 l.fault → b ≡ earlier a r.fault → b ≡ partition_fault room store made lim
  partitions_judged_lem r a b e p d q =
      q ∙ rw (d, partitioned_fault (partitions room store made l lim.partitions) r p, e)

  pub components_judged_lem : (r a b : Refusal) → l ≡ component_list room store made → r ≡ components room store made l lim.components lim.features
      → a ≡ in_section 4 l.fault → b ≡ earlier a r → b ≡ component_fault room store made lim
  components_judged_lem r a b e p d q = q ∙ rw (d, p, e)

  pub applications_judged_lem : (r a b : Refusal) → l ≡ application_list room store made → r ≡ applications room store made l lim.applications lim.features
      → a ≡ in_section 5 l.fault → b ≡ earlier a r → b ≡ application_fault room store made lim
  applications_judged_lem r a b e p d q = q ∙ rw (d, p, e)

module _ (room store : Seq ℕ) (made : ℕ) (name : Seq ℕ) (lim : Limits) (a : Refusal) (ea : a ≡ front_fault room store made name) where
  pub front_refused : (a.number ≡ 0 → ⊥) → a ≡ verdict room store made name lim
  unfolding refused.verdict
  front_refused h = rw (← ea, ne_eqb a.number 0 h)

  module _ (za : a.number ≡ 0) (b : Refusal) (eb : b ≡ partition_fault room store made lim) where
    pub partitions_refused : (b.number ≡ 0 → ⊥) → b ≡ verdict room store made name lim
    unfolding refused.verdict
    partitions_refused h = rw (← ea, eq-eqb a.number 0 za, ← eb, ne_eqb b.number 0 h)

    module _ (zb : b.number ≡ 0) (c : Refusal) (ec : c ≡ component_fault room store made lim) where
      pub components_refused : (c.number ≡ 0 → ⊥) → c ≡ verdict room store made name lim
      unfolding refused.verdict
      components_refused h = rw (← ea, eq-eqb a.number 0 za, ← eb, eq-eqb b.number 0 zb, ← ec, ne_eqb c.number 0 h)

      pub all_judged : c.number ≡ 0 → (d : Refusal) → d ≡ application_fault room store made lim → d ≡ verdict room store made name lim
      unfolding refused.verdict
      all_judged zc d ed = rw (← ea, eq-eqb a.number 0 za, ← eb, eq-eqb b.number 0 zb, ← ec, eq-eqb c.number 0 zc) ed

-- ---- within 01's limits
pub limits_judging : (room : Seq ℕ) (made : ℕ) (lim : Limits) → Rooms room made → lim ≡ of01 → Judging room made lim
limits_judging room made lim h e = record { rooms = h; partitions = rw e (omega arith); applications = rw e (omega arith) }

-- a refusal of records is told at an entry
pub verdict_told : (name store tree : Seq ℕ) (made : ℕ) (lim : Limits) (v : Refusal) → lim ≡ of01 → v ≡ verdict tree store made name lim → Rooms tree made → Told (reading name tree store made) v
verdict_told name store tree made lim v el ev h =
    let p = or_other (field tree store (fields_of tree made 1) (ascii "partition")) (field tree store (fields_of tree made 1) (ascii "partitions")) in
    let c = or_other (field tree store (fields_of tree made 1) (ascii "component")) (field tree store (fields_of tree made 1) (ascii "components")) in
    let e : v ≡ reading name tree store made = ev ∙ ap (verdict tree store made name) el in
    record {
      is = e;
      low = subst (λ (x : Refusal). x.place ≤ 70000) (sym e)
          (verdict_place tree store made (fields_of tree made 1) of01 (lent_text name) 70000 (omega (arith, list_end made p, h.low)) (omega (arith, list_end made c, h.low)) (omega arith));
    }

-- ---- sound rooms
pub sound_short : (room : Seq ℕ) (made takes : ℕ) → takes ≡ length room / 32 → takes < made → false ≡ holds_values room made
unfolding holds_values
sound_short room made takes e h = rw (← e, lt-ltb takes made h)

pub sound_many : (room : Seq ℕ) (made takes : ℕ) → takes ≡ length room / 32 → made ≤ takes → 65000 < made → false ≡ holds_values room made
unfolding holds_values
sound_many room made takes e h l = rw (← e, le-ltb takes made h, lt-ltb 65000 made l)

pub sound_well : (room : Seq ℕ) (made takes : ℕ) → takes ≡ length room / 32 → made ≤ takes → made ≤ 65000 → true ≡ holds_values room made
unfolding holds_values
sound_well room made takes e h l = rw (← e, le-ltb takes made h, le-ltb 65000 made l)

pub sound_rooms : (room : Seq ℕ) (made : ℕ) (b : Bool) → b ≡ holds_values room made → b ≡ true → Rooms room made
unfolding holds_values
sound_rooms room made b e t =
    let k : holds_values room made ≡ true = sym e ∙ t in
    on (ltb (length room / 32) made) (λ p. absurd (else (rw p at k)))
    (λ p. on (ltb 65000 made) (λ q. absurd (else (rw (p, q) at k)))
    (λ q. record { fits = record { fits = omega (arith, ltb-false (length room / 32) made p) }; low = ltb-false 65000 made q }))
  where
    else : false ≡ true → ⊥
    else f = let z : ◌≡◌ {A = ℕ} 0 1 = ap (λ (x : Bool). pick x 1 0) f in omega arith

pub lists_are : (room store : Seq ℕ) (made : ℕ) (p c a : List) → p ≡ partition_list room store made → c ≡ component_list room store made → a ≡ application_list room store made
    → record { partitions = p; components = c; applications = a } ≡ lists_of room store made
lists_are room store made p c a ep ec ea = rw (ep, ec, ea)

-- the lists stand in the room
module _ (room store : Seq ℕ) (made : ℕ) (l : Lists) (h : Rooms room made) (e : l ≡ lists_of room store made) where
  pub lists_partitions : Holds room l.partitions.end
  lists_partitions = partitions_hold room store made l.partitions h (ap (λ (x : Lists). x.partitions) e)

  pub lists_components : Holds room l.components.end
  lists_components = components_hold room store made l.components h (ap (λ (x : Lists). x.components) e)

  pub lists_applications : Holds room l.applications.end
  lists_applications = applications_hold room store made l.applications h (ap (λ (x : Lists). x.applications) e)

  pub counts_are : (n m k : ℕ) → Counted room l.partitions.end l.partitions.place n → Counted room l.components.end l.components.place m
      → Keyed room store l.applications 64 k → record { partitions = n; components = m; applications = k } ≡ counts_of room store made
  unfolding counts_of
  counts_are n m k hn hm hk = rw (hn.is, hm.is, hk.is, e)

pub device_is : (room store : Seq ℕ) (made : ℕ) (f : Fields) (b i : TableRead) (c : ChipFound) (d : Media) (m : MediaRead)
    → f ≡ fields_of room made 1 → b ≡ table_at room store made f (ascii "board") → i ≡ table_at room store made f (ascii "image")
    → c ≡ chip_of room store b.fields i.fields → d ≡ media_choice c.chip → m ≡ media_at room store i.fields d
    → record { chip = c.chip; media = m.media } ≡ device_of room store made
unfolding device_of front_of board_read image_read
device_is room store made f b i c d m e eb ei ec ed em = rw (em, ed, ec, eb, ei, e)
