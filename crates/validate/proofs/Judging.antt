-- The groups of rules in 01's order, and validation: one law for each way out.
use Prim.Native.Nat.{ℕ, ◌+◌, ◌-◌, ◌≤◌, ◌<◌}
use mathlib.Core.List.{List as Seq, [], ◌∷◌, map}
use mathlib.Core.Bool.{false}
use mathlib.Core.Path.{◌≡◌, refl, sym, ap, ◌∙◌}
use native.Mathlib.Omega.{arith}
use borrow.Author.Tests.{eq-eqb, ne_eqb, eqb-true, lt-ltb, le-ltb, ltb-true, ltb-false}
use lib.Dec.{eqb, ltb}
use lib.ListN.{length, take, replicate, length-map}
use lib.Seq.{take_all, take-append_seam}
use Rattle.meaning.specs.Limits.{of01}
use Rattle.meaning.specs.Numbered.{number}
use Rattle.meaning.specs.Refusal.{accepted, in_application}
use Rattle.meaning.specs.Fields.{each, listed}
use Rattle.meaning.specs.Layout as meant
use Rattle.laws.specs.Cases.{on}
use Rattle.tree.specs.declared.Fields.{Fields}
use Rattle.tree.specs.Room.{Counts}
use Rattle.tree.specs.Doors.{Rooms, fields_of, items}
use Rattle.tree.specs.Spans.{items_count}
use Rattle.schema.specs.declared.Chip.{Chip}
use Rattle.schema.specs.declared.Text.{Text}
use Rattle.schema.specs.declared.Partition.{Partition}
use Rattle.schema.specs.Words.{chip_meant}
use Rattle.parse.specs.declared.Refusal.{Refusal}
use Rattle.parse.specs.declared.entry.List.{List}
use Rattle.parse.specs.declared.entry.Partitions.{Partitions}
use Rattle.parse.specs.declared.front.Front.{Front}
use Rattle.parse.specs.Refusals.{in_section, earlier}
use Rattle.parse.specs.Entries as entries
use Rattle.parse.specs.Entries.{refusal_at, refusal_of, application_r, blank, Partitioned, partitions, partition_at}
use Rattle.parse.specs.Answers.{earlier_two, earlier_clear}
use Rattle.parse.specs.Whole as whole
use Rattle.parse.specs.Whole.{reader, listed_few, listed_clear}
use Rattle.parse.specs.Given.{partitioned_fault}
use Rattle.parse.specs.Front.{front_read}
use Rattle.parse.specs.Refused as refused
use Rattle.parse.specs.Refused.{lent_text, partition_numbers}
use Rattle.parse.specs.Views.{partition_list, component_list, application_list}
use Rattle.parse.specs.Verdict as verdicts
use Rattle.parse.specs.Verdict.{Told}
use Rattle.parse.proofs.Entering.{comps_many, comps_few}
use Rattle.parse.proofs.Judging.{components_among, applications_among, partitions_judged_lem, components_judged_lem, applications_judged_lem, verdict_told}
use Rattle.meaning.specs.declared.Refused.{Refused}
use Rattle.turns.specs.declared.Mark.{Mark}
use Rattle.turns.specs.declared.EntryRefused.{EntryRefused}
use Rattle.turns.specs.Refusals.{number_some}
use Rattle.turns.specs.Marks.{Fault, at_entry, fault_of, judged}
use Rattle.layout.specs.Parts.{part_name, part_meant, placed}
use Rattle.validate.specs.declared.gather.Gathered.{Gathered}
use Rattle.validate.specs.declared.gather.Applied.{Applied}
use Rattle.validate.specs.Fronts as fronts
use Rattle.validate.specs.FrontSaid.{front_plain}
use Rattle.validate.specs.Gathered as gathered
use Rattle.validate.specs.Entries.{component_at}
use Rattle.validate.specs.Gathered.{components, applications, Few, Counted, Gathers, Components, Followed, Follows, Applications}
use Rattle.validate.specs.Faults as faults
use Rattle.validate.specs.Faults.{
  in_entry,
  length_fault,
  components_fault,
  counted_fault,
  boot_fault,
  clash_fault,
  clash_told,
  gathered_fault,
  rest_fault,
  lists_fault,
  layout_fault,
  applications_judged,
  components_judged,
  partitions_judged,
}
use Rattle.validate.specs.Validated.{validating}
use Rattle.validate.proofs.Placing.{rules_low}

-- ---- one group

pub in_some : (section : ℕ) (e : EntryRefused Refused) (r : Refusal) → r ≡ refusal_at section (number e.refused) e.place → r ≡ in_entry section (record { number = number e.refused; place = e.place })
unfolding in_entry
in_some section e r h = let z : number e.refused ≡ 0 → ⊥ = λ w. omega (arith, w, number_some e.refused) in rw (ne_eqb (number e.refused) 0 z) h

counted_is : (store ns : Seq ℕ) (mark : ℕ → Mark Refused) → counted_fault (judged 51 store (map mark ns)) (length ns) ≡ components_fault store (map mark ns)
unfolding counted_fault components_fault
counted_is store [] mark = refl
counted_is store (n ∷ ns) mark = rw (ne_eqb (length (n ∷ ns)) 0 (λ z. omega (arith, z)))

-- 60, by the first of all entries that clashes
told_clash : (cs apps at : ℕ) → clash_told cs (placed (cs + apps) at) ≡ clash_fault cs (cs + apps) at
unfolding clash_fault
told_clash cs apps at =
    on (ltb at (cs + apps))
    (λ e. rw e)
    (λ e. let h = ltb-false at (cs + apps) e in let n : ltb at cs ≡ false = le-ltb at cs (omega (arith, h)) in rw (e, n))

-- ---- the applications

module _ (room store : Seq ℕ) (made : ℕ) (l : List) (el : l ≡ application_list room store made) where
  pub applications_followed : (c : Gathered) → Rooms room made → Few c → Followed room made l.end c.count
  applications_followed c h f = record { rooms = h; within = (applications_among room store made l h el).end; low = f.few }

  module _ (ps : Seq Partition) (c : Gathered) (a : Applied) (g : Applications room store made l.place l.end ps c.count (take c.count c.pairs) a) (s b : Refusal) (es : s ≡ in_section 5 l.fault) (eb : b ≡ earlier s a.fault) where
    applications_are : b ≡ verdicts.application_fault room store made of01
    applications_are = applications_judged_lem room store made of01 l a.fault s b el g.fault es eb

    pub applications_refused : (rules : Refusal) → (b.number ≡ 0 → ⊥) → b ≡ applications_judged room store made ps rules c.count (take c.count c.pairs) c.first
    unfolding applications_judged
    applications_refused rules z = rw (← applications_are, ne_eqb b.number 0 z)

    module _ (z : b.number ≡ 0) where
      pub rules_refused : (rules : Refusal) → (rules.number ≡ 0 → ⊥) → rules ≡ applications_judged room store made ps rules c.count (take c.count c.pairs) c.first
      unfolding applications_judged
      rules_refused rules y = rw (← applications_are, eq-eqb b.number 0 z, ne_eqb rules.number 0 y)

      follows : Follows room store made ps (applications room store made) c.count (take c.count c.pairs) a
      follows =
          let y : a.fault.number ≡ 0 = (earlier_clear s a.fault (rw (← eb) z)).1 in
          let w : (refusal_of (listed (application_r room store made 32) in_application 64 (applications room store made))).number ≡ 0 = rw (g.fault, el) at y in
          let n = listed_few (λ n. (entries.application_at room store made n 32).fault) (λ n. (entries.application_at room store made n 32).application) 5 (applications room store made) 64 w in
          rw (el, take_all 64 (applications room store made) n) at g.gathers

      pub applications_passed : (rules r : Refusal) → rules.number ≡ 0 → r ≡ gathered_fault c.count c.first a
          → r ≡ applications_judged room store made ps rules c.count (take c.count c.pairs) c.first
      unfolding applications_judged gathered_fault rest_fault
      applications_passed rules r y e =
          rw (← applications_are, eq-eqb b.number 0 z, eq-eqb rules.number 0 y) (rw (follows.listed.own, follows.clashes, told_clash c.count (length (applications room store made))) at e)

-- ---- the components

module _ (section n : ℕ) (r : Refusal) where
  pub length_many : 64 < n → r ≡ refusal_at section 25 64 → r ≡ length_fault section n
  unfolding length_fault
  length_many h e = rw (lt-ltb 64 n h) e

  pub length_few : n ≤ 64 → r ≡ refusal_at 0 0 0 → r ≡ length_fault section n
  unfolding length_fault
  length_few h e = rw (le-ltb 64 n h) e

module _ (room store : Seq ℕ) (made : ℕ) (l : List) (el : l ≡ component_list room store made) (n : ℕ) (hn : Counts room l.end l.place n)
    (s m a : Refusal) (es : s ≡ in_section 4 l.fault) (em : m ≡ length_fault 4 n) (ea : a ≡ earlier s m) where
  list_are : (a.number ≡ 0 → ⊥) → a ≡ verdicts.component_fault room store made of01
  unfolding length_fault
  list_are z =
      on (ltb 64 n)
      (λ f. components_judged_lem room store made of01 l m s a el (comps_many room store made n l hn 64 32 m (ltb-true 64 n f) (em ∙ rw f)) es ea)
      (λ f.
      let w : m ≡ refusal_at 0 0 0 = em ∙ rw f in
      on (eqb s.number 0)
      (λ e. let y : a ≡ refusal_at 0 0 0 = ea ∙ rw e w in absurd (z (ap (λ (x : Refusal). x.number) y)))
      (λ e. components_judged_lem room store made of01 l (entries.components room store made l 64 32) s a el refl es (ea ∙ rw e)))

  pub list_refused : (ps : Seq Partition) (rules : Refusal) → (a.number ≡ 0 → ⊥) → a ≡ components_judged room store made ps rules
  unfolding components_judged
  list_refused ps rules z = rw (← list_are z, ne_eqb a.number 0 z)

  module _ (z : a.number ≡ 0) where
    few : n ≤ 64
    unfolding length_fault
    few =
        let y : m.number ≡ 0 = (earlier_clear s m (rw (← ea) z)).1 in
        on (ltb 64 n) (λ f. let x : ◌≡◌ {A = ℕ} 25 0 = rw (em, f) at y in absurd (omega arith)) (λ f. ltb-false 64 n f)

    pub components_counted : Rooms room made → Counted room made l.place l.end
    components_counted h =
        record { rooms = h; within = (components_among room store made l h el).end; few = omega (arith, few, items_count room l.end l.place, hn.is) }

    module _ (parts : Seq (Seq ℕ)) (c : Gathered) (g : Components room store made l.place l.end parts c) where
      components_are : c.fault ≡ verdicts.component_fault room store made of01
      components_are =
          components_judged_lem room store made of01 l c.fault s c.fault el (comps_few room store made n l hn 64 32 c.fault few g.fault) es
          (rw (eq-eqb s.number 0 (earlier_clear s m (rw (← ea) z)).0))

      module _ (y : c.fault.number ≡ 0) where
        gathers : Gathers room store made parts (components room store made) c
        gathers =
            let ns = items room l.end l.place 0 in
            rw el at (rw (eq-eqb c.fault.number 0 y, take_all (length ns) ns (omega arith)) at g.gathers)

        pairs_are : take c.count c.pairs ≡ map (λ n. (component_at room store made parts n).pair) (components room store made)
        pairs_are =
            let pairs = map (λ n. (component_at room store made parts n).pair) (components room store made) in
            let e : c.count ≡ length pairs = gathers.listed.is ∙ sym (length-map (components room store made) (λ n. (component_at room store made parts n).pair)) in
            rw (e, gathers.pairs) (take-append_seam pairs (replicate (128 - length (components room store made)) gathered.blank))

        pub components_few : Few c
        components_few = record { few = omega (arith, gathers.listed.is, gathers.listed.few) }

    module _ (ps : Seq Partition) (c : Gathered) (g : Components room store made l.place l.end (map (part_name store) ps) c) where
      abbrev are : c.fault ≡ verdicts.component_fault room store made of01
      are = components_are (map (part_name store) ps) c g

      pub components_refused : (rules : Refusal) → (c.fault.number ≡ 0 → ⊥) → c.fault ≡ components_judged room store made ps rules
      unfolding components_judged
      components_refused rules y = rw (← are, ne_eqb c.fault.number 0 y)

      pub components_passed : c.fault.number ≡ 0 → (rules own f r : Refusal) → f ≡ counted_fault (at_entry c.own) c.count → own ≡ earlier rules f
          → r ≡ applications_judged room store made ps own c.count (take c.count c.pairs) c.first → r ≡ components_judged room store made ps rules
      unfolding components_judged applications_judged lists_fault
      components_passed y rules own f r ef eo er =
          let rest = rest_fault room store made ps c.count (take c.count c.pairs) c.first in
          let all = gathers (map (part_name store) ps) c g y in
          let e : earlier own rest ≡ earlier rules (earlier f rest) = rw eo (sym (earlier_two rules f rest)) in
          let d : earlier f rest ≡ lists_fault room store made ps = rw (ef, pairs_are (map (part_name store) ps) c g y, all.listed.own, all.listed.is, counted_is, all.first) in
          rw (← are, eq-eqb c.fault.number 0 y) (rw (e, d) at er)

-- ---- the partitions

-- where no entry has a fault a list is what its numbers give
each_fine : {Y : Type 0} (fault : ℕ → ℕ) (given : ℕ → Y) (section : ℕ) (ns : Seq ℕ) (i : ℕ) → whole.Clear fault ns → each (reader fault given section) section i ns ≡ accepted (map given ns)
each_fine fault given section [] i c = refl
each_fine fault given section (n ∷ ns) i c = rw (c.0, each_fine fault given section ns (i + 1) c.1)

listed_fine : {Y : Type 0} (fault : ℕ → ℕ) (given : ℕ → Y) (section : ℕ) (ns : Seq ℕ) (limit : ℕ) → (refusal_of (listed (reader fault given section) section limit ns)).number ≡ 0
    → listed (reader fault given section) section limit ns ≡ accepted (map given ns)
unfolding listed
listed_fine fault given section ns limit z =
    rw (le-ltb limit (length ns) (listed_few fault given section ns limit z)) (each_fine fault given section ns 0 (listed_clear fault given section ns limit z))

module _ (room store : Seq ℕ) (made : ℕ) where
  abbrev partitions_read : Seq Partition
  partitions_read = map (λ n. (partition_at room store made n).partition) (partition_numbers room store made (fields_of room made 1))

  module _ (l : List) (p : Partitions) (s b : Refusal) (el : l ≡ partition_list room store made) (q : Partitioned (partitions room store made l 32) p) (es : s ≡ in_section 3 l.fault) (eb : b ≡ earlier s p.fault) where
    partitions_are : b ≡ verdicts.partition_fault room store made of01
    partitions_are = partitions_judged_lem room store made of01 l p s b el q es eb

    pub partitions_refused : (chip : Chip) (rules : Refusal) → (b.number ≡ 0 → ⊥) → b ≡ partitions_judged room store made chip rules
    unfolding partitions_judged
    partitions_refused chip rules z = rw (← partitions_are, ne_eqb b.number 0 z)

    module _ (z : b.number ≡ 0) where
      parts_given : Partitioned (accepted partitions_read) p
      parts_given =
          let y : p.fault.number ≡ 0 = (earlier_clear s p.fault (rw (← eb) z)).1 in
          let w : (refusal_of (partitions room store made (partition_list room store made) 32)).number ≡ 0 = rw (partitioned_fault (partitions room store made l 32) p q, el) at y in
          let e : partitions room store made (partition_list room store made) 32 ≡ accepted partitions_read
          = listed_fine (λ n. (partition_at room store made n).fault) (λ n. (partition_at room store made n).partition) 3 (partition_numbers room store made (fields_of room made 1)) 32 w in
          rw (el, e) at q

      pub parts_fit : p.count ≤ 32
      parts_fit = omega (arith, parts_given.1, parts_given.2)

      parts_are : take p.count p.items ≡ partitions_read
      parts_are = rw (parts_given.1, parts_given.3) (take-append_seam partitions_read (replicate (32 - length partitions_read) blank))

      pub partitions_passed : (chip : Chip) (f : Fault) (rules own a r : Refusal) → f ≡ fault_of (meant.layout (chip_meant chip) (map (part_meant store) (take p.count p.items)))
          → a ≡ in_entry 3 f → own ≡ earlier rules a → r ≡ components_judged room store made (take p.count p.items) own → r ≡ partitions_judged room store made chip rules
      unfolding partitions_judged components_judged layout_fault
      partitions_passed chip f rules own a r ef ea eo er =
          let lists = lists_fault room store made partitions_read in
          let e : earlier own lists ≡ earlier rules (earlier a lists) = rw eo (sym (earlier_two rules a lists)) in
          let d : a ≡ in_entry 3 (fault_of (meant.layout (chip_meant chip) (map (part_meant store) partitions_read))) = ea ∙ ap (in_entry 3) (ef ∙ rw parts_are) in
          rw (← partitions_are, eq-eqb b.number 0 z, ← d) (rw (parts_are, e) at er)

-- ---- validation

module _ (name store tree : Seq ℕ) (made : ℕ) (h : Rooms tree made) where
  low : (validating name tree store made).place ≤ 70000
  low =
      let v = verdicts.verdict tree store made name of01 in
      on (eqb v.number 0)
      (λ e. rw e (rules_low tree store made name (eqb-true v.number 0 e)))
      (λ e. rw e (verdict_told name store tree made of01 v refl refl h).low)

  told_is : (r : Refusal) → r ≡ validating name tree store made → Told (validating name tree store made) r
  told_is r e = record { is = e; low = rw e low }

  module _ (root : Fields) (lent : Text) (f : Front) (er : root ≡ fields_of tree made 1) (el : lent ≡ lent_text name) (ef : f ≡ front_read tree store made root lent) where
    front_is : f ≡ front_read tree store made (fields_of tree made 1) (lent_text name)
    front_is = ef ∙ rw (er, el)

    pub front_fronted : fronts.Fronted f.board f.image
    front_fronted = rw ef (front_plain tree store made root lent)

    pub front_told : (f.fault.number ≡ 0 → ⊥) → Told (validating name tree store made) f.fault
    unfolding refused.verdict
    front_told z = told_is f.fault (rw (← front_is, ne_eqb f.fault.number 0 z, ne_eqb f.fault.number 0 z))

    pub all_told : f.fault.number ≡ 0 → (rules r : Refusal) → rules ≡ fronts.ruled store name f.board f.image → r ≡ partitions_judged tree store made f.board.chip rules
        → Told (validating name tree store made) r
    unfolding refused.verdict faults.verdict partitions_judged
    all_told z rules r e er =
        let p = verdicts.partition_fault tree store made of01 in
        let c = verdicts.component_fault tree store made of01 in
        let a = verdicts.application_fault tree store made of01 in
        let v = earlier rules (layout_fault tree store made f.board.chip) in
        let d : r ≡ earlier (earlier p (earlier c a)) v = er ∙ ap (earlier p) (earlier_two c a v) ∙ earlier_two p (earlier c a) v in
        told_is r (rw (← front_is, eq-eqb f.fault.number 0 z, ← e) d)
