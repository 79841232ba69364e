-- Level 2 of the rules: the first refusal in 01's order, over marks and packages.
use Rattle.std.specs.Prelude.{ℕ, ◌+◌, ◌-◌, Bool, Option, None, Some, List as Seq, [], map, ◌++◌, eqb, ltb, length, take}
use Rattle.meaning.specs.Base.{pick, nil?}
use Rattle.meaning.specs.Limits.{of01}
use Rattle.meaning.specs.Layout as meant
use Rattle.tree.specs.Doors.{fields_of}
use Rattle.schema.specs.declared.Chip.{Chip}
use Rattle.schema.specs.declared.Partition.{Partition}
use Rattle.schema.specs.Words.{chip_meant}
use Rattle.parse.specs.declared.Refusal.{Refusal}
use Rattle.parse.specs.declared.entry.Partitions.{Partitions}
use Rattle.parse.specs.Refusals.{earlier}
use Rattle.parse.specs.Entries.{refusal_at, partition_at}
use Rattle.parse.specs.Front.{front_read}
use Rattle.parse.specs.Refused.{lent_text, partition_numbers}
use Rattle.parse.specs.Verdict as verdicts
use Rattle.meaning.specs.declared.Refused.{Refused}
use Rattle.turns.specs.declared.Mark.{Mark}
use Rattle.turns.specs.Marks.{Fault, at_entry, any_of, first_hit, fault_of, judged}
use Rattle.layout.specs.Parts.{part_name, part_meant}
use Rattle.validate.specs.declared.uses.Pair.{Pair}
use Rattle.validate.specs.declared.gather.Gathered.{Gathered}
use Rattle.validate.specs.declared.gather.Applied.{Applied}
use Rattle.validate.specs.Clashes.{clash}
use Rattle.validate.specs.Entries.{component_at, application_at}
use Rattle.validate.specs.Fronts as fronts
use Rattle.validate.specs.Gathered.{fault_at, components, applications}

-- ---- one group

-- a fault among the entries of a section
unfoldable pub in_entry : ℕ → Fault → Refusal
in_entry section f = fault_at section f.number f.place

-- 25, of a list that may have 64 entries
unfoldable pub length_fault : ℕ → ℕ → Refusal
length_fault section n = pick (ltb 64 n) (refusal_at section 25 64) (refusal_at 0 0 0)

-- 50 to 59
unfoldable pub components_fault : Seq ℕ → Seq (Mark Refused) → Refusal
components_fault store ms = pick (nil? ms) (refusal_at 4 50 0) (in_entry 4 (judged 51 store ms))

-- 50 to 59, of as many as were gathered and the first fault of their marks
unfoldable pub counted_fault : Fault → ℕ → Refusal
counted_fault own n = pick (eqb n 0) (refusal_at 4 50 0) (in_entry 4 own)

-- 61 to 67
abbrev pub applications_fault : Seq ℕ → Seq (Mark Refused) → Refusal
applications_fault store ms = in_entry 5 (judged 65 store ms)

-- 70
abbrev pub boot_fault : Bool → Refusal
boot_fault first = pick first (refusal_at 0 0 0) (refusal_at 4 70 0)

-- 60: entry number at of all, of which the first are components
unfoldable pub clash_fault : ℕ → ℕ → ℕ → Refusal
clash_fault cs all at = pick (ltb at cs) (refusal_at 4 60 at) (pick (ltb at all) (refusal_at 5 60 (at - cs)) (refusal_at 0 0 0))

-- the same of the first entry that clashes, where there is one
abbrev pub clash_told : ℕ → Option ℕ → Refusal
clash_told cs None = refusal_at 0 0 0
clash_told cs (Some at) = pick (ltb at cs) (refusal_at 4 60 at) (refusal_at 5 60 (at - cs))

-- 60 to 70, of applications that were gathered after components
unfoldable pub gathered_fault : ℕ → Bool → Applied → Refusal
gathered_fault cs first a = earlier (clash_told cs a.clash) (earlier (in_entry 5 (at_entry a.own)) (boot_fault first))

module _ (room store : Seq ℕ) (made : ℕ) where
  -- ---- all of them, the partitions given

  module _ (ps : Seq Partition) where
    abbrev names : Seq (Seq ℕ)
    names = map (part_name store) ps

    abbrev pub component_marks : Seq (Mark Refused)
    component_marks = map (λ n. (component_at room store made names n).mark) (components room store made)

    abbrev pub application_marks : Seq (Mark Refused)
    application_marks = map (λ n. (application_at room store made ps n).mark) (applications room store made)

    abbrev pub component_pairs : Seq Pair
    component_pairs = map (λ n. (component_at room store made names n).pair) (components room store made)

    abbrev pub application_pairs : Seq Pair
    application_pairs = map (λ n. (application_at room store made ps n).pair) (applications room store made)

    -- 60 to 70, after components of which one lies in the first partition or none
    unfoldable pub rest_fault : ℕ → Seq Pair → Bool → Refusal
    rest_fault cs pairs first =
        let apps = length (applications room store made) in
        earlier (clash_fault cs (cs + apps) (first_hit (clash room store made) [] (pairs ++ application_pairs)))
        (earlier (applications_fault store application_marks) (boot_fault first))

    -- 50 to 70
    unfoldable pub lists_fault : Refusal
    lists_fault =
        earlier (components_fault store component_marks)
        (rest_fault (length (components room store made)) component_pairs (any_of (λ n. (component_at room store made names n).first) (components room store made)))

    -- records before rules, those that were judged in front and those after
    unfoldable pub applications_judged : Refusal → ℕ → Seq Pair → Bool → Refusal
    applications_judged rules cs pairs first = earlier (verdicts.application_fault room store made of01) (earlier rules (rest_fault cs pairs first))

    unfoldable pub components_judged : Refusal → Refusal
    components_judged rules =
        earlier (verdicts.component_fault room store made of01) (earlier (verdicts.application_fault room store made of01) (earlier rules lists_fault))

  -- ---- with the partitions that were read

  abbrev pub components_after : Partitions → Refusal → Refusal
  components_after p rules = components_judged (take p.count p.items) rules

  abbrev pub applications_after : Partitions → Refusal → Gathered → Refusal
  applications_after p rules c = applications_judged (take p.count p.items) rules c.count (take c.count c.pairs) c.first

  -- ---- of a preset

  -- 40 to 70
  unfoldable pub layout_fault : Chip → Refusal
  layout_fault chip =
      let ps = map (λ n. (partition_at room store made n).partition) (partition_numbers room store made (fields_of room made 1)) in
      earlier (in_entry 3 (fault_of (meant.layout (chip_meant chip) (map (part_meant store) ps)))) (lists_fault ps)

  -- records before rules
  unfoldable pub partitions_judged : Chip → Refusal → Refusal
  partitions_judged chip rules =
      earlier (verdicts.partition_fault room store made of01)
      (earlier (verdicts.component_fault room store made of01) (earlier (verdicts.application_fault room store made of01) (earlier rules (layout_fault chip))))

  -- 30 to 70
  unfoldable pub verdict : Seq ℕ → Refusal
  verdict name =
      let f = front_read room store made (fields_of room made 1) (lent_text name) in
      earlier (fronts.ruled store name f.board f.image) (layout_fault f.board.chip)
