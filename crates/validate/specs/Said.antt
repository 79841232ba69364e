-- What the rules say of the rooms' records is what 01 says of the preset they stand for.
use Rattle.std.specs.Prelude.{ℕ, ◌≤◌, List as Seq, [], ◌∷◌, map, refl}
use Rattle.std.proofs.Math.Path.{◌≡◌}
use Rattle.std.proofs.Common.{sym, ap, arith, ne_eqb}
use Rattle.meaning.specs.Limits.{of01}
use Rattle.meaning.specs.Refusal.{accepted, refused, number_of}
use Rattle.meaning.specs.Schema as schemas
use Rattle.meaning.specs.Verdict.{Verdict, first_refusal}
use Rattle.meaning.specs.Layout.{layout}
use Rattle.meaning.specs.Rules as meant
use Rattle.tree.specs.Doors.{fields_of}
use Rattle.schema.specs.declared.Partition.{Partition}
use Rattle.schema.specs.Words.{chip_meant}
use Rattle.parse.specs.declared.Refusal.{Refusal}
use Rattle.parse.specs.Refusals.{earlier}
use Rattle.parse.specs.Entries.{partition_at}
use Rattle.parse.specs.Front.{front_read}
use Rattle.parse.specs.Refused.{lent_text, partition_numbers}
use Rattle.parse.specs.Whole.{preset_meant, partition_of, component_of, application_of}
use Rattle.parse.specs.Answers.{Says, table_number, says_after, says_by}
use Rattle.turns.specs.Marks.{any_of, fault_of}
use Rattle.layout.specs.Parts.{part_name, part_meant}
use Rattle.layout.specs.Layouts.{layout_verdict}
use Rattle.validate.specs.Entries.{component_at}
use Rattle.validate.specs.Gathered.{components, applications}
use Rattle.validate.specs.Faults as faults
use Rattle.validate.specs.Faults.{in_entry, boot_fault, rest_fault, lists_fault, layout_fault}
use Rattle.validate.specs.FrontSaid.{front_says}
use Rattle.validate.specs.EntrySaid.{components_say, applications_say, boot_says, in_entry_says}
use Rattle.validate.specs.ClashSaid.{features_say}

-- the second need only say what it says where the first is none
says_and : {v w : Verdict} {r s : Refusal} → Says v r tt → (v ≡ accepted tt → Says w s tt) → Says (first_refusal v w) (earlier r s) tt
says_and {v} {w} {r} {s} g h = go v refl g
  where
    go : (u : Verdict) → v ≡ u → Says u r tt → Says (first_refusal u w) (earlier r s) tt
    go (accepted t) e k = says_after (λ x. w) k (h e)
    go (refused f n p) e k =
        let d : r.number ≡ number_of f = ap (λ (q : Refusal). q.number) k.told_by.0 in
        let l : 1 ≤ number_of f = table_number f k.told_by.1 in
        says_by (sym (rw (ne_eqb r.number 0 (λ z. omega (arith, d, l))))) k

-- ---- partitions

module _ (room store : Seq ℕ) (made : ℕ) (name : Seq ℕ) where
  abbrev given : Seq ℕ → Seq Partition
  given ns = map (λ n. (partition_at room store made n).partition) ns

  abbrev meant_by : Seq ℕ → Seq schemas.Partition
  meant_by ns = map (partition_of room store made name) ns

  parts_named : (ns : Seq ℕ) → meant.partition_names (meant_by ns) ≡ map (part_name store) (given ns)
  parts_named [] = refl
  parts_named (n ∷ ns) = ap (λ (xs : Seq (Seq ℕ)). part_name store (partition_at room store made n).partition ∷ xs) (parts_named ns)

  parts_meant : (ns : Seq ℕ) → map (part_meant store) (given ns) ≡ meant_by ns
  parts_meant [] = refl
  parts_meant (n ∷ ns) = ap (λ (xs : Seq schemas.Partition). partition_of room store made name n ∷ xs) (parts_meant ns)

  module _ (chip : schemas.Chip) where
    layout_by : (ns : Seq ℕ) → Says (layout chip (meant_by ns)) (in_entry 3 (fault_of (layout chip (map (part_meant store) (given ns))))) tt
    layout_by ns = rw (parts_meant ns) (in_entry_says 3 (fault_of (layout chip (meant_by ns))) (layout chip (meant_by ns)) (layout_verdict chip (meant_by ns) (fault_of (layout chip (meant_by ns))) refl))

    no_layout : {G : Type 0} → layout chip [] ≡ accepted tt → G
    unfolding layout
    no_layout e = let z : ◌≡◌ {A = ℕ} 0 1 = cc in absurd (omega arith)

    -- a layout that passes has a first partition
    boot_by_lem : (ns ms : Seq ℕ) → layout chip (meant_by ns) ≡ accepted tt
        → Says (meant.boot_rule (map (part_name store) (given ns)) (map (component_of room store made name 32) ms))
        (boot_fault (any_of (λ n. (component_at room store made (map (part_name store) (given ns)) n).first) ms)) tt
    boot_by_lem [] ms e = no_layout e
    boot_by_lem (n ∷ ns) ms e = boot_says room store made name (part_name store (partition_at room store made n).partition) (map (part_name store) (given ns)) ms

  -- ---- all groups

  abbrev parts_in : Seq ℕ
  parts_in = partition_numbers room store made (fields_of room made 1)

  abbrev names : Seq (Seq ℕ)
  names = map (part_name store) (given parts_in)

  abbrev cs : Seq schemas.Component
  cs = map (component_of room store made name 32) (components room store made)

  abbrev apps : Seq schemas.Application
  apps = map (application_of room store made name 32) (applications room store made)

  lists_say : (chip : schemas.Chip) → layout chip (meant_by parts_in) ≡ accepted tt
      → Says
      (first_refusal (meant.component_rules (meant.partition_names (meant_by parts_in)) cs)
      (first_refusal (meant.feature_rules cs apps) (first_refusal (meant.application_rules (meant_by parts_in) apps) (meant.boot_rule (meant.partition_names (meant_by parts_in)) cs))))
      (lists_fault room store made (given parts_in)) tt
  unfolding lists_fault rest_fault
  lists_say chip e =
      rw (parts_named parts_in, ← parts_meant parts_in)
      (says_and (components_say room store made name names (components room store made))
      (λ _. says_and (features_say room store made name names (given parts_in) (components room store made) (applications room store made))
      (λ _. says_and (applications_say room store made name (given parts_in) (applications room store made)) (λ _. boot_by_lem chip parts_in (components room store made) e))))

  pub rules_say : Says (meant.rules (preset_meant room store made name (fields_of room made 1) of01 (lent_text name))) (faults.verdict room store made name) tt
  unfolding meant.rules faults.verdict layout_fault
  rules_say =
      let f = front_read room store made (fields_of room made 1) (lent_text name) in
      says_and (front_says store name f.board f.image)
      (λ _. says_and (layout_by (chip_meant f.board.chip) parts_in) (lists_say (chip_meant f.board.chip)))
