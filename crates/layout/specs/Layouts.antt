-- A layout as the code takes it: partitions by their marks, and what a fault says of its verdict.
use Rattle.std.specs.Prelude.{ℕ, ◌+◌, ◌%◌, Bool, true, false, Result, Ok, Err, ◌≡◌, eqb, ltb}
use mathlib.Core.List.{List, [], ◌∷◌, map}
use Rattle.std.proofs.Math.Path.{refl, ap}
use Rattle.std.proofs.Common.{sym, ◌∙◌, eq-eqb, ne_eqb}
use Rattle.meaning.specs.Base.{pick, nil?}
use Rattle.meaning.specs.declared.Refused.{Refused}
use Rattle.meaning.specs.declared.Refused.TheVariants.{EmptyPartitionName, NoSize, OffsetOffBlock, SizeOffBlock, Overlap, PastAddresses}
use Rattle.meaning.specs.Numbered.{told}
use Rattle.meaning.specs.Refusal.{in_partition}
use Rattle.meaning.specs.Schema as schemas
use Rattle.meaning.specs.Layout as meant
use Rattle.meaning.specs.Verdict as verdicts
use Rattle.meaning.specs.Verdict.{first_refusal, or_else, among, with_last, in_turn}
use Rattle.schema.specs.declared.Partition.{Partition}
use Rattle.turns.specs.Marks.{Fault, entry_fault, fault_of, mark_rule, noted, judged}
use Rattle.layout.specs.Parts.{part_name, part_meant, end_of, span_checked, mark_of, marks_from}
use Rattle.turns.specs.Turns.{Says, said_judged, said_and, turn_said, judged_fault}

layout_said : (chip : schemas.Chip) (ps : List schemas.Partition) → Says in_partition (fault_of (meant.layout chip ps)) (meant.layout chip ps)
unfolding meant.layout
layout_said chip [] = refl
layout_said chip (p ∷ ps) =
    said_and in_partition (verdicts.judged in_partition 0 (meant.start_fault p))
    (in_turn (meant.partition_fault (schemas.erase_for chip)) meant.passed in_partition 0 meant.nothing_before (p ∷ ps))
    (said_judged in_partition 0 (meant.start_fault p))
    (turn_said (meant.partition_fault (schemas.erase_for chip)) meant.passed in_partition 0 meant.nothing_before (p ∷ ps))

pub layout_verdict : (chip : schemas.Chip) (ps : List schemas.Partition) (r : Fault) → r ≡ fault_of (meant.layout chip ps) → Says in_partition r (meant.layout chip ps)
layout_verdict chip ps r e = rw e (layout_said chip ps)

-- ---- partitions by their marks

-- the tests in the order of the code
tests_turned : (n a z o s l h : Bool)
    → or_else (pick n 42 (pick a 43 0)) (or_else (pick z 44 (pick o (pick s 0 46) 45)) (pick l 47 (pick h 0 48)))
    ≡ or_else (told (pick {X = Result (Unit {0}) Refused} n (Err EmptyPartitionName) (Ok tt)))
    (or_else (pick a 43 0)
    (told (pick {X = Result (Unit {0}) Refused} z (Err NoSize) (pick o (pick s (pick l (Err Overlap) (pick h (Ok tt) (Err PastAddresses))) (Err SizeOffBlock)) (Err OffsetOffBlock)))))
tests_turned true a z o s l h = refl
tests_turned false true z o s l h = refl
tests_turned false false true o s l h = refl
tests_turned false false false false s l h = refl
tests_turned false false false true false l h = refl
tests_turned false false false true true true h = refl
tests_turned false false false true true false true = refl
tests_turned false false false true true false false = refl

module _ (bytes : List ℕ) (block : ℕ) where
  part_rule : (names : List (List ℕ)) (end : ℕ) (p : Partition)
      → meant.partition_fault block (record { names = names; end = end }) (part_meant bytes p) ≡ mark_rule 43 bytes names (mark_of bytes block end p)
  unfolding meant.partition_fault meant.name_fault meant.block_fault meant.span_fault entry_fault span_checked
  part_rule names end p =
      tests_turned (nil? (part_name bytes p)) (among (part_name bytes p) names) (eqb p.size 0) (eqb (p.offset % block) 0) (eqb (p.size % block) 0) (ltb p.offset end) (ltb (end_of p) 4294967296)

  part_turn : (section n : ℕ) (names : List (List ℕ)) (end : ℕ) (ps : List Partition)
      → in_turn (meant.partition_fault block) meant.passed section n (record { names = names; end = end }) (map (part_meant bytes) ps)
      ≡ in_turn (mark_rule 43 bytes) (noted bytes) section n names (marks_from bytes block end ps)
  part_turn section n names end [] = refl
  part_turn section n names end (p ∷ ps) = rw (part_rule names end p, part_turn section (n + 1) (with_last names (part_name bytes p)) (end_of p) ps)

pub layout_none : (chip : schemas.Chip) → record { number = 40; place = 0 } ≡ fault_of (meant.layout chip [])
unfolding meant.layout
layout_none chip = refl

module _ (chip : schemas.Chip) (bytes : List ℕ) (p : Partition) (ps : List Partition) where
  pub layout_off : (p.offset ≡ 0 → ⊥) → record { number = 41; place = 0 } ≡ fault_of (meant.layout chip (map (part_meant bytes) (p ∷ ps)))
  unfolding meant.layout meant.start_fault
  layout_off h = rw (ne_eqb p.offset 0 h)

  pub layout_judged : p.offset ≡ 0 → judged 43 bytes (marks_from bytes (schemas.erase_for chip) 0 (p ∷ ps)) ≡ fault_of (meant.layout chip (map (part_meant bytes) (p ∷ ps)))
  unfolding meant.layout meant.start_fault
  layout_judged e =
      rw (eq-eqb p.offset 0 e) (sym (judged_fault 43 bytes in_partition (marks_from bytes (schemas.erase_for chip) 0 (p ∷ ps)))
      ∙ ap fault_of (sym (part_turn bytes (schemas.erase_for chip) in_partition 0 [] 0 (p ∷ ps))))
