-- A layout: one law for each way out.
use Prim.Native.Nat.{ℕ, ◌≤◌}
use mathlib.Core.List.{List, [], ◌∷◌, map}
use mathlib.Core.Path.{◌≡◌, sym, ap, subst, ◌∙◌}
use native.Mathlib.Omega.{arith}
use lib.ListN.{length, get_or, take, drop}
use lib.Seq.{drop-cons}
use Rattle.std.proofs.Common.{Result}
use Rattle.meaning.specs.Schema as schemas
use Rattle.meaning.specs.Layout as meant
use Rattle.schema.specs.declared.Partition.{Partition}
use Rattle.meaning.specs.declared.Refused.{Refused}
use Rattle.meaning.specs.declared.Refused.TheVariants.{PartitionTwice}
use Rattle.turns.specs.declared.Mark.{Mark}
use Rattle.turns.specs.declared.EntryRefused.{EntryRefused}
use Rattle.turns.specs.Marks.{Fault, at_entry, judged, judged_by, fault_of}
use Rattle.turns.specs.Refusals.{judged_told}
use Rattle.layout.specs.Parts.{part_meant, marks_from, OnBlocks}
use Rattle.layout.specs.Layouts.{layout_none, layout_off, layout_judged}

block_some : (chip : schemas.Chip) → 1 ≤ schemas.erase_for chip
unfolding schemas.erase_for schemas.media_for schemas.erase
block_some schemas.d13x = omega arith
block_some schemas.d21x = omega arith

pub on_blocks : (chip : schemas.Chip) (block n : ℕ) → n ≤ 32 → block ≡ schemas.erase_for chip → OnBlocks n block
on_blocks chip block n h e = record { fits = h; some = rw e (block_some chip) }

module _ (chip : schemas.Chip) (bytes : List ℕ) (ps : List Partition) where
  pub check_none : length ps ≡ 0 → record { number = 40; place = 0 } ≡ fault_of (meant.layout chip (map (part_meant bytes) ps))
  check_none e = go ps e
    where
      go : (qs : List Partition) → length qs ≡ 0 → record { number = 40; place = 0 } ≡ fault_of (meant.layout chip (map (part_meant bytes) qs))
      go [] h = layout_none chip
      go (q ∷ qs) h = absurd (omega arith)

  module _ (z : length ps ≡ 0 → ⊥) (d : Partition) where
    first_of : ps ≡ get_or ps 0 d ∷ drop 1 ps
    first_of = drop-cons ps 0 d (omega arith)

    pub check_off : ((get_or ps 0 d).offset ≡ 0 → ⊥) → record { number = 41; place = 0 } ≡ fault_of (meant.layout chip (map (part_meant bytes) ps))
    check_off h = subst (λ (qs : List Partition). record { number = 41; place = 0 } ≡ fault_of (meant.layout chip (map (part_meant bytes) qs))) (sym first_of) (layout_off chip bytes (get_or ps 0 d) (drop 1 ps) h)

    pub check_judged : (ms : List (Mark Refused)) (block : ℕ) (r : Fault) → take (length ps) ms ≡ marks_from bytes block 0 ps → block ≡ schemas.erase_for chip
        → (get_or ps 0 d).offset ≡ 0 → r ≡ judged 43 bytes (take (length ps) ms) → r ≡ fault_of (meant.layout chip (map (part_meant bytes) ps))
    check_judged ms block r f e h g =
        let a : r ≡ judged 43 bytes (marks_from bytes (schemas.erase_for chip) 0 ps) = rw (f, e) at g in
        a ∙ subst (λ (qs : List Partition). judged 43 bytes (marks_from bytes (schemas.erase_for chip) 0 qs) ≡ fault_of (meant.layout chip (map (part_meant bytes) qs))) (sym first_of)
        (layout_judged chip bytes (get_or ps 0 d) (drop 1 ps) h)

    pub check_judged_by : (ms : List (Mark Refused)) (block : ℕ) (r : Result (Unit {0}) (EntryRefused Refused)) → take (length ps) ms ≡ marks_from bytes block 0 ps → block ≡ schemas.erase_for chip
        → (get_or ps 0 d).offset ≡ 0 → r ≡ judged_by PartitionTwice bytes (take (length ps) ms) → at_entry r ≡ fault_of (meant.layout chip (map (part_meant bytes) ps))
    check_judged_by ms block r f e h g = check_judged ms block (at_entry r) f e h (ap at_entry g ∙ judged_told PartitionTwice bytes (take (length ps) ms))
