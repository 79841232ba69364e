-- 01, "Refusal numbers" 40 to 48, over a list of partition records and a chip: it needs no preset.
use Rattle.std.specs.Prelude.{ℕ, ◌+◌, ◌%◌, List, [], ◌∷◌, eqb, ltb}
use Rattle.meaning.specs.Base.{pick, nil?}
use Rattle.meaning.specs.Refusal.{refused, numbered, in_partition}
use Rattle.meaning.specs.Schema.{Chip, Partition, erase_for}
use Rattle.meaning.specs.Verdict.{Verdict, first_refusal, judged, or_else, among, in_turn, with_last}

-- what the partitions before one leave: their names and the previous end
pub record Before : Type 0 where
  pub names : List (List ℕ)
  pub end : ℕ

abbrev pub nothing_before : Before
nothing_before = record { names = []; end = 0 }

-- the end is the sum, without wrap-around
abbrev pub end_of : Partition → ℕ
end_of p = p.offset + p.size

abbrev pub passed : Before → Partition → Before
passed b p = record { names = with_last b.names p.name; end = end_of p }

-- 42, 43: "empty name; duplicate"
unfoldable pub name_fault : List (List ℕ) → List ℕ → ℕ
name_fault names name = pick (nil? name) 42 (pick (among name names) 43 0)

-- 44, 45, 46: "size 0; offset off the erase block; size off it"
unfoldable pub block_fault : ℕ → Partition → ℕ
block_fault block p =
    pick (eqb p.size 0) 44
    (pick (eqb (p.offset % block) 0) (pick (eqb (p.size % block) 0) 0 46) 45)

-- 47, 48: "starts before the previous end; end at or above 2^32"
unfoldable pub span_fault : ℕ → Partition → ℕ
span_fault end p = pick (ltb p.offset end) 47 (pick (ltb (end_of p) 4294967296) 0 48)

-- "per partition"
unfoldable pub partition_fault : ℕ → Before → Partition → ℕ
partition_fault block b p = or_else (name_fault b.names p.name) (or_else (block_fault block p) (span_fault b.end p))

-- 41: "first offset not 0"
unfoldable pub start_fault : Partition → ℕ
start_fault p = pick (eqb p.offset 0) 0 41

-- 40: "no partitions"
unfoldable pub layout : Chip → List Partition → Verdict
layout chip [] = refused (numbered 40) in_partition 0
layout chip (p ∷ ps) =
    first_refusal (judged in_partition 0 (start_fault p))
    (in_turn (partition_fault (erase_for chip)) passed in_partition 0 nothing_before (p ∷ ps))

unfoldable pub computes : Unit {0}
unfolding name_fault block_fault span_fault partition_fault start_fault layout Rattle.meaning.specs.Schema.computes
computes = tt
