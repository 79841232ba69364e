-- Level 2 of references: the partition that one finds.
use Rattle.std.specs.Prelude.{ℕ, true, false, List as Seq, [], map, ltb, length, get_or, Option, Some, None}
use Rattle.meaning.specs.Base.{pick}
use Rattle.meaning.specs.Refusal.{Answer, accepted, refused}
use Rattle.schema.specs.declared.Text.{Text}
use Rattle.schema.specs.declared.Partition.{Partition}
use Rattle.parse.specs.Entries.{partitions}
use Rattle.parse.specs.Views.{partition_list}
use Rattle.layout.specs.Parts.{part_name, aim}

-- the partitions that were read; none where one is wrong
abbrev pub given : Answer (Seq Partition) → Seq Partition
given (accepted ps) = ps
given (refused f section place) = []

abbrev pub none : Partition
none = record { from = 0; len = 0; offset = 0; size = 0; locked = false }

module _ (store : Seq ℕ) where
  unfoldable pub found : Seq Partition → Text → Option Partition
  found ps t =
      let at = aim true store (map (part_name store) ps) t in
      pick (ltb at (length ps)) (Some (get_or ps at none)) None

module _ (room store : Seq ℕ) (made : ℕ) where
  abbrev pub partition : Text → Option Partition
  partition t = found store (given (partitions room store made (partition_list room store made) 32)) t
