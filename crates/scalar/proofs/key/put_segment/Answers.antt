use Rattle.std.proofs.Common.{rules}
use Rattle.scalar.proofs.Segmenting.{trimmed_part, trimmed_room}
use Rattle.scalar.proofs.key.put_segment.Goals as goal

pub put_trimmed-requires : goal.put_trimmed-requires
put_trimmed-requires c = search (rules, trimmed_room)

pub returns : goal.returns
returns c = search (rules, trimmed_part)
