-- 01's documents and what is left in the rooms: for every limits and every text the same answer.
use Rattle.std.specs.Prelude.{◌≡◌, length}
use Rattle.meaning.specs.Tree.{table}
use Rattle.meaning.specs.Document.{Parsed}
use Rattle.values.specs.Doc.{Doc as DocS}
use Rattle.agree.specs.Steps.{Agree}

-- the rooms hold what 01 says of the text: its bytes, as many values as it makes, and slots that show its tree
pub record Holds (p : Parsed) (r : DocS) : Type 0 where
  pub bytes : r.bytes ≡ p.bytes
  pub made : p.made ≡ length r.slots
  pub tree : Agree r.bytes r.slots (table p.root)
