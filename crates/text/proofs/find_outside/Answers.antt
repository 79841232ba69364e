use borrow.Author.Rules.{rules}
use Rattle.text.proofs.Scans.{seek_hit, seek_on, seek_string}
use Rattle.text.proofs.find_outside.Goals.{then-s-i-eq34, else-s-i-eq34}
use Rattle.text.proofs.find_outside.Goals as goal

pub loop-i-preserved : goal.loop-i-preserved
loop-i-preserved c =
    elim c.if-s-i-eq34.branch [
      | then-s-i-eq34 w ↦ rw w.i-is (search (rules, seek_string))
      | else-s-i-eq34 w ↦ rw w.i-is (search (rules, seek_on))
    ]

pub returns-else-s-i : goal.returns-else-s-i
returns-else-s-i c = search (rules, seek_hit)
