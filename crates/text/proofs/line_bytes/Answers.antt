use borrow.Author.Rules.{rules}
use Rattle.text.proofs.Laying.{whole_line, empty_line, cr_line, plain_line}
use Rattle.text.proofs.line_bytes.Goals.{else-n-s-via-then-n-s+then-n-gt0+else-s-n-eq13, else-n-s-via-then-n-s+else-n-gt0, else-n-s-via-else-n-s}
use Rattle.text.proofs.line_bytes.Goals as goal

pub returns-then-s-n-eq13 : goal.returns-then-s-n-eq13
returns-then-s-n-eq13 c = search (rules, cr_line)

pub returns-else-n-s : goal.returns-else-n-s
returns-else-n-s c =
    elim c.else-n-s.branch [
      | else-n-s-via-then-n-s+then-n-gt0+else-s-n-eq13 w ↦ search (rules, plain_line)
      | else-n-s-via-then-n-s+else-n-gt0 w ↦ search (rules, empty_line)
      | else-n-s-via-else-n-s w ↦ search (rules, whole_line)
    ]
