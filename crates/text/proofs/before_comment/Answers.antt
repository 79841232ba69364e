use borrow.Author.Rules.{rules}
use Rattle.text.proofs.Scans.{found_none}
use Rattle.text.proofs.before_comment.Goals as goal

pub returns-then-find-line : goal.returns-then-find-line
returns-then-find-line c = search (rules, found_none)
