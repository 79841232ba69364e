use borrow.Author.Rules.{rules}
use Rattle.text.proofs.Scans.{quoting_on, quoting_out}
use Rattle.text.proofs.string_end.Goals as goal

pub returns-then-eq : goal.returns-then-eq
returns-then-eq c = search (rules, quoting_out)

pub loop-i-preserved : goal.loop-i-preserved
loop-i-preserved c = search (rules, quoting_on)
