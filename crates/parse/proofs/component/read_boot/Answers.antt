use borrow.Author.Rules.{rules}
use Rattle.parse.proofs.Composing.{boot_is}
use Rattle.parse.proofs.component.read_boot.Goals as goal

pub returns : goal.returns
returns c = search (rules, boot_is)
