use borrow.Author.Rules.{rules}
use Rattle.parse.proofs.Filing.{ends}
use Rattle.parse.proofs.file.piece_end.Goals as goal

pub returns : goal.returns
returns c = search (rules, ends)
