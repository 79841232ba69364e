use borrow.Author.Rules.{rules}
use Rattle.parse.proofs.Filing.{name_up, name_none, name_is}
use Rattle.parse.proofs.file.file_name.Goals as goal

pub returns-then-same : goal.returns-then-same
returns-then-same c = search (rules, name_up)

pub returns-in_err-p : goal.returns-in_err-p
returns-in_err-p c = search (rules, name_none)

pub returns : goal.returns
returns c = search (rules, name_is)
