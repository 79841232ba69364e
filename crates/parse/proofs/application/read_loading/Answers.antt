use borrow.Author.Rules.{rules}
use Rattle.parse.proofs.Applying.{loading_is}
use Rattle.parse.proofs.application.read_loading.Goals as goal

pub returns : goal.returns
returns c = search (rules, loading_is)
