use borrow.Author.Rules.{rules}
use Rattle.parse.proofs.Composing.{sources_are}
use Rattle.parse.proofs.component.read_sources.Goals as goal

pub returns : goal.returns
returns c = search (rules, sources_are)
