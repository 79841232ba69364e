use borrow.Author.Rules.{rules}
use Rattle.parse.specs.Views.{good_component}
use Rattle.parse.proofs.view.good_component.Goals as goal

pub returns : goal.returns
unfolding good_component
returns c = search rules
