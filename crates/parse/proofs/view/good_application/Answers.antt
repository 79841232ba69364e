use borrow.Author.Rules.{rules}
use Rattle.parse.specs.Views.{good_application}
use Rattle.parse.proofs.view.good_application.Goals as goal

pub returns : goal.returns
unfolding good_application
returns c = search rules
