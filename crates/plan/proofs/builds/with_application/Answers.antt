use Rattle.std.proofs.Common.{◌≡◌, length}
use borrow.Author.Rules.{rules}
use Rattle.plan.proofs.Building.{follows}
use Rattle.plan.proofs.builds.with_application.Goals as goal

pub returns : goal.returns
returns c =
    let w : length c.args.u.items ≡ 129 = search rules in
    follows _ c.requires.1 w _ _ _ _ _ c.application_use.ensures
