use borrow.Author.Rules.{rules}
use Rattle.validate.proofs.Gathering.{apps_none_by, apps_many_by, apps_on}
use Rattle.validate.proofs.gather.each_application.Goals.{in-Some+then-i-ge-APPLICATIONS, in_default}
use Rattle.validate.proofs.gather.each_application.Goals as goal

pub loop-step-preserved : goal.loop-step-preserved
loop-step-preserved c = search (rules, apps_on)

pub returns : goal.returns
returns c =
    elim c.match-next_key.branch [
      | in-Some+then-i-ge-APPLICATIONS w ↦ search (rules, apps_many_by)
      | in_default w ↦ search (rules, apps_none_by)
    ]
