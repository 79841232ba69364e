use Rattle.host.proofs.Recording.{valid_is}
use borrow.Author.Rules.{rules}
use Rattle.host.proofs.presets.preset_validate.Goals as goal

pub returns : goal.returns
returns c = search (rules, valid_is)
