use Rattle.host.proofs.Recording.{preset_is}
use borrow.Author.Rules.{rules}
use Rattle.host.proofs.presets.preset_read.Goals as goal

pub returns : goal.returns
returns c = search (rules, preset_is)
