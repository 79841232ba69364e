use borrow.Author.Rules.{rules}
use Rattle.parse.proofs.Judging.{root_spread}
use Rattle.plan.proofs.Stemming.{boot_stem_led, boot_stem_board}
use Rattle.plan.proofs.stem.boot_stem.Goals as goal

pub returns-then-is_given : goal.returns-then-is_given
returns-then-is_given c = search (rules, boot_stem_led)

pub read_front-f-requires : goal.read_front-f-requires
read_front-f-requires c = search (rules, root_spread)

pub returns : goal.returns
returns c = search (rules, boot_stem_board)
