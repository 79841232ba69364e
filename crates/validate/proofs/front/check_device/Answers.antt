use borrow.Author.Rules.{rules}
use borrow.Author.Tests.{not-false, not-true}
use Rattle.validate.proofs.Fronting.{device_media, device_platform, device_none}
use Rattle.validate.proofs.front.check_device.Goals as goal

pub returns-then-ne : goal.returns-then-ne
returns-then-ne c = search (rules, device_media)

pub returns-then-not-is : goal.returns-then-not-is
returns-then-not-is c = search (rules, not-true, device_platform)

pub returns : goal.returns
returns c = search (rules, not-false, device_none)
