use Rattle.page.proofs.Pages.{adds_then}
use Rattle.page.proofs.Page.escape.Goals as goal

pub returns : goal.returns
returns c = adds_then c.byte.ensures c.byte-2.ensures
