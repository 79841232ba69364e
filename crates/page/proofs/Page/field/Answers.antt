use Rattle.page.proofs.Pages.{adds_then}
use Rattle.page.proofs.Page.field.Goals as goal

pub returns : goal.returns
returns c = adds_then c.byte.ensures c.put.ensures
