use Rattle.page.proofs.Pages.{adds_then}
use Rattle.page.proofs.Page.unclosed.Goals as goal

pub returns : goal.returns
returns c = adds_then c.byte.ensures (adds_then c.byte-2.ensures c.inside.ensures)
