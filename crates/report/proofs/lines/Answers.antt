use Rattle.page.proofs.Pages.{adds_then}
use Rattle.report.proofs.lines.Goals as goal

pub returns : goal.returns
returns c = adds_then c.entries.ensures c.outcome.ensures
