use Rattle.page.proofs.Pages.{adds_then}
use Rattle.report.proofs.entry_lines.Goals as goal

pub returns : goal.returns
returns c = adds_then c.ok.ensures (adds_then c.parts.ensures (adds_then c.comps.ensures c.apps.ensures))
