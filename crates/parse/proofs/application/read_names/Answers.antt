use Rattle.parse.proofs.Applying.{names_are}
use Rattle.parse.proofs.application.read_names.Goals as goal

pub returns : goal.returns
returns c =
    search (names_are, c.text-n.ensures, c.text-p.ensures, c.text-t.ensures, c.text-a.ensures, c.or-called.ensures, c.first_fault.ensures, c.first_fault-2.ensures, c.first_fault-3.ensures, c.or.ensures, c.aic.ensures, c.or-2.ensures, c.or-3.ensures)
