use Rattle.host.proofs.Presenting.{made_fits, line_fits, fine_out, fault_out}
use borrow.Author.Rules.{rules}
use Rattle.host.proofs.documents.document_read.Goals as goal

pub overflow_cast-result : goal.overflow_cast-result
overflow_cast-result c = search (rules, made_fits)

pub overflow_cast-result-in-Err : goal.overflow_cast-result-in-Err
overflow_cast-result-in-Err c = search (rules, line_fits)

pub returns-in-Ok : goal.returns-in-Ok
returns-in-Ok c = search (rules, fine_out)

pub returns-in-Err : goal.returns-in-Err
returns-in-Err c = search (rules, fault_out)
