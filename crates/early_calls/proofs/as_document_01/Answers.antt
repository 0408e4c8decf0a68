-- `early_calls::as_document_01` meets its contract: the theorem of Theorem.antt. Assumes nothing.
use Rattle.early_calls.proofs.Theorem.{as_document_01}
use Rattle.early_calls.proofs.as_document_01.Goals as goal

pub returns : goal.returns
returns c = as_document_01
