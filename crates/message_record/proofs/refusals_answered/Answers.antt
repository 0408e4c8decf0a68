use Rattle.message_record.proofs.Refusals.{refusals}
use Rattle.message_record.proofs.refusals_answered.Goals as goal

pub returns : goal.returns
returns c = refusals
