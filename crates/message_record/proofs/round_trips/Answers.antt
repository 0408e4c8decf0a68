use Rattle.message_record.proofs.RoundTrips.{promises}
use Rattle.message_record.proofs.round_trips.Goals as goal

pub returns : goal.returns
returns c = promises
