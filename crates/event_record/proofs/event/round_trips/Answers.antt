use Rattle.event_record.proofs.RoundTrips.{promises}
use Rattle.event_record.proofs.event.round_trips.Goals as goal

pub returns : goal.returns
returns c = promises
