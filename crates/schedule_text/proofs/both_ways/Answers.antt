use Rattle.schedule_text.proofs.RoundTrips.{both_ways}
use Rattle.schedule_text.proofs.both_ways.Goals as goal

pub returns : goal.returns
returns c = both_ways
