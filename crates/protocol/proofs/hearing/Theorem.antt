-- Document 02, U5, all of it together.
use Rattle.protocol.specs.Termination.{Termination}
use Rattle.protocol.proofs.hearing.Hears.{hears}
use Rattle.protocol.proofs.hearing.Onward.{onward}
use Rattle.protocol.proofs.hearing.Lists.{met, waited}
use Rattle.protocol.proofs.hearing.Needed.{needed}

pub termination : Termination
termination = record { hears = hears; met = met; waited = waited; onward = onward; needed = needed }
