-- The events that change one station, with what is shared: those of one controller but for the events of ballots.
use mathlib.Core.Bool.{Bool, true, false}
use Rattle.model.specs.declared.Event.{Event}
use Rattle.model.specs.declared.Event.TheVariants.{Lock, Order, Cast, Deliver, Timeout, Decide, Stop, Save, Restore, OfBallots}

abbrev pub changes_station : Event → Bool
changes_station (Lock n f own) = false
changes_station (Order o) = false
changes_station (Cast i willing target) = true
changes_station (Deliver i j kind) = true
changes_station (Timeout i) = true
changes_station (Decide i move) = true
changes_station (Stop i) = true
changes_station (Save i) = true
changes_station (Restore i) = true
changes_station (OfBallots e) = false
