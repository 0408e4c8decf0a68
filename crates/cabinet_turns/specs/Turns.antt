-- What each accepted call makes of a cabinet: the controller's answer (`protocol`, Calls) is taken over with what it sends.
use Rattle.std.specs.Prelude.{ℕ, cond, leb, replicate}
use Rattle.ground.specs.Limit.{limit}
use Rattle.votes.specs.VoteSets.{empty}
use Rattle.model.specs.declared.Outcome.TheVariants.{None}
use Rattle.model.specs.declared.Checkpoint.{Checkpoint}
use Rattle.records.specs.Codes.{flag_of}
use Rattle.checkpoint_record.specs.Checkpoints.{ReadCheckpoint}
use Rattle.std.specs.Prelude.{Ok, Err}
use Rattle.protocol.specs.declared.Answer.{Answer}
use Rattle.protocol.specs.Alone.{in_order}
use Rattle.protocol.specs.Controllers.{in_phase, blank}
use Rattle.protocol.specs.Ballots.{new_acceptor, new_tally}
use Rattle.protocol.specs.Benches.{unsent_all, sent_after}
use Rattle.protocol.specs.BallotRules.{no_promise}
use Rattle.protocol.specs.Calls.{vote, timeout, decide, stop, restore, renew}
use Rattle.cabinet_state.specs.declared.BallotState.{BallotState}
use Rattle.cabinet_state.specs.declared.Cabinet.{Cabinet}

-- the next controller, and what it has sent now
unfoldable pub answered : Cabinet → Answer → Cabinet
answered s a = record { me = s.me; own = s.own; controller = a.controller; sent = sent_after s.sent a.sends; ballots = s.ballots }

-- "A new order forgets ballots, promises and takings"
unfoldable pub no_ballots : BallotState
no_ballots = record { acceptor = new_acceptor; report = no_promise; opened = 0; tally = new_tally; accepted_by = 0 }

-- **begin**: a controller that has just begun, its gate where it stands, before its first order
unfoldable pub begun : ℕ → ℕ → ℕ → ℕ → ℕ → Cabinet
begun n f id own position = record {
  me = record { n = n; f = f; id = id; order = 0 };
  own = flag_of own;
  controller = blank (in_phase 0 None) (replicate limit empty) position;
  sent = unsent_all;
  ballots = no_ballots;
}

-- **order**
unfoldable pub ordered : ℕ → Cabinet → Cabinet
ordered number s = record { me = in_order s.me number; own = s.own; controller = renew s.controller; sent = unsent_all; ballots = no_ballots }

-- **vote**, **timeout**, **decide**, **stop**
unfoldable pub voted : ℕ → ℕ → Cabinet → Cabinet
voted willing target s = answered s (vote s.me (flag_of willing) target s.controller)

unfoldable pub timed_out : Cabinet → Cabinet
timed_out s = answered s (timeout s.me s.controller)

unfoldable pub decided : ℕ → Cabinet → Cabinet
decided move s = answered s (decide (flag_of move) s.controller)

unfoldable pub halted : Cabinet → Cabinet
halted s = answered s (stop s.controller)

-- **wake**: stopped and restored in one, in the card's order, or in its own if that is later; nothing is left to send
unfoldable pub later_order : ℕ → ℕ → ℕ
later_order o p = cond (leb o p) p o

unfoldable pub woken_by : Checkpoint → Cabinet → Cabinet
woken_by p s = record {
  me = in_order s.me (later_order s.me.order p.order);
  own = s.own;
  controller = (restore (in_order s.me (later_order s.me.order p.order)) p (stop s.controller).controller).controller;
  sent = unsent_all;
  ballots = no_ballots;
}

unfoldable pub woken : ReadCheckpoint → Cabinet → Cabinet
woken (Err q) s = s
woken (Ok p) s = woken_by p s
