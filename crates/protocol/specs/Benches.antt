-- The bench and its parts, by controller number. Document 01, "The parts" and "Words with values".
use Rattle.std.specs.Prelude.{ℕ, Bool, false, List, [], replicate, Option, Some, None}
use Rattle.std.specs.Int.Bits.{bit_or}
use Rattle.ground.specs.Limit.{limit}
use Rattle.ground.specs.Lists.{nth}
use Rattle.votes.specs.VoteSets.{empty}
use Rattle.votes.specs.declared.VoteSet.{VoteSet}
use Rattle.model.specs.declared.Kind.{Kind}
use Rattle.model.specs.declared.Kind.TheVariants.{Vote, Ack, Help, Helped}
use Rattle.model.specs.declared.Outcome.TheVariants.{None}
use Rattle.model.specs.declared.Message.{Message}
use Rattle.protocol.specs.declared.Identity.{Identity}
use Rattle.protocol.specs.declared.Outgoing.{Outgoing}
use Rattle.protocol.specs.declared.Controller.{Controller}
use Rattle.protocol.specs.declared.Sends.{Sends}
use Rattle.protocol.specs.declared.Sent.{Sent}
use Rattle.protocol.specs.declared.Station.{Station}
use Rattle.protocol.specs.declared.Consensus.{Consensus}
use Rattle.protocol.specs.declared.Counts.{Counts}
use Rattle.protocol.specs.declared.Shared.{Shared}
use Rattle.protocol.specs.declared.Bench.{Bench}
use Rattle.protocol.specs.Ballots.{new_ballots}
use Rattle.protocol.specs.Controllers.{in_phase, blank}
use Rattle.protocol.specs.Sequence.{message_to}

-- nothing sent yet
abbrev pub unsent : Outgoing
unsent = record { to = 0; votes = empty }

unfoldable pub unsent_all : Sent
unsent_all = record { vote = unsent; ack = unsent; help = unsent; helped = unsent }

-- a controller that has just begun: running at stage 0, without outcome, its gate at 0
unfoldable pub fresh : List VoteSet → Controller
fresh sets = blank (in_phase 0 None) sets 0

unfoldable pub fresh_station : List VoteSet → Station
fresh_station sets = record { controller = fresh sets; sent = unsent_all; saved = None }

-- no word put, no choice
abbrev pub no_consensus : Consensus
no_consensus = record { move_proposed = false; stay_proposed = false; decision = None }

-- as many are undecided as are present: no outcome is held
abbrev pub all_undecided : ℕ → Counts
all_undecided k = record { undecided = k; present = k }

-- "a new bench, without lock, order, telegrams, words or cards"; and the bench after a lock of n and f
unfoldable pub bench_of : Bool → ℕ → ℕ → Bool → Bench
bench_of locked n f own = record {
  shared = record { locked = locked; n = n; f = f; own = own; order = 0; consensus = no_consensus; counts = all_undecided n };
  ballots = new_ballots;
  stations = replicate limit (fresh_station (replicate limit empty));
}

abbrev pub new_bench : Bench
new_bench = bench_of false 0 0 false

-- controller i's station, itself, what it has sent
unfoldable pub station : Bench → ℕ → Station
station b i = nth (fresh_station []) b.stations i

abbrev pub controller : Bench → ℕ → Controller
controller b i = (station b i).controller

abbrev pub sent_by : Bench → ℕ → Sent
sent_by b i = (station b i).sent

-- controller i as it is called; and the messages of one kind that a controller has sent, as a vote set and its receivers, and one of them
abbrev pub identity : Shared → ℕ → Identity
identity m i = record { n = m.n; f = m.f; id = i; order = m.order }

abbrev pub of_kind : Kind → Sent → Outgoing
of_kind Vote s = s.vote
of_kind Ack s = s.ack
of_kind Help s = s.help
of_kind Helped s = s.helped

abbrev pub message : Shared → Kind → ℕ → ℕ → Sent → Message
message m kind from to sent = message_to (identity m from) kind (of_kind kind sent).votes to

-- what was sent, after more was sent
abbrev pub after_send : Outgoing → Option Outgoing → Outgoing
after_send old None = old
after_send old (Some new) = record { to = bit_or old.to new.to; votes = new.votes }

unfoldable pub sent_after : Sent → Sends → Sent
sent_after s a = record { vote = after_send s.vote a.vote; ack = after_send s.ack a.ack; help = after_send s.help a.help; helped = after_send s.helped a.helped }
