-- `drop_to` meets its contract. The invariant: after j senders those of 1..j that contradict the vote set are dropped.
use mathlib.Core.Path.{◌≡◌}
use Rattle.protocol.specs.Controllers.{drop_to}
use Rattle.controller_state.proofs.holdings.drop_to.Given as goal

abbrev pub invariant-loop-j : goal.invariant-loop-j
invariant-loop-j l = l.acks ≡ drop_to l.j l.s l.initial.acks
