-- `votes::join_all` meets its contract. The invariant: after k senders the vote sets of those of 1..k agree, and the set is their join. The array has no more
-- than the limit, so the senders after that add nothing.
use Rattle.std.specs.Prelude.{◌≡◌, Ok}
use Rattle.votes.specs.Joining.{join_all}
use Rattle.votes.proofs.join_all.Given as goal

abbrev pub invariant-loop-k : goal.invariant-loop-k
invariant-loop-k l = join_all l.k l.from l.sets ≡ Ok l.joined
