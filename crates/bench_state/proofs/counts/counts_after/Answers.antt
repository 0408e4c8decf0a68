use Rattle.protocol.specs.Counts.{counts_after}
use Rattle.bench_state.proofs.counts.counts_after.Goals as goal

pub returns : goal.returns
unfolding counts_after
returns c = simp (c.lacks_outcome.ensures, c.lacks_outcome-2.ensures, c.recount.ensures, c.is_present.ensures, c.is_present-2.ensures, c.recount-2.ensures)
