-- `line::is_calling` meets its contract.
use Rattle.std.specs.Prelude.{false, true, ◌≡◌}
use Rattle.std.proofs.Common.{sym, ◌∙◌}
use Rattle.ground.specs.Lists.{nth-at}
use Rattle.line.specs.Turns.{is_lock, calls}
use Rattle.line.proofs.Steps.{lock-low}
use Rattle.line.proofs.is_calling.Goals as goal

pub returns-then-is_lock : goal.returns-then-is_lock
unfolding calls
returns-then-is_lock c =
    let e : is_lock c.args.lock ≡ true = sym c.is_lock.ensures ∙ c.if-is_lock.true in
    rw e (sym (nth-at false c.args.line.calling c.args.lock (lock-low c.args.lock e)))
