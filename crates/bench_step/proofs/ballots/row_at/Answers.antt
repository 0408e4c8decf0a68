-- `row_at` meets its contract: the array has as many rows as there are ballots.
use Rattle.std.specs.Prelude.{◌≡◌, length}
use Rattle.std.proofs.Common.{rules}
use Rattle.protocol.specs.Ballots.{ballot_limit}
use Rattle.bench_step.proofs.ballots.row_at.Goals as goal

pub returns : goal.returns
returns c =
    let l : length c.args.rows ≡ ballot_limit = search rules in
    record { value = rw (c.nth.ensures, c.new_row.ensures); rows_len = l }
