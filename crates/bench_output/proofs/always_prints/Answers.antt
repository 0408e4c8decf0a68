-- `bench_output::always_prints` meets its contract.
use Rattle.bench_output.proofs.Texts.{always, always_either}
use Rattle.bench_output.proofs.always_prints.Goals as goal

pub returns : goal.returns
returns c = (always, always_either)
