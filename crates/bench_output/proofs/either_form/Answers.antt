-- `bench_output::either_form` meets its contract.
use Rattle.bench_output.proofs.EitherForm.{either-form}
use Rattle.bench_output.proofs.either_form.Goals as goal

pub returns : goal.returns
returns c = either-form
