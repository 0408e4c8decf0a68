-- `bench_report::write_too_long` meets its contract.
use Rattle.text.specs.Text.{digits, decimal}
use Rattle.bench_report.proofs.write_too_long.Goals as goal

pub returns : goal.returns
unfolding digits decimal
returns c = record { value = c.write_refusal.ensures.value; out_after = c.write_refusal.ensures.out_after }
