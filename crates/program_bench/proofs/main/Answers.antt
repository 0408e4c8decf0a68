-- `program_bench::main` is proved to return; its buffer for the text is long enough for every output.
use Rattle.std.proofs.Common.{rules}
use Rattle.bench_output.specs.Output.{printed_of}
use Rattle.bench_output.proofs.Texts.{always_either}
use Rattle.program_bench.proofs.main.Goals as goal

pub print_rendered-requires-clause-whole : goal.print_rendered-requires-clause-whole
print_rendered-requires-clause-whole c = (printed_of, always_either.longest, λ s out r after p. search rules)
