-- `program_generate::main` is proved to return; its buffer for the text is long enough for every output.
use Rattle.std.proofs.Common.{rules}
use Rattle.generator.specs.Output.{output_of}
use Rattle.generator.proofs.OutputLaws.{all_fit}
use Rattle.program_generate.proofs.main.Goals as goal

pub print_rendered-requires-clause-whole : goal.print_rendered-requires-clause-whole
print_rendered-requires-clause-whole c = (output_of, all_fit, λ s out r after p. search rules)
