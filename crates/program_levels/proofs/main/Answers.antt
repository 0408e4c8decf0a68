-- `program_levels::main` is proved to return; its buffer for the text is long enough for every output.
use Rattle.levels_text.specs.Output.{output_of}
use Rattle.levels_text.specs.OutputLaws.{output-length}
use Rattle.program_levels.proofs.main.Goals as goal

pub print_rendered-requires-clause-whole : goal.print_rendered-requires-clause-whole
print_rendered-requires-clause-whole c = (output_of, output-length, λ s out r after p. p)
