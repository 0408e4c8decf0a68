-- `program_line::main` is proved to return; its buffer for the text is long enough for every output.
use Rattle.line_output.specs.Output.{output_of}
use Rattle.line_output.specs.Room.{always_fits}
use Rattle.program_line.proofs.main.Goals as goal

pub print_rendered-requires-clause-whole : goal.print_rendered-requires-clause-whole
print_rendered-requires-clause-whole c = (output_of, always_fits, λ s out r after p. p)
