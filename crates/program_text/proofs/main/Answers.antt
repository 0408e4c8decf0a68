-- `program_text::main` is proved to return; its buffer for the text is long enough for every output.
use Rattle.std.proofs.Common.{rules}
use Rattle.schedule_input.specs.Input.{text_output}
use Rattle.schedule_input.specs.Room.{text_fits}
use Rattle.program_text.proofs.main.Goals as goal

pub print_rendered-requires-clause-whole : goal.print_rendered-requires-clause-whole
print_rendered-requires-clause-whole c = (text_output, text_fits, λ s out r after p. search rules)
