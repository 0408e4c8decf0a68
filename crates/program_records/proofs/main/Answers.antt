-- `program_records::main` is proved to return; its buffer for the text is long enough for every output.
use Rattle.std.proofs.Common.{rules}
use Rattle.schedule_input.specs.Input.{records_output}
use Rattle.schedule_input.specs.Room.{records-fit}
use Rattle.program_records.proofs.main.Goals as goal

pub print_rendered-requires-clause-whole : goal.print_rendered-requires-clause-whole
print_rendered-requires-clause-whole c = (records_output, records-fit, λ s out r after p. search rules)
