-- `program_report::main` is proved to return; its buffer for the text is long enough for every output.
use Rattle.survey_output.specs.Output.{output_of}
use Rattle.survey_output.proofs.Texts.{all_fit}
use Rattle.program_report.proofs.main.Goals as goal

pub print_rendered-requires-clause-whole : goal.print_rendered-requires-clause-whole
print_rendered-requires-clause-whole c = (output_of, all_fit, λ s out r after p. p)
