-- `write_for` meets its contract: a refusal as its line, or the file made, whole at the buffer's front or not at all.
use Rattle.generator.proofs.OutputLaws.{refused-output, short-output, whole-output}
use Rattle.generator.proofs.output.write_for.Goals as goal

pub returns-in-Err : goal.returns-in-Err
returns-in-Err c = rw (refused-output _ _ _ _ _ c.in-Err.ensures) (cc, cc)

pub returns-in-Ok : goal.returns-in-Ok
returns-in-Ok c = short-output _ _ _ _ _ _ c.in-Ok.ensures c.file_length-length.ensures c.if-out-length.true

pub returns-in-Ok-2 : goal.returns-in-Ok-2
returns-in-Ok-2 c = whole-output _ _ _ _ _ _ c.in-Ok.ensures c.file_length-length.ensures _ c.if-out-length.false c.generate.ensures.1
