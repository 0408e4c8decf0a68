-- `write_checkpoint` meets its contract.
use Rattle.std.proofs.Common.{refl}
use Rattle.records.proofs.FrameLaws.{record-written}
use Rattle.checkpoint_record.specs.Checkpoints.{checkpoints}
use Rattle.checkpoint_record.proofs.write_checkpoint.Goals as goal

pub returns : goal.returns
returns c = record-written checkpoints _ _ _ c.checkpoint_bytes-content.ensures refl c.question.ensures c.write_record.ensures
