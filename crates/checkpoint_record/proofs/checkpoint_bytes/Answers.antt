use Rattle.std.proofs.Common.{◌∙◌}
use Rattle.records.proofs.ByteLaws.{be_four}
use Rattle.checkpoint_record.proofs.checkpoint_bytes.Goals as goal

pub returns : goal.returns
returns c = rw (c.to_be_bytes-mark.ensures, c.from.ensures, c.to_be_bytes-order.ensures ∙ be_four _, c.to_be_bytes-position.ensures ∙ be_four _)
