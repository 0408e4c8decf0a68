use Rattle.records.proofs.ByteLaws.{plus_none}
use Rattle.message_bytes.proofs.layout.more_at.Goals as goal

pub returns : goal.returns
returns c = simp (c.byte_after.ensures, c.byte_after-2.ensures, c.byte_after-3.ensures, c.byte_after-4.ensures, plus_none)
