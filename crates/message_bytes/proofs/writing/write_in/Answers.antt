use Rattle.message_record.specs.declared.MessageWidth.TheVariants.{Short, Long}
use Rattle.message_bytes.proofs.Framing.{in_form}
use Rattle.message_bytes.proofs.writing.write_in.Goals as goal

pub returns-in-Short : goal.returns-in-Short
returns-in-Short c = in_form _ Short _ _ _ _ _ _ _ _ c.in-Short.is c.mark_of.ensures c.head_bytes-head.ensures c.short_sets.ensures c.write_body.ensures

pub returns-in-Long : goal.returns-in-Long
returns-in-Long c = in_form _ Long _ _ _ _ _ _ _ _ c.in-Long.is c.mark_of.ensures c.head_bytes-head.ensures c.long_sets.ensures c.write_body-in-Long.ensures
