use Rattle.message_record.specs.Telegrams.{suits_width}
use Rattle.message_bytes.proofs.forms.suits_width.Goals as goal

pub returns-in-Short : goal.returns-in-Short
unfolding suits_width
returns-in-Short c = simp c.in-Short.is

pub returns-in-Long : goal.returns-in-Long
unfolding suits_width
returns-in-Long c = simp c.in-Long.is
