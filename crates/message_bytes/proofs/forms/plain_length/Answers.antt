use Rattle.message_bytes.proofs.forms.plain_length.Goals as goal

pub returns-in-Short : goal.returns-in-Short
returns-in-Short c = simp c.in-Short.is

pub returns-in-Long : goal.returns-in-Long
returns-in-Long c = simp c.in-Long.is
