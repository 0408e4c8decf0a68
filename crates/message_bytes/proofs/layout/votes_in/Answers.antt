use Rattle.message_bytes.proofs.layout.votes_in.Goals as goal

pub returns-in-Short : goal.returns-in-Short
returns-in-Short c = simp (c.in-Short.is, ← c.number2.ensures, c.number2-in-Short.ensures)

pub returns-in-Long : goal.returns-in-Long
returns-in-Long c = simp (c.in-Long.is, ← c.number4.ensures, c.number4-in-Long.ensures)
