use Rattle.controller_rules.proofs.second.word_after.Goals as goal

pub returns-in-Waits : goal.returns-in-Waits
returns-in-Waits c = simp (c.in-Waits.is, c.counted_word.ensures)
