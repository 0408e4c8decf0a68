use Rattle.ballot_rules.proofs.chosen.chosen_in.Goals as goal

pub returns-then-is_word : goal.returns-then-is_word
returns-then-is_word c = simp (← c.is_word.ensures, c.if-is_word.true, c.is_majority.ensures)

pub returns : goal.returns
returns c = simp (← c.is_word.ensures, c.if-is_word.false)
