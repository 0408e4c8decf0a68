use Rattle.text.proofs.writer.Writer.+number.Given as goal

-- the number itself
abbrev pub decreases-number : goal.decreases-number
decreases-number l = l.v
