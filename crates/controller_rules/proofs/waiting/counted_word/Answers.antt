use Rattle.controller_rules.proofs.waiting.counted_word.Goals as goal

pub returns-then-counts_suffice : goal.returns-then-counts_suffice
returns-then-counts_suffice c = simp (← c.counts_suffice.ensures, c.if-counts_suffice.true, c.verdict.ensures)

pub returns : goal.returns
returns c = simp (← c.counts_suffice.ensures, c.if-counts_suffice.false)
