-- The first k words of the buffer are the state's, with the check word last, and its length stays (`Filled`).
use Rattle.cabinet_state.specs.Words.{state_words, column_in, with_check}
use Rattle.cabinet_state.specs.FillLaws.{Filled}
use Rattle.cabinet_state.proofs.writing.fill.Given as goal

abbrev pub invariant-loop-k : goal.invariant-loop-k
invariant-loop-k l = Filled (with_check l.check (column_in l.head l.ballots l.sets)) state_words l.k l.out
