-- `words::end_of_run` meets its contract. The invariant: from the place on stand bytes of the class up to i, so that the run ends where the one from i on does.
use Rattle.std.proofs.Common.{◌≡◌}
use Rattle.words.specs.Words.{end_of_run}
use Rattle.words.proofs.scan.end_of_run.Given as goal

abbrev pub invariant-loop-i : goal.invariant-loop-i
invariant-loop-i l = end_of_run l.class l.s l.at ≡ end_of_run l.class l.s l.i
