-- `bench_report::write_report` meets its contract, at each of its returns.
use native.Mathlib.Nat.{le_trans}
use Rattle.bench_report.proofs.Room.{report-length}
use Rattle.bench_report.proofs.Fitting.{too_many, too_long_lem, written}
use Rattle.bench_report.proofs.write_report.Goals as goal

pub returns-then-answers-gt-MOST_ANSWERS : goal.returns-then-answers-gt-MOST_ANSWERS
returns-then-answers-gt-MOST_ANSWERS c = let both = too_many _ _ _ c.if-answers-gt-MOST_ANSWERS.true in record { value = both.0; out_after = both.1 }

pub returns-then-longest_report-out : goal.returns-then-longest_report-out
returns-then-longest_report-out c =
    let both = written _ _ _ c.if-answers-gt-MOST_ANSWERS.false (le_trans (report-length _ _) (rw c.longest_report.ensures at c.if-longest_report-out.true)) c.put_report.ensures in record { value = both.0; out_after = both.1 }

pub returns-then-out-measure : goal.returns-then-out-measure
returns-then-out-measure c = let both = too_long_lem _ _ _ c.if-answers-gt-MOST_ANSWERS.false (rw (← c.measure.ensures) c.if-out-measure.true) in record { value = both.0; out_after = both.1 }

pub returns : goal.returns
returns c =
    let both = written _ _ _ c.if-answers-gt-MOST_ANSWERS.false (rw (← c.measure.ensures) c.if-out-measure.false) c.put_report-2.ensures in record { value = both.0; out_after = both.1 }
