-- `bench_report::lines::next_decade` meets its contract.
use Rattle.bench_report.proofs.Counting.{next_tens, next_hundreds, next_thousands, next-none}
use Rattle.bench_report.proofs.lines.next_decade.Goals as goal

pub returns-then-d-lt57 : goal.returns-then-d-lt57
returns-then-d-lt57 c = λ i e. next_tens _ i e c.if-d-lt57.true

pub returns-then-d-lt57-2 : goal.returns-then-d-lt57-2
returns-then-d-lt57-2 c = λ i e. next_hundreds _ i e c.if-d-lt57.false c.if-d-lt57-2.true

pub returns-then-d-lt57-3 : goal.returns-then-d-lt57-3
returns-then-d-lt57-3 c = λ i e. next_thousands _ i e c.if-d-lt57.false c.if-d-lt57-2.false c.if-d-lt57-3.true

pub returns : goal.returns
returns c = λ i e. next-none _ i e c.if-d-lt57.false c.if-d-lt57-2.false c.if-d-lt57-3.false
