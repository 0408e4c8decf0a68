-- By how many digits the number has: each way puts its digits one by one, and these are its decimal digits.
use native.Mathlib.Omega.{arith}
use Rattle.text.specs.WritingLaws.{put-text, put_then}
use Rattle.bench_report.proofs.Counting.{of_ones}
use Rattle.bench_report.proofs.Short.{one-digit, two_digits, three-digits, four-digits}
use Rattle.bench_report.proofs.lines.put_index.Goals as goal

pub overflow_add-last : goal.overflow_add-last
overflow_add-last c = let p = c.requires in omega (arith, of_ones _ _ p.2)

pub returns-then-tens-ge100 : goal.returns-then-tens-ge100
returns-then-tens-ge100 c =
    let p = c.requires in (
      put-text (put_then c.put_in-next.ensures.0 (put_then c.put_in-next-then-tens-ge100.ensures.0 (put_then c.put_in-next-then-tens-ge100-2.ensures.0 c.put_in.ensures.0)))
          (four-digits _ _ p.3 _ p.2 c.if-tens-ge100.true p.1),
      omega (arith, c.put_in-next.ensures.1, c.put_in-next-then-tens-ge100.ensures.1, c.put_in-next-then-tens-ge100-2.ensures.1, c.put_in.ensures.1),
    )

pub returns-then-tens-ge10 : goal.returns-then-tens-ge10
returns-then-tens-ge10 c =
    let p = c.requires in (
      put-text (put_then c.put_in-next-then-tens-ge10.ensures.0 (put_then c.put_in-next-then-tens-ge10-2.ensures.0 c.put_in-then-tens-ge10.ensures.0))
          (three-digits _ _ p.3 _ p.2 c.if-tens-ge10.true c.if-tens-ge100.false),
      omega (arith, c.put_in-next-then-tens-ge10.ensures.1, c.put_in-next-then-tens-ge10-2.ensures.1, c.put_in-then-tens-ge10.ensures.1),
    )

pub returns-then-tens-ge1 : goal.returns-then-tens-ge1
returns-then-tens-ge1 c =
    let p = c.requires in (
      put-text (put_then c.put_in-next-then-tens-ge1.ensures.0 c.put_in-then-tens-ge1.ensures.0)
          (two_digits _ _ p.3 _ p.2 c.if-tens-ge1.true c.if-tens-ge10.false),
      omega (arith, c.put_in-next-then-tens-ge1.ensures.1, c.put_in-then-tens-ge1.ensures.1),
    )

pub returns : goal.returns
returns c =
    let p = c.requires in
    (put-text c.put_in-2.ensures.0 (one-digit _ _ p.3 _ p.2 c.if-tens-ge1.false), omega (arith, c.put_in-2.ensures.1))
