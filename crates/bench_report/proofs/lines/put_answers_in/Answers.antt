-- `bench_report::lines::put_answers_in` meets its contract. The invariant: the lines of the first decades are written, and the digits are those of the next one's first index.
use Prim.Native.Nat.{◌≤◌, ◌+◌, ◌*◌}
use mathlib.Core.Path.{◌≡◌, refl}
use native.Mathlib.Omega.{arith}
use Rattle.text.specs.Text.{lines}
use Rattle.text.specs.Writing.{Put}
use Rattle.text.specs.WritingLaws.{put-none, put-lines, put-length}
use Rattle.bench_report.proofs.Room.{answer-length}
use Rattle.bench_report.proofs.Decades.{put-more, reach}
use Rattle.bench_report.proofs.lines.put_answers_in.Goals as goal

pub loop-tens-init : goal.loop-tens-init
loop-tens-init c = (omega arith, put-lines _ (omega arith) (put-none _ 0 _ (omega arith) (omega arith)), refl)

pub put_decade-next-requires : goal.put_decade-next-requires
put_decade-next-requires c =
    let l = c.loop-tens in
    let r : l.next ≤ _ = reach _ _ _ (λ k. answer-length _ _) l.invariant.1 in
    let e = put-length l.invariant.1 in
    record { answers_len_bound = (omega arith, omega arith); tens_in_bounds = (omega arith, omega arith, l.invariant.2) }

pub loop-tens-preserved : goal.loop-tens-preserved
loop-tens-preserved c =
    let l = c.loop-tens in
    let e : (l.tens + 1) * 10 ≡ l.tens * 10 + 10 = omega arith in
    let p : Put _ _ _ _ (lines (l.tens * 10) _) = put-lines _ (omega arith) l.invariant.1 in
    (omega arith, put-lines _ (omega arith) (put-more _ _ _ p c.put_decade-next.ensures), rw e (c.next_decade-d.ensures (l.tens * 10) l.invariant.2))

pub shape_of-out : goal.shape_of-out
shape_of-out c = put-length c.loop-tens.invariant.1

pub returns : goal.returns
returns c = put-lines _ (omega arith) c.loop-tens.invariant.1
