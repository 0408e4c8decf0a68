-- `bench_report::lines::put_decade` meets its contract. The invariant: the decade's first lines are written.
use Prim.Native.Nat.{◌≤◌}
use native.Mathlib.Omega.{arith}
use Rattle.text.specs.WritingLaws.{put-none, put-line, put-lines, put_then, put-length}
use Rattle.bench_report.proofs.Room.{answer-length}
use Rattle.bench_report.proofs.Decades.{reach}
use Rattle.bench_report.proofs.lines.put_decade.Goals as goal

pub loop-ones-init : goal.loop-ones-init
loop-ones-init c = put-none _ _ _ (omega arith) (omega arith)

pub put_index-next-requires : goal.put_index-next-requires
put_index-next-requires c =
    let r : c.loop-ones.next ≤ _ = reach _ c.loop-ones.ones _ (λ k. answer-length _ _) c.loop-ones.invariant in
    let e = put-length c.loop-ones.invariant in
    (omega arith, omega arith, c.requires.tens_in_bounds.2, omega arith)

pub put_rest-next-requires : goal.put_rest-next-requires
put_rest-next-requires c =
    let p = c.put_index-next.ensures in
    let l = c.loop-ones in
    let r : l.next ≤ _ = reach _ l.ones _ (λ k. answer-length _ _) l.invariant in
    let e = put-length l.invariant in
    let f = put-length p.0 in
    omega (arith, p.1)

pub loop-ones-preserved : goal.loop-ones-preserved
loop-ones-preserved c =
    let l = c.loop-ones in
    put-line l.ones _ l.invariant (put_then c.put_index-next.ensures.0 c.put_rest-next.ensures)

pub shape_of-out : goal.shape_of-out
shape_of-out c = put-length c.loop-ones.invariant

pub returns : goal.returns
returns c = put-lines _ (omega arith) c.loop-ones.invariant
