-- `generator::put_votes` meets its contract. The invariant: the votes of the first k controllers are written. It rests on `one-vote-more` (FileLaws).
use native.Mathlib.Omega.{arith}
use Rattle.std.proofs.Common.{rules}
use Rattle.text.proofs.Wrote.{wrote_then, wrote-text}
use Rattle.generator.proofs.FileLaws.{one-vote-more}
use Rattle.generator.proofs.Votes.{put_no-votes, put-votes-to}
use Rattle.generator.proofs.file.put_votes.Goals as goal

pub loop-k-init : goal.loop-k-init
loop-k-init c = put_no-votes _ (search rules) (search rules)

pub loop-k-preserved : goal.loop-k-preserved
loop-k-preserved c =
    let l = c.loop-k in
    wrote-text (wrote_then l.invariant c.put_record.ensures) (one-vote-more l.k)

pub returns : goal.returns
returns c =
    let l = c.loop-k in
    put-votes-to (omega arith) l.invariant
