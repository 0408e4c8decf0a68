use mathlib.Core.Path.{◌≡◌, sym, ◌∙◌, ap}
use native.Mathlib.Omega.{arith}
use lib.ListN.{length, get_or}
use Rattle.protocol.specs.Sequence.{members}
use Rattle.protocol.specs.BallotCalls.{others, ballot_to, ballot_to_others}
use Rattle.protocol.specs.SequenceLaws.{nth-map, nth_end}
use Rattle.controller.proofs.ballot_sequence.nth_to_others.Goals as goal
use Rattle.std.specs.Prelude.{Some}

pub returns-then-count_others-k : goal.returns-then-count_others-k
unfolding ballot_to_others
returns-then-count_others-k c =
    let start = c.args in
    let me = start.me in
    let count : c.count_others.result ≡ length (members me.n (others me.n me.id)) = c.count_others.ensures in
    sym (nth_end (ballot_to me start.kind start.b 0 start.word) (members me.n (others me.n me.id)) start.k (omega arith))

pub returns : goal.returns
unfolding ballot_to_others
returns c =
    let start = c.args in
    let me = start.me in
    let count : c.count_others.result ≡ length (members me.n (others me.n me.id)) = c.count_others.ensures in
    let to : c.nth_member-to.result ≡ get_or (members me.n (others me.n me.id)) start.k 0 = c.nth_member-to.ensures ∙ rw c.others.ensures in
    ap Some (c.ballot_to.ensures ∙ ap (ballot_to me start.kind start.b 0 start.word) to)
    ∙ sym (nth-map (ballot_to me start.kind start.b 0 start.word) (members me.n (others me.n me.id)) start.k (omega arith))
