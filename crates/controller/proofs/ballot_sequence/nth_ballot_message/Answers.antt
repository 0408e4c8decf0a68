-- The list is three lists, one after the other: each test finds whether the k-th is in the next of them, and else what is left of k past it.
use Prim.Native.Nat.{ℕ}
use mathlib.Core.Path.{◌≡◌, refl, ◌∙◌}
use mathlib.Core.List.{◌++◌}
use Rattle.protocol.specs.declared.Identity.{Identity}
use Rattle.protocol.specs.declared.BallotAnswer.{BallotAnswer}
use Rattle.protocol.specs.BallotCalls.{ballot_messages}
use Rattle.controller.specs.BallotParts.{promised, proposed, accepted_by}
use Rattle.protocol.specs.SequenceLaws.{nth-ballot-message-of}
use Rattle.controller.proofs.OneByOne.{here, past}
use Rattle.controller.proofs.ballot_sequence.nth_ballot_message.Goals as goal

parts : (me : Identity) (b : ℕ) (x : BallotAnswer) → ballot_messages me b x ≡ promised me b x ++ (proposed me b x ++ accepted_by me b x)
unfolding ballot_messages promised proposed accepted_by
parts me b x = refl

pub returns-then-k-promised : goal.returns-then-k-promised
returns-then-k-promised c =
    let start = c.args in
    let me = start.me in
    nth-ballot-message-of _ _ _ _ _ (c.nth_promised.ensures ∙ rw (parts me start.b start.x) (here (promised me start.b start.x) _ start.k _ c.count_promised-promised.ensures c.if-k-promised.true))

pub returns-then-after_promised-proposed : goal.returns-then-after_promised-proposed
returns-then-after_promised-proposed c =
    let start = c.args in
    let me = start.me in
    nth-ballot-message-of _ _ _ _ _ (c.nth_proposed.ensures ∙ rw (parts me start.b start.x)
    (here (proposed me start.b start.x) (accepted_by me start.b start.x) _ _ c.count_proposed-proposed.ensures c.if-after_promised-proposed.true
    ∙ past (promised me start.b start.x) _ start.k _ c.count_promised-promised.ensures c.if-k-promised.false))

pub returns : goal.returns
returns c =
    let start = c.args in
    let me = start.me in
    nth-ballot-message-of _ _ _ _ _ (c.nth_accepted.ensures ∙ rw (parts me start.b start.x)
    (past (proposed me start.b start.x) (accepted_by me start.b start.x) _ _ c.count_proposed-proposed.ensures c.if-after_promised-proposed.false
    ∙ past (promised me start.b start.x) _ start.k _ c.count_promised-promised.ensures c.if-k-promised.false))
