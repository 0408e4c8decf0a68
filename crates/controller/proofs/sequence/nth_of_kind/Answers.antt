use mathlib.Core.Path.{◌≡◌, sym, ◌∙◌, ap}
use native.Mathlib.Omega.{arith}
use lib.ListN.{length}
use Rattle.std.specs.Prelude.{Some}
use Rattle.ground.specs.Quantify.{count_to}
use Rattle.ground.specs.Mask.{has}
use Rattle.protocol.specs.Sequence.{members, message_to, messages_of_kind}
use Rattle.protocol.specs.SequenceLaws.{members-size, nth-map, nth_end}
use Rattle.controller.proofs.sequence.nth_of_kind.Goals as goal

pub returns-in_err-o : goal.returns-in_err-o
unfolding messages_of_kind
returns-in_err-o c = c.from_residual.ensures ∙ rw (c.in_err-o.was {u = tt})

pub returns-then-size-k : goal.returns-then-size-k
unfolding messages_of_kind
returns-then-size-k c =
    let start = c.args in
    let o = c.in_ok-o.o in
    let size : c.size.result ≡ count_to start.me.n (has o.to) = c.size.ensures in
    let sized : length (members start.me.n o.to) ≡ count_to start.me.n (has o.to) = members-size start.me.n o.to in
    rw (c.in_ok-o.was {u = tt}) (sym (nth_end (message_to start.me start.kind o.votes) (members start.me.n o.to) start.k (omega arith)))

pub returns : goal.returns
unfolding messages_of_kind
returns c =
    let start = c.args in
    let o = c.in_ok-o.o in
    let size : c.size.result ≡ count_to start.me.n (has o.to) = c.size.ensures in
    let sized : length (members start.me.n o.to) ≡ count_to start.me.n (has o.to) = members-size start.me.n o.to in
    rw (c.in_ok-o.was {u = tt})
    (ap Some (c.message_to.ensures ∙ ap (message_to start.me start.kind o.votes) c.nth_member-to.ensures)
    ∙ sym (nth-map (message_to start.me start.kind o.votes) (members start.me.n o.to) start.k (omega arith)))
