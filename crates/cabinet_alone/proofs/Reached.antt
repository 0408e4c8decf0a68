-- How many telegrams a cabinet has sent in its order, at most: of each kind not more than n, and one promise and one taken for another's ballot.
use Prim.Native.Nat.{ℕ, zero, suc, ◌+◌, ◌*◌, ◌<◌, ◌≤◌}
use mathlib.Core.Path.{◌≡◌, refl, ap, ◌∙◌}
use mathlib.Core.Bool.{not, ◌||◌}
use mathlib.Core.List.{List, [], ◌∷◌}
use native.Mathlib.Omega.{arith}
use lib.Dec.{eqb}
use lib.ListN.{length, length-append, length-map}
use Rattle.ground.specs.Mask.{has}
use Rattle.ground.specs.Tests.{by_cond}
use Rattle.model.specs.Numbers.{is_none}
use Rattle.model.specs.QuestionLaws.{all_yes, reply-accepted}
use Rattle.model.specs.RangeLaws.{ranges}
use Rattle.model.specs.declared.Kind.{Kind}
use Rattle.model.specs.declared.Kind.TheVariants.{Vote, Ack, Help, Helped}
use Rattle.model.specs.declared.Outcome.{Outcome}
use Rattle.model.specs.declared.Outcome.TheVariants.{None}
use Rattle.model.specs.declared.BallotKind.{BallotKind}
use Rattle.model.specs.declared.BallotKind.TheVariants.{Prepare, Accept}
use Rattle.model.specs.declared.BallotMessage.{BallotMessage}
use Rattle.protocol.specs.declared.Identity.{Identity}
use Rattle.protocol.specs.declared.Sends.{Sends}
use Rattle.protocol.specs.Sequence.{members, messages_of_kind, messages_of}
use Rattle.protocol.specs.BallotCalls.{ballot_to_others, is_owner}
use Rattle.cabinet_state.specs.declared.BallotState.{BallotState}
use Rattle.cabinet_state.specs.declared.Cabinet.{Cabinet}
use Rattle.cabinet_state.specs.Encoding.{Encoding}
use Rattle.cabinet_turns.specs.Asked.{begin_asked}
use Rattle.cabinet_turns.specs.Telegrams.{sends_of, promise_message, promise_sent, acceptance_message, acceptance_sent, asks_sent, puts_sent, ballots_sent, telegrams_sent}
use Rattle.cabinet_alone.specs.Runs.{Run, cabinet}
use Rattle.cabinet_alone.proofs.Carried.{made-me}
use Rattle.cabinet_alone.proofs.Lent.{run-begun, run-reads}
use Rattle.std.specs.Prelude.{Option, Some, None}
use Rattle.protocol.specs.declared.Outgoing.{Outgoing}

members-most : (m set : ℕ) → length (members m set) ≤ m
unfolding members
members-most zero set = omega arith
members-most (suc m) set =
    let h = members-most m set in
    let one = by_cond (λ (l : List ℕ). length l ≤ 1) (has set (suc m)) (suc m ∷ []) [] (λ e. omega arith) (λ e. omega arith) in
    simp length-append (omega (arith, h, one))

kind-most : (me : Identity) (kind : Kind) (s : Option Outgoing) → length (messages_of_kind me kind s) ≤ me.n
unfolding messages_of_kind
kind-most me kind None = omega arith
kind-most me kind (Some o) = simp length-map (members-most me.n o.to)

plain-most : (me : Identity) (s : Sends) → length (messages_of me s) ≤ 4 * me.n
unfolding messages_of
plain-most me s =
    let a = kind-most me Vote s.vote in
    let b = kind-most me Ack s.ack in
    let c = kind-most me Help s.help in
    let d = kind-most me Helped s.helped in
    simp length-append (omega (arith, a, b, c, d))

others-most : (me : Identity) (kind : BallotKind) (b : ℕ) (w : Outcome) → length (ballot_to_others me kind b w) ≤ me.n
unfolding ballot_to_others
others-most me kind b w = simp length-map (members-most me.n _)

abbrev AtMost : ℕ → List BallotMessage → Type 0
AtMost k ms = length ms ≤ k

promise-most : (me : Identity) (x : BallotState) → AtMost 1 (promise_sent me x)
unfolding promise_sent
promise-most me x = by_cond (AtMost 1) (not x.report.given || is_owner me x.acceptor.promised) [] (promise_message me x ∷ []) (λ e. omega arith) (λ e. omega arith)

acceptance-most : (me : Identity) (x : BallotState) → AtMost 1 (acceptance_sent me x)
unfolding acceptance_sent
acceptance-most me x = by_cond (AtMost 1) (eqb x.acceptor.last 0 || is_owner me x.acceptor.last) [] (acceptance_message me x ∷ []) (λ e. omega arith) (λ e. omega arith)

asks-most : (me : Identity) (x : BallotState) → AtMost me.n (asks_sent me x)
unfolding asks_sent
asks-most me x = by_cond (AtMost me.n) (eqb x.opened 0) [] (ballot_to_others me Prepare x.opened None) (λ e. omega arith) (λ e. others-most me Prepare x.opened None)

puts-most : (me : Identity) (x : BallotState) → AtMost me.n (puts_sent me x)
unfolding puts_sent
puts-most me x = by_cond (AtMost me.n) (is_none x.tally.word) [] (ballot_to_others me Accept x.opened x.tally.word) (λ e. omega arith) (λ e. others-most me Accept x.opened x.tally.word)

ballots-most : (me : Identity) (x : BallotState) → length (ballots_sent me x) ≤ 2 + 2 * me.n
unfolding ballots_sent
ballots-most me x =
    let a = promise-most me x in
    let b = acceptance-most me x in
    let c = asks-most me x in
    let d = puts-most me x in
    simp length-append (omega (arith, a, b, c, d))

sent-most : (s : Cabinet) → length (telegrams_sent s) ≤ 2 + 6 * s.me.n
unfolding telegrams_sent
sent-most s =
    let a = plain-most s.me (sends_of s.sent) in
    let b = ballots-most s.me s.ballots in
    simp (length-append, length-map) (omega (arith, a, b))

-- a lock has at most thirty-two
pub reached : Encoding → (r : Run) → length (telegrams_sent (cabinet r)) < 256
unfolding begin_asked
reached enc r =
    let y = all_yes _ (reply-accepted (begin_asked r.n r.f r.id r.own r.position) _ refl refl (run-begun r)) in
    let n : (cabinet r).me.n ≡ r.n = ap (λ (s : Cabinet). s.me.n) (run-reads enc r) ∙ ap (λ (i : Identity). i.n) (made-me r) in
    let small = (ranges r.n r.f y.1.0).small in
    let most = sent-most (cabinet r) in
    omega (arith, n, small, most)
