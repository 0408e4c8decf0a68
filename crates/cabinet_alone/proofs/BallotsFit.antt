-- The same of what a cabinet keeps of ballots: every ballot that it takes up was asked whether it is one, 1 to 255.
use Prim.Native.Nat.{ℕ, ◌<◌}
use mathlib.Core.Path.{◌≡◌}
use mathlib.Core.Bool.{Bool, true, not, ◌&&◌}
use mathlib.Core.Logic.{inl, inr}
use native.Mathlib.Omega.{arith}
use lib.Dec.{eqb, leb, ltb}
use borrow.Author.Tests.{eqb-true, leb-true}
use Rattle.ground.specs.Tests.{by_cond, split, and_l, and_r}
use Rattle.model.specs.Numbers.{is_none}
use Rattle.model.specs.Ranges.{is_ballot}
use Rattle.model.specs.declared.Outcome.{Outcome}
use Rattle.model.specs.declared.BallotKind.{BallotKind}
use Rattle.model.specs.declared.BallotKind.TheVariants.{Prepare, Promise, Accept, Accepted}
use Rattle.model.specs.declared.BallotMessage.{BallotMessage}
use Rattle.message_record.specs.BallotMessages.{reports_last, tells_for_kind, ballot_suits}
use Rattle.protocol.specs.declared.Identity.{Identity}
use Rattle.protocol.specs.declared.Controller.{Controller}
use Rattle.protocol.specs.declared.Acceptor.{Acceptor}
use Rattle.protocol.specs.declared.Tally.{Tally}
use Rattle.protocol.specs.declared.Report.{Report}
use Rattle.protocol.specs.declared.BallotAnswer.{BallotAnswer}
use Rattle.protocol.specs.Ballots.{majority}
use Rattle.protocol.specs.BallotRules.{unanswered, answers_prepare, promising, reporting, give_promise, prepare_arrives, answers_accept, accepting, accept, accept_arrives, counts, counting, with_word, putting, put_word, put_if_majority, promise_arrives, giving, open_ballot}
use Rattle.protocol.specs.BallotCalls.{takes_part, may_open_alone, open_call, ballot_comes, ballot_arrives, receive_ballot}
use Rattle.cabinet_state.specs.declared.BallotState.{BallotState}
use Rattle.cabinet_turns.specs.Ballots.{tally_for, report_after}

pub record AcceptorFits (a : Acceptor) : Type 0 where
  pub highest : a.highest < 256
  pub promised : a.promised < 256
  pub last : a.last < 256

pub record BallotFits (x : BallotAnswer) : Type 0 where
  pub acceptor : AcceptorFits x.acceptor
  pub top : x.tally.top < 256
  pub reported : x.promise.last < 256

small : (b : ℕ) → is_ballot b ≡ true → b < 256
unfolding is_ballot
small b e = let h = leb-true b 255 (and_r (leb 1 b) (leb b 255) e) in omega (arith, h)

unanswered_fits : (a : Acceptor) (t : Tally) → AcceptorFits a → t.top < 256 → BallotFits (unanswered a t)
unfolding unanswered
unanswered_fits a t x y = record { acceptor = x; top = y; reported = omega arith }

module _ (b : ℕ) (h : b < 256) where
  accepted_fits : (w : Outcome) (a : Acceptor) (t : Tally) → AcceptorFits a → t.top < 256 → BallotFits (accept_arrives b w a t)
  unfolding accept_arrives accept accepting
  accepted_fits w a t x y = by_cond BallotFits (answers_accept b a) _ _
      (λ e. record { acceptor = record { highest = h; promised = x.promised; last = h }; top = y; reported = omega arith })
      (λ e. unanswered_fits a t x y)

  prepared_fits : (a : Acceptor) (t : Tally) → AcceptorFits a → t.top < 256 → BallotFits (prepare_arrives b a t)
  unfolding prepare_arrives give_promise promising reporting
  prepared_fits a t x y = by_cond BallotFits (answers_prepare b a) _ _
      (λ e. record { acceptor = record { highest = h; promised = h; last = x.last }; top = y; reported = x.last })
      (λ e. unanswered_fits a t x y)

  promised_fits : (n j last : ℕ) (w own : Outcome) (a : Acceptor) (t : Tally) → last < 256 → AcceptorFits a → t.top < 256 → BallotFits (promise_arrives n b j last w own a t)
  unfolding promise_arrives put_if_majority put_word putting with_word counting
  promised_fits n j last w own a t l x y =
      let z = by_cond (λ (k : ℕ). k < 256) (ltb t.top last) last t.top (λ e. l) (λ e. y) in
      by_cond BallotFits (counts t j) _ _
      (λ e. by_cond BallotFits (majority n (counting t j last w).from) _ _
      (λ q. let p = accepted_fits _ a (with_word (counting t j last w) _) x z in record { acceptor = p.acceptor; top = p.top; reported = p.reported })
      (λ q. unanswered_fits a (counting t j last w) x z))
      (λ e. unanswered_fits a t x y)

  reports : (last : ℕ) (w : Outcome) → reports_last b last w ≡ true → last < 256
  unfolding reports_last
  reports last w e = elim (split (eqb last 0)) [
    | inl z ↦ let q = eqb-true last 0 z in omega (arith, q)
    | inr z ↦ let q = leb-true last b (and_r (not (is_none w)) (leb last b) (rw z at e)) in omega (arith, q, h)
  ]

  arrived_fits : (kind : BallotKind) (n from last : ℕ) (w own : Outcome) (a : Acceptor) (t : Tally) → tells_for_kind kind b last w ≡ true → AcceptorFits a → t.top < 256
      → BallotFits (ballot_arrives kind n b from last w own a t)
  unfolding ballot_arrives tells_for_kind
  arrived_fits Prepare n from last w own a t e x y = prepared_fits a t x y
  arrived_fits Promise n from last w own a t e x y = promised_fits n from last w own a t (reports last w e) x y
  arrived_fits Accept n from last w own a t e x y = accepted_fits w a t x y
  arrived_fits Accepted n from last w own a t e x y = unanswered_fits a t x y

pub received_fits : (me : Identity) (own : Bool) (m : BallotMessage) (c : Controller) (a : Acceptor) (t : Tally) → AcceptorFits a → t.top < 256 → BallotFits (receive_ballot me own m c a t)
unfolding receive_ballot ballot_comes ballot_suits
received_fits me own m c a t x y = by_cond BallotFits (takes_part me own c && ballot_comes me m t) _ _
    (λ e. arrived_fits m.ballot (small m.ballot (search (and_l, and_r))) m.kind me.n m.from m.last m.word c.proposal a t (search (and_l, and_r)) x y)
    (λ e. unanswered_fits a t x y)

pub may_open_lem : (me : Identity) (b : ℕ) (a : Acceptor) (t : Tally) → may_open_alone me b a t ≡ true → b < 256
unfolding may_open_alone
may_open_lem me b a t e = small b (search (and_l, and_r))

pub opened_fits : (me : Identity) (own : Bool) (b : ℕ) (c : Controller) (a : Acceptor) (t : Tally) → b < 256 → AcceptorFits a → t.top < 256 → BallotFits (open_call me own b c a t)
unfolding open_call open_ballot giving reporting promising
opened_fits me own b c a t h x y = by_cond BallotFits (takes_part me own c && may_open_alone me b a t && not (is_none c.proposal)) _ _
    (λ e. let p = promised_fits b h me.n me.id a.last a.word c.proposal (promising b a) t x.last (record { highest = h; promised = h; last = x.last }) y in
    record { acceptor = p.acceptor; top = p.top; reported = x.last })
    (λ e. unanswered_fits a t x y)

pub tally_fits : (b : ℕ) (x : BallotState) → x.tally.top < 256 → (tally_for b x).top < 256
unfolding tally_for
tally_fits b x h = by_cond (λ (t : Tally). t.top < 256) (eqb b x.opened) _ _ (λ e. h) (λ e. omega arith)

pub report_fits : (old : Report) (x : BallotAnswer) → old.last < 256 → BallotFits x → (report_after old x).last < 256
unfolding report_after
report_fits old x h y = by_cond (λ (r : Report). r.last < 256) x.promise.given _ _ (λ e. y.reported) (λ e. h)
