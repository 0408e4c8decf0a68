-- STRAY TELEGRAMS OF BALLOTS, off the bench. Document 01: "a controller passes over any of another order, n or f, or meant for another controller". Document 02, U14: "Those
-- standing by, and all at c = 0, take no part"; a ballot "belongs to" one controller, which asks and puts in it. Said of every controller and every telegram.
-- `stray_ballots` in src/lib.rt has it as its contract.
use Rattle.std.specs.Prelude.{ℕ, ◌≡◌, Bool, false}
use Rattle.ground.specs.Mask.{has}
use Rattle.model.specs.declared.BallotKind.TheVariants.{Prepare, Promise, Accept, Accepted}
use Rattle.model.specs.declared.BallotMessage.{BallotMessage}
use Rattle.message_record.specs.BallotMessages.{ballot_suits}
use Rattle.protocol.specs.declared.Identity.{Identity}
use Rattle.protocol.specs.declared.Controller.{Controller}
use Rattle.protocol.specs.declared.Acceptor.{Acceptor}
use Rattle.protocol.specs.declared.Tally.{Tally}
use Rattle.protocol.specs.Controllers.{runs}
use Rattle.protocol.specs.Ballots.{owner}
use Rattle.protocol.specs.BallotRules.{unanswered}
use Rattle.protocol.specs.BallotCalls.{open_call, receive_ballot}

-- the telegram changes nothing, and nothing is sent
abbrev pub PassedOver : Identity → Bool → BallotMessage → Controller → Acceptor → Tally → Type 0
PassedOver me own m c a t = receive_ballot me own m c a t ≡ unanswered a t

pub record BallotStrays : Type 0 where
  pub another-order : (me : Identity) (own : Bool) (m : BallotMessage) (c : Controller) (a : Acceptor) (t : Tally) → (m.order ≡ me.order → ⊥) → PassedOver me own m c a t
  pub another-n : (me : Identity) (own : Bool) (m : BallotMessage) (c : Controller) (a : Acceptor) (t : Tally) → (m.n ≡ me.n → ⊥) → PassedOver me own m c a t
  pub another-f : (me : Identity) (own : Bool) (m : BallotMessage) (c : Controller) (a : Acceptor) (t : Tally) → (m.f ≡ me.f → ⊥) → PassedOver me own m c a t
  pub another_receiver : (me : Identity) (own : Bool) (m : BallotMessage) (c : Controller) (a : Acceptor) (t : Tally) → (m.to ≡ me.id → ⊥) → PassedOver me own m c a t
  -- one that reading would refuse by 9
  pub unsuited : (me : Identity) (own : Bool) (m : BallotMessage) (c : Controller) (a : Acceptor) (t : Tally) → ballot_suits m ≡ false → PassedOver me own m c a t
  -- an ask or a put that is not from the ballot's owner
  pub ask-of_another : (me : Identity) (own : Bool) (m : BallotMessage) (c : Controller) (a : Acceptor) (t : Tally) → m.kind ≡ Prepare → (owner me.n m.ballot ≡ m.from → ⊥) → PassedOver me own m c a t
  pub put-of_another : (me : Identity) (own : Bool) (m : BallotMessage) (c : Controller) (a : Acceptor) (t : Tally) → m.kind ≡ Accept → (owner me.n m.ballot ≡ m.from → ⊥) → PassedOver me own m c a t
  -- a promise in another's ballot, or in one that was never opened (its own promise is not counted)
  pub promise-to_another : (me : Identity) (own : Bool) (m : BallotMessage) (c : Controller) (a : Acceptor) (t : Tally) → m.kind ≡ Promise → (owner me.n m.ballot ≡ me.id → ⊥) → PassedOver me own m c a t
  pub promise_unasked : (me : Identity) (own : Bool) (m : BallotMessage) (c : Controller) (a : Acceptor) (t : Tally) → m.kind ≡ Promise → has t.from me.id ≡ false → PassedOver me own m c a t
  -- "A taken changes nothing where it comes in"
  pub taken : (me : Identity) (own : Bool) (m : BallotMessage) (c : Controller) (a : Acceptor) (t : Tally) → m.kind ≡ Accepted → PassedOver me own m c a t
  -- "Those standing by, and all at c = 0, take no part": nor does one that is stopped
  pub down : (me : Identity) (own : Bool) (m : BallotMessage) (c : Controller) (a : Acceptor) (t : Tally) → runs c ≡ false → PassedOver me own m c a t
  pub with_arbiter : (me : Identity) (m : BallotMessage) (c : Controller) (a : Acceptor) (t : Tally) → PassedOver me false m c a t
  pub opens-down : (me : Identity) (own : Bool) (b : ℕ) (c : Controller) (a : Acceptor) (t : Tally) → runs c ≡ false → open_call me own b c a t ≡ unanswered a t
  pub opens_with_arbiter : (me : Identity) (b : ℕ) (c : Controller) (a : Acceptor) (t : Tally) → open_call me false b c a t ≡ unanswered a t
