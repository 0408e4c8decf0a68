-- `BallotStrays`: each is a test that fails, of those behind which the rules stand.
use Prim.Native.Nat.{ℕ}
use mathlib.Core.Path.{◌≡◌, refl, sym, ◌∙◌, ap}
use mathlib.Core.Bool.{Bool, true, false, not, ◌&&◌, false≢true}
use lib.Dec.{eqb}
use borrow.Author.Tests.{eqb-true}
use Rattle.ground.specs.Tests.{no_both, by_cond, and_l, and_r}
use Rattle.ground.specs.Mask.{has}
use Rattle.model.specs.Numbers.{is_none}
use Rattle.model.specs.declared.BallotKind.{BallotKind}
use Rattle.model.specs.declared.BallotKind.TheVariants.{Prepare, Promise, Accept, Accepted}
use Rattle.model.specs.declared.BallotMessage.{BallotMessage}
use Rattle.message_record.specs.BallotMessages.{ballot_suits}
use Rattle.protocol.specs.declared.Identity.{Identity}
use Rattle.protocol.specs.declared.Controller.{Controller}
use Rattle.protocol.specs.declared.Acceptor.{Acceptor}
use Rattle.protocol.specs.declared.Tally.{Tally}
use Rattle.protocol.specs.declared.BallotAnswer.{BallotAnswer}
use Rattle.protocol.specs.Controllers.{runs}
use Rattle.protocol.specs.Ballots.{owner}
use Rattle.protocol.specs.BallotRules.{unanswered}
use Rattle.protocol.specs.BallotCalls.{takes_part, may_open_alone, open_call, ballot_addressed, is_of_owner, ballot_arrives, ballot_comes, receive_ballot}
use Rattle.protocol.specs.BallotStrays.{PassedOver, BallotStrays}

module _ (me : Identity) (own : Bool) (m : BallotMessage) (c : Controller) (a : Acceptor) (t : Tally) where
  -- what is true of one that comes
  record Comes : Type 0 where
    owned : own ≡ true
    running : runs c ≡ true
    order : m.order ≡ me.order
    n : m.n ≡ me.n
    f : m.f ≡ me.f
    to : m.to ≡ me.id
    suited : ballot_suits m ≡ true
    of_owner : is_of_owner m.kind me.n m.ballot m.from me.id t ≡ true

  comes : (takes_part me own c && ballot_comes me m t) ≡ true → Comes
  unfolding takes_part ballot_comes ballot_addressed
  comes e = record {
    owned = search (and_l, and_r) depth 14;
    running = search (and_l, and_r) depth 14;
    order = eqb-true _ _ (search (and_l, and_r) depth 14);
    n = eqb-true _ _ (search (and_l, and_r) depth 14);
    f = eqb-true _ _ (search (and_l, and_r) depth 14);
    to = eqb-true _ _ (search (and_l, and_r) depth 14);
    suited = search (and_l, and_r) depth 14;
    of_owner = search (and_l, and_r) depth 14;
  }

  passed : (Comes → ⊥) → PassedOver me own m c a t
  unfolding receive_ballot
  passed off = by_cond (λ (x : BallotAnswer). x ≡ unanswered a t) (takes_part me own c && ballot_comes me m t) _ _ (λ e. absurd (off (comes e))) (λ _. refl)

  -- of a kind
  of : (k : BallotKind) → m.kind ≡ k → Comes → is_of_owner k me.n m.ballot m.from me.id t ≡ true
  of k e h = ap (λ (x : BallotKind). is_of_owner x me.n m.ballot m.from me.id t) (sym e) ∙ h.of_owner

  taken-passed : m.kind ≡ Accepted → PassedOver me own m c a t
  unfolding receive_ballot ballot_arrives
  taken-passed e = by_cond (λ (x : BallotAnswer). x ≡ unanswered a t) (takes_part me own c && ballot_comes me m t) _ _
      (λ _. ap (λ (k : BallotKind). ballot_arrives k me.n m.ballot m.from m.last m.word c.proposal a t) e) (λ _. refl)

opens_not : (me : Identity) (own : Bool) (b : ℕ) (c : Controller) (a : Acceptor) (t : Tally) → (own ≡ true → runs c ≡ true → ⊥) → open_call me own b c a t ≡ unanswered a t
unfolding open_call takes_part
opens_not me own b c a t off = by_cond (λ (x : BallotAnswer). x ≡ unanswered a t) (takes_part me own c && may_open_alone me b a t && not (is_none c.proposal)) _ _ (λ e. absurd (off (search (and_l, and_r) depth 14) (search (and_l, and_r) depth 14))) (λ _. refl)

pub ballot-strays : BallotStrays
unfolding is_of_owner
ballot-strays = record {
  another-order = λ me own m c a t off. passed me own m c a t (λ h. off h.order);
  another-n = λ me own m c a t off. passed me own m c a t (λ h. off h.n);
  another-f = λ me own m c a t off. passed me own m c a t (λ h. off h.f);
  another_receiver = λ me own m c a t off. passed me own m c a t (λ h. off h.to);
  unsuited = λ me own m c a t off. passed me own m c a t (λ h. no_both (ballot_suits m) h.suited off);
  ask-of_another = λ me own m c a t k off. passed me own m c a t (λ h. off (eqb-true _ _ (of me own m c a t Prepare k h)));
  put-of_another = λ me own m c a t k off. passed me own m c a t (λ h. off (eqb-true _ _ (of me own m c a t Accept k h)));
  promise-to_another = λ me own m c a t k off. passed me own m c a t (λ h. off (eqb-true _ _ (and_l (eqb (owner me.n m.ballot) me.id) (has t.from me.id) (of me own m c a t Promise k h))));
  promise_unasked = λ me own m c a t k off. passed me own m c a t (λ h. no_both (has t.from me.id) (and_r (eqb (owner me.n m.ballot) me.id) (has t.from me.id) (of me own m c a t Promise k h)) off);
  taken = taken-passed;
  down = λ me own m c a t off. passed me own m c a t (λ h. no_both (runs c) h.running off);
  with_arbiter = λ me m c a t. passed me false m c a t (λ h. false≢true h.owned);
  opens-down = λ me own b c a t off. opens_not me own b c a t (λ _ r. no_both (runs c) r off);
  opens_with_arbiter = λ me b c a t. opens_not me false b c a t (λ e _. false≢true e);
}
