-- The own vote stands on the own vote set with its word, from the vote on through every call that does not clear the controller: a message leaves the
-- stage and, by `Strays`, what the own vote set says of its owner; another vote is passed over; the other calls leave the own vote set.
use Prim.Native.Nat.{ℕ, suc, ◌≤◌}
use mathlib.Core.Path.{◌≡◌, refl, sym, ◌∙◌, ap, subst}
use mathlib.Core.Bool.{Bool, true, false, not, ◌&&◌, ◌||◌, true≢false}
use mathlib.Core.List.{List, [], ◌∷◌}
use native.Mathlib.Omega.{arith}
use lib.Dec.{eqb, leb}
use borrow.Author.Tests.{eqb-true, not-true}
use Rattle.ground.specs.Tests.{no_both, refuted, by_cond, and_l, and_r, or_r, eqb_same}
use Rattle.votes.specs.VoteSets.{knows, wills, single, union}
use Rattle.votes.proofs.VoteLaws.{union-knows, union-wills}
use Rattle.votes.specs.Joining.{join, agreed_or}
use Rattle.votes.proofs.JoinLaws.{join-agreed}
use Rattle.votes.specs.declared.VoteSet.{VoteSet}
use Rattle.votes.specs.Joining.{Joined}
use Rattle.model.specs.Ranges.{is_backup}
use Rattle.model.specs.Numbers.{word_of}
use Rattle.model.specs.declared.Kind.{Kind}
use Rattle.model.specs.declared.Message.{Message}
use Rattle.model.specs.declared.Checkpoint.{Checkpoint}
use Rattle.message_record.specs.Messages.{suits}
use Rattle.protocol.specs.declared.Identity.{Identity}
use Rattle.protocol.specs.declared.Condition.{Condition}
use Rattle.protocol.specs.declared.Condition.TheVariants.{Running, Stopped, Standby}
use Rattle.protocol.specs.declared.Controller.{Controller}
use Rattle.protocol.specs.declared.Answer.{Answer}
use Rattle.protocol.specs.Controllers.{is_stopped, phase_in, runs, phase, has_ack, advance, learn, aim, keep_ack, drop_contradicting, keep_helped, freeze, add_caller, await, propose, noting, conclude}
use Rattle.protocol.specs.Rules.{is_taken, passing_over, contradicted, becomes, proposing, vote_rule, count_own, first_timeout, propose_if_sufficient, frozen, ready, calls_help, second_timeout, answers_call}
use Rattle.protocol.specs.Calls.{valid_identity, vote, addressed, arrives, contradicts_held, tested, receive, timeout, awaits_decision, decide, restore}
use Rattle.protocol.specs.Strays.{untested, MayVote}
use Rattle.protocol.specs.Alone.{Call, voting, receiving, timing-out, deciding, stopping, restoring, renewing, Cabinet, in_order, called, called_all, clears, none_clears}
use Rattle.protocol.proofs.view.RuleCases.{sufficient_cases, second_cases, arrives_cases}
use Rattle.protocol.proofs.invariant.Words.{noting-phase}
use Rattle.protocol.proofs.strays.Strayed.{strays}
use Rattle.protocol.proofs.alone.Sound.{Sound}
use Rattle.protocol.proofs.alone.Voting.{own-free, stage, known_is, willing-is}

pub record Standing (i : ℕ) (w : Bool) (c : Controller) : Type 0 where
  pub begun : 1 ≤ phase c
  pub known : knows c.votes i ≡ true
  pub willing : wills c.votes i ≡ w

-- the vote itself
module _ (me : Identity) (w : Bool) (t : ℕ) (c : Controller) (ok : MayVote me c) (o : Sound me.n me.id c) where
  on-own : agreed_or c.votes (join c.votes (single me.id w)) ≡ union c.votes (single me.id w)
  on-own = ap (λ (j : Joined). agreed_or c.votes j) (join-agreed c.votes (single me.id w) (own-free me w t c ok o))

  known-after : knows (agreed_or c.votes (join c.votes (single me.id w))) me.id ≡ true
  known-after = ap (λ (s : VoteSet). knows s me.id) on-own ∙ union-knows c.votes (single me.id w) me.id
      ∙ or_r (knows c.votes me.id) _ (known_is me w t c ok o me.id ∙ eqb_same me.id)

  unwilled : wills c.votes me.id ≡ false
  unwilled = refuted (wills c.votes me.id) (λ x. no_both (knows c.votes me.id) (o.held.own-tells.within me.id x) (o.phased.unvoted (stage me w t c ok o)))

  word-of : (x y e : Bool) → x ≡ false → e ≡ true → (x || (y && e)) ≡ y
  word-of true y e p q = absurd (true≢false p)
  word-of false true e p q = q
  word-of false false e p q = refl

  willing-after : wills (agreed_or c.votes (join c.votes (single me.id w))) me.id ≡ w
  willing-after = ap (λ (s : VoteSet). wills s me.id) on-own ∙ union-wills c.votes (single me.id w) me.id ∙ ap (λ (b : Bool). wills c.votes me.id || b) (willing-is me w t c ok o me.id)
      ∙ word-of (wills c.votes me.id) w (eqb me.id me.id) unwilled (eqb_same me.id)

  rule-standing : Standing me.id w (vote_rule me.n me.f me.id w t (drop_contradicting me.n (single me.id w) c)).controller
  unfolding vote_rule advance aim learn drop_contradicting
  rule-standing = record { begun = by_cond (λ x. 1 ≤ x) (leb me.id (suc me.f)) 1 2 (λ e. omega arith) (λ e. omega arith); known = known-after; willing = willing-after }

-- a vote that is taken was one of a controller that may vote
pub may-vote : (me : Identity) (w : Bool) (t : ℕ) (c : Controller) → is_taken (vote me w t c).reception ≡ true → MayVote me c
unfolding vote
may-vote me w t c = by_cond (λ (a : Answer). is_taken a.reception ≡ true → MayVote me c) (valid_identity me && runs c && eqb (phase c) 0) _ _ (λ e x. e) (λ e. unfold passing_over in λ x. absurd (true≢false (sym x)))

pub vote-standing : (me : Identity) (w : Bool) (t : ℕ) (c : Controller) → Sound me.n me.id c → is_taken (vote me w t c).reception ≡ true → Standing me.id w (vote me w t c).controller
vote-standing me w t c o e = let ok : MayVote me c = may-vote me w t c e in subst (λ (a : Answer). Standing me.id w a.controller) (sym (is_rule ok)) (rule-standing me w t c ok o)
  where
    is_rule : MayVote me c → vote me w t c ≡ vote_rule me.n me.f me.id w t (drop_contradicting me.n (single me.id w) c)
    is_rule ok = unfold vote in rw ok

-- no message changes the stage
record SameStage (c : Controller) (a : Answer) : Type 0 where
  is : phase a.controller ≡ phase c

passed-stage : (c : Controller) → SameStage c (passing_over c)
unfolding passing_over
passed-stage c = record { is = refl }

refused-stage : (c : Controller) → SameStage c (contradicted c)
unfolding contradicted
refused-stage c = record { is = refl }

arrives-stage : (kind : Kind) (n f j : ℕ) (s : VoteSet) (c : Controller) → SameStage c (arrives kind n f j s c)
arrives-stage kind n f j s c = arrives_cases (SameStage c) n f kind j s c (λ c' q. unfold becomes in record { is = ap phase_in q.condition })
    (λ a h. sufficient_cases (SameStage c) n f a (λ q. unfold proposing propose in record { is = h.is }) (λ q. h)) (λ z p q. unfold answers_call add_caller in record { is = refl }) (passed-stage c)

receive-stage : (me : Identity) (m : Message) (c : Controller) → SameStage c (receive me m c)
unfolding receive tested
receive-stage me m c = by_cond (SameStage c) (valid_identity me && runs c && addressed me m && suits m) _ _
    (λ e. by_cond (SameStage c) (is_taken (untested me m c).reception && contradicts_held me.n c m.votes) _ _ (λ q. refused-stage c) (λ q. arrives-stage m.kind me.n me.f m.from m.votes c))
    (λ e. passed-stage c)

-- every call but a stop and a new order
module _ (i : ℕ) (w : Bool) (c : Controller) (h : Standing i w c) where
  record Stands (a : Answer) : Type 0 where
    is : Standing i w a.controller

  passed-stands : Stands (passing_over c)
  unfolding passing_over
  passed-stands = record { is = h }

  vote-stands : (me : Identity) (v : Bool) (t : ℕ) → Stands (vote me v t c)
  unfolding vote
  vote-stands me v t = by_cond Stands (valid_identity me && runs c && eqb (phase c) 0) _ _
      (λ e. let z : phase c ≡ 0 = eqb-true _ _ (and_r (valid_identity me && runs c) _ e) in let b : 1 ≤ phase c = h.begun in absurd (omega arith)) (λ e. passed-stands)

  receive-stands : (me : Identity) (m : Message) → me.id ≡ i → Stands (receive me m c)
  receive-stands me m q = record {
    is = record {
      begun = let x : phase (receive me m c).controller ≡ phase c = (receive-stage me m c).is in let b : 1 ≤ phase c = h.begun in omega arith;
      known = subst (λ (k : ℕ). knows (receive me m c).controller.votes k ≡ knows c.votes k) q (strays.own-word me m c).0 ∙ h.known;
      willing = subst (λ (k : ℕ). wills (receive me m c).controller.votes k ≡ wills c.votes k) q (strays.own-word me m c).1 ∙ h.willing;
    };
  }

  own-stands : (f k : ℕ) → (count_own f k c).votes ≡ c.votes
  unfolding count_own keep_ack
  own-stands f k = by_cond (λ (x : Controller). x.votes ≡ c.votes) (is_backup f k && not (has_ack c k)) _ _ (λ e. refl) (λ e. refl)

  counted-stands : (n f : ℕ) (a : Answer) → Stands a → Stands (propose_if_sufficient n f a)
  counted-stands n f a s = sufficient_cases Stands n f a (λ q. unfold proposing propose in record { is = record { begun = s.is.begun; known = s.is.known; willing = s.is.willing } }) (λ q. s)

  second-stands : (n f k : ℕ) → Stands (second_timeout n f k c)
  second-stands n f k = second_cases Stands n f k c
      (λ q. unfold ready conclude frozen freeze advance in record { is = record { begun = omega arith; known = h.known; willing = h.willing } })
      (λ q. unfold proposing propose ready frozen freeze advance in record { is = record { begun = omega arith; known = h.known; willing = h.willing } })
      (λ q. counted-stands n f _ (unfold calls_help keep_helped await frozen freeze advance in record { is = record { begun = omega arith; known = h.known; willing = h.willing } }))

  timeout-stands : (me : Identity) → Stands (timeout me c)
  unfolding timeout
  timeout-stands me = by_cond Stands (valid_identity me && runs c && eqb (phase c) 1) _ _
      (λ e. unfold first_timeout advance in record {
        is = record {
          begun = omega arith;
          known = ap (λ (s : VoteSet). knows s i) (own-stands me.f me.id) ∙ h.known;
          willing = ap (λ (s : VoteSet). wills s i) (own-stands me.f me.id) ∙ h.willing;
        };
      })
      (λ e. by_cond Stands (valid_identity me && runs c && eqb (phase c) 2) _ _ (λ q. second-stands me.n me.f me.id) (λ q. passed-stands))

  decide-stands : (v : Bool) → Stands (decide v c)
  unfolding decide
  decide-stands v = by_cond Stands (awaits_decision c) _ _
      (λ e. unfold becomes conclude in record {
        is = record { begun = (let q : phase_in (noting c.condition (word_of v)) ≡ phase c = noting-phase c.condition (word_of v) in let b : 1 ≤ phase c = h.begun in omega arith); known = h.known; willing = h.willing };
      })
      (λ e. passed-stands)

  not_stopped : (k : Condition) → is_stopped k ≡ true → phase_in k ≡ 0
  not_stopped (Running p) e = absurd (true≢false (sym e))
  not_stopped Stopped e = refl
  not_stopped (Standby o) e = refl

  restore-stands : (me : Identity) (p : Checkpoint) → Stands (restore me p c)
  unfolding restore
  restore-stands me p = by_cond Stands (is_stopped c.condition) _ _
      (λ e. let z : phase c ≡ 0 = not_stopped c.condition e in let b : 1 ≤ phase c = h.begun in absurd (omega arith)) (λ e. passed-stands)

call-standing : (me : Identity) (w : Bool) (x : Cabinet) (k : Call) → clears k ≡ false → Standing me.id w x.controller → Standing me.id w (called me x k).controller
unfolding called
call-standing me w x (voting v t) q h = (vote-stands me.id w x.controller h (in_order me x.order) v t).is
call-standing me w x (receiving m) q h = (receive-stands me.id w x.controller h (in_order me x.order) m refl).is
call-standing me w x timing-out q h = (timeout-stands me.id w x.controller h (in_order me x.order)).is
call-standing me w x (deciding v) q h = (decide-stands me.id w x.controller h v).is
call-standing me w x stopping q h = absurd (true≢false q)
call-standing me w x (restoring p) q h = (restore-stands me.id w x.controller h (in_order me x.order) p).is
call-standing me w x (renewing o) q h = absurd (true≢false q)

pub calls-standing : (me : Identity) (w : Bool) (ks : List Call) (x : Cabinet) → none_clears ks ≡ true → Standing me.id w x.controller → Standing me.id w (called_all me x ks).controller
unfolding called_all none_clears
calls-standing me w [] x q h = h
calls-standing me w (k ∷ ks) x q h = calls-standing me w ks (called me x k) (and_r (not (clears k)) _ q) (call-standing me w x k (not-true _ (and_l (not (clears k)) _ q)) h)
