-- `ControllerAlone`: every call keeps the invariant (Voting, Arriving, Timeouts), so it holds after every list of calls; and what it says of what is
-- held and joined.
use Prim.Native.Nat.{ℕ}
use mathlib.Core.Path.{◌≡◌, refl, sym, subst}
use mathlib.Core.Bool.{Bool, true, false, ◌&&◌, ◌||◌, true≢false}
use mathlib.Core.List.{List, [], ◌∷◌, ◌++◌}
use lib.Dec.{eqb}
use Rattle.ground.specs.Tests.{by_cond}
use Rattle.votes.specs.VoteSets.{single}
use Rattle.votes.proofs.JoinLaws.{join-agreed}
use Rattle.model.specs.declared.Outcome.TheVariants.{None}
use Rattle.model.specs.declared.Message.{Message}
use Rattle.model.specs.declared.Checkpoint.{Checkpoint}
use Rattle.message_record.specs.Messages.{suits}
use Rattle.protocol.specs.declared.Identity.{Identity}
use Rattle.protocol.specs.declared.Condition.TheVariants.{Stopped}
use Rattle.protocol.specs.declared.Controller.{Controller}
use Rattle.protocol.specs.declared.Answer.{Answer}
use Rattle.protocol.specs.Controllers.{is_stopped, runs, does_stand_by, phase, in_phase}
use Rattle.protocol.specs.Rules.{becomes, is_taken, passing_over, contradicted}
use Rattle.protocol.specs.Calls.{valid_identity, vote, addressed, contradicts_held, tested, receive, awaits_decision, decide, stop, restore, renew}
use Rattle.protocol.specs.NoContradiction.{Agreeing, JoinIsUnion}
use Rattle.protocol.specs.Strays.{untested}
use Rattle.protocol.specs.Alone.{Call, voting, receiving, timing-out, deciding, stopping, restoring, renewing, Cabinet, in_order, called, called_all, fresh_cabinet, cabinet, alone, vote_after, none_clears, ControllerAlone}
use Rattle.protocol.proofs.alone.Telling.{tell_agree, told-join}
use Rattle.protocol.proofs.alone.Sound.{Sound, Leaves, passed_leaves, becomes_leaves, cleared-sound, fresh-sound, concluded-sound}
use Rattle.protocol.proofs.alone.Arriving.{Free, free_of, receive_leaves}
use Rattle.protocol.proofs.alone.Voting.{own-free, voted-sound}
use Rattle.protocol.proofs.alone.Timeouts.{acks-agreed, help-agreed, help-told, timeout_leaves}
use Rattle.protocol.proofs.alone.Standing.{Standing, may-vote, vote-standing, calls-standing}

-- the calls ---------------------------------------------------------------------------------

vote_leaves : (me : Identity) (w : Bool) (t : ℕ) (c : Controller) → Sound me.n me.id c → Leaves me.n me.id (vote me w t c)
unfolding vote
vote_leaves me w t c o = by_cond (Leaves me.n me.id) (valid_identity me && runs c && eqb (phase c) 0) _ _ (λ e. record { sound = voted-sound me w t c e o }) (λ e. passed_leaves me.n me.id c o)

decide_leaves : (n i : ℕ) (w : Bool) (c : Controller) → Sound n i c → Leaves n i (decide w c)
unfolding decide
decide_leaves n i w c o = by_cond (Leaves n i) (awaits_decision c) _ _ (λ e. becomes_leaves n i _ (concluded-sound n i c _ o)) (λ e. passed_leaves n i c o)

stop_leaves : (n i : ℕ) (c : Controller) → Sound n i c → Leaves n i (stop c)
unfolding stop
stop_leaves n i c o = by_cond (Leaves n i) (runs c || does_stand_by c) _ _ (λ e. becomes_leaves n i _ (cleared-sound n i Stopped c o.counted.room)) (λ e. passed_leaves n i c o)

restore_leaves : (n i : ℕ) (me : Identity) (p : Checkpoint) (c : Controller) → Sound n i c → Leaves n i (restore me p c)
unfolding restore
restore_leaves n i me p c o = by_cond (Leaves n i) (is_stopped c.condition) _ _ (λ e. becomes_leaves n i _ (cleared-sound n i _ c o.counted.room)) (λ e. passed_leaves n i c o)

renew-sound : (n i : ℕ) (c : Controller) → Sound n i c → Sound n i (renew c)
unfolding renew
renew-sound n i c o = by_cond (Sound n i) (is_stopped c.condition) _ _ (λ e. cleared-sound n i Stopped c o.counted.room) (λ e. cleared-sound n i (in_phase 0 None) c o.counted.room)

call-sound : (me : Identity) (x : Cabinet) (k : Call) → Sound me.n me.id x.controller → Sound me.n me.id (called me x k).controller
unfolding called becomes
call-sound me x (voting w t) o = (vote_leaves (in_order me x.order) w t x.controller o).sound
call-sound me x (receiving m) o = (receive_leaves (in_order me x.order) m x.controller o).sound
call-sound me x timing-out o = (timeout_leaves (in_order me x.order) x.controller o).sound
call-sound me x (deciding w) o = (decide_leaves me.n me.id w x.controller o).sound
call-sound me x stopping o = (stop_leaves me.n me.id x.controller o).sound
call-sound me x (restoring p) o = (restore_leaves me.n me.id (in_order me x.order) p x.controller o).sound
call-sound me x (renewing p) o = renew-sound me.n me.id x.controller o

calls-sound : (me : Identity) (ks : List Call) (x : Cabinet) → Sound me.n me.id x.controller → Sound me.n me.id (called_all me x ks).controller
unfolding called_all
calls-sound me [] x o = o
calls-sound me (k ∷ ks) x o = calls-sound me ks (called me x k) (call-sound me x k o)

alone-sound : (me : Identity) (ks : List Call) → Sound me.n me.id (alone me ks)
alone-sound me ks = calls-sound me ks (fresh_cabinet me) (fresh-sound me.n me.id)

-- what it says ------------------------------------------------------------------------------

agreeing : (n i : ℕ) (c : Controller) → Sound n i c → Agreeing c
agreeing n i c o = record {
  own-answers = tell_agree o.word _ _ o.held.own-tells o.held.answers_tell;
  own-ack = λ j e. tell_agree o.word _ _ o.held.own-tells (o.held.acks_tell j e);
  answers-ack = λ j e. tell_agree o.word _ _ o.held.answers_tell (o.held.acks_tell j e);
  acks = λ j k e e'. tell_agree o.word _ _ (o.held.acks_tell j e) (o.held.acks_tell k e');
}

-- a vote set that is taken passed the test
record Tested (n : ℕ) (m : Message) (c : Controller) (a : Answer) : Type 0 where
  free : is_taken a.reception ≡ true → Free n c m.votes

not_taken : {X : Type 0} → false ≡ true → X
not_taken e = absurd (true≢false (sym e))

passed-tested : (n : ℕ) (m : Message) (c : Controller) → Tested n m c (passing_over c)
unfolding passing_over
passed-tested n m c = record { free = λ e. not_taken e }

refused-tested : (n : ℕ) (m : Message) (c : Controller) → Tested n m c (contradicted c)
unfolding contradicted
refused-tested n m c = record { free = λ e. not_taken e }

receive-tested : (me : Identity) (m : Message) (c : Controller) → Tested me.n m c (receive me m c)
unfolding receive tested
receive-tested me m c = by_cond (Tested me.n m c) (valid_identity me && runs c && addressed me m && suits m) _ _
    (λ k. by_cond (Tested me.n m c) (is_taken (untested me m c).reception && contradicts_held me.n c m.votes) _ _ (λ q. refused-tested me.n m c)
    (λ q. record { free = λ e. free_of me.n c m.votes (second (is_taken (untested me m c).reception) _ e q) }))
    (λ k. passed-tested me.n m c)
  where
    second : (x y : Bool) → x ≡ true → (x && y) ≡ false → y ≡ false
    second true y p q = q
    second false y p q = absurd (true≢false (sym p))

taken_joins : (me : Identity) (m : Message) (c : Controller) → is_taken (receive me m c).reception ≡ true → JoinIsUnion c.votes m.votes × JoinIsUnion c.helped.votes m.votes
taken_joins me m c e = let r : Free me.n c m.votes = (receive-tested me m c).free e in (join-agreed c.votes m.votes r.with-own, join-agreed c.helped.votes m.votes r.with-answers)

vote_joins : (me : Identity) (w : Bool) (t : ℕ) (c : Controller) → Sound me.n me.id c → is_taken (vote me w t c).reception ≡ true → JoinIsUnion c.votes (single me.id w)
vote_joins me w t c o e = join-agreed c.votes (single me.id w) (own-free me w t c (may-vote me w t c e) o)

-- after a list, and then another
then : (me : Identity) (ks ks' : List Call) (x : Cabinet) → called_all me x (ks ++ ks') ≡ called_all me (called_all me x ks) ks'
unfolding called_all
then me [] ks' x = refl
then me (k ∷ ks) ks' x = then me ks ks' (called me x k)

voted_then : (me : Identity) (ks : List Call) (w : Bool) (t : ℕ) (later : List Call) → is_taken (vote_after me ks w t).reception ≡ true → none_clears later ≡ true
    → Standing me.id w (alone me (ks ++ (voting w t ∷ later)))
voted_then me ks w t later e q = subst (λ (x : Cabinet). Standing me.id w x.controller) (sym (then me ks (voting w t ∷ later) (fresh_cabinet me)))
    (unfold called_all in calls-standing me w later (called me (cabinet me ks) (voting w t)) q
    (unfold called in vote-standing (in_order me (cabinet me ks).order) w t (alone me ks) (alone-sound me ks) e))

pub controller-alone : ControllerAlone
controller-alone = record {
  held = λ me ks. agreeing me.n me.id (alone me ks) (alone-sound me ks);
  acks-joined = λ me ks. acks-agreed me.n me.id (alone me ks) (alone-sound me ks);
  help-votes = λ me ks. help-agreed me.n me.id (alone me ks) (alone-sound me ks);
  own-answer = λ me ks. told-join (alone-sound me ks).word _ _ (alone-sound me ks).held.answers_tell (help-told me.n me.id (alone me ks) (alone-sound me ks));
  own-vote = λ me ks w t. vote_joins (in_order me (cabinet me ks).order) w t (alone me ks) (alone-sound me ks);
  taken = λ me ks m. taken_joins (in_order me (cabinet me ks).order) m (alone me ks);
  own-word = λ me ks w t later e q. let s : Standing me.id w (alone me (ks ++ (voting w t ∷ later))) = voted_then me ks w t later e q in (s.known, s.willing);
  unvoted = λ me ks. (alone-sound me ks).phased.unvoted;
  ack-count = λ me ks. (alone-sound me ks).counted.ack-count;
  answer-count = λ me ks. (alone-sound me ks).counted.answer-count;
  ack_senders = λ me ks. (alone-sound me ks).counted.ack_senders;
  answer_senders = λ me ks. (alone-sound me ks).counted.answer_senders;
}
