-- What an accepted event comes down to: behind the questions every call of a controller is its rule. `perform_v` gives each event's rule, and the
-- arguments about orders go by its cases.
use Prim.Native.Nat.{ℕ, ◌≤◌}
use mathlib.Core.Path.{◌≡◌, refl, ◌∙◌, ap}
use mathlib.Core.Bool.{Bool, true, false, ◌&&◌, ◌||◌, cond, false≢true, and-false}
use mathlib.Core.List.{List, [], ◌∷◌}
use lib.Dec.{eqb, leb}
use mathlib.Core.Logic.{inl, inr}
use borrow.Author.Tests.{eqb-true, leb-true}
use Rattle.ground.specs.Tests.{split, and_l, and_r, eqb_same}
use Rattle.ground.specs.Update.{upd, fun_ext}
use Rattle.model.specs.Ranges.{sizes_in_range, is_controller}
use Rattle.model.specs.Routes.{route}
use Rattle.model.specs.Numbers.{word_of, says_move, is_stay}
use Rattle.model.specs.declared.Kind.{Kind}
use Rattle.model.specs.declared.Checkpoint.{Checkpoint}
use Rattle.votes.specs.VoteSets.{single}
use Rattle.message_record.specs.Messages.{suits}
use Rattle.model.specs.declared.Event.{Event}
use Rattle.model.specs.declared.Event.TheVariants.{Lock, Order, Cast, Deliver, Timeout, Decide, Stop, Save, Restore, OfBallots}
use Rattle.model.specs.declared.BallotEvent.{BallotEvent}
use Rattle.model.specs.declared.BallotEvent.TheVariants.{Open, Carry}
use Rattle.protocol.specs.BallotSteps.{ballot_subject, ballots_after}
use Rattle.protocol.specs.declared.Condition.TheVariants.{Stopped}
use Rattle.protocol.specs.declared.Controller.{Controller}
use Rattle.protocol.specs.declared.Answer.{Answer}
use Rattle.protocol.specs.declared.Identity.{Identity}
use Rattle.protocol.specs.declared.Station.{Station}
use Rattle.protocol.specs.declared.Shared.{Shared}
use Rattle.protocol.specs.declared.Bench.{Bench}
use Rattle.protocol.specs.Controllers.{runs, does_stand_by, phase, outcome, cleared, drop_contradicting, conclude}
use Rattle.protocol.specs.Rules.{passing_over, becomes, vote_rule, first_timeout, second_timeout}
use Rattle.protocol.specs.Calls.{valid_identity, vote, addressed, arrives, contradicts_held, tested, receive, timeout, awaits_decision, decide, stop, checkpoint_of, save}
use Rattle.protocol.specs.Counts.{counts_after}
use Rattle.protocol.specs.Benches.{identity, message, of_kind, sent_after}
use Rattle.protocol.specs.Events.{concerns_one, subject, source, restore_from, answer_to}
use Rattle.protocol.specs.Questions.{first_no}
use Rattle.protocol.specs.Steps.{proposed_to, decided_as, station_after, answering, keeping, effect_of, perform, perform_one}
use Rattle.protocol.proofs.view.View.{View, same_view, ballots_v, station_v, put_back_v, shared_v, opened_v, accepts, play_one_v, ask_l, ask_r}
use Rattle.std.specs.Prelude.{Some}

-- one controller's answer put back
unfoldable pub commit_v : View → ℕ → Answer → View
commit_v v i a = record {
  own = v.own;
  order = v.order;
  state = record {
    sent = upd v.state.sent i (sent_after (v.state.sent i) a.sends);
    consensus = record {
      move_proposed = v.state.consensus.move_proposed || says_move a.proposal;
      stay_proposed = v.state.consensus.stay_proposed || is_stay a.proposal;
      decision = v.state.consensus.decision;
    };
  };
  ctl = upd v.ctl i a.controller;
  saved = v.saved;
  counts = counts_after (v.ctl i).condition a.controller.condition v.counts;
  ballots = v.ballots;
}

-- the consensus has chosen
unfoldable pub chosen : View → Bool → View
chosen v move = record {
  own = v.own;
  order = v.order;
  state = record {
    sent = v.state.sent;
    consensus = record { move_proposed = v.state.consensus.move_proposed; stay_proposed = v.state.consensus.stay_proposed; decision = word_of move };
  };
  ctl = v.ctl;
  saved = v.saved;
  counts = v.counts;
  ballots = v.ballots;
}

-- a checkpoint kept
unfoldable pub saved_v : View → ℕ → Checkpoint → View
saved_v v i checkpoint = record { own = v.own; order = v.order; state = v.state; ctl = v.ctl; saved = upd v.saved i (Some checkpoint); counts = v.counts; ballots = v.ballots }

pub upd-id : {A : Type 0} (F : ℕ → A) (i : ℕ) → upd F i (F i) ≡ F
unfolding upd
upd-id F i = fun_ext (upd F i (F i)) F (λ k. elim (split (eqb k i)) [ inl e ↦ rw (e, eqb-true k i e) | inr e ↦ rw e ])

-- it concerns one controller, and does what that answers
pub record Answered (e : Event) : Type 0 where
  pub one : concerns_one e ≡ true
  pub performs : (b : Bench) → perform b e ≡ perform_one b e
  pub effects : (m : Shared) (s : Station) (a : Answer) → effect_of m e s a ≡ answering m s a

module _ (n f : ℕ) where
  abbrev pub identity_v : View → ℕ → Identity
  identity_v v i = identity (shared_v n f v) i

  abbrev pub checkpoint_at : View → ℕ → Checkpoint
  checkpoint_at v i = record { id = i; n = n; f = f; outcome = outcome (v.ctl i); order = v.order; position = (v.ctl i).gate.position }

  -- the timeout's rule by the stage
  unfoldable pub timeout_rule : ℕ → Controller → Answer
  timeout_rule i c = cond (eqb (phase c) 1) (first_timeout n f i c) (second_timeout n f i c)

  -- the answer by the rules
  unfoldable pub rule_answer : View → Event → Answer
  rule_answer v (Lock a c own) = passing_over (v.ctl 0)
  rule_answer v (Order o) = passing_over (v.ctl 0)
  rule_answer v (Cast i willing target) = vote_rule n f i willing target (v.ctl i)
  rule_answer v (Deliver i j kind) = arrives kind n f i (of_kind kind (v.state.sent i)).votes (v.ctl j)
  rule_answer v (Timeout i) = timeout_rule i (v.ctl i)
  rule_answer v (Decide i move) = becomes (conclude (v.ctl i) (word_of move))
  rule_answer v (Stop i) = becomes (cleared Stopped (v.ctl i))
  rule_answer v (Save i) = passing_over (v.ctl i)
  rule_answer v (OfBallots e) = passing_over (v.ctl (ballot_subject e))
  rule_answer v (Restore i) = restore_from (identity_v v i) (v.saved i) (v.ctl i)

  unfoldable pub perform_v : View → Event → View
  perform_v v (Lock a c own) = v
  perform_v v (Order o) = opened_v n f v o
  perform_v v (Cast i willing target) = commit_v v i (vote_rule n f i willing target (v.ctl i))
  perform_v v (Deliver i j kind) = commit_v v j (arrives kind n f i (of_kind kind (v.state.sent i)).votes (v.ctl j))
  perform_v v (Timeout i) = commit_v v i (timeout_rule i (v.ctl i))
  perform_v v (Decide i move) = commit_v (chosen v move) i (becomes (conclude (v.ctl i) (word_of move)))
  perform_v v (Stop i) = commit_v v i (becomes (cleared Stopped (v.ctl i)))
  perform_v v (Save i) = saved_v v i (checkpoint_at v i)
  perform_v v (OfBallots e) = ballots_v v (ballots_after n v.ballots (v.ctl (ballot_subject e)).proposal e)
  perform_v v (Restore i) = commit_v v i (restore_from (identity_v v i) (v.saved i) (v.ctl i))

  -- what an accepted event does, with one case for the kinds that a rule alone answers
  pub by-effect : (v : View) (P : Event → View → Type 0) → ((a c : ℕ) (own : Bool) → P (Lock a c own) v) → ((o : ℕ) → P (Order o) (opened_v n f v o))
      → ((e : Event) → Answered e → P e (commit_v v (subject e) (rule_answer v e)))
      → ((i : ℕ) (w : Bool) → P (Decide i w) (commit_v (chosen v w) i (rule_answer v (Decide i w)))) → ((i : ℕ) → P (Save i) (saved_v v i (checkpoint_at v i)))
      → ((e : BallotEvent) → P (OfBallots e) (ballots_v v (ballots_after n v.ballots (v.ctl (ballot_subject e)).proposal e))) → (e : Event) → P e (perform_v v e)
  unfolding perform_v rule_answer perform effect_of
  by-effect v P lock order answer decide save ballots (Lock a c own) = lock a c own
  by-effect v P lock order answer decide save ballots (Order o) = order o
  by-effect v P lock order answer decide save ballots (Cast i w t) = answer (Cast i w t) (record { one = refl; performs = λ b. refl; effects = λ m s a. refl })
  by-effect v P lock order answer decide save ballots (Deliver i j k) = answer (Deliver i j k) (record { one = refl; performs = λ b. refl; effects = λ m s a. refl })
  by-effect v P lock order answer decide save ballots (Timeout i) = answer (Timeout i) (record { one = refl; performs = λ b. refl; effects = λ m s a. refl })
  by-effect v P lock order answer decide save ballots (Decide i w) = decide i w
  by-effect v P lock order answer decide save ballots (Stop i) = answer (Stop i) (record { one = refl; performs = λ b. refl; effects = λ m s a. refl })
  by-effect v P lock order answer decide save ballots (Save i) = save i
  by-effect v P lock order answer decide save ballots (Restore i) = answer (Restore i) (record { one = refl; performs = λ b. refl; effects = λ m s a. refl })
  by-effect v P lock order answer decide save ballots (OfBallots e) = ballots e

  pub perform-order : (v : View) (e : Event) → concerns_one e ≡ true → (perform_v v e).order ≡ v.order
  unfolding commit_v chosen saved_v ballots_v
  perform-order v = by-effect v (λ e w. concerns_one e ≡ true → w.order ≡ v.order) (λ a c own z. absurd (false≢true z)) (λ o z. absurd (false≢true z)) (λ e c z. refl) (λ i w z. refl) (λ i z. refl) (λ e z. refl)

  module _ (v : View) where
    -- an answer, put back
    answer_back : (i : ℕ) (a a' : Answer) → a ≡ a' → put_back_v v i (answering (shared_v n f v) (station_v v i) a) ≡ commit_v v i a'
    answer_back i a a' e = back ∙ ap (commit_v v i) e
      where
        back : put_back_v v i (answering (shared_v n f v) (station_v v i) a) ≡ commit_v v i a
        back = unfold put_back_v answering proposed_to station_after commit_v in same_view _ _ refl refl refl refl refl (upd-id v.saved i) refl refl

    decision-back : (i : ℕ) (w : Bool) (a a' : Answer) → a ≡ a' → put_back_v v i (answering (decided_as (shared_v n f v) w) (station_v v i) a) ≡ commit_v (chosen v w) i a'
    decision-back i w a a' e = back ∙ ap (commit_v (chosen v w) i) e
      where
        back : put_back_v v i (answering (decided_as (shared_v n f v) w) (station_v v i) a) ≡ commit_v (chosen v w) i a
        back = unfold put_back_v answering decided_as proposed_to station_after commit_v chosen in same_view _ _ refl refl refl refl refl (upd-id v.saved i) refl refl

    pub saved-back : (i : ℕ) → (runs (v.ctl i) || does_stand_by (v.ctl i)) ≡ true → play_one_v n f v (Save i) ≡ saved_v v i (checkpoint_at v i)
    unfolding effect_of put_back_v keeping saved_v
    saved-back i p = same_view _ _ refl refl (upd-id v.state.sent i) refl (upd-id v.ctl i) (ap (upd v.saved i) save-is) refl refl
      where
        save-is : save (identity_v v i) (v.ctl i) ≡ Some (checkpoint_at v i)
        save-is = unfold save checkpoint_of in rw p

    -- behind the questions a call is its rule
    module _ (sized : sizes_in_range n f ≡ true) (open' : leb 1 v.order ≡ true) where
      valid : (i : ℕ) → is_controller n i ≡ true → valid_identity (identity_v v i) ≡ true
      unfolding valid_identity
      valid i e = rw (sized, e, open')

      vote-is : (i : ℕ) (w : Bool) (t : ℕ) (c : Controller) → is_controller n i ≡ true → runs c ≡ true → eqb (phase c) 0 ≡ true
          → drop_contradicting n (single i w) c ≡ c → vote (identity_v v i) w t c ≡ vote_rule n f i w t c
      unfolding vote
      vote-is i w t c m r p k = rw (valid i m, r, p) (ap (λ (x : Controller). vote_rule n f i w t x) k)

      addressed-is : (kind : Kind) (i j : ℕ) → is_controller n i ≡ true → route f kind i j ≡ true → addressed (identity_v v j) (message (shared_v n f v) kind i j (v.state.sent i)) ≡ true
      unfolding addressed
      addressed-is kind i j m r = rw (eqb_same v.order, eqb_same n, eqb_same f, eqb_same j, m, r)

      receive-is : (kind : Kind) (i j : ℕ) (c : Controller) → is_controller n i ≡ true → is_controller n j ≡ true → route f kind i j ≡ true → runs c ≡ true
          → suits (message (shared_v n f v) kind i j (v.state.sent i)) ≡ true → contradicts_held n c (of_kind kind (v.state.sent i)).votes ≡ false
          → receive (identity_v v j) (message (shared_v n f v) kind i j (v.state.sent i)) c ≡ arrives kind n f i (of_kind kind (v.state.sent i)).votes c
      unfolding receive tested
      receive-is kind i j c m m' r q s t = rw (valid j m', q, addressed-is kind i j m r, s, t, and-false)

      timeout-is : (i : ℕ) (c : Controller) → is_controller n i ≡ true → runs c ≡ true → (eqb (phase c) 1 || eqb (phase c) 2) ≡ true → timeout (identity_v v i) c ≡ timeout_rule i c
      unfolding timeout timeout_rule
      timeout-is i c m r p = rw (valid i m, r) (either (eqb (phase c) 1) (eqb (phase c) 2) p)
        where
          either : (x y : Bool) → (x || y) ≡ true → cond x (first_timeout n f i c) (cond y (second_timeout n f i c) (passing_over c)) ≡ cond x (first_timeout n f i c) (second_timeout n f i c)
          either true y e = refl
          either false true e = refl
          either false false e = absurd (false≢true e)

  pub decide-is : (w : Bool) (c : Controller) → (runs c || does_stand_by c) ≡ true → (does_stand_by c || eqb (phase c) 3) ≡ true → decide w c ≡ becomes (conclude c (word_of w))
  unfolding decide awaits_decision
  decide-is w c p q = rw (both (runs c) (does_stand_by c) (eqb (phase c) 3) p q)
    where
      both : (r s x : Bool) → (r || s) ≡ true → (s || x) ≡ true → (s || (r && x)) ≡ true
      both r true x p q = refl
      both true false x p q = q
      both false false x p q = absurd (false≢true p)

  pub stop_is : (c : Controller) → (runs c || does_stand_by c) ≡ true → stop c ≡ becomes (cleared Stopped c)
  unfolding stop
  stop_is c p = rw p

  -- behind the questions the answer is the rule's
  abbrev pub answer_v : View → Event → Answer
  answer_v v e = answer_to (shared_v n f v) e (v.state.sent (source e)) (station_v v (subject e))

  -- what the test of vote sets looks at: no acknowledgement held contradicts the own vote; a delivered vote set suits its kind and contradicts none held
  pub record Clear (v : View) (e : Event) : Type 0 where
    pub own : (i : ℕ) (w : Bool) (t : ℕ) → e ≡ Cast i w t → drop_contradicting n (single i w) (v.ctl i) ≡ v.ctl i
    pub delivered : (i j : ℕ) (k : Kind) → e ≡ Deliver i j k → (suits (message (shared_v n f v) k i j (v.state.sent i)) ≡ true) × (contradicts_held n (v.ctl j) (of_kind k (v.state.sent i)).votes ≡ false)

  pub answered_by_rule : sizes_in_range n f ≡ true → (v : View) (e : Event) → Clear v e → accepts n f v e ≡ true → answer_v v e ≡ rule_answer v e
  unfolding answer_to rule_answer accepts first_no
  answered_by_rule z v (Lock a c own) k q = refl
  answered_by_rule z v (Order o) k q = refl
  answered_by_rule z v (Cast i w t) k q = vote-is v z (search (ask_l, ask_r) depth 14) i w t _ (search (ask_l, ask_r) depth 14) (search (ask_l, ask_r) depth 14) (search (ask_l, ask_r) depth 14) (k.own i w t refl)
  answered_by_rule z v (Deliver i j kind) k q = receive-is v z (search (ask_l, ask_r) depth 14) kind i j _ (search (ask_l, ask_r, and_l, and_r) depth 14) (search (ask_l, ask_r, and_l, and_r) depth 14) (search (ask_l, ask_r) depth 14) (search (ask_l, ask_r) depth 14) (k.delivered i j kind refl).0 (k.delivered i j kind refl).1
  answered_by_rule z v (Timeout i) k q = timeout-is v z (search (ask_l, ask_r) depth 14) i _ (search (ask_l, ask_r) depth 14) (search (ask_l, ask_r) depth 14) (search (ask_l, ask_r) depth 14)
  answered_by_rule z v (Decide i w) k q = decide-is w _ (search (ask_l, ask_r) depth 14) (search (ask_l, ask_r) depth 14)
  answered_by_rule z v (Stop i) k q = stop_is _ (search (ask_l, ask_r) depth 14)
  answered_by_rule z v (Save i) k q = refl
  answered_by_rule z v (OfBallots e) k q = refl
  answered_by_rule z v (Restore i) k q = refl

  -- what it does, put back
  module _ (sized : sizes_in_range n f ≡ true) (v : View) where
    pub answered-back : (e : Event) → Answered e → Clear v e → accepts n f v e ≡ true → play_one_v n f v e ≡ commit_v v (subject e) (rule_answer v e)
    answered-back e x k q = ap (put_back_v v (subject e)) (x.effects (shared_v n f v) (station_v v (subject e)) (answer_v v e)) ∙ answer_back v (subject e) _ _ (answered_by_rule sized v e k q)

    pub decided-back : (i : ℕ) (w : Bool) → Clear v (Decide i w) → accepts n f v (Decide i w) ≡ true → play_one_v n f v (Decide i w) ≡ commit_v (chosen v w) i (rule_answer v (Decide i w))
    unfolding effect_of
    decided-back i w k q = decision-back v i w _ _ (answered_by_rule sized v (Decide i w) k q)

  -- a delivered message has a receiver among the controllers, and so on: the controller that an accepted event concerns is one of them
  pub place : (v : View) (e : Event) → concerns_one e ≡ true → accepts n f v e ≡ true → (1 ≤ subject e) × (subject e ≤ n)
  unfolding accepts first_no is_controller
  place v (Lock x y own) c q = absurd (false≢true c)
  place v (Order o) c q = absurd (false≢true c)
  place v (Cast i w t) c q = (leb-true _ _ (search (ask_l, ask_r, and_l, and_r) depth 14), leb-true _ _ (search (ask_l, ask_r, and_l, and_r) depth 14))
  place v (Deliver i j k) c q = (leb-true _ _ (search (ask_l, ask_r, and_l, and_r) depth 14), leb-true _ _ (search (ask_l, ask_r, and_l, and_r) depth 14))
  place v (Timeout i) c q = (leb-true _ _ (search (ask_l, ask_r, and_l, and_r) depth 14), leb-true _ _ (search (ask_l, ask_r, and_l, and_r) depth 14))
  place v (Decide i w) c q = (leb-true _ _ (search (ask_l, ask_r, and_l, and_r) depth 14), leb-true _ _ (search (ask_l, ask_r, and_l, and_r) depth 14))
  place v (Stop i) c q = (leb-true _ _ (search (ask_l, ask_r, and_l, and_r) depth 14), leb-true _ _ (search (ask_l, ask_r, and_l, and_r) depth 14))
  place v (Save i) c q = (leb-true _ _ (search (ask_l, ask_r, and_l, and_r) depth 14), leb-true _ _ (search (ask_l, ask_r, and_l, and_r) depth 14))
  place v (OfBallots (Open i b)) c q = (leb-true _ _ (search (ask_l, ask_r, and_l, and_r) depth 14), leb-true _ _ (search (ask_l, ask_r, and_l, and_r) depth 14))
  place v (OfBallots (Carry i j k b)) c q = (leb-true _ _ (search (ask_l, ask_r, and_l, and_r) depth 14), leb-true _ _ (search (ask_l, ask_r, and_l, and_r) depth 14))
  place v (Restore i) c q = (leb-true _ _ (search (ask_l, ask_r, and_l, and_r) depth 14), leb-true _ _ (search (ask_l, ask_r, and_l, and_r) depth 14))

  unfoldable pub step_v : View → Event → View
  step_v v e = cond (accepts n f v e) (perform_v v e) v

  unfoldable pub run_v : View → List Event → View
  run_v v [] = v
  run_v v (e ∷ es) = run_v (step_v v e) es
