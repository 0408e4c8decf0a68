-- One event, seen as functions of the controller's number: the view without kept calls steps by document 01 as the view does, with each kept call once more
-- right after a second timeout.
use Prim.Native.Nat.{ℕ, zero, suc, ◌≤◌}
use mathlib.Core.Path.{◌≡◌, refl, sym, ◌∙◌, ap, subst}
use mathlib.Core.Bool.{Bool, true, false, not, ◌&&◌, ◌||◌, cond, or-false, or_assoc, false≢true}
use mathlib.Core.List.{List, [], ◌∷◌, ◌++◌, map, map-append}
use native.Mathlib.Omega.{arith}
use lib.Bits.{bit_or}
use lib.Dec.{eqb, leb}
use mathlib.Core.Logic.{inl, inr}
use borrow.Author.Tests.{eqb-true, not-true, le-leb, lt-leb}
use Rattle.ground.specs.Limit.{limit}
use Rattle.ground.specs.Tests.{split, by_cond, and_l, and_r, and_i, same_test, refuted, no_both}
use Rattle.ground.specs.Mask.{has, insert, collect}
use Rattle.ground.proofs.MaskLaws.{has_or}
use Rattle.ground.proofs.Collect.{has-collect}
use Rattle.ground.proofs.Inclusion.{same_set}
use Rattle.ground.specs.Update.{upd, upd_same, upd_other, upd-all, fun_ext}
use Rattle.votes.specs.declared.VoteSet.{VoteSet}
use Rattle.model.specs.Ranges.{different_controllers}
use Rattle.model.specs.Routes.{route, help_route}
use Rattle.model.specs.Numbers.{word_of, says_move, is_stay}
use Rattle.model.specs.QuestionLaws.{yes-all}
use Rattle.model.specs.declared.Kind.TheVariants.{Vote, Ack, Help, Helped}
use Rattle.model.specs.declared.Outcome.{Outcome}
use Rattle.model.specs.declared.Outcome.TheVariants.{None}
use Rattle.model.specs.declared.Event.{Event}
use Rattle.model.specs.declared.Event.TheVariants.{Lock, Order, Cast, Deliver, Timeout, Decide, Stop, Save, Restore, OfBallots}
use Rattle.protocol.specs.declared.Condition.{Condition}
use Rattle.protocol.specs.declared.Condition.TheVariants.{Stopped}
use Rattle.protocol.specs.declared.Counts.{Counts}
use Rattle.protocol.specs.declared.Controller.{Controller}
use Rattle.protocol.specs.declared.Answer.{Answer}
use Rattle.protocol.specs.declared.Sent.{Sent}
use Rattle.protocol.specs.Controllers.{is_running, phase_in, outcome_in, phase, add_caller}
use Rattle.protocol.specs.Counts.{counts_after}
use Rattle.protocol.specs.CountLaws.{counts-stay}
use Rattle.protocol.specs.Rules.{nothing, helps, ack_join, help_votes, first_timeout, second_timeout, answers_call, help_arrives}
use Rattle.protocol.specs.Calls.{arrives}
use Rattle.protocol.specs.declared.Sends.{Sends}
use Rattle.protocol.specs.declared.Bench.{Bench}
use Rattle.protocol.specs.Benches.{after_send, sent_after}
use Rattle.protocol.specs.Events.{subject, source, receivers_in}
use Rattle.protocol.specs.Questions.{is_accepted, first_no, may_open, questions_of}
use Rattle.protocol.specs.Steps.{renewed, order_opened}
use Rattle.protocol.specs.Sequence.{members}
use Rattle.protocol.specs.BallotSteps.{ballot_subject, ballots_after}
use Rattle.protocol.proofs.view.View.{View, same_view, ballots_v, may_give_v, shared_v, accepts, opened_v, ask_l, ask_r, part}
use Rattle.protocol.proofs.view.Performed.{commit_v, chosen, saved_v, checkpoint_at, identity_v, timeout_rule, perform_v, step_v}
use Rattle.protocol.proofs.invariant.Arrivals.{insert-more}
use Rattle.early_calls.specs.Document01.{is_early, once_more, with_callers, without_kept}
use Rattle.early_calls.proofs.Timeouts.{answered_to, timeout-kept, Frozen, timeout-frozen}
use Rattle.early_calls.proofs.Rules.{by_equal, early, late, alike, Matches, vote_matches, ack_matches, helped_matches, call_matches, KeptAlone, early-call, cast_matches, first_matches, conclude-kept, cleared-kept, renew-kept, becomes_matches, restore_matches}
use Rattle.std.specs.Prelude.{Some, None, is_some}
use Rattle.protocol.specs.Rules.{send_to}

-- without the calls kept
unfoldable pub forget_v : View → View
forget_v v = record { own = v.own; order = v.order; state = v.state; ctl = λ k. without_kept (v.ctl k); saved = v.saved; counts = v.counts; ballots = v.ballots }

-- one controller's answer, put back
commit_forget : (v : View) (i : ℕ) (a a' : Answer) → Matches a a' → forget_v (commit_v v i a) ≡ commit_v (forget_v v) i a'
unfolding forget_v commit_v
commit_forget v i a a' m = same_view _ _ refl refl (ap (λ (x : Sends). upd v.state.sent i (sent_after (v.state.sent i) x)) m.sends)
    (ap (λ (o : Outcome). record { move_proposed = v.state.consensus.move_proposed || says_move o; stay_proposed = v.state.consensus.stay_proposed || is_stay o; decision = v.state.consensus.decision }) m.word)
    (part without_kept v.ctl i a.controller ∙ ap (upd (λ k. without_kept (v.ctl k)) i) m.next) refl
    (λ p. counts_after (sym (alike (v.ctl i)).condition p) ((sym (alike a.controller).condition ∙ ap (λ (x : Controller). x.condition) m.next) p) v.counts) refl

-- the counts of a controller whose condition stays
counts_same : (c c' : Condition) (k : Counts) → c' ≡ c → counts_after c c' k ≡ k
counts_same c c' k e = rw e (counts-stay c k)

upd-id : {A : Type 0} (F : ℕ → A) (i : ℕ) (a : A) → a ≡ F i → upd F i a ≡ F
upd-id {A} F i a e = fun_ext (upd F i a) F (upd-all (λ k (x : A). x ≡ F k) F i a e (λ k. refl))

-- no word put
unsaid : (said : Outcome → Bool) → said None ≡ false → (x : Bool) (o : Outcome) → o ≡ None → (x || said o) ≡ x
unsaid said z x o e = ap (λ (o : Outcome). x || said o) e ∙ ap (λ (y : Bool). x || y) z ∙ or-false x

commit-kept : (v : View) (i : ℕ) (a : Answer) → KeptAlone (v.ctl i) a → forget_v (commit_v v i a) ≡ forget_v v
unfolding forget_v commit_v
commit-kept v i a m = same_view _ _ refl refl (upd-id v.state.sent i (sent_after (v.state.sent i) a.sends) (ap (sent_after (v.state.sent i)) m.sends ∙ silent))
    (λ p. record {
      move_proposed = unsaid says_move refl v.state.consensus.move_proposed a.proposal m.word p;
      stay_proposed = unsaid is_stay refl v.state.consensus.stay_proposed a.proposal m.word p;
      decision = v.state.consensus.decision;
    })
    (part without_kept v.ctl i a.controller ∙ upd-id (λ k. without_kept (v.ctl k)) i (without_kept a.controller) m.next) refl
    (counts_same (v.ctl i).condition a.controller.condition v.counts (sym (alike a.controller).condition ∙ ap (λ (x : Controller). x.condition) m.next ∙ (alike (v.ctl i)).condition)) refl
  where
    silent : sent_after (v.state.sent i) nothing ≡ v.state.sent i
    silent = unfold sent_after in refl

-- a help call to one that is before stage 3
abbrev pub early_v : View → Event → Bool
early_v v (Lock a c own) = false
early_v v (Order o) = false
early_v v (Cast i w t) = false
early_v v (Deliver i j Vote) = false
early_v v (Deliver i j Ack) = false
early_v v (Deliver i j Help) = leb (phase (v.ctl j)) 2
early_v v (Deliver i j Helped) = false
early_v v (Timeout i) = false
early_v v (Decide i w) = false
early_v v (Stop i) = false
early_v v (Save i) = false
early_v v (Restore i) = false
early_v v (OfBallots e) = false

module _ (n f : ℕ) where
  -- the questions look at no kept call
  accepts_forget : (v : View) (e : Event) → accepts n f (forget_v v) e ≡ accepts n f v e
  unfolding accepts forget_v
  accepts_forget v e = λ p. is_accepted (first_no (questions_of (record {
    shared = shared_v n f v;
    condition = (alike (v.ctl (subject e))).condition p;
    has-checkpoint = is_some (v.saved (subject e));
    receivers = receivers_in e (v.state.sent (source e));
    may_open = may_open (shared_v n f v);
    agrees = true;
    may_give = may_give_v (shared_v n f v) v.ballots;
    ballots = v.ballots;
    proposal = (alike (v.ctl (subject e))).proposal p;
  }) e))

  -- an accepted event other than an early call and a second timeout
  abbrev Apart : View → Event → Type 0
  Apart v (Lock a c own) = Unit {0}
  Apart v (Order o) = Unit {0}
  Apart v (Cast i w t) = Unit {0}
  Apart v (Deliver i j Vote) = Unit {0}
  Apart v (Deliver i j Ack) = Unit {0}
  Apart v (Deliver i j Help) = leb (phase (v.ctl j)) 2 ≡ false
  Apart v (Deliver i j Helped) = Unit {0}
  Apart v (Timeout i) = eqb (phase (v.ctl i)) 1 ≡ true
  Apart v (Decide i w) = Unit {0}
  Apart v (Stop i) = Unit {0}
  Apart v (Save i) = Unit {0}
  Apart v (Restore i) = Unit {0}
  Apart v (OfBallots e) = Unit {0}

  -- an event that is neither a help call nor a timeout: document 01 knows it as it is
  pub record Plain (e : Event) : Type 0 where
    pub early : (b : Bench) → is_early b e ≡ false
    pub early-view : (v : View) → early_v v e ≡ false
    pub once : (b : Bench) → once_more b e ≡ []
    pub apart : (v : View) → Apart v e

  pub by-calls : (P : Event → Type 0) → ((i j : ℕ) → P (Deliver i j Help)) → ((i : ℕ) → P (Timeout i)) → ((e : Event) → Plain e → P e) → (e : Event) → P e
  by-calls P call timeout plain (Lock a c own) = plain (Lock a c own) (record { early = λ b. refl; early-view = λ v. refl; once = λ b. refl; apart = λ v. tt })
  by-calls P call timeout plain (Order o) = plain (Order o) (record { early = λ b. refl; early-view = λ v. refl; once = λ b. refl; apart = λ v. tt })
  by-calls P call timeout plain (Cast i w t) = plain (Cast i w t) (record { early = λ b. refl; early-view = λ v. refl; once = λ b. refl; apart = λ v. tt })
  by-calls P call timeout plain (Deliver i j Vote) = plain (Deliver i j Vote) (record { early = λ b. refl; early-view = λ v. refl; once = λ b. refl; apart = λ v. tt })
  by-calls P call timeout plain (Deliver i j Ack) = plain (Deliver i j Ack) (record { early = λ b. refl; early-view = λ v. refl; once = λ b. refl; apart = λ v. tt })
  by-calls P call timeout plain (Deliver i j Help) = call i j
  by-calls P call timeout plain (Deliver i j Helped) = plain (Deliver i j Helped) (record { early = λ b. refl; early-view = λ v. refl; once = λ b. refl; apart = λ v. tt })
  by-calls P call timeout plain (Timeout i) = timeout i
  by-calls P call timeout plain (Decide i w) = plain (Decide i w) (record { early = λ b. refl; early-view = λ v. refl; once = λ b. refl; apart = λ v. tt })
  by-calls P call timeout plain (Stop i) = plain (Stop i) (record { early = λ b. refl; early-view = λ v. refl; once = λ b. refl; apart = λ v. tt })
  by-calls P call timeout plain (Save i) = plain (Save i) (record { early = λ b. refl; early-view = λ v. refl; once = λ b. refl; apart = λ v. tt })
  by-calls P call timeout plain (Restore i) = plain (Restore i) (record { early = λ b. refl; early-view = λ v. refl; once = λ b. refl; apart = λ v. tt })
  by-calls P call timeout plain (OfBallots e) = plain (OfBallots e) (record { early = λ b. refl; early-view = λ v. refl; once = λ b. refl; apart = λ v. tt })

  first_rule : (i : ℕ) (c : Controller) → eqb (phase c) 1 ≡ true → timeout_rule n f i c ≡ first_timeout n f i c
  unfolding timeout_rule
  first_rule i c e = rw e

  first_forget : (i : ℕ) (c : Controller) → eqb (phase c) 1 ≡ true → Matches (timeout_rule n f i c) (timeout_rule n f i (without_kept c))
  first_forget i c e = subst (λ (x : Answer). Matches x (timeout_rule n f i (without_kept c))) (sym (first_rule i c e))
      (subst (Matches (first_timeout n f i c)) (sym (first_rule i (without_kept c) (ap (λ (x : Condition). eqb (phase_in x) 1) (alike c).condition ∙ e))) (first_matches n f i c e))

  saved_forget : (v : View) (i : ℕ) → forget_v (saved_v v i (checkpoint_at n f v i)) ≡ saved_v (forget_v v) i (checkpoint_at n f (forget_v v) i)
  unfolding forget_v saved_v
  saved_forget v i = same_view _ _ refl refl refl refl refl
      (λ p. upd v.saved i (Some (record { id = i; n = n; f = f; outcome = outcome_in (sym (alike (v.ctl i)).condition p); order = v.order; position = sym (alike (v.ctl i)).position p }))) refl refl

  perform_forget : (v : View) (e : Event) → accepts n f v e ≡ true → Apart v e → forget_v (perform_v n f v e) ≡ perform_v n f (forget_v v) e
  unfolding perform_v accepts first_no forget_v arrives
  perform_forget v (Lock a c own) q t = refl
  perform_forget v (Order o) q t = unfold opened_v renewed order_opened in same_view _ _ refl refl refl refl (λ p k. renew-kept (v.ctl k) p) refl refl refl
  perform_forget v (Cast i w g) q t = commit_forget v i _ _ (cast_matches n f i w g (v.ctl i) (search (ask_l, ask_r) depth 14))
  perform_forget v (Deliver i j Vote) q t = commit_forget v j _ _ (vote_matches _ (v.ctl j))
  perform_forget v (Deliver i j Ack) q t = commit_forget v j _ _ (ack_matches n f i _ (v.ctl j))
  perform_forget v (Deliver i j Help) q t = commit_forget v j _ _ (call_matches i (v.ctl j) t)
  perform_forget v (Deliver i j Helped) q t = commit_forget v j _ _ (helped_matches n f i _ (v.ctl j))
  perform_forget v (Timeout i) q t = commit_forget v i _ _ (first_forget i (v.ctl i) t)
  perform_forget v (Decide i w) q t = unfold chosen in commit_forget (chosen v w) i _ _ (becomes_matches _ _ (conclude-kept (v.ctl i) (word_of w)))
  perform_forget v (Stop i) q t = commit_forget v i _ _ (becomes_matches _ _ (cleared-kept Stopped (v.ctl i) refl))
  perform_forget v (Save i) q t = saved_forget v i
  perform_forget v (Restore i) q t = commit_forget v i _ _ (restore_matches (identity_v n f v i) (v.saved i) (v.ctl i))
  perform_forget v (OfBallots e) q t = unfold ballots_v in same_view _ _ refl refl refl refl refl refl refl (ap (λ (o : Outcome). ballots_after n v.ballots o e) (sym (alike (v.ctl (ballot_subject e))).proposal))

  pub step_forget : (v : View) (e : Event) → (accepts n f v e ≡ true → Apart v e) → forget_v (step_v n f v e) ≡ step_v n f (forget_v v) e
  unfolding step_v
  step_forget v e t = by_equal (λ (x y : View). forget_v x ≡ y) (accepts n f v e) _ (accepts_forget v e) _ _ _ _ (λ q. perform_forget v e q (t q)) (λ q. refl)

  -- a call before stage 3
  pub call_forget : (v : View) (i j : ℕ) → leb (phase (v.ctl j)) 2 ≡ true → forget_v (step_v n f v (Deliver i j Help)) ≡ forget_v v
  unfolding step_v perform_v arrives
  call_forget v i j e = by_cond (λ (x : View). forget_v x ≡ forget_v v) (accepts n f v (Deliver i j Help)) _ _ (λ q. commit-kept v j _ (early-call i (v.ctl j) e)) (λ q. refl)

  -- document 01's step, seen so
  unfoldable pub step_v01 : View → Event → View
  step_v01 v e = cond (early_v v e) v (step_v n f v e)

  unfoldable pub run_v01 : View → List Event → View
  run_v01 v [] = v
  run_v01 v (e ∷ es) = run_v01 (step_v01 v e) es

  run_v01-append : (es es' : List Event) (v : View) → run_v01 v (es ++ es') ≡ run_v01 (run_v01 v es) es'
  unfolding run_v01
  run_v01-append [] es' v = refl
  run_v01-append (e ∷ es) es' v = run_v01-append es es' (step_v01 v e)

  -- THE SECOND TIMEOUT. What was kept is answered by document 01 one by one, in rising order.
  module _ (small : n ≤ limit) (v : View) (i : ℕ) (st : eqb (phase (v.ctl i)) 2 ≡ true) where
    abbrev c : Controller
    c = v.ctl i

    abbrev s : VoteSet
    s = help_votes n c

    -- the timeout without kept calls; and then, with the callers m answered
    abbrev timed_out : Answer
    timed_out = second_timeout n f i (with_callers c 0)

    abbrev after_timeout : ℕ → View
    after_timeout m = commit_v (forget_v v) i (answered_to m s timed_out)

    stage : phase c ≡ 2
    stage = eqb-true _ _ st

    frozen : Frozen n f i (with_callers c 0) timed_out
    frozen = timeout-frozen n f i (with_callers c 0)

    same-votes : help_votes n (with_callers c 0) ≡ s
    unfolding help_votes ack_join
    same-votes = refl

    second_rule : (c : Controller) → eqb (phase c) 2 ≡ true → timeout_rule n f i c ≡ second_timeout n f i c
    unfolding timeout_rule
    second_rule c e = let z : phase c ≡ 2 = eqb-true _ _ e in rw z

    -- with the calls kept
    kept-timeout : forget_v (commit_v v i (timeout_rule n f i c)) ≡ after_timeout c.help.callers
    kept-timeout = ap (λ (a : Answer). forget_v (commit_v v i a)) (second_rule c st ∙ timeout-kept n f i c c.help.callers)
        ∙ commit_forget v i (answered_to c.help.callers s timed_out) (answered_to c.help.callers s timed_out)
        (record { next = late (with_callers timed_out.controller c.help.callers) (rw frozen.phase); sends = refl; word = refl })

    -- without them
    plain-timeout : commit_v (forget_v v) i (timeout_rule n f i (without_kept c)) ≡ after_timeout 0
    plain-timeout = ap (λ (a : Answer). commit_v (forget_v v) i a) (ap (timeout_rule n f i) (early c (rw stage)) ∙ second_rule (with_callers c 0) st ∙ timeout-kept n f i c 0)

    -- the controller after it, with the callers m answered
    abbrev d : ℕ → Controller
    d m = with_callers timed_out.controller m

    after-ctl : (m : ℕ) → (after_timeout m).ctl i ≡ d m
    unfolding commit_v
    after-ctl m = upd_same _ i (d m)

    late-stage : (m : ℕ) → leb (phase ((after_timeout m).ctl i)) 2 ≡ false
    late-stage m = ap (λ (x : Controller). leb (phase x) 2) (after-ctl m) ∙ ap (λ (x : ℕ). leb x 2) frozen.phase

    -- a call of j that was sent may come once more
    pub record MayCome (j : ℕ) : Type 0 where
      pub high : j ≤ n
      pub between : different_controllers n j i ≡ true
      pub way : route f Help j i ≡ true
      pub opened : leb 1 v.order ≡ true
      pub called : has (v.state.sent j).help.to i ≡ true

    apart : (j : ℕ) → MayCome j → eqb j i ≡ false
    unfolding route help_route
    apart j h = not-true (eqb j i) (and_l (not (eqb j i)) _ h.way)

    after-sent : (m j : ℕ) → eqb j i ≡ false → (after_timeout m).state.sent j ≡ v.state.sent j
    unfolding commit_v forget_v
    after-sent m j e = upd_other v.state.sent i _ j e

    comes : (m j : ℕ) → MayCome j → accepts n f (after_timeout m) (Deliver j i Help) ≡ true
    unfolding accepts commit_v forget_v
    comes m j h = ap is_accepted (yes-all _ (refl, (h.between, (h.way, (h.opened, (running, (sent, (refl, tt))))))))
      where
        running : is_running ((after_timeout m).ctl i).condition ≡ true
        running = ap (λ (x : Controller). is_running x.condition) (after-ctl m) ∙ frozen.runs

        sent : has ((after_timeout m).state.sent j).help.to i ≡ true
        sent = ap (λ (x : Sent). has x.help.to i) (after-sent m j (apart j h)) ∙ h.called

    answers : (m j : ℕ) → has m j ≡ false → help_arrives j ((after_timeout m).ctl i) ≡ answers_call j (d m)
    answers m j e = ap (help_arrives j) (after-ctl m) ∙ taken
      where
        taken : help_arrives j (d m) ≡ answers_call j (d m)
        taken = unfold help_arrives in rw (e, frozen.phase)

    -- one caller more
    one_more : (h m j : ℕ) → 1 ≤ j → j ≤ n → bit_or (bit_or h m) (insert 0 j) ≡ bit_or h (insert m j)
    one_more h m j lo hi = same_set _ _ (λ k. has_or (bit_or h m) (insert 0 j) k ∙ ap (λ (x : Bool). x || has (insert 0 j) k) (has_or h m k)
        ∙ or_assoc (has h k) (has m k) (has (insert 0 j) k) ∙ ap (λ (x : Bool). has h k || x) (insert-more m j k lo (omega arith)) ∙ sym (has_or h (insert m j) k))

    again : {A : Type 0} (F : ℕ → A) (x y z : A) → y ≡ z → upd (upd F i x) i y ≡ upd F i z
    unfolding upd
    again F x y z e = fun_ext _ _ (λ k. elim (split (eqb k i)) [ inl q ↦ rw q e | inr q ↦ rw q ])

    answered-more : (m j : ℕ) → 1 ≤ j → j ≤ n → commit_v (after_timeout m) i (answers_call j (d m)) ≡ after_timeout (insert m j)
    unfolding commit_v forget_v answers_call add_caller
    answered-more m j lo hi = same_view _ _ refl refl (again v.state.sent (sent_after (v.state.sent i) (answered_to m s timed_out).sends) _ _ outgoing)
        (λ p. record {
          move_proposed = or-false (v.state.consensus.move_proposed || says_move timed_out.proposal) p;
          stay_proposed = or-false (v.state.consensus.stay_proposed || is_stay timed_out.proposal) p;
          decision = v.state.consensus.decision;
        })
        (again (λ k. without_kept (v.ctl k)) (d m) (add_caller (d m) j) (d (insert m j)) refl) refl
        (counts_same ((after_timeout m).ctl i).condition (d m).condition (after_timeout m).counts (sym (ap (λ (x : Controller). x.condition) (upd_same (λ k. without_kept (v.ctl k)) i (d m))))) refl
      where
        outgoing : sent_after ((after_timeout m).state.sent i) (helps None (send_to (insert 0 j) timed_out.controller.help.votes)) ≡ sent_after (v.state.sent i) (answered_to (insert m j) s timed_out).sends
        outgoing = unfold commit_v forget_v in ap (λ (l : Sent). sent_after l (helps None (send_to (insert 0 j) timed_out.controller.help.votes))) (upd_same v.state.sent i _) ∙ joined
          where
            joined : sent_after (sent_after (v.state.sent i) (answered_to m s timed_out).sends) (helps None (send_to (insert 0 j) timed_out.controller.help.votes)) ≡ sent_after (v.state.sent i) (answered_to (insert m j) s timed_out).sends
            joined = unfold sent_after in λ p. record {
              vote = after_send (v.state.sent i).vote timed_out.sends.vote;
              ack = after_send (v.state.sent i).ack timed_out.sends.ack;
              help = after_send (v.state.sent i).help timed_out.sends.help;
              helped = record { to = one_more (v.state.sent i).helped.to m j lo hi p; votes = (frozen.votes ∙ same-votes) p };
            }

    call-more : (m j : ℕ) → 1 ≤ j → MayCome j → has m j ≡ false → step_v n f (after_timeout m) (Deliver j i Help) ≡ after_timeout (insert m j)
    unfolding step_v perform_v arrives
    call-more m j lo h e = rw (comes m j h) (ap (commit_v (after_timeout m) i) (answers m j e) ∙ answered-more m j lo h.high)

    -- all of them
    calls-more : (kept k : ℕ) → k ≤ n → ((j : ℕ) → 1 ≤ j → has kept j ≡ true → MayCome j) → run_v01 (after_timeout 0) (map (λ j. Deliver j i Help) (members k kept)) ≡ after_timeout (collect k (has kept))
    unfolding members collect run_v01
    calls-more kept zero h may = refl
    calls-more kept (suc k) h may =
        ap (run_v01 (after_timeout 0)) (map-append (λ j. Deliver j i Help) (members k kept) (cond (has kept (suc k)) (suc k ∷ []) []))
        ∙ run_v01-append (map (λ j. Deliver j i Help) (members k kept)) (map (λ j. Deliver j i Help) (cond (has kept (suc k)) (suc k ∷ []) [])) (after_timeout 0)
        ∙ ap (λ (x : View). run_v01 x (map (λ j. Deliver j i Help) (cond (has kept (suc k)) (suc k ∷ []) []))) (calls-more kept k (omega arith) may)
        ∙ last
      where
        free : has (collect k (has kept)) (suc k) ≡ false
        free = refuted _ (λ e.
            let q : leb 1 (suc k) && leb (suc k) k && has kept (suc k) ≡ true = sym (has-collect k (has kept) (suc k) (omega arith)) ∙ e in
            no_both (leb (suc k) k) (and_r (leb 1 (suc k)) (leb (suc k) k) (and_l (leb 1 (suc k) && leb (suc k) k) (has kept (suc k)) q)) (lt-leb (suc k) k (omega arith)))

        not-early : step_v01 (after_timeout (collect k (has kept))) (Deliver (suc k) i Help) ≡ step_v n f (after_timeout (collect k (has kept))) (Deliver (suc k) i Help)
        not-early = unfold step_v01 in rw (late-stage (collect k (has kept)))

        last : run_v01 (after_timeout (collect k (has kept))) (map (λ j. Deliver j i Help) (cond (has kept (suc k)) (suc k ∷ []) [])) ≡ after_timeout (cond (has kept (suc k)) (insert (collect k (has kept)) (suc k)) (collect k (has kept)))
        last = elim (split (has kept (suc k))) [
          | inl e ↦ rw e (unfold run_v01 in not-early ∙ call-more (collect k (has kept)) (suc k) (omega arith) (may (suc k) (omega arith) e) free)
          | inr e ↦ rw e (unfold run_v01 in refl)
        ]

    -- the timeout and then all the kept calls
    pub timeout_forget : accepts n f v (Timeout i) ≡ true → ((j : ℕ) → 1 ≤ j → has c.help.callers j ≡ true → MayCome j)
        → forget_v (step_v n f v (Timeout i)) ≡ run_v01 (step_v n f (forget_v v) (Timeout i)) (map (λ j. Deliver j i Help) (members n c.help.callers))
    timeout_forget q may = kept_side ∙ ap after_timeout (sym all) ∙ sym (calls-more c.help.callers n (omega arith) may) ∙ ap (λ (x : View). run_v01 x (map (λ j. Deliver j i Help) (members n c.help.callers))) (sym plain_side)
      where
        kept_side : forget_v (step_v n f v (Timeout i)) ≡ after_timeout c.help.callers
        kept_side = unfold step_v perform_v in rw q kept-timeout

        plain_side : step_v n f (forget_v v) (Timeout i) ≡ after_timeout 0
        plain_side = unfold step_v perform_v forget_v in rw (accepts_forget v (Timeout i) ∙ q) plain-timeout

        -- all callers are among 1 to n
        all : collect n (has c.help.callers) ≡ c.help.callers
        all = same_set _ _ (λ k. has-collect n (has c.help.callers) k (omega arith) ∙ same_test _ _
            (λ e. and_r (leb 1 k && leb k n) (has c.help.callers k) e)
            (λ e. and_i (leb 1 k && leb k n) (has c.help.callers k) (and_i (leb 1 k) (leb k n) (le-leb 1 k (at_least k e)) (le-leb k n (may k (at_least k e) e).high)) e))
          where
            at_least : (k : ℕ) → has c.help.callers k ≡ true → 1 ≤ k
            at_least zero e = unfold has in absurd (false≢true e)
            at_least (suc k) e = omega arith
