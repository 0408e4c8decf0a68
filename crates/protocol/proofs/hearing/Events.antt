-- Every accepted event keeps what the running controllers have done with what came to them (Listening): the answer of its controller gives what it owes
-- (RuleSteps), and the others have the same and one event more in the log, which adds nothing to them.
use Prim.Native.Nat.{ℕ, ◌≤◌, ◌<◌}
use mathlib.Core.Path.{◌≡◌, refl, sym, ◌∙◌, ap}
use mathlib.Core.Bool.{Bool, true, false, not, ◌&&◌, ◌||◌, false≢true}
use mathlib.Core.List.{List, [], ◌∷◌}
use native.Mathlib.Omega.{arith}
use lib.Dec.{eqb}
use mathlib.Core.Logic.{◌⊎◌, inl, inr}
use borrow.Author.Tests.{leb-true, eqb-true, eq-eqb}
use Rattle.ground.specs.Limit.{limit}
use Rattle.ground.specs.Tests.{no_both, split, by_cond, and_l, and_r, or-e, or_l, or_r, or-second}
use Rattle.ground.specs.Mask.{has}
use Rattle.ground.proofs.MaskLaws.{insert_only, none_has}
use Rattle.ground.specs.Update.{upd, upd_same, upd_other, upd-all}
use Rattle.votes.specs.declared.VoteSet.{VoteSet}
use Rattle.model.specs.Ranges.{is_controller, is_backup}
use Rattle.model.specs.Numbers.{word_of, says_move, is_stay}
use Rattle.model.specs.declared.Kind.TheVariants.{Vote, Ack, Help, Helped}
use Rattle.model.specs.declared.Outcome.{Outcome}
use Rattle.model.specs.declared.BallotEvent.{BallotEvent}
use Rattle.model.specs.declared.Event.{Event}
use Rattle.model.specs.declared.Event.TheVariants.{Lock, Order, Cast, Deliver, Timeout, Decide, Stop, Save, Restore, OfBallots}
use Rattle.protocol.specs.declared.Condition.{Condition}
use Rattle.protocol.specs.declared.Condition.TheVariants.{Stopped, Standby}
use Rattle.protocol.specs.declared.Controller.{Controller}
use Rattle.protocol.specs.declared.Answer.{Answer}
use Rattle.protocol.specs.declared.Consensus.{Consensus}
use Rattle.protocol.specs.Controllers.{is_running, is_stopped, runs, phase, has_ack, has_called, cleared, advance, learn, aim, keep_ack, keep_helped, freeze, add_caller, await, propose, conclude}
use Rattle.protocol.specs.Rules.{passing_over, becomes, proposing, verdict, vote_rule, count_own, first_timeout, ack_join, propose_if_sufficient, help_votes, frozen, ready, calls_help, second_timeout, keeps_call, answers_call, vote_arrives, ack_arrives, helped_arrives, help_arrives}
use Rattle.protocol.specs.Calls.{arrives, renew}
use Rattle.protocol.specs.Steps.{renewed}
use Rattle.protocol.specs.Benches.{unsent_all, sent_after}
use Rattle.protocol.specs.Events.{subject}
use Rattle.protocol.specs.Questions.{first_no, was_proposed}
use Rattle.protocol.specs.SentOnce.{receivers_of, send_of}
use Rattle.protocol.proofs.view.View.{ballots_v, View, opened_v, accepts, ask_l, ask_r}
use Rattle.protocol.proofs.view.Performed.{commit_v, chosen, identity_v, saved_v, perform_v}
use Rattle.protocol.proofs.view.RuleCases.{vote_cases, ack_cases, helped_cases, help_cases, restore_cases, sufficient_cases, second_cases, timeout_cases}
use Rattle.protocol.proofs.invariant.Invariant.{frozen_by, Inv}
use Rattle.protocol.proofs.invariant.Words.{none-word, noting-runs}
use Rattle.protocol.proofs.invariant.SecondTimeout.{beyond}
use Rattle.protocol.proofs.invariant.Decisions.{Blank, renew-blank}
use Rattle.protocol.proofs.clean.Kept.{stopped-idle}
use Rattle.protocol.proofs.clean.Log.{entered}
use Rattle.protocol.proofs.counting.Sends.{sent-more}
use Rattle.protocol.proofs.hearing.Listening.{came-more, Listening, Follows, listening-on, listening-other}
use Rattle.protocol.proofs.hearing.RuleSteps.{vote-follows, vote_in-follows, ack_in-follows, helped_in-follows, help_in-follows, decide-follows, first-follows, second-follows}
use Rattle.protocol.proofs.paxos.Order.{unput}

-- what is put stays put
put_before : (w : Bool) (k : Consensus) (m s : Bool) → was_proposed k w ≡ true → was_proposed (record { move_proposed = k.move_proposed || m; stay_proposed = k.stay_proposed || s; decision = k.decision }) w ≡ true
put_before true k m s e = or_l k.move_proposed m e
put_before false k m s e = or_l k.stay_proposed s e

put_now : (w : Bool) (k : Consensus) (o : Outcome) → o ≡ word_of w → was_proposed (record { move_proposed = k.move_proposed || says_move o; stay_proposed = k.stay_proposed || is_stay o; decision = k.decision }) w ≡ true
put_now true k o e = or_r k.move_proposed (says_move o) (ap says_move e)
put_now false k o e = or_r k.stay_proposed (is_stay o) (ap is_stay e)

module _ (n f : ℕ) where
  pub record Heard (v : View) (log : List Event) : Type 0 where
    pub listening : (i : ℕ) → 1 ≤ i → i ≤ n → runs (v.ctl i) ≡ true → Listening n f i (v.ctl i) (v.state.sent i) log
    -- an answer was sent to one that has called
    pub asked : (k i : ℕ) → has (v.state.sent k).helped.to i ≡ true → has (v.state.sent i).help.to k ≡ true
    -- the word that a controller put, the arbiter knows
    pub put : (i : ℕ) (w : Bool) → (v.ctl i).proposal ≡ word_of w → was_proposed v.state.consensus w ≡ true

  -- what an answer of controller j owes beside
  record Proper (v : View) (j : ℕ) (a : Answer) : Type 0 where
    asked : (i : ℕ) → has (receivers_of (send_of Helped a.sends)) i ≡ true → has (v.state.sent i).help.to j ≡ true
    put : (w : Bool) → a.controller.proposal ≡ word_of w → ((v.ctl j).proposal ≡ word_of w) ⊎ (a.proposal ≡ word_of w)

  -- an answer put back
  commit-heard : (v : View) (log : List Event) (e : Event) (j : ℕ) (a : Answer) → subject e ≡ j → Heard v log → Proper v j a
      → (runs a.controller ≡ true → (runs (v.ctl j) ≡ true) × (Listening n f j (v.ctl j) (v.state.sent j) log → Follows n f e j (v.ctl j) (v.state.sent j) a))
      → Heard (commit_v v j a) (e ∷ log)
  unfolding commit_v
  commit-heard v log e j a s h p t = record {
    listening = λ i lo hi. elim (split (eqb i j)) [
      | inl q ↦ rw (eqb-true i j q, upd_same v.ctl j a.controller, upd_same v.state.sent j (sent_after (v.state.sent j) a.sends)) (λ r.
          let x : (runs (v.ctl j) ≡ true) × (Listening n f j (v.ctl j) (v.state.sent j) log → Follows n f e j (v.ctl j) (v.state.sent j) a) = t r in
          let y : Listening n f j (v.ctl j) (v.state.sent j) log = (rw (eqb-true i j q) at (h.listening i lo hi)) x.0 in
          listening-on n f e j (v.ctl j) (v.state.sent j) a log y (x.1 y))
      | inr q ↦ rw (upd_other v.ctl j a.controller i q, upd_other v.state.sent j (sent_after (v.state.sent j) a.sends) i q) (λ r.
          listening-other n f e i (v.ctl i) (v.state.sent i) log (λ z. no_both _ (eq-eqb i j (sym z ∙ s)) q) (h.listening i lo hi r))
    ];
    asked = λ k i. elim (split (eqb k j)) [
      | inl q ↦ rw (eqb-true k j q, upd_same v.state.sent j (sent_after (v.state.sent j) a.sends)) (λ x. elim (or-e (has (v.state.sent j).helped.to i) (has (receivers_of (send_of Helped a.sends)) i) (sym (sent-more n f (v.state.sent j) a.sends Helped i) ∙ x)) [
        | inl y ↦ grows i j (h.asked j i y)
        | inr y ↦ grows i j (p.asked i y)
      ])
      | inr q ↦ rw (upd_other v.state.sent j (sent_after (v.state.sent j) a.sends) k q) (λ x. grows i k (h.asked k i x))
    ];
    put = λ i w. elim (split (eqb i j)) [
      | inl q ↦ rw (eqb-true i j q, upd_same v.ctl j a.controller) (λ x. elim (p.put w x) [
        | inl y ↦ put_before w v.state.consensus _ _ (h.put j w y)
        | inr y ↦ put_now w v.state.consensus a.proposal y
      ])
      | inr q ↦ rw (upd_other v.ctl j a.controller i q) (λ x. put_before w v.state.consensus _ _ (h.put i w x))
    ];
  }
    where
      grows : (i k : ℕ) → has (v.state.sent i).help.to k ≡ true → has (upd v.state.sent j (sent_after (v.state.sent j) a.sends) i).help.to k ≡ true
      grows i k x = upd-all (λ i l. has (v.state.sent i).help.to k ≡ true → has l.help.to k ≡ true) v.state.sent j (sent_after (v.state.sent j) a.sends)
          (λ y. sent-more n f (v.state.sent j) a.sends Help k ∙ or_l _ _ y) (λ i y. y) i x

  -- the answers of the rules
  module _ (v : View) (j : ℕ) where
    abbrev c : Controller
    c = v.ctl j

    becomes_proper : (c' : Controller) → ((w : Bool) → c'.proposal ≡ word_of w → c.proposal ≡ word_of w) → Proper v j (becomes c')
    unfolding becomes
    becomes_proper c' h = record { asked = λ i e. none_has i e; put = λ w e. inl (h w e) }

    passed_proper : Proper v j (passing_over c)
    unfolding passing_over
    passed_proper = record { asked = λ i e. none_has i e; put = λ w e. inl e }

    settle_proper : (a : Answer) → Proper v j a → Proper v j (propose_if_sufficient n f a)
    unfolding proposing propose
    settle_proper a h = sufficient_cases (Proper v j) n f a (λ q. record { asked = h.asked; put = λ w e. inr e }) (λ q. h)

    vote_proper : (w : Bool) (t : ℕ) → Proper v j (vote_rule n f j w t c)
    unfolding vote_rule advance aim learn
    vote_proper w t = record { asked = λ i e. none_has i e; put = λ w e. inl e }

    first_proper : Proper v j (first_timeout n f j c)
    unfolding first_timeout advance
    first_proper = record { asked = λ i e. none_has i e; put = λ w e. inl (sym same ∙ e) }
      where
        same : (count_own f j c).proposal ≡ c.proposal
        same = unfold count_own keep_ack in by_cond (λ (x : Controller). x.proposal ≡ c.proposal) (is_backup f j && not (has_ack c j)) (keep_ack c j c.votes) c (λ e. refl) (λ e. refl)

    second_proper : ((i : ℕ) → has_called c i ≡ true → has (v.state.sent i).help.to j ≡ true) → Proper v j (second_timeout n f j c)
    second_proper called = second_cases (Proper v j) n f j c (λ d. direct) (λ e. puts) (λ e. settle_proper _ calls)
      where
        direct : Proper v j (ready (help_votes n c) (conclude (frozen n c) (verdict n (ack_join n c))))
        direct = unfold ready conclude frozen freeze advance in record { asked = λ i e. called i e; put = λ w e. inl e }

        puts : Proper v j (proposing (ready (help_votes n c) (frozen n c)) (verdict n (ack_join n c)))
        puts = unfold proposing propose ready frozen freeze advance in record { asked = λ i e. called i e; put = λ w e. inr e }

        calls : Proper v j (calls_help n f j (help_votes n c) (frozen n c))
        calls = unfold calls_help keep_helped await frozen freeze advance in record { asked = λ i e. called i e; put = λ w e. inl e }

    vote_in_proper : (s : VoteSet) → Proper v j (vote_arrives s c)
    vote_in_proper s = vote_cases (Proper v j) s c (λ q. becomes_proper (learn c s) (λ w e. unfold learn in e)) passed_proper

    ack_in_proper : (k : ℕ) (s : VoteSet) → Proper v j (ack_arrives n f k s c)
    ack_in_proper k s = ack_cases (Proper v j) n f k s c (λ q. settle_proper _ (becomes_proper (keep_ack c k s) (λ w e. unfold keep_ack in e))) (λ q. passed_proper)

    helped_in_proper : (k : ℕ) (s : VoteSet) → Proper v j (helped_arrives n f k s c)
    helped_in_proper k s = helped_cases (Proper v j) n f k s c (λ p q. settle_proper _ (becomes_proper (keep_helped c k s) (λ w e. unfold keep_helped in e))) (λ q. passed_proper)

    help_in_proper : (k : ℕ) → has (v.state.sent k).help.to j ≡ true → Proper v j (help_arrives k c)
    help_in_proper k h = help_cases (Proper v j) k c (λ q. unfold keeps_call in becomes_proper (add_caller c k) (λ w e. unfold add_caller in e)) (λ p q. answers) (λ q. passed_proper)
      where
        answers : Proper v j (answers_call k c)
        answers = unfold answers_call add_caller in record { asked = λ i e. elim (insert_only 0 k i e) [ inl z ↦ rw z h | inr z ↦ none_has i z ]; put = λ w e. inl e }

    cleared_proper : (k : Condition) → Proper v j (becomes (cleared k c))
    unfolding cleared
    cleared_proper k = becomes_proper _ (λ w e. none-word w e)

  -- the arbiter's choice
  chosen-put : (w x : Bool) (k : Consensus) → was_proposed k x ≡ true → was_proposed (record { move_proposed = k.move_proposed; stay_proposed = k.stay_proposed; decision = word_of w }) x ≡ true
  chosen-put w true k e = e
  chosen-put w false k e = e

  chosen-heard : (v : View) (log : List Event) (w : Bool) → Heard v log → Heard (chosen v w) log
  unfolding chosen
  chosen-heard v log w h = record { listening = h.listening; asked = h.asked; put = λ i x e. chosen-put w x v.state.consensus (h.put i x e) }

  -- one event
  module _ (f<n : f < n) (1≤f : 1 ≤ f) (small : n ≤ limit) (v : View) (inv : Inv n f v) (log : List Event) (h : Heard v log) where
    -- a help answer comes to nobody before its second timeout: it would have been called for
    uncalled : (i j : ℕ) → runs (v.ctl j) ≡ true → has (v.state.sent i).helped.to j ≡ true → phase (v.ctl j) ≤ 2 → ⊥
    uncalled i j r e p = no_both (frozen_by j (v.state.sent j)) ((inv.lines j).help-to i (h.asked i j e)) ((inv.owns j).phased.fresh2 r p)

    opened-heard : (o : ℕ) → Heard (opened_v n f v o) []
    unfolding opened_v renewed unsent_all
    opened-heard o = record {
      listening = λ i lo hi r. let b : Blank (renew (v.ctl i)) = renew-blank (v.ctl i) in record {
        came = record { calls = λ k m. absurd m; unhelped = λ p k m. m; answers = λ w k m. absurd m; acks = λ p k m. absurd m; decisions = λ w m. absurd m };
        stands = record {
          waits = λ w. absurd (no_both _ w b.waiting);
          ended = λ p. absurd (let q : phase (renew (v.ctl i)) ≡ 0 = b.phase in omega arith);
          acked = λ p. absurd (let q : phase (renew (v.ctl i)) ≡ 0 = b.phase in omega arith);
        };
        short = λ w. absurd (no_both _ w b.waiting);
      };
      asked = λ k i e. none_has i e;
      put = λ i w e. none-word w (sym (unput (v.ctl i)) ∙ e);
    }

    -- one that did not run does not run after
    not_now : (e : Event) (j : ℕ) (a : Answer) → runs a.controller ≡ false → runs a.controller ≡ true
        → (runs (v.ctl j) ≡ true) × (Listening n f j (v.ctl j) (v.state.sent j) log → Follows n f e j (v.ctl j) (v.state.sent j) a)
    not_now e j a q r = absurd (no_both _ r q)

    saved-heard : (i : ℕ) (u : View) → u.ctl ≡ v.ctl → u.state ≡ v.state → Heard u (Save i ∷ log)
    saved-heard i u p q = rw (p, q) (record {
      listening = λ k lo hi r. let x : Listening n f k (v.ctl k) (v.state.sent k) log = h.listening k lo hi r in
          record { came = came-more k (v.ctl k) (Save i) log x.came tt; stands = x.stands; short = x.short };
      asked = h.asked;
      put = h.put;
    })

    ballot-heard : (e : BallotEvent) (u : View) → u.ctl ≡ v.ctl → u.state ≡ v.state → Heard u (OfBallots e ∷ log)
    ballot-heard e u p q = rw (p, q) (record {
      listening = λ k lo hi r. let x : Listening n f k (v.ctl k) (v.state.sent k) log = h.listening k lo hi r in
          record { came = came-more k (v.ctl k) (OfBallots e) log x.came tt; stands = x.stands; short = x.short };
      asked = h.asked;
      put = h.put;
    })

    cleared-heard : (e : Event) (i : ℕ) → subject e ≡ i → (k : Condition) → is_running k ≡ false → Heard (commit_v v i (becomes (cleared k (v.ctl i)))) (e ∷ log)
    cleared-heard e i s k z = commit-heard v log e i (becomes (cleared k (v.ctl i))) s h (cleared_proper v i k) (not_now e i (becomes (cleared k (v.ctl i))) (unfold becomes cleared in z))

    decided-heard : (i : ℕ) (w : Bool) → Heard (commit_v (chosen v w) i (becomes (conclude (v.ctl i) (word_of w)))) (Decide i w ∷ log)
    decided-heard i w = commit-heard (chosen v w) log (Decide i w) i (becomes (conclude (v.ctl i) (word_of w))) refl (chosen-heard v log w h) (becomes_proper (chosen v w) i (conclude (v.ctl i) (word_of w)) same) (λ r. follows r)
      where
        same : (x : Bool) → (conclude (v.ctl i) (word_of w)).proposal ≡ word_of x → ((chosen v w).ctl i).proposal ≡ word_of x
        same x e = unfold conclude chosen in e

        ran : runs (conclude (v.ctl i) (word_of w)) ≡ true → runs (v.ctl i) ≡ true
        ran r = unfold conclude in sym (noting-runs (v.ctl i).condition (word_of w)) ∙ r

        follows : runs (becomes (conclude (v.ctl i) (word_of w))).controller ≡ true
            → (runs ((chosen v w).ctl i) ≡ true) × (Listening n f i ((chosen v w).ctl i) ((chosen v w).state.sent i) log → Follows n f (Decide i w) i ((chosen v w).ctl i) ((chosen v w).state.sent i) (becomes (conclude (v.ctl i) (word_of w))))
        follows r = unfold chosen in (ran (unfold becomes in r), λ x. decide-follows n f i (v.ctl i) (v.state.sent i) x.stands x.short w (unfold becomes in r))

    restored-heard : (i : ℕ) → is_stopped (v.ctl i).condition ≡ true → Heard (perform_v n f v (Restore i)) (Restore i ∷ log)
    unfolding perform_v
    restored-heard i z = restore_cases (λ a. Heard (commit_v v i a) (Restore i ∷ log)) (identity_v n f v i) (v.saved i) (v.ctl i)
        (λ x q y. cleared-heard (Restore i) i refl (Standby _) refl)
        (commit-heard v log (Restore i) i (passing_over (v.ctl i)) refl h (passed_proper v i) (not_now (Restore i) i (passing_over (v.ctl i)) (unfold passing_over in stopped-idle (v.ctl i).condition z)))

    pub perform-heard : (e : Event) → accepts n f v e ≡ true → Heard (perform_v n f v e) (entered e log)
    unfolding perform_v accepts first_no is_controller entered arrives
    perform-heard (Lock a x own) q = absurd (false≢true (ask_l _ _ _ (ask_r _ _ _ q)))
    perform-heard (Order o) q = opened-heard o
    perform-heard (Cast i w t) q = commit-heard v log (Cast i w t) i _ refl h (vote_proper v i w t) (λ r.
        ((search (ask_l, ask_r, and_l, and_r) depth 14), λ x. vote-follows n f i (v.ctl i) (v.state.sent i) x.stands x.short w t (eqb-true _ _ (search (ask_l, ask_r, and_l, and_r) depth 14))))
    perform-heard (Deliver i j Vote) q = commit-heard v log (Deliver i j Vote) j _ refl h (vote_in_proper v j _) (λ r.
        ((search (ask_l, ask_r, and_l, and_r) depth 14), λ x. vote_in-follows n f j (v.ctl j) (v.state.sent j) x.stands x.short i _))
    perform-heard (Deliver i j Ack) q =
        let lo : 1 ≤ i = leb-true _ _ (search (ask_l, ask_r, and_l, and_r) depth 14) in let hi : i ≤ n = leb-true _ _ (search (ask_l, ask_r, and_l, and_r) depth 14) in
        commit-heard v log (Deliver i j Ack) j _ refl h (ack_in_proper v j i _) (λ r.
        ((search (ask_l, ask_r, and_l, and_r) depth 14), λ x. ack_in-follows n f j (v.ctl j) (v.state.sent j) x.stands x.short i _ lo (omega arith)))
    perform-heard (Deliver i j Help) q =
        let lo : 1 ≤ i = leb-true _ _ (search (ask_l, ask_r, and_l, and_r) depth 14) in let hi : i ≤ n = leb-true _ _ (search (ask_l, ask_r, and_l, and_r) depth 14) in
        commit-heard v log (Deliver i j Help) j _ refl h (help_in_proper v j i (search (ask_l, ask_r, and_l, and_r) depth 14)) (λ r.
        ((search (ask_l, ask_r, and_l, and_r) depth 14), λ x. help_in-follows n f j (v.ctl j) (v.state.sent j) x.stands x.short i lo (omega arith)))
    perform-heard (Deliver i j Helped) q =
        let lo : 1 ≤ i = leb-true _ _ (search (ask_l, ask_r, and_l, and_r) depth 14) in let hi : i ≤ n = leb-true _ _ (search (ask_l, ask_r, and_l, and_r) depth 14) in
        let ran : runs (v.ctl j) ≡ true = (search (ask_l, ask_r, and_l, and_r) depth 14) in
        let sent : has (v.state.sent i).helped.to j ≡ true = (search (ask_l, ask_r, and_l, and_r) depth 14) in
        commit-heard v log (Deliver i j Helped) j _ refl h (helped_in_proper v j i _) (λ r.
        (ran, λ x. helped_in-follows n f j (v.ctl j) (v.state.sent j) x.stands x.short i _ lo (omega arith) (uncalled i j ran sent)))
    perform-heard (Timeout i) q =
        let ran : runs (v.ctl i) ≡ true = (search (ask_l, ask_r, and_l, and_r) depth 14) in
        let lo : 1 ≤ i = leb-true _ _ (search (ask_l, ask_r, and_l, and_r) depth 14) in let hi : i ≤ n = leb-true _ _ (search (ask_l, ask_r, and_l, and_r) depth 14) in
        timeout_cases (λ a. Heard (commit_v v i a) (Timeout i ∷ log)) n f i (v.ctl i)
        (λ p. commit-heard v log (Timeout i) i _ refl h (first_proper v i) (λ r.
        (ran, λ x. first-follows n f i (v.ctl i) (v.state.sent i) x.stands x.short small p ((inv.owns i).helping.idle (omega arith)))))
        (λ e. let p : phase (v.ctl i) ≡ 2 = eqb-true _ _ (or-second (eqb (phase (v.ctl i)) 1) _ e (search (ask_l, ask_r, and_l, and_r) depth 14)) in
        commit-heard v log (Timeout i) i _ refl h (second_proper v i (inv.ctls i).calls_ok) (λ r.
        (ran, λ x. second-follows n f i (v.ctl i) (v.state.sent i) x.stands x.short small lo hi ran p (beyond n f f<n 1≤f small v inv i lo hi ran p))))
    perform-heard (Decide i w) q = decided-heard i w
    perform-heard (Stop i) q = cleared-heard (Stop i) i refl Stopped refl
    perform-heard (Save i) q = saved-heard i (perform_v n f v (Save i)) (unfold perform_v saved_v in refl) (unfold perform_v saved_v in refl)
    perform-heard (OfBallots e) q = ballot-heard e (perform_v n f v (OfBallots e)) (unfold perform_v ballots_v in refl) (unfold perform_v ballots_v in refl)
    perform-heard (Restore i) q = restored-heard i (search (ask_l, ask_r, and_l, and_r) depth 14)
