-- A clean order goes without help. Its second timeouts decide, so nobody calls for help; a call that was not sent is not delivered (question 17), so nobody answers. No word
-- is put, so the arbiter gives none (question 18), and an outcome comes of a second timeout alone, before which every vote and every acknowledgement was delivered.
use Prim.Native.Nat.{ℕ, ◌≤◌, ◌<◌}
use mathlib.Core.Path.{◌≡◌, refl, sym, ◌∙◌, ap}
use mathlib.Core.Bool.{Bool, true, false, not, ◌&&◌, false≢true, cond}
use mathlib.Core.List.{List, [], ◌∷◌}
use native.Mathlib.Omega.{arith}
use lib.Dec.{eqb}
use mathlib.Core.Logic.{◌⊎◌, inl, inr}
use borrow.Author.Tests.{leb-true, eqb-true}
use Rattle.ground.specs.Limit.{limit}
use Rattle.ground.specs.Tests.{no_both, split, by_cond, and_l, and_r, or_l, or_no, or-second}
use Rattle.ground.specs.Mask.{has}
use Rattle.ground.proofs.MaskLaws.{has-none}
use Rattle.ground.specs.Update.{upd-all}
use Rattle.model.specs.Ranges.{is_backup}
use Rattle.model.specs.Numbers.{word_of}
use Rattle.model.specs.declared.Kind.{Kind}
use Rattle.model.specs.declared.Kind.TheVariants.{Vote, Ack, Help, Helped}
use Rattle.model.specs.declared.Outcome.{Outcome}
use Rattle.model.specs.declared.Outcome.TheVariants.{None}
use Rattle.model.specs.declared.Checkpoint.{Checkpoint}
use Rattle.model.specs.declared.BallotEvent.{BallotEvent}
use Rattle.model.specs.declared.Event.{Event}
use Rattle.model.specs.declared.Event.TheVariants.{Lock, Order, Cast, Deliver, Timeout, Decide, Stop, Save, Restore, OfBallots}
use Rattle.protocol.specs.declared.Ballots.{Ballots}
use Rattle.protocol.specs.declared.Consensus.{Consensus}
use Rattle.protocol.specs.declared.Condition.TheVariants.{Standby}
use Rattle.protocol.specs.declared.Controller.{Controller}
use Rattle.protocol.specs.declared.Answer.{Answer}
use Rattle.protocol.specs.declared.Sent.{Sent}
use Rattle.protocol.specs.Controllers.{is_stopped, phase, outcome, has_ack, has_called, cleared, advance, learn, aim, keep_ack, freeze, conclude}
use Rattle.protocol.specs.Rules.{passing_over, becomes, verdict, vote_rule, count_own, first_timeout, ack_join, decides, sufficient, propose_if_sufficient, help_votes, frozen, ready, second_timeout}
use Rattle.protocol.specs.Calls.{arrives}
use Rattle.protocol.specs.Benches.{of_kind, unsent_all, sent_after}
use Rattle.protocol.specs.Questions.{first_no, was_proposed}
use Rattle.protocol.specs.Steps.{renewed, order_opened}
use Rattle.protocol.specs.SentOnce.{receivers_of}
use Rattle.protocol.proofs.view.View.{ballots_v, View, saved_order, saved_outcome, opened_v, accepts, ask_l, ask_r}
use Rattle.protocol.proofs.view.Performed.{commit_v, saved_v, checkpoint_at, timeout_rule, perform_v, step_v, run_v}
use Rattle.protocol.proofs.view.RuleCases.{vote_cases, ack_cases, restore_cases, sufficient_cases, timeout_cases}
use Rattle.protocol.proofs.invariant.Invariant.{Inv}
use Rattle.protocol.proofs.invariant.Words.{none-word}
use Rattle.protocol.proofs.invariant.Decisions.{Blank, renew-blank}
use Rattle.protocol.proofs.invariant.Orders.{step-next, next-inv}
use Rattle.protocol.proofs.counting.Sends.{sent-more}
use Rattle.protocol.proofs.clean.Log.{In, VotesIn, AcksIn, CleanTimeout, Clean, entered, push_v, log_v}
use Rattle.protocol.proofs.clean.Steps.{votes-more, acks-more}
use Rattle.protocol.proofs.clean.Parts.{Good, step_good, Final, final}
use Rattle.std.specs.Prelude.{Option, Some}

not-proposed : (k : Consensus) (w : Bool) → k.move_proposed ≡ false → k.stay_proposed ≡ false → was_proposed k w ≡ false
not-proposed k true p q = p
not-proposed k false p q = q

module _ (n f : ℕ) where
  -- every vote was cast, and every vote and every acknowledgement delivered
  pub record Delivered (log : List Event) : Type 0 where
    pub votes : VotesIn n f log
    pub acks : AcksIn n f log

  more : (e : Event) (log : List Event) → Delivered log → Delivered (e ∷ log)
  more e log d = record { votes = votes-more n f (e ∷ log) log [] e refl d.votes; acks = acks-more n f (e ∷ log) log [] e refl d.acks }

  pub record WithoutHelp (b : View) (log : List Event) : Type 0 where
    -- what was delivered was sent
    pub sent : (i j : ℕ) (kind : Kind) → In (Deliver i j kind) log → has (of_kind kind (b.state.sent i)).to j ≡ true
    -- no help call, no answer, nobody waits; no word put
    pub no-help : (i j : ℕ) → has (b.state.sent i).help.to j ≡ false
    pub no-helped : (i j : ℕ) → has (b.state.sent i).helped.to j ≡ false
    none-waits : (i : ℕ) → (b.ctl i).help.waiting ≡ false
    no_move : b.state.consensus.move_proposed ≡ false
    no-stay : b.state.consensus.stay_proposed ≡ false
    -- an outcome held, or saved in the order, came after all was delivered
    pub held : (i : ℕ) (v : Bool) → outcome (b.ctl i) ≡ word_of v → Delivered log
    pub saved : (i : ℕ) (v : Bool) → saved_order (b.saved i) ≡ b.order → saved_outcome (b.saved i) ≡ word_of v → Delivered log

  -- what a controller's answer owes to that; log is the log with its event
  record WithoutHelpBy (log : List Event) (a : Answer) : Type 0 where
    no-help : (j : ℕ) → has (receivers_of a.sends.help) j ≡ false
    no-helped : (j : ℕ) → has (receivers_of a.sends.helped) j ≡ false
    no_word : a.proposal ≡ None
    waits : a.controller.help.waiting ≡ false
    held : (v : Bool) → outcome a.controller ≡ word_of v → Delivered log

  -- the message that is delivered, if one is, was sent
  abbrev WasSent : View → Event → Type 0
  WasSent b e = (i j : ℕ) (kind : Kind) → e ≡ Deliver i j kind → has (of_kind kind (b.state.sent i)).to j ≡ true

  was-sent : (b : View) (e : Event) → accepts n f b e ≡ true → WasSent b e
  unfolding accepts first_no
  was-sent b e q i j kind z = let a : accepts n f b (Deliver i j kind) ≡ true = rw z at q in search (ask_l, ask_r) depth 14

  commit_without-help : (b : View) (log : List Event) (e : Event) (i : ℕ) (a : Answer) → WasSent b e → WithoutHelp b log → WithoutHelpBy (e ∷ log) a → WithoutHelp (commit_v b i a) (e ∷ log)
  unfolding commit_v
  commit_without-help b log e i a s q p = record {
    sent = λ x y kind m. grows x y kind (elim m [ inl z ↦ s x y kind (sym z) | inr z ↦ q.sent x y kind z ]);
    no-help = upd-all (λ k (l : Sent). (j : ℕ) → has l.help.to j ≡ false) b.state.sent i l' (λ j. sent-more n f (b.state.sent i) a.sends Help j ∙ or_no _ _ (q.no-help i j) (p.no-help j)) q.no-help;
    no-helped = upd-all (λ k (l : Sent). (j : ℕ) → has l.helped.to j ≡ false) b.state.sent i l' (λ j. sent-more n f (b.state.sent i) a.sends Helped j ∙ or_no _ _ (q.no-helped i j) (p.no-helped j)) q.no-helped;
    none-waits = upd-all (λ k (c : Controller). c.help.waiting ≡ false) b.ctl i a.controller p.waits q.none-waits;
    no_move = rw (q.no_move, p.no_word);
    no-stay = rw (q.no-stay, p.no_word);
    held = upd-all (λ k (c : Controller). (v : Bool) → outcome c ≡ word_of v → Delivered (e ∷ log)) b.ctl i a.controller p.held (λ k v h. more e log (q.held k v h));
    saved = λ k v o h. more e log (q.saved k v o h);
  }
    where
      l' : Sent
      l' = sent_after (b.state.sent i) a.sends

      grows : (x y : ℕ) (kind : Kind) → has (of_kind kind (b.state.sent x)).to y ≡ true → has (of_kind kind ((commit_v b i a).state.sent x)).to y ≡ true
      grows x y kind = unfold commit_v in upd-all (λ k (l : Sent). has (of_kind kind (b.state.sent k)).to y ≡ true → has (of_kind kind l).to y ≡ true) b.state.sent i (sent_after (b.state.sent i) a.sends)
          (λ h. sent-more n f (b.state.sent i) a.sends kind y ∙ or_l _ _ h) (λ k h. h) x

  -- a controller that still does not wait, and whose outcome had its grounds
  record WithoutHelpNow (log : List Event) (c : Controller) : Type 0 where
    waits : c.help.waiting ≡ false
    held : (v : Bool) → outcome c ≡ word_of v → Delivered log

  now : (b : View) (log : List Event) (e : Event) (i : ℕ) → WithoutHelp b log → WithoutHelpNow (e ∷ log) (b.ctl i)
  now b log e i q = record { waits = q.none-waits i; held = λ v h. more e log (q.held i v h) }

  becomes_without-help : (log : List Event) (c : Controller) → WithoutHelpNow log c → WithoutHelpBy log (becomes c)
  unfolding becomes
  becomes_without-help log c h = record { no-help = has-none; no-helped = has-none; no_word = refl; waits = h.waits; held = h.held }

  passed_without-help : (log : List Event) (c : Controller) → WithoutHelpNow log c → WithoutHelpBy log (passing_over c)
  unfolding passing_over
  passed_without-help log c h = record { no-help = has-none; no-helped = has-none; no_word = refl; waits = h.waits; held = h.held }

  -- nobody waits, so the counts are not asked
  puts_without-help : (log : List Event) (a : Answer) → WithoutHelpBy log a → WithoutHelpBy log (propose_if_sufficient n f a)
  unfolding sufficient
  puts_without-help log a h = sufficient_cases (WithoutHelpBy log) n f a (λ s. absurd (no_both _ (and_l a.controller.help.waiting _ s) h.waits)) (λ q. h)

  vote_without-help : (log : List Event) (i : ℕ) (w : Bool) (t : ℕ) (c : Controller) → WithoutHelpNow log c → WithoutHelpBy log (vote_rule n f i w t c)
  unfolding vote_rule advance aim learn
  vote_without-help log i w t c h = record { no-help = has-none; no-helped = has-none; no_word = refl; waits = h.waits; held = h.held }

  first_without-help : (log : List Event) (i : ℕ) (c : Controller) → WithoutHelpNow log c → WithoutHelpBy log (first_timeout n f i c)
  unfolding first_timeout advance
  first_without-help log i c h = record { no-help = has-none; no-helped = has-none; no_word = refl; waits = own.waits; held = own.held }
    where
      own : WithoutHelpNow log (count_own f i c)
      own = unfold count_own keep_ack in by_cond (WithoutHelpNow log) (is_backup f i && not (has_ack c i)) (keep_ack c i c.votes) c (λ e. record { waits = h.waits; held = h.held }) (λ e. h)

  -- the second timeout decides: it calls nobody, and nobody's call was kept, so its help vote set is sent to nobody
  second_without-help : (log : List Event) (i : ℕ) (c : Controller) → decides n f i c ≡ true → ((j : ℕ) → has_called c j ≡ false) → Delivered log → WithoutHelpBy log (second_timeout n f i c)
  unfolding second_timeout
  second_without-help log i c d k g = by_cond (WithoutHelpBy log) (decides n f i c) _ _ (λ e. direct) (λ e. absurd (no_both _ d e))
    where
      direct : WithoutHelpBy log (ready (help_votes n c) (conclude (frozen n c) (verdict n (ack_join n c))))
      direct = unfold ready conclude frozen freeze advance in record { no-help = has-none; no-helped = k; no_word = refl; waits = refl; held = λ v h. g }

  deliver_without-help : (b : View) (log : List Event) (i j : ℕ) (kind : Kind) → has (of_kind kind (b.state.sent i)).to j ≡ true → WithoutHelp b log → WithoutHelpBy (Deliver i j kind ∷ log) (arrives kind n f i (of_kind kind (b.state.sent i)).votes (b.ctl j))
  unfolding arrives learn keep_ack
  deliver_without-help b log i j Vote s q = let h : WithoutHelpNow (Deliver i j Vote ∷ log) (b.ctl j) = now b log (Deliver i j Vote) j q in
      vote_cases (WithoutHelpBy _) _ (b.ctl j) (λ p. becomes_without-help _ _ (record { waits = h.waits; held = h.held })) (passed_without-help _ _ h)
  deliver_without-help b log i j Ack s q = let h : WithoutHelpNow (Deliver i j Ack ∷ log) (b.ctl j) = now b log (Deliver i j Ack) j q in
      ack_cases (WithoutHelpBy _) n f i _ (b.ctl j) (λ p. puts_without-help _ _ (becomes_without-help _ _ (record { waits = h.waits; held = h.held }))) (λ p. passed_without-help _ _ h)
  -- or_no was sent
  deliver_without-help b log i j Help s q = absurd (no_both _ s (q.no-help i j))
  deliver_without-help b log i j Helped s q = absurd (no_both _ s (q.no-helped i j))

  -- a checkpoint brings back an outcome of this order, or none
  restored_without-help : (b : View) (log : List Event) (i : ℕ) → WithoutHelp b log → (x : Checkpoint) → b.saved i ≡ Some x → is_stopped (b.ctl i).condition ≡ true → WithoutHelpBy (Restore i ∷ log) (becomes (cleared (Standby (cond (eqb x.order b.order) x.outcome None)) (b.ctl i)))
  unfolding cleared
  restored_without-help b log i q x s z =
      becomes_without-help _ _ (record { waits = refl; held = λ v. by_cond (λ (o : Outcome). o ≡ word_of v → Delivered (Restore i ∷ log)) (eqb x.order b.order) x.outcome None (λ t h. more _ log (q.saved i v (ap saved_order s ∙ eqb-true _ _ t) (ap saved_outcome s ∙ h))) (λ t h. none-word v h) })

  ballot_without-help : (b : View) (log : List Event) (e : BallotEvent) (s : Ballots) → WasSent b (OfBallots e) → WithoutHelp b log → WithoutHelp (ballots_v b s) (OfBallots e ∷ log)
  unfolding ballots_v
  ballot_without-help b log e s a q = record {
    sent = λ x y kind m. elim m [ inl z ↦ a x y kind (sym z) | inr z ↦ q.sent x y kind z ];
    no-help = q.no-help;
    no-helped = q.no-helped;
    none-waits = q.none-waits;
    no_move = q.no_move;
    no-stay = q.no-stay;
    held = λ k v h. more _ log (q.held k v h);
    saved = λ k v o h. more _ log (q.saved k v o h);
  }

  saved_without-help : (b : View) (log : List Event) (i : ℕ) → WasSent b (Save i) → WithoutHelp b log → WithoutHelp (saved_v b i (checkpoint_at n f b i)) (Save i ∷ log)
  unfolding saved_v
  saved_without-help b log i a q = record {
    sent = λ x y kind m. elim m [ inl z ↦ a x y kind (sym z) | inr z ↦ q.sent x y kind z ];
    no-help = q.no-help;
    no-helped = q.no-helped;
    none-waits = q.none-waits;
    no_move = q.no_move;
    no-stay = q.no-stay;
    held = λ k v h. more _ log (q.held k v h);
    saved = upd-all (λ k (s : Option Checkpoint). (v : Bool) → saved_order s ≡ b.order → saved_outcome s ≡ word_of v → Delivered (Save i ∷ log)) b.saved i (Some (checkpoint_at n f b i)) (λ v o h. more _ log (q.held i v h)) (λ k v o h. more _ log (q.saved k v o h));
  }

  -- an order that has just begun, or a bench that has just got its lock: nothing was sent or put, and no checkpoint of the order has an outcome
  pub blank_without-help : (b : View) → ((k : ℕ) → Blank (b.ctl k)) → ((k : ℕ) → b.state.sent k ≡ unsent_all) → b.state.consensus.move_proposed ≡ false → b.state.consensus.stay_proposed ≡ false
      → ((k : ℕ) (v : Bool) → saved_order (b.saved k) ≡ b.order → saved_outcome (b.saved k) ≡ word_of v → ⊥) → WithoutHelp b []
  blank_without-help b bl l m s c = record {
    sent = λ x y kind e. absurd e;
    no-help = λ i j. ap (λ (x : Sent). has x.help.to j) (l i) ∙ (unfold unsent_all in has-none j);
    no-helped = λ i j. ap (λ (x : Sent). has x.helped.to j) (l i) ∙ (unfold unsent_all in has-none j);
    none-waits = λ i. (bl i).waiting;
    no_move = m;
    no-stay = s;
    held = λ i v h. none-word v (sym (bl i).outcome ∙ h);
    saved = λ i v o h. absurd (c i v o h);
  }

  opened_without-help : (b : View) (o : ℕ) → Inv n f b → b.order < o → WithoutHelp (opened_v n f b o) []
  unfolding opened_v renewed order_opened
  opened_without-help b o inv h = blank_without-help (opened_v n f b o) (λ k. renew-blank (b.ctl k)) (λ k. refl) refl refl (λ k v e x. let old : saved_order (b.saved k) ≤ b.order = inv.saved_old k in omega arith)

  module _ (f<n : f < n) (1≤f : 1 ≤ f) (small : n ≤ limit) where
    timeout_without-help : (b : View) (log : List Event) (i : ℕ) → Inv n f b → Good n f f<n b log → WithoutHelp b log → CleanTimeout n f i log → accepts n f b (Timeout i) ≡ true → WithoutHelpBy (Timeout i ∷ log) (timeout_rule n f i (b.ctl i))
    unfolding accepts first_no
    timeout_without-help b log i inv good q cl a = timeout_cases (WithoutHelpBy _) n f i (b.ctl i)
        (λ p. first_without-help _ i (b.ctl i) (now b log (Timeout i) i q))
        (λ p. let z : Final n f f<n 1≤f small b log i = final n f f<n 1≤f small b log i inv good a cl (eqb-true _ _ (or-second (eqb (phase (b.ctl i)) 1) _ p (search (ask_l, ask_r, and_l, and_r) depth 14))) in
        second_without-help _ i (b.ctl i) z.direct (λ j. none-called j (split (has_called (b.ctl i) j))) (more _ log (record { votes = z.votes; acks = z.acks })))
      where
        none-called : (j : ℕ) → (has_called (b.ctl i) j ≡ true) ⊎ (has_called (b.ctl i) j ≡ false) → has_called (b.ctl i) j ≡ false
        none-called j (inl h) = absurd (no_both _ ((inv.ctls i).calls_ok j h) (q.no-help j i))
        none-called j (inr h) = h

    perform_without-help : (b : View) (e : Event) (log : List Event) → Inv n f b → accepts n f b e ≡ true → (Clean n f log → Good n f f<n b log) → (Clean n f log → WithoutHelp b log) → Clean n f (entered e log) → WithoutHelp (perform_v n f b e) (entered e log)
    unfolding entered perform_v accepts first_no
    perform_without-help b (Lock a x own) log inv q g h c = absurd (false≢true (ask_l _ _ _ (ask_r _ _ _ q)))
    perform_without-help b (Order o) log inv q g h c = opened_without-help b o inv (leb-true _ _ (search (ask_l, ask_r, and_l, and_r) depth 14))
    perform_without-help b (Cast i w t) log inv q g h c = commit_without-help b log (Cast i w t) i _ (was-sent b (Cast i w t) q) (h c.0) (vote_without-help _ i w t (b.ctl i) (now b log (Cast i w t) i (h c.0)))
    perform_without-help b (Deliver i j k) log inv q g h c = let s : WasSent b (Deliver i j k) = was-sent b (Deliver i j k) q in commit_without-help b log (Deliver i j k) j _ s (h c.0) (deliver_without-help b log i j k (s i j k refl) (h c.0))
    perform_without-help b (Timeout i) log inv q g h c = commit_without-help b log (Timeout i) i _ (was-sent b (Timeout i) q) (h c.0) (timeout_without-help b log i inv (g c.0) (h c.0) (c.1.timeouts i refl) q)
    perform_without-help b (Decide i w) log inv q g h c = absurd (no_both (was_proposed b.state.consensus w) (search (ask_l, ask_r, and_l, and_r) depth 14) (not-proposed b.state.consensus w (h c.0).no_move (h c.0).no-stay))
    perform_without-help b (Stop i) log inv q g h c = absurd (c.1.stops i refl)
    perform_without-help b (Save i) log inv q g h c = saved_without-help b log i (was-sent b (Save i) q) (h c.0)
    perform_without-help b (OfBallots e) log inv q g h c = ballot_without-help b log e _ (was-sent b (OfBallots e) q) (h c.0)
    perform_without-help b (Restore i) log inv q g h c = commit_without-help b log (Restore i) i _ (was-sent b (Restore i) q) (h c.0) (restore_cases (WithoutHelpBy _) _ _ (b.ctl i) (restored_without-help b log i (h c.0)) (passed_without-help _ _ (now b log (Restore i) i (h c.0))))

    step_without-help : (b : View) (e : Event) (log : List Event) → Inv n f b → (Clean n f log → Good n f f<n b log) → (Clean n f log → WithoutHelp b log) → Clean n f (push_v n f b e log) → WithoutHelp (step_v n f b e) (push_v n f b e log)
    unfolding step_v push_v
    step_without-help b e log inv g h = elim (split (accepts n f b e)) [ inl q ↦ rw q (perform_without-help b e log inv q g h) | inr q ↦ rw q h ]

    pub run_without-help : (es : List Event) (b : View) (log : List Event) → Inv n f b → (Clean n f log → Good n f f<n b log) → (Clean n f log → WithoutHelp b log) → Clean n f (log_v n f b log es) → WithoutHelp (run_v n f b es) (log_v n f b log es)
    unfolding run_v log_v
    run_without-help [] b log inv g h = h
    run_without-help (e ∷ es) b log inv g h = run_without-help es (step_v n f b e) (push_v n f b e log) (next-inv n f f<n 1≤f small b _ (step-next n f f<n 1≤f small b e inv)) (step_good n f f<n 1≤f small b e log inv g) (step_without-help b e log inv g h)
