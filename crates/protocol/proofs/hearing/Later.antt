-- A later moment of the same order, after accepted events at none of which a controller stops or is restored: who runs and who is stopped stays,
-- phases and the log only grow.
use Prim.Native.Nat.{ℕ, ◌≤◌, ◌<◌}
use mathlib.Core.Path.{◌≡◌, refl, sym, ◌∙◌, ap, subst}
use mathlib.Core.Bool.{true, false, false≢true, or-false}
use mathlib.Core.List.{List, [], ◌∷◌, ◌++◌}
use native.Mathlib.Omega.{arith}
use lib.Dec.{eqb}
use mathlib.Core.Logic.{inl, inr}
use borrow.Author.Tests.{eqb-true}
use Rattle.ground.specs.Limit.{limit}
use Rattle.ground.specs.Tests.{split, and_l}
use Rattle.ground.specs.Mask.{has}
use Rattle.ground.specs.Update.{upd_other, upd-all}
use Rattle.model.specs.QuestionLaws.{is-accepted}
use Rattle.model.specs.declared.Kind.{Kind}
use Rattle.model.specs.declared.Event.{Event}
use Rattle.protocol.specs.declared.Condition.{Condition}
use Rattle.protocol.specs.declared.Condition.TheVariants.{Running, Stopped, Standby}
use Rattle.protocol.specs.declared.Controller.{Controller}
use Rattle.protocol.specs.declared.Answer.{Answer}
use Rattle.protocol.specs.declared.Sent.{Sent}
use Rattle.protocol.specs.declared.Bench.{Bench}
use Rattle.protocol.specs.Controllers.{is_running, is_stopped, runs, phase}
use Rattle.protocol.specs.Benches.{new_bench, of_kind, sent_after}
use Rattle.protocol.specs.Events.{concerns_one, subject}
use Rattle.protocol.specs.Steps.{step, order_opened}
use Rattle.protocol.specs.SentOnce.{receivers_of, send_of}
use Rattle.protocol.specs.Claim.{after, Accepted}
use Rattle.protocol.proofs.view.View.{View, ballots_v, opened_v, accepts}
use Rattle.protocol.proofs.view.Performed.{commit_v, chosen, saved_v, perform_v, step_v, by-effect, perform-order}
use Rattle.protocol.proofs.view.Simulation.{view, Sound, Steps, step_steps, reply_sim, step_sim}
use Rattle.protocol.proofs.invariant.Invariant.{Inv}
use Rattle.protocol.proofs.invariant.Orders.{perform-next, next-inv}
use Rattle.protocol.proofs.clean.Log.{In}
use Rattle.protocol.proofs.clean.Kept.{PhaseMove, stays, times-out, voted, KeptAll, Goes, perform_tame}
use Rattle.protocol.proofs.clean.Reached.{log-one}
use Rattle.protocol.proofs.lists.Moments.{log_at, entry_of, append_assoc, run-append, run-one}
use Rattle.protocol.proofs.counting.Sends.{sent-more}
use Rattle.protocol.proofs.hearing.Events.{Heard, perform-heard}

abbrev pub view_at : List Event → View
view_at es = view (after es)

pub running-up : (k : Condition) → is_running k ≡ true → is_stopped k ≡ false
running-up (Running p) e = refl
running-up Stopped e = absurd (false≢true e)
running-up (Standby o) e = refl

phases-up : (n f : ℕ) (e : Event) (j s s' : ℕ) → PhaseMove n f e j s s' → s ≤ s'
phases-up n f e j s s' (stays p) = omega arith
phases-up n f e j s s' (times-out q p) = omega arith
phases-up n f e j s s' (voted w t q z p) = omega arith

pub no_more : (es : List Event) → es ≡ es ++ []
no_more [] = refl
no_more (e ∷ es) = ap (λ (l : List Event). e ∷ l) (no_more es)

module _ (n f o : ℕ) (f<n : f < n) (1≤f : 1 ≤ f) (small : n ≤ limit) where
  -- a moment of order o at a lock of n and f
  pub record Moment (es : List Event) : Type 0 where
    pub sound : Sound (after es)
    pub is-n : (after es).shared.n ≡ n
    pub is_f : (after es).shared.f ≡ f
    pub is-order : (after es).shared.order ≡ o
    pub inv : Inv n f (view_at es)
    pub heard : Heard n f (view_at es) (log_at es)

  own-stays : (v : View) (e : Event) → (perform_v n f v e).own ≡ v.own
  unfolding commit_v chosen saved_v ballots_v opened_v order_opened
  own-stays v e = by-effect n f v (λ e w. w.own ≡ v.own) (λ a c own. refl) (λ o. refl) (λ e c. refl) (λ i w. refl) (λ i. refl) (λ e. refl) e

  module _ (es : List Event) (m : Moment es) (e : Event) (q : accepts n f (view_at es) e ≡ true) where
    pub taken : Accepted es e
    taken = is-accepted _ (reply_sim (after es) m.sound e ∙ ap (λ (x : ℕ). accepts x (after es).shared.f (view_at es) e) m.is-n ∙ ap (λ (x : ℕ). accepts n x (view_at es) e) m.is_f ∙ q)

    then : after (es ++ (e ∷ [])) ≡ step (after es) e
    then = run-append es (e ∷ []) new_bench ∙ run-one e (after es)

    pub performs : view_at (es ++ (e ∷ [])) ≡ perform_v n f (view_at es) e
    unfolding step_v
    performs = ap view then ∙ step_sim (after es) m.sound e ∙ ap (λ (x : ℕ). step_v x (after es).shared.f (view_at es) e) m.is-n ∙ ap (λ (x : ℕ). step_v n x (view_at es) e) m.is_f ∙ rw q

    pub logs : concerns_one e ≡ true → log_at (es ++ (e ∷ [])) ≡ (e ∷ log_at es)
    logs u = log-one es e u taken

    pub moment-next : concerns_one e ≡ true → (perform_v n f (view_at es) e).order ≡ (view_at es).order → Moment (es ++ (e ∷ []))
    moment-next u w =
        let s : Steps (after es) m.sound (step (after es) e) = step_steps (after es) m.sound e in
        record {
          sound = subst Sound (sym then) s.sound;
          is-n = ap (λ (x : Bench). x.shared.n) then ∙ s.same-n ∙ m.is-n;
          is_f = ap (λ (x : Bench). x.shared.f) then ∙ s.same-f ∙ m.is_f;
          is-order = order;
          inv = subst (Inv n f) (sym performs) (next-inv n f f<n 1≤f small (view_at es) _ (perform-next n f f<n 1≤f small (view_at es) e m.inv q));
          heard = subst (λ (l : List Event). Heard n f (view_at (es ++ (e ∷ []))) l) (sym (logs u))
              (subst (λ (x : View). Heard n f x (e ∷ log_at es)) (sym performs)
              (subst (Heard n f (perform_v n f (view_at es) e)) ((entry_of (after es) e u).adds (log_at es)) (perform-heard n f f<n 1≤f small (view_at es) m.inv (log_at es) m.heard e q)));
        }
      where
        order : (after (es ++ (e ∷ []))).shared.order ≡ o
        order = unfold view in ap (λ (x : View). x.order) performs ∙ w ∙ m.is-order

  pub record Later (es es' : List Event) : Type 0 where
    pub moment : Moment es'
    pub more : List Event
    pub parts : es' ≡ es ++ more
    pub own : (view_at es').own ≡ (view_at es).own
    pub running : (k : ℕ) → runs ((view_at es').ctl k) ≡ runs ((view_at es).ctl k)
    pub stopped : (k : ℕ) → is_stopped ((view_at es').ctl k).condition ≡ is_stopped ((view_at es).ctl k).condition
    pub phases : (k : ℕ) → runs ((view_at es).ctl k) ≡ true → phase ((view_at es).ctl k) ≤ phase ((view_at es').ctl k)
    pub log : (e : Event) → In e (log_at es) → In e (log_at es')

  pub later_refl : (es : List Event) → Moment es → Later es es
  later_refl es m = record { moment = m; more = []; parts = no_more es; own = refl; running = λ k. refl; stopped = λ k. refl; phases = λ k r. omega arith; log = λ e x. x }

  pub later_trans : (es es' es'' : List Event) → Later es es' → Later es' es'' → Later es es''
  later_trans es es' es'' a b = record {
    moment = b.moment;
    more = a.more ++ b.more;
    parts = b.parts ∙ ap (λ (l : List Event). l ++ b.more) a.parts ∙ sym (append_assoc es a.more b.more);
    own = b.own ∙ a.own;
    running = λ k. b.running k ∙ a.running k;
    stopped = λ k. b.stopped k ∙ a.stopped k;
    phases = λ k r. let x : phase ((view_at es).ctl k) ≤ phase ((view_at es').ctl k) = a.phases k r in let y : phase ((view_at es').ctl k) ≤ phase ((view_at es'').ctl k) = b.phases k (a.running k ∙ r) in omega arith;
    log = λ e x. b.log e (a.log e x);
  }

  -- a controller that an event does not concern
  pub other : (v : View) (e : Event) → concerns_one e ≡ true → (k : ℕ) → eqb k (subject e) ≡ false → (perform_v n f v e).ctl k ≡ v.ctl k
  unfolding commit_v chosen saved_v ballots_v
  other v e c k = by-effect n f v (λ e w. concerns_one e ≡ true → eqb k (subject e) ≡ false → w.ctl k ≡ v.ctl k) (λ a x own z. absurd (false≢true z)) (λ o z. absurd (false≢true z))
      (λ e x z d. upd_other v.ctl (subject e) _ k d) (λ i w z d. upd_other v.ctl i _ k d) (λ i z d. refl) (λ e z d. refl) e c

  -- one accepted event of a running controller
  pub later-one : (es : List Event) → Moment es → (e : Event) → Goes n f e → accepts n f (view_at es) e ≡ true → runs ((view_at es).ctl (subject e)) ≡ true → Later es (es ++ (e ∷ []))
  later-one es m e u q r = record {
    moment = moment-next es m e q (and_l _ _ u) (perform-order n f (view_at es) e (and_l _ _ u));
    more = e ∷ [];
    parts = refl;
    own = ap (λ (x : View). x.own) (performs es m e q) ∙ own-stays (view_at es) e;
    running = λ k. rw (performs es m e q) (kept k).running;
    stopped = λ k. rw (performs es m e q) (elim (split (eqb k (subject e))) [
      | inl z ↦ let z' : runs ((view_at es).ctl k) ≡ true = rw (eqb-true k (subject e) z) r in running-up ((perform_v n f (view_at es) e).ctl k).condition ((kept k).running ∙ z') ∙ sym (running-up ((view_at es).ctl k).condition z')
      | inr z ↦ ap (λ (c : Controller). is_stopped c.condition) (other (view_at es) e (and_l _ _ u) k z)
    ]);
    phases = λ k x. rw (performs es m e q) (phases-up n f e k _ _ ((kept k).phase x));
    log = λ x y. subst (In x) (sym (logs es m e q (and_l _ _ u))) (inr y);
  }
    where
      kept : KeptAll n f e (view_at es) (perform_v n f (view_at es) e)
      kept = perform_tame n f small (view_at es) e u q

  -- to whom a kind was sent, after an answer that sends none of it
  pub commit-calm : (v : View) (j : ℕ) (a : Answer) (kind : Kind) → ((x : ℕ) → has (receivers_of (send_of kind a.sends)) x ≡ false) → (i x : ℕ)
      → has (of_kind kind ((commit_v v j a).state.sent i)).to x ≡ has (of_kind kind (v.state.sent i)).to x
  unfolding commit_v
  commit-calm v j a kind h i x = upd-all (λ (i : ℕ) (l : Sent). has (of_kind kind l).to x ≡ has (of_kind kind (v.state.sent i)).to x) v.state.sent j (sent_after (v.state.sent j) a.sends)
      (sent-more n f (v.state.sent j) a.sends kind x ∙ rw (h x) (or-false (has (of_kind kind (v.state.sent j)).to x))) (λ i. refl) i
