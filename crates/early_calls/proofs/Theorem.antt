-- From one event to every list: the bench of a list, and document 01's bench of the list with each kept call once more, go along together.
use Rattle.std.specs.Prelude.{is_some}
use Prim.Native.Nat.{ℕ, ◌≤◌}
use mathlib.Core.Path.{◌≡◌, refl, sym, ◌∙◌, ap, subst}
use mathlib.Core.Bool.{Bool, true, false, false≢true}
use mathlib.Core.List.{List, [], ◌∷◌, ◌++◌}
use lib.Dec.{eqb, leb}
use mathlib.Core.Logic.{◌⊎◌, inl, inr}
use Rattle.ground.specs.Tests.{split, by_cond, and_l, and_r, and_i, or-e, no_both, refuted}
use Rattle.ground.specs.Mask.{has}
use Rattle.model.specs.Ranges.{is_controller}
use Rattle.model.specs.RangeLaws.{ranges, member}
use Rattle.model.specs.QuestionLaws.{all_yes}
use Rattle.model.specs.declared.Kind.TheVariants.{Help}
use Rattle.model.specs.declared.Event.{Event}
use Rattle.model.specs.declared.Event.TheVariants.{Deliver, Timeout}
use Rattle.message_record.specs.Messages.{about_message}
use Rattle.protocol.specs.declared.Condition.{Condition}
use Rattle.protocol.specs.declared.Controller.{Controller}
use Rattle.protocol.specs.declared.Bench.{Bench}
use Rattle.protocol.specs.Controllers.{phase_in, phase}
use Rattle.protocol.specs.Benches.{bench_of, new_bench, controller}
use Rattle.protocol.specs.Events.{subject, source, receivers_in}
use Rattle.protocol.specs.Questions.{accepted, is_accepted, first_no, may_open, may_give, questions_of, reply}
use Rattle.protocol.specs.Steps.{step, run}
use Rattle.protocol.specs.Display.{WasSent}
use Rattle.protocol.specs.NoContradiction.{untested_reply}
use Rattle.protocol.specs.Reach.{message_at}
use Rattle.protocol.specs.Claim.{after}
use Rattle.protocol.proofs.view.View.{View, same_view, accepts, ask_l, ask_r}
use Rattle.protocol.proofs.view.Performed.{step_v}
use Rattle.protocol.proofs.view.Simulation.{view, Sound, Runs, Steps, reply-untested, reply_sim, step_steps, step_sim}
use Rattle.protocol.proofs.lists.Moments.{refused-step}
use Rattle.protocol.proofs.lists.Start.{new_refuses, freshes, lock-sound}
use Rattle.protocol.proofs.lists.Reach.{Reached, JustLocked, new-step, reached}
use Rattle.protocol.proofs.ranges.Reached.{reach}
use Rattle.early_calls.specs.Document01.{is_early, step01, run01, is_second_timeout, kept_calls, once_more, lengthened, with_callers, without_kept, SameButKept, AsDocument01}
use Rattle.early_calls.proofs.Rules.{by_equal, alike}
use Rattle.early_calls.proofs.Views.{forget_v, by-calls, step_forget, call_forget, early_v, step_v01, run_v01, MayCome, timeout_forget}

-- document 01's bench steps as its view does
early_sim : (b : Bench) (e : Event) → early_v (view b) e ≡ is_early b e
unfolding view
early_sim b = by-calls b.shared.n b.shared.f (λ e. early_v (view b) e ≡ is_early b e) (λ i j. refl) (λ i. refl) (λ e x. x.early-view (view b) ∙ sym (x.early b))

step01_sim : (b : Bench) (ok : Sound b) (e : Event) → view (step01 b e) ≡ step_v01 b.shared.n b.shared.f (view b) e
unfolding step01 step_v01
step01_sim b ok e = by_equal (λ (x : Bench) (y : View). view x ≡ y) (is_early b e) _ (early_sim b e) _ _ _ _ (λ p. refl) (λ p. step_sim b ok e)

step01_steps : (b : Bench) (ok : Sound b) (e : Event) → Steps b ok (step01 b e)
unfolding step01
step01_steps b ok e = by_cond (Steps b ok) (is_early b e) _ _ (λ p. record { sound = ok; same-n = refl; same-f = refl }) (λ p. step_steps b ok e)

run01_sim : (n f : ℕ) (es : List Event) (b : Bench) → Sound b → b.shared.n ≡ n → b.shared.f ≡ f → Runs b (run01 b es) (run_v01 n f (view b) es)
unfolding run01 run_v01
run01_sim n f [] b ok p q = record { sound = ok; same-n = refl; same-f = refl; view-is = refl }
run01_sim n f (e ∷ es) b ok p q =
    let s : Steps b ok (step01 b e) = step01_steps b ok e in
    let r : Runs (step01 b e) (run01 (step01 b e) es) (run_v01 n f (view (step01 b e)) es) = run01_sim n f es (step01 b e) s.sound (s.same-n ∙ p) (s.same-f ∙ q) in
    record {
      sound = r.sound;
      same-n = r.same-n ∙ s.same-n;
      same-f = r.same-f ∙ s.same-f;
      view-is = r.view-is ∙ ap (λ (v : View). run_v01 n f v es) (step01_sim b ok e ∙ ap (λ (x : ℕ). step_v01 x b.shared.f (view b) e) p ∙ ap (λ (x : ℕ). step_v01 n x (view b) e) q);
    }

run01-append : (es es' : List Event) (b : Bench) → run01 b (es ++ es') ≡ run01 (run01 b es) es'
unfolding run01
run01-append [] es' b = refl
run01-append (e ∷ es) es' b = run01-append es es' (step01 b e)

-- what holds of a bench that a list leads to
record Fine (b : Bench) : Type 0 where
  reached : Reached b
  ways : (j i : ℕ) → WasSent b Help j i → first_no (about_message (message_at b Help j i)) ≡ accepted

fine : (es : List Event) → Fine (after es)
fine es = record { reached = reached es; ways = λ j i s. reach.messages_pass es Help j i s }

-- one event on a bench with its lock
module _ (b : Bench) (ok : Fine b) (a : Sound b) where
  abbrev n : ℕ
  n = b.shared.n

  abbrev f : ℕ
  f = b.shared.f

  abbrev v : View
  v = view b

  -- a kept call may come once more
  may_come : (i : ℕ) (st : eqb (phase (v.ctl i)) 2 ≡ true) (j : ℕ) → 1 ≤ j → has (v.ctl i).help.callers j ≡ true → MayCome n f (ranges n f a.sized).small v i st j
  unfolding about_message view
  may_come i st j lo e =
      let sent = (a.inv.ctls i).calls_ok j e in
      let asked = all_yes _ (ok.ways j i sent) in
      record {
        high = (member n j (and_l (is_controller n j) _ (and_l _ _ asked.1.0))).high;
        between = asked.1.0;
        way = asked.1.1.1.1.0;
        opened = asked.1.1.0;
        called = sent;
      }

  -- the event, and then each kept call
  abbrev Together : Event → Type 0
  Together e = forget_v (step_v n f v e) ≡ run_v01 n f (forget_v v) (e ∷ once_more b e)

  call_together : (i j : ℕ) → Together (Deliver i j Help)
  unfolding run_v01 step_v01
  call_together i j = by_equal (λ (x y : View). forget_v (step_v n f v (Deliver i j Help)) ≡ y) (leb (phase (v.ctl j)) 2) (early_v (forget_v v) (Deliver i j Help))
      (unfold forget_v in ap (λ (x : Condition). leb (phase_in x) 2) (alike (v.ctl j)).condition) v v _ _
      (λ e. call_forget n f v i j e) (λ e. step_forget n f v (Deliver i j Help) (λ q. e))

  timeout_together : (i : ℕ) → Together (Timeout i)
  unfolding run_v01 step_v01
  timeout_together i = elim (split (is_second_timeout b i)) [
    | inl e ↦ rw e (times-out e)
    | inr e ↦ rw e (step_forget n f v (Timeout i) (λ q. first q e))
  ]
    where
      times-out : is_second_timeout b i ≡ true → forget_v (step_v n f v (Timeout i)) ≡ run_v01 n f (step_v n f (forget_v v) (Timeout i)) (kept_calls b i)
      times-out e = unfold view in
          let taken : is_accepted (reply b (Timeout i)) ≡ true = and_l (is_accepted (reply b (Timeout i))) (eqb (phase (controller b i)) 2) e in
          let st : eqb (phase (controller b i)) 2 ≡ true = and_r (is_accepted (reply b (Timeout i))) (eqb (phase (controller b i)) 2) e in
          timeout_forget n f (ranges n f a.sized).small v i st (sym (reply_sim b (a) (Timeout i)) ∙ taken) (may_come i st)

      first : accepts n f v (Timeout i) ≡ true → is_second_timeout b i ≡ false → eqb (phase (v.ctl i)) 1 ≡ true
      first q e = unfold accepts first_no in elim (or-e (eqb (phase (v.ctl i)) 1) (eqb (phase (v.ctl i)) 2) (search (ask_l, ask_r) depth 14)) [
        | inl p ↦ p
        | inr p ↦ absurd (no_both (is_second_timeout b i) (and_i _ _ (reply_sim b (a) (Timeout i) ∙ q) (unfold view in p)) e)
      ]

  together : (e : Event) → Together e
  unfolding run_v01 step_v01
  together = by-calls n f Together call_together timeout_together (λ e x. rw (x.once b, x.early-view (forget_v v)) (step_forget n f v e (λ q. x.apart v)))

-- the bench, and document 01's: both new, or with the same lock and the same view but for the calls kept
record Both (b b₁ : Bench) : Type 0 where
  sound : Sound b
  sound₁ : Sound b₁
  same-n : b₁.shared.n ≡ b.shared.n
  same-f : b₁.shared.f ≡ b.shared.f
  view-is : view b₁ ≡ forget_v (view b)

abbrev Rel : Bench → Bench → Type 0
Rel b b₁ = ((b ≡ new_bench) × (b₁ ≡ new_bench)) ⊎ Both b b₁

-- a controller that has taken no call keeps none
none_kept : (c : Controller) → c.help.callers ≡ 0 → without_kept c ≡ c
unfolding without_kept
none_kept c z = by_cond (λ (x : Controller). x ≡ c) (leb (phase c) 2) _ _ (λ e. ap (with_callers c) (sym z)) (λ e. refl)

fresh_kept : (locked : Bool) (n f : ℕ) (own : Bool) (k : ℕ) → without_kept (controller (bench_of locked n f own) k) ≡ controller (bench_of locked n f own) k
fresh_kept locked n f own k = none_kept _ (freshes locked n f own k).ctl.calls-none

locked_rel : (b : Bench) → JustLocked b → Both b b
locked_rel b l = subst (λ (x : Bench). Both x x) (sym l.is) (record {
  sound = lock-sound l.n l.f l.own l.sized;
  sound₁ = lock-sound l.n l.f l.own l.sized;
  same-n = refl;
  same-f = refl;
  view-is = unfold view forget_v in same_view _ _ refl refl refl refl (λ p k. sym (fresh_kept true l.n l.f l.own k) p) refl refl refl;
})

-- on the new bench
new-same : (e : Event) → run01 (step01 new_bench e) (once_more new_bench e) ≡ step new_bench e
unfolding run01 step01
new-same = by-calls 0 0 (λ e. run01 (step01 new_bench e) (once_more new_bench e) ≡ step new_bench e)
    (λ i j. by_cond (λ (x : Bench). x ≡ step new_bench (Deliver i j Help)) (is_early new_bench (Deliver i j Help)) _ _ (λ e. sym (refused-step new_bench (Deliver i j Help) (refuted _ (new_refuses (Deliver i j Help) refl)))) (λ e. refl))
    (λ i. rw (refuted _ (new_refuses (Timeout i) refl))) (λ e x. rw (x.once new_bench, x.early new_bench))

new_rel : (e : Event) → Rel (step new_bench e) (run01 (step01 new_bench e) (once_more new_bench e))
new_rel e = subst (Rel (step new_bench e)) (sym (new-same e)) (elim (new-step e) [ inl z ↦ inl (z, z) | inr l ↦ inr (locked_rel (step new_bench e) l) ])

-- on one with its lock
both-step : (b b₁ : Bench) (e : Event) → Fine b → Sound b → Both b b₁ → Both (step b e) (run01 (step01 b₁ e) (once_more b e))
both-step b b₁ e ok a r =
    let s : Steps b r.sound (step b e) = step_steps b r.sound e in
    let t : Runs b₁ (run01 b₁ (e ∷ once_more b e)) (run_v01 b.shared.n b.shared.f (view b₁) (e ∷ once_more b e)) = run01_sim b.shared.n b.shared.f (e ∷ once_more b e) b₁ r.sound₁ r.same-n r.same-f in
    unfold run01 in record {
      sound = s.sound;
      sound₁ = t.sound;
      same-n = t.same-n ∙ r.same-n ∙ sym s.same-n;
      same-f = t.same-f ∙ r.same-f ∙ sym s.same-f;
      view-is = t.view-is ∙ ap (λ (x : View). run_v01 b.shared.n b.shared.f x (e ∷ once_more b e)) r.view-is ∙ sym (together b ok a e) ∙ ap forget_v (sym (step_sim b r.sound e));
    }

step_rel : (b b₁ : Bench) (e : Event) → Fine b → Rel b b₁ → Rel (step b e) (run01 (step01 b₁ e) (once_more b e))
step_rel b b₁ e ok (inl z) = subst (λ (x : Bench). Rel (step x e) (run01 (step01 b₁ e) (once_more x e))) (sym z.0) (subst (λ (y : Bench). Rel (step new_bench e) (run01 (step01 y e) (once_more new_bench e))) (sym z.1) (new_rel e))
step_rel b b₁ e ok (inr r) = elim ok.reached [
  | inl z ↦ absurd (unlocked-new (ap (λ (x : Bench). x.shared.locked) (sym z) ∙ r.sound.locked))
  | inr a ↦ inr (both-step b b₁ e ok a r)
]
  where
    unlocked-new : new_bench.shared.locked ≡ true → ⊥
    unlocked-new e = unfold bench_of in false≢true e

run_rel : (es : List Event) (b b₁ : Bench) → ((xs : List Event) → Fine (run b xs)) → Rel b b₁ → Rel (run b es) (run01 b₁ (lengthened b es))
unfolding run run01 lengthened
run_rel [] b b₁ ok r = r
run_rel (e ∷ es) b b₁ ok r = subst (Rel (run (step b e) es)) (sym (run01-append (once_more b e) (lengthened (step b e) es) (step01 b₁ e)))
    (run_rel es (step b e) (run01 (step01 b₁ e) (once_more b e)) (λ xs. ok (e ∷ xs)) (step_rel b b₁ e (ok []) r))

-- the statement
rel-same : (b b₁ : Bench) → Rel b b₁ → SameButKept b b₁
rel-same b b₁ (inl z) = subst (λ (x : Bench). SameButKept x b₁) (sym z.0) (subst (SameButKept new_bench) (sym z.1) (record { shared = refl; ballots = refl; controllers = λ i. fresh_kept false 0 0 false i; sent = λ i. refl; saved = λ i. refl }))
rel-same b b₁ (inr r) = unfold view forget_v in record {
  shared = λ p. record {
    locked = (r.sound.locked ∙ sym r.sound₁.locked) p;
    n = sym r.same-n p;
    f = sym r.same-f p;
    own = (sym r.view-is p).own;
    order = (sym r.view-is p).order;
    consensus = (sym r.view-is p).state.consensus;
    counts = (sym r.view-is p).counts;
  };
  ballots = λ p. (sym r.view-is p).ballots;
  controllers = λ i. λ p. (sym r.view-is p).ctl i;
  sent = λ i. λ p. (sym r.view-is p).state.sent i;
  saved = λ i. λ p. (sym r.view-is p).saved i;
}

-- the answers: but for 24 the questions look at no kept call, and 24 is answered yes on both
untested-same : (b b₁ : Bench) (e : Event) → SameButKept b b₁ → untested_reply b e ≡ untested_reply b₁ e
untested-same b b₁ e s = λ p. first_no (questions_of (record {
  shared = s.shared p;
  condition = condition (subject e) p;
  has-checkpoint = is_some (s.saved (subject e) p);
  receivers = receivers_in e (s.sent (source e) p);
  may_open = may_open (s.shared p);
  agrees = true;
  may_give = may_give (s.shared p) (s.ballots p);
  ballots = s.ballots p;
  proposal = proposal (subject e) p;
}) e)
  where
    proposal : (i : ℕ) → (controller b i).proposal ≡ (controller b₁ i).proposal
    proposal i = sym (alike (controller b i)).proposal ∙ ap (λ (x : Controller). x.proposal) (s.controllers i)

    condition : (i : ℕ) → (controller b i).condition ≡ (controller b₁ i).condition
    condition i = sym (alike (controller b i)).condition ∙ ap (λ (x : Controller). x.condition) (s.controllers i)

replies : (b b₁ : Bench) (e : Event) → Rel b b₁ → reply b e ≡ reply b₁ e
replies b b₁ e (inl z) = ap (λ (x : Bench). reply x e) (z.0 ∙ sym z.1)
replies b b₁ e (inr r) = reply-untested b r.sound e ∙ untested-same b b₁ e (rel-same b b₁ (inr r)) ∙ sym (reply-untested b₁ r.sound₁ e)

related : (es : List Event) → Rel (after es) (run01 new_bench (lengthened new_bench es))
related es = run_rel es new_bench new_bench fine (inl (refl, refl))

pub as_document_01 : AsDocument01
as_document_01 = record { bench = λ es. rel-same _ _ (related es); answers = λ es e. replies _ _ e (related es) }
