-- The proof of demand 3. A moment of the statement is one of a list from its lock on (lists/Start), and the bench there is seen as its view
-- (view/Simulation). There agreement (invariant/Orders), the moves (gates/Moves), the clean decision (clean/Parts) and the bound (Bound) are known.
use Prim.Native.Nat.{ℕ, ◌+◌, ◌*◌, ◌≤◌, ◌<◌}
use mathlib.Core.Path.{◌≡◌, refl, sym, ◌∙◌, ap, subst}
use mathlib.Core.Bool.{Bool, true, false, cond, true≢false, false≢true}
use mathlib.Core.List.{List, [], ◌∷◌, ◌++◌}
use native.Mathlib.Omega.{arith}
use mathlib.Core.Logic.{inl, inr}
use borrow.Author.Tests.{leb-true}
use Rattle.ground.specs.Tests.{no_both, and_l, and_r}
use Rattle.model.specs.QuestionLaws.{is-accepted}
use Rattle.model.specs.Ranges.{is_controller}
use Rattle.model.specs.RangeLaws.{Ranges, ranges}
use Rattle.model.specs.Numbers.{is_none, word_of}
use Rattle.model.specs.declared.Kind.TheVariants.{Vote, Ack}
use Rattle.model.specs.declared.Outcome.{Outcome}
use Rattle.model.specs.declared.Outcome.TheVariants.{None, Stay, Move}
use Rattle.model.specs.declared.Event.{Event}
use Rattle.model.specs.declared.Event.TheVariants.{Lock, Cast, Timeout, Restore}
use Rattle.protocol.specs.declared.Bench.{Bench}
use Rattle.protocol.specs.Controllers.{outcome}
use Rattle.protocol.specs.Benches.{bench_of, new_bench}
use Rattle.protocol.specs.Questions.{is_accepted, unless, first_no, reply}
use Rattle.protocol.specs.Steps.{step, run}
use Rattle.protocol.specs.Display.{shown_outcome, shown_position, sum_to, message_count}
use Rattle.protocol.specs.Claim.{after, Accepted, opens_any, SameOrder, InOrder, Holds, Moves, IsSecondTimeout, Clean, AllWilling, OneUnwilling, WillingVote, Demand3}
use Rattle.protocol.proofs.view.View.{View, accepts, ask_l, ask_r}
use Rattle.protocol.proofs.view.Performed.{step_v, run_v}
use Rattle.protocol.proofs.invariant.Words.{none-word}
use Rattle.protocol.proofs.invariant.Invariant.{Inv}
use Rattle.protocol.proofs.invariant.Orders.{agreement, run-inv}
use Rattle.protocol.proofs.gates.Moves.{voted-run, two-moves, restore-still, VotedBefore, Willing}
use Rattle.protocol.proofs.clean.Log.{In, Second, entered, push_v, log_v}
use Rattle.protocol.proofs.clean.Log as steps
use Rattle.protocol.proofs.clean.Steps.{CleanOrder, clean_by_steps, clean-log, second_is}
use Rattle.protocol.proofs.clean.Parts.{clean-decides, Decides}
use Rattle.protocol.proofs.view.Simulation.{view, Sound, Steps, Runs, reply_sim, step_steps, step_sim, run_sim}
use Rattle.protocol.proofs.lists.Moments.{accepted-is, push, log_of, log_at, append_assoc, run-append, run-one, run-cons, log-append, in_order, in-log}
use Rattle.protocol.proofs.lists.OrderNumbers.{same_number, number_same}
use Rattle.protocol.proofs.claim.Bound.{sent_bound}
use Rattle.protocol.proofs.lists.Start.{Opened, start, lock-sound, lock-inv, lock_good, lock-unvoted, new-holds, new-still}

vrun-one : (n f : ℕ) (e : Event) (b : View) → run_v n f b (e ∷ []) ≡ step_v n f b e
unfolding run_v
vrun-one n f e b = refl

-- the log by the views
pub log_sim : (n f : ℕ) (es : List Event) (b : Bench) → Sound b → b.shared.n ≡ n → b.shared.f ≡ f → (log : List Event) → log_of b log es ≡ log_v n f (view b) log es
unfolding log_of log_v push push_v
log_sim n f [] b ok p q log = refl
log_sim n f (e ∷ es) b ok p q log =
    let s : Steps b ok (step b e) = step_steps b ok e in
    let v : view (step b e) ≡ step_v n f (view b) e = step_sim b ok e ∙ ap (λ (x : ℕ). step_v x b.shared.f (view b) e) p ∙ ap (λ (x : ℕ). step_v n x (view b) e) q in
    let a : is_accepted (reply b e) ≡ accepts n f (view b) e = reply_sim b ok e ∙ ap (λ (x : ℕ). accepts x b.shared.f (view b) e) p ∙ ap (λ (x : ℕ). accepts n x (view b) e) q in
    log_sim n f es (step b e) s.sound (s.same-n ∙ p) (s.same-f ∙ q) _
    ∙ ap (λ (x : View). log_v n f x (cond (is_accepted (reply b e)) (entered e log) log) es) v
    ∙ ap (λ (t : Bool). log_v n f (step_v n f (view b) e) (cond t (entered e log) log) es) a

-- an outcome held is one of the two words
pub record Word (x : Outcome) : Type 0 where
  pub move : Bool
  pub is : x ≡ word_of move

pub word-of : (x : Outcome) → is_none x ≡ false → Word x
word-of None e = absurd (true≢false e)
word-of Stay e = record { move = false; is = refl }
word-of Move e = record { move = true; is = refl }

-- a list in which a lock was accepted
module _ (es : List Event) (o : Opened es) where
  abbrev n : ℕ
  n = o.n

  abbrev f : ℕ
  f = o.f

  abbrev b₀ : Bench
  b₀ = bench_of true o.n o.f o.own

  pub range : Ranges n f
  range = ranges n f o.sized

  pub sound₀ : Sound b₀
  sound₀ = lock-sound n f o.own o.sized

  pub n₀ : b₀.shared.n ≡ n
  n₀ = unfold bench_of in refl

  pub f₀ : b₀.shared.f ≡ f
  f₀ = unfold bench_of in refl

  from-lock : (l : List Event) → Runs b₀ (run b₀ l) (run_v n f (view b₀) l)
  from-lock l = run_sim n f l b₀ sound₀ n₀ f₀

  -- the bench after the lock and these events
  reach : (l : List Event) → after (o.pre ++ (Lock n f o.own ∷ l)) ≡ run b₀ l
  reach l = run-append o.pre (Lock n f o.own ∷ l) new_bench ∙ ap (λ (b : Bench). run b (Lock n f o.own ∷ l)) o.idle ∙ run-cons (Lock n f o.own) l new_bench ∙ ap (λ (b : Bench). run b l) o.locks

  pub record Here : Type 0 where
    pub sound : Sound (after es)
    pub is-n : (after es).shared.n ≡ n
    pub is_f : (after es).shared.f ≡ f
    pub shows : view (after es) ≡ run_v n f (view b₀) o.post

  pub here : Here
  here = let r : Runs b₀ (run b₀ o.post) (run_v n f (view b₀) o.post) = from-lock o.post in
      record {
        sound = subst Sound (sym o.is) r.sound;
        is-n = ap (λ (b : Bench). b.shared.n) o.is ∙ r.same-n ∙ n₀;
        is_f = ap (λ (b : Bench). b.shared.f) o.is ∙ r.same-f ∙ f₀;
        shows = ap view o.is ∙ r.view-is;
      }

  inv : Inv n f (view (after es))
  inv = subst (Inv n f) (sym here.shows) (run-inv n f range.high range.low range.small o.post (view b₀) (lock-inv n f o.own o.sized))

  -- and further events
  further : (es' : List Event) → view (run (after es) es') ≡ run_v n f (view (after es)) es'
  further es' = (run_sim n f es' (after es) here.sound here.is-n here.is_f).view-is

  further-one : (e : Event) → view (step (after es) e) ≡ step_v n f (view (after es)) e
  further-one e = ap view (sym (run-one e (after es))) ∙ further (e ∷ []) ∙ vrun-one n f e (view (after es))

  agreement₁ : (es' : List Event) (i j : ℕ) (x y : Bool) → (run (after es) es').shared.order ≡ (after es).shared.order → shown_outcome (after es) i ≡ word_of x → shown_outcome (run (after es) es') j ≡ word_of y → x ≡ y
  unfolding view
  agreement₁ es' i j x y s p q = agreement n f range.high range.low range.small (view (after es)) inv es' i j x y
      (ap (λ (v : View). v.order) (sym (further es')) ∙ s) p (ap (λ (v : View). outcome (v.ctl j)) (sym (further es')) ∙ q)

  -- a vote found in the views was accepted on the bench
  module _ (k : ℕ) (v : VotedBefore n f (view b₀) o.post k) where
    abbrev pre' : List Event
    pre' = o.pre ++ (Lock n f o.own ∷ v.before)

    abbrev cast : Event
    cast = Cast k true v.target

    vote-parts : es ≡ pre' ++ (cast ∷ v.after)
    vote-parts = o.parts ∙ ap (λ (l : List Event). o.pre ++ (Lock n f o.own ∷ l)) v.parts ∙ append_assoc o.pre (Lock n f o.own ∷ v.before) (cast ∷ v.after)

    at-vote : Runs b₀ (run b₀ v.before) (run_v n f (view b₀) v.before)
    at-vote = from-lock v.before

    vote-taken : Accepted pre' cast
    vote-taken = is-accepted _ (ap (λ (b : Bench). is_accepted (reply b cast)) (reach v.before)
        ∙ reply_sim (run b₀ v.before) at-vote.sound cast
        ∙ ap (λ (x : ℕ). accepts x (run b₀ v.before).shared.f (view (run b₀ v.before)) cast) (at-vote.same-n ∙ n₀)
        ∙ ap (λ (x : ℕ). accepts n x (view (run b₀ v.before)) cast) (at-vote.same-f ∙ f₀)
        ∙ ap (λ (x : View). accepts n f x cast) at-vote.view-is ∙ v.accepted)

    locked_then : (after pre').shared.locked ≡ true
    locked_then = ap (λ (b : Bench). b.shared.locked) (reach v.before) ∙ at-vote.sound.locked

    same_then : (run (after pre') (cast ∷ v.after)).shared.order ≡ (after pre').shared.order
    unfolding view
    same_then = ap (λ (b : Bench). b.shared.order) (sym (run-append pre' (cast ∷ v.after) new_bench) ∙ ap after (sym vote-parts))
        ∙ ap (λ (x : View). x.order) here.shows ∙ sym v.same-order ∙ sym (ap (λ (x : View). x.order) at-vote.view-is) ∙ sym (ap (λ (b : Bench). b.shared.order) (reach v.before))

    vote_in-order : InOrder es cast
    vote_in-order = record { before = pre'; rest = v.after; parts = vote-parts; taken = vote-taken; same = number_same (cast ∷ v.after) (after pre') locked_then same_then }

  validity₁ : (i : ℕ) → shown_outcome (after es) i ≡ Move → (k : ℕ) → 1 ≤ k → k ≤ (after es).shared.n → WillingVote es k
  unfolding view
  validity₁ i e k x y =
      let h : (after es).shared.n ≡ n = here.is-n in
      let w : Willing n f (view (after es)) k = ((inv.ctls i).outcome_ok true e).0 k x (omega arith) in
      elim (voted-run n f range.high range.low range.small o.post (view b₀) k (subst (λ (v : View). Willing n f v k) here.shows w)) [
        | inl p ↦ absurd (no_both _ p.1.0 (lock-unvoted n f o.own o.sized k))
        | inr v ↦ record { target = v.target; vote = vote_in-order k v }
      ]

  -- two moves in one order
  moves₁ : (e : Event) (es' : List Event) (e' : Event) (k : ℕ) → (step (run (step (after es) e) es') e').shared.order ≡ (step (after es) e).shared.order
      → (shown_position (step (after es) e) k ≡ shown_position (after es) k → ⊥)
      → (shown_position (step (run (step (after es) e) es') e') k ≡ shown_position (run (step (after es) e) es') k → ⊥) → ⊥
  unfolding view
  moves₁ e es' e' k s m m' = two-moves n f range.high range.low range.small (view (after es)) inv e es' e' k
      (ap (λ (v : View). v.order) (sym v₃) ∙ s ∙ ap (λ (v : View). v.order) v₁) (λ z. m (ap (λ (v : View). (v.ctl k).gate.position) v₁ ∙ z))
      (λ z. m' (ap (λ (v : View). (v.ctl k).gate.position) v₃ ∙ z ∙ sym (ap (λ (v : View). (v.ctl k).gate.position) v₂)))
    where
      v₁ : view (step (after es) e) ≡ step_v n f (view (after es)) e
      v₁ = further-one e

      ok₁ : Steps (after es) here.sound (step (after es) e)
      ok₁ = step_steps (after es) here.sound e

      r₂ : Runs (step (after es) e) (run (step (after es) e) es') (run_v n f (view (step (after es) e)) es')
      r₂ = run_sim n f es' (step (after es) e) ok₁.sound (ok₁.same-n ∙ here.is-n) (ok₁.same-f ∙ here.is_f)

      v₂ : view (run (step (after es) e) es') ≡ run_v n f (step_v n f (view (after es)) e) es'
      v₂ = r₂.view-is ∙ ap (λ (v : View). run_v n f v es') v₁

      v₃ : view (step (run (step (after es) e) es') e') ≡ step_v n f (run_v n f (step_v n f (view (after es)) e) es') e'
      v₃ = ap view (sym (run-one e' (run (step (after es) e) es')))
          ∙ (run_sim n f (e' ∷ []) (run (step (after es) e) es') r₂.sound (r₂.same-n ∙ ok₁.same-n ∙ here.is-n) (r₂.same-f ∙ ok₁.same-f ∙ here.is_f)).view-is
          ∙ vrun-one n f e' _ ∙ ap (λ (v : View). step_v n f v e') v₂

  still₁ : (i k : ℕ) → shown_position (step (after es) (Restore i)) k ≡ shown_position (after es) k
  unfolding view
  still₁ i k = ap (λ (v : View). (v.ctl k).gate.position) (further-one (Restore i)) ∙ restore-still n f (view (after es)) i k

  locked₁ : (after es).shared.locked ≡ true
  locked₁ = here.sound.locked

  bound₁ : message_count (after es) Vote + message_count (after es) Ack ≤ 2 * ((after es).shared.f * (after es).shared.n)
  bound₁ = sent_bound (after es) (let x : (after es).shared.n ≡ n = here.is-n in let y : (after es).shared.f ≡ f = here.is_f in let z : f < n = range.high in omega arith)
      (subst (λ (x : ℕ). Inv x (after es).shared.f (view (after es))) (sym here.is-n) (subst (λ (x : ℕ). Inv n x (view (after es))) (sym here.is_f) inv))

-- a clean order, by its numbers and its log
record Asked (n f : ℕ) (log : List Event) (i : ℕ) : Type 0 where
  sec : Second n f i log
  cl : steps.Clean n f (Timeout i ∷ log)

in_range_lem : (b : Bench) (k : ℕ) (w : Bool) (t : ℕ) → is_accepted (reply b (Cast k w t)) ≡ true → (1 ≤ k) × (k ≤ b.shared.n)
unfolding reply first_no is_controller
in_range_lem b k w t q = (leb-true _ _ (search (ask_l, ask_r, and_l, and_r) depth 14), leb-true _ _ (search (ask_l, ask_r, and_l, and_r) depth 14))

module _ (es : List Event) (o : Opened es) (i : ℕ) (a : Accepted es (Timeout i)) (sec₀ : IsSecondTimeout (after es).shared.n (after es).shared.f es i) (cl₀ : Clean (after es).shared.n (after es).shared.f (es ++ (Timeout i ∷ []))) where
  vb : View
  vb = run_v o.n o.f (view (bench_of true o.n o.f o.own)) o.post

  vlog : List Event
  vlog = log_v o.n o.f (view (bench_of true o.n o.f o.own)) [] o.post

  is-log : log_at es ≡ vlog
  unfolding vlog
  is-log = o.silent ∙ log_sim o.n o.f o.post (bench_of true o.n o.f o.own) (sound₀ es o) (n₀ es o) (f₀ es o) []

  -- the log right after the timeout
  timeout-log : log_at (es ++ (Timeout i ∷ [])) ≡ (Timeout i ∷ log_at es)
  unfolding log_of push entered
  timeout-log = log-append es (Timeout i ∷ []) new_bench [] ∙ rw (accepted-is _ a)

  prem : Asked o.n o.f vlog i
  prem = subst (λ (x : ℕ). Asked x o.f vlog i) (here es o).is-n (subst (λ (x : ℕ). Asked (after es).shared.n x vlog i) (here es o).is_f (subst (λ (l : List Event). Asked (after es).shared.n (after es).shared.f l i) is-log
      (record {
        sec = second_is (after es).shared.n (after es).shared.f es i sec₀;
        cl = clean_by_steps (after es).shared.n (after es).shared.f (Timeout i ∷ log_at es) (subst (CleanOrder (after es).shared.n (after es).shared.f) timeout-log (clean-log (after es).shared.n (after es).shared.f (es ++ (Timeout i ∷ [])) cl₀));
      })))

  timeout-passes : accepts o.n o.f vb (Timeout i) ≡ true
  unfolding vb
  timeout-passes = sym (reply_sim (after es) (here es o).sound (Timeout i)
      ∙ ap (λ (x : ℕ). accepts x (after es).shared.f (view (after es)) (Timeout i)) (here es o).is-n
      ∙ ap (λ (x : ℕ). accepts o.n x (view (after es)) (Timeout i)) (here es o).is_f
      ∙ ap (λ (x : View). accepts o.n o.f x (Timeout i)) (here es o).shows) ∙ accepted-is _ a

  decides : Decides o.n o.f (range es o).high (range es o).low (range es o).small vb vlog i
  unfolding vb vlog
  decides = clean-decides o.n o.f (range es o).high (range es o).low (range es o).small (view (bench_of true o.n o.f o.own)) (lock-inv o.n o.f o.own o.sized) (lock_good o.n o.f o.own o.sized (range es o).high) o.post i timeout-passes prem.sec prem.cl

  timeout-view : view (step (after es) (Timeout i)) ≡ step_v o.n o.f vb (Timeout i)
  unfolding vb
  timeout-view = further-one es o (Timeout i) ∙ ap (λ (v : View). step_v o.n o.f v (Timeout i)) (here es o).shows

  clean_move₁ : AllWilling es → shown_outcome (step (after es) (Timeout i)) i ≡ Move
  unfolding view
  clean_move₁ h = ap (λ (v : View). outcome (v.ctl i)) timeout-view ∙ decides.move (λ k w t x y m. h k w t (in_order es (Cast k w t) (subst (In (Cast k w t)) (sym is-log) m)))

  clean_stay₁ : OneUnwilling es → shown_outcome (step (after es) (Timeout i)) i ≡ Stay
  unfolding view
  clean_stay₁ u = ap (λ (v : View). outcome (v.ctl i)) timeout-view ∙ decides.stay u.who u.target who.0 who.1 (subst (In (Cast u.who false u.target)) is-log (in-log es (Cast u.who false u.target) refl u.vote))
    where
      -- the number of one whose vote was accepted is in range
      who : (1 ≤ u.who) × (u.who ≤ o.n)
      who = elim (start u.vote.before) [
        | inl z ↦ absurd (false≢true (sym (unaccepted u.who u.target) ∙ accepted-is _ (sym (ap (λ (b : Bench). reply b (Cast u.who false u.target)) z) ∙ u.vote.taken)))
        | inr p ↦ let r : (1 ≤ u.who) × (u.who ≤ (after u.vote.before).shared.n) = in_range_lem (after u.vote.before) u.who false u.target (accepted-is _ u.vote.taken) in (r.0, subst (λ (x : ℕ). u.who ≤ x) (same-n p) r.1)
      ]
        where
          unaccepted : (k t : ℕ) → is_accepted (reply new_bench (Cast k false t)) ≡ false
          unaccepted k t = unfold reply first_no unless bench_of in refl

          -- n does not change after the lock
          same-n : (p : Opened u.vote.before) → (after u.vote.before).shared.n ≡ o.n
          same-n p = sym (run_sim p.n p.f (Cast u.who false u.target ∷ u.vote.rest) (after u.vote.before) (here u.vote.before p).sound (here u.vote.before p).is-n (here u.vote.before p).is_f).same-n
              ∙ ap (λ (b : Bench). b.shared.n) (sym (run-append u.vote.before (Cast u.who false u.target ∷ u.vote.rest) new_bench) ∙ ap after (sym u.vote.parts)) ∙ (here es o).is-n

-- before any lock
no-timeout : {X : Type 0} (es : List Event) (i : ℕ) → after es ≡ new_bench → Accepted es (Timeout i) → X
no-timeout es i p a = absurd (false≢true (sym refuses ∙ accepted-is _ (sym (ap (λ (b : Bench). reply b (Timeout i)) p) ∙ a)))
  where
    refuses : is_accepted (reply new_bench (Timeout i)) ≡ false
    refuses = unfold reply first_no unless bench_of in refl

no-outcome : {X : Type 0} (es : List Event) (i : ℕ) (v : Bool) → after es ≡ new_bench → shown_outcome (after es) i ≡ word_of v → X
no-outcome es i v p e = none-word v (sym (new-holds i) ∙ sym (ap (λ (b : Bench). shown_outcome b i) p) ∙ e)

one_more : (es : List Event) (e : Event) → after (es ++ (e ∷ [])) ≡ step (after es) e
one_more es e = run-append es (e ∷ []) new_bench ∙ run-one e (after es)

some_more : (es : List Event) (e : Event) (es' : List Event) → after (es ++ (e ∷ es')) ≡ run (step (after es) e) es'
some_more es e es' = run-append es (e ∷ es') new_bench ∙ run-cons e es' (after es)

still-at : (es : List Event) (e : Event) (k : ℕ) → after es ≡ new_bench → shown_position (step (after es) e) k ≡ shown_position (after es) k
still-at es e k p = ap (λ (b : Bench). shown_position (step b e) k) p ∙ new-still e k ∙ sym (ap (λ (b : Bench). shown_position b k) p)

new_bound : message_count new_bench Vote + message_count new_bench Ack ≤ 2 * (new_bench.shared.f * new_bench.shared.n)
unfolding message_count sum_to bench_of
new_bound = omega arith

agreement₀ : (es more : List Event) (i j : ℕ) (x y : Outcome) → SameOrder es more → Holds es i x → Holds (es ++ more) j y → x ≡ y
agreement₀ es more i j x y s p q =
    let u : Word x = word-of x p.some in
    let v : Word y = word-of y q.some in
    let w : after (es ++ more) ≡ run (after es) more = run-append es more new_bench in
    let same : u.move ≡ v.move = elim (start es) [
      | inl z ↦ no-outcome es i u.move z (p.shows ∙ u.is)
      | inr o ↦ agreement₁ es o more i j u.move v.move (same_number more (after es) (locked₁ es o) s) (p.shows ∙ u.is) (ap (λ (b : Bench). shown_outcome b j) (sym w) ∙ q.shows ∙ v.is)
    ] in
    u.is ∙ ap word_of same ∙ sym v.is

moves₀ : (es : List Event) (e : Event) (more : List Event) (e' : Event) (k : ℕ) → SameOrder (es ++ (e ∷ [])) (more ++ (e' ∷ [])) → Moves es e k → Moves (es ++ (e ∷ more)) e' k → ⊥
moves₀ es e more e' k s m m' = elim (start es) [
  | inl z ↦ m (ap (λ (b : Bench). shown_position b k) (one_more es e) ∙ still-at es e k z)
  | inr o ↦ moves₁ es o e more e' k (same o)
      (λ z. m (ap (λ (b : Bench). shown_position b k) (one_more es e) ∙ z))
      (λ z. m' (ap (λ (b : Bench). shown_position b k) (one_more (es ++ (e ∷ more)) e' ∙ ap (λ (b : Bench). step b e') (some_more es e more)) ∙ z ∙ ap (λ (b : Bench). shown_position b k) (sym (some_more es e more))))
]
  where
    same : Opened es → (step (run (step (after es) e) more) e').shared.order ≡ (step (after es) e).shared.order
    same o = ap (λ (b : Bench). b.shared.order) (sym (run-append more (e' ∷ []) (step (after es) e) ∙ run-one e' (run (step (after es) e) more)))
        ∙ same_number (more ++ (e' ∷ [])) (step (after es) e) (step_steps (after es) (here es o).sound e).sound.locked (subst (λ (b : Bench). opens_any b (more ++ (e' ∷ [])) ≡ false) (one_more es e) s)

pub demand_3 : Demand3
demand_3 = record {
  agreement = agreement₀;
  validity = λ es i p k x y. elim (start es) [ inl z ↦ no-outcome es i true z p.shows | inr o ↦ validity₁ es o i p.shows k x y ];
  moves-once = moves₀;
  still-at-restore = λ es i k m. m (ap (λ (b : Bench). shown_position b k) (one_more es (Restore i)) ∙ elim (start es) [ inl z ↦ still-at es (Restore i) k z | inr o ↦ still₁ es o i k ]);
  clean-move = λ es i a s c h. record {
    shows = ap (λ (b : Bench). shown_outcome b i) (one_more es (Timeout i)) ∙ elim (start es) [
      | inl z ↦ no-timeout es i z a
      | inr o ↦ clean_move₁ es o i a s c h
    ];
    some = refl;
  };
  clean-stay = λ es i a s c u. record {
    shows = ap (λ (b : Bench). shown_outcome b i) (one_more es (Timeout i)) ∙ elim (start es) [
      | inl z ↦ no-timeout es i z a
      | inr o ↦ clean_stay₁ es o i a s c u
    ];
    some = refl;
  };
  at-most_2fn = λ es. elim (start es) [ inl z ↦ subst (λ (b : Bench). message_count b Vote + message_count b Ack ≤ 2 * (b.shared.f * b.shared.n)) (sym z) new_bound | inr o ↦ bound₁ es o ];
}
