-- A moment of a clean order that the bench can be brought to, by its log and the controllers' phases; and from one to the next: what Ready says of the
-- controllers lets the next event be accepted, and holds after it.
use Prim.Native.Nat.{ℕ, ◌≤◌}
use mathlib.Core.Path.{◌≡◌, refl, sym, ◌∙◌, ap, subst}
use mathlib.Core.Bool.{false, Bool, true, false≢true}
use mathlib.Core.List.{List, [], ◌∷◌, ◌++◌, reverse-cons}
use native.Mathlib.Omega.{arith}
use lib.ListN.{replicate}
use Rattle.ground.specs.Tests.{by_cond}
use Rattle.votes.specs.VoteSets.{empty}
use Rattle.model.specs.QuestionLaws.{is-accepted}
use Rattle.model.specs.Ranges.{sizes_in_range}
use Rattle.model.specs.RangeLaws.{Ranges, ranges}
use Rattle.model.specs.declared.Kind.{Kind}
use Rattle.model.specs.declared.Kind.TheVariants.{Vote, Ack, Help, Helped}
use Rattle.model.specs.declared.Outcome.TheVariants.{None}
use Rattle.model.specs.declared.Event.{Event}
use Rattle.model.specs.declared.Event.TheVariants.{Lock, Order, Cast, Deliver, Timeout}
use Rattle.protocol.specs.declared.Station.{Station}
use Rattle.protocol.specs.declared.Bench.{Bench}
use Rattle.protocol.specs.Controllers.{is_running, phase_in, in_phase, cleared}
use Rattle.protocol.specs.Calls.{renew}
use Rattle.protocol.specs.Benches.{fresh, fresh_station, bench_of, new_bench, station}
use Rattle.protocol.specs.Questions.{is_accepted, unless, first_no, reply}
use Rattle.protocol.specs.Steps.{order_opened, perform, step, run, renewed}
use Rattle.protocol.specs.Events.{concerns_one}
use Rattle.protocol.specs.Claim.{after, Accepted}
use Rattle.protocol.specs.CleanOrders.{deliveries, from_lock}
use Rattle.ground.specs.Limit.{limit}
use Rattle.protocol.proofs.view.View.{View, opened_v, accepts, all-of_copies}
use Rattle.protocol.proofs.view.Performed.{perform_v, step_v}
use Rattle.protocol.proofs.clean.Log.{entered}
use Rattle.protocol.proofs.lists.Moments.{accepted-is, push, log_of, log_at, entry_of, run-append, run-one, log-append}
use Rattle.protocol.proofs.view.Simulation.{view, Sound, Steps, step_steps, reply_sim, step_sim}
use Rattle.protocol.proofs.lists.Start.{lock-sound}
use Rattle.protocol.proofs.clean.Loops.{rows_all}
use Rattle.protocol.proofs.clean.Ready.{due, begun, ReadyAll, ElseSame, vote-accepted, vote-going, deliver-accepted, deliver-going, timeout-accepted, first-going, second-going}

-- an accepted event that enters the log
pub log-one : (es : List Event) (e : Event) → concerns_one e ≡ true → Accepted es e → log_at (es ++ (e ∷ [])) ≡ (e ∷ log_at es)
unfolding log_of push
log-one es e u a = log-append es (e ∷ []) new_bench [] ∙ rw (accepted-is _ a) ((entry_of (after es) e u).adds (log_at es))

module _ (n f : ℕ) (sized : sizes_in_range n f ≡ true) where
  range : Ranges n f
  range = ranges n f sized

  -- the events of this log, put to a new bench after lock and order, are all accepted, and then each controller is in this phase
  pub record Reached (log : List Event) (p : ℕ → ℕ) : Type 0 where
    pub sound : Sound (after (from_lock n f log))
    pub is-n : (after (from_lock n f log)).shared.n ≡ n
    pub is_f : (after (from_lock n f log)).shared.f ≡ f
    pub is-log : log_at (from_lock n f log) ≡ log
    pub going : ReadyAll n f (view (after (from_lock n f log))) p

  pub one_later : (log : List Event) (e : Event) → from_lock n f (e ∷ log) ≡ from_lock n f log ++ (e ∷ [])
  one_later log e = ap (λ (l : List Event). Lock n f false ∷ Order 1 ∷ l) (reverse-cons e log)

  module _ {log : List Event} {p : ℕ → ℕ} (r : Reached log p) where
    abbrev b : Bench
    b = after (from_lock n f log)

    abbrev v : View
    v = view (after (from_lock n f log))

    pub answers : (e : Event) → accepts n f v e ≡ true → Accepted (from_lock n f log) e
    answers e q = is-accepted _ (reply_sim b r.sound e ∙ ap (λ (x : ℕ). accepts x b.shared.f v e) r.is-n ∙ ap (λ (x : ℕ). accepts n x v e) r.is_f ∙ q)

    pub performs : (e : Event) → accepts n f v e ≡ true → view (step b e) ≡ perform_v n f v e
    unfolding step_v
    performs e q = step_sim b r.sound e ∙ ap (λ (x : ℕ). step_v x b.shared.f v e) r.is-n ∙ ap (λ (x : ℕ). step_v n x v e) r.is_f ∙ rw q

    extend : (p' : ℕ → ℕ) (e : Event) → concerns_one e ≡ true → accepts n f v e ≡ true → ReadyAll n f (perform_v n f v e) p' → Reached (e ∷ log) p'
    extend p' e u q g =
        let w : after (from_lock n f (e ∷ log)) ≡ step b e = ap after (one_later log e) ∙ run-append (from_lock n f log) (e ∷ []) new_bench ∙ run-one e b in
        let s : Steps b r.sound (step b e) = step_steps b r.sound e in
        record {
          sound = subst Sound (sym w) s.sound;
          is-n = ap (λ (x : Bench). x.shared.n) w ∙ s.same-n ∙ r.is-n;
          is_f = ap (λ (x : Bench). x.shared.f) w ∙ s.same-f ∙ r.is_f;
          is-log = ap log_at (one_later log e) ∙ log-one (from_lock n f log) e u (answers e q) ∙ ap (λ (l : List Event). e ∷ l) r.is-log;
          going = subst (λ (x : View). ReadyAll n f x p') (sym (ap view w ∙ performs e q)) g;
        }

    pub cast-next : (p' : ℕ → ℕ) (k : ℕ) (w : Bool) → 1 ≤ k → k ≤ n → p k ≡ 0 → p' k ≡ begun f k → ElseSame k p p' → Reached (Cast k w 0 ∷ log) p'
    cast-next p' k w lo hi e e' same = extend p' (Cast k w 0) refl (vote-accepted n f v p r.going k w lo hi e) (vote-going n f v p r.going range.small p' k w e' same)

    pub timeout-next : (p' : ℕ → ℕ) (k : ℕ) → 1 ≤ k → k ≤ n → p k ≡ 1 → p' k ≡ 2 → ElseSame k p p' → Reached (Timeout k ∷ log) p'
    timeout-next p' k lo hi e e' same = extend p' (Timeout k) refl (timeout-accepted n f v p r.going k lo hi (rw e)) (first-going n f v p r.going range.small p' k lo hi e e' same)

    pub end-next : (p' : ℕ → ℕ) (k : ℕ) → 1 ≤ k → k ≤ n → p k ≡ 2 → p' k ≡ 3 → ElseSame k p p' → Reached (Timeout k ∷ log) p'
    end-next p' k lo hi e e' same = extend p' (Timeout k) refl (timeout-accepted n f v p r.going k lo hi (rw e)) (second-going n f v p r.going p' k lo hi e e' same)

    -- phases named otherwise
    pub renamed : (p' : ℕ → ℕ) → ((k : ℕ) → 1 ≤ k → k ≤ n → p' k ≡ p k) → Reached log p'
    renamed p' same = record { sound = r.sound; is-n = r.is-n; is_f = r.is_f; is-log = r.is-log; going = record { opened = r.going.opened; able = λ k lo hi. rw (same k lo hi) (r.going.able k lo hi) } }

  -- all messages of a kind
  pub deliver-all : (kind : Kind) (log : List Event) (p : ℕ → ℕ) → ((i : ℕ) → 1 ≤ i → i ≤ n → due kind (p i) ≡ true) → Reached log p → Reached (deliveries n f kind n log) p
  deliver-all kind log p sent = rows_all n f (λ l. Reached l p) kind (λ i j a b c d e l r.
      extend r p (Deliver i j kind) refl (deliver-accepted n f _ p r.going kind i j a b c d (sent i a b) e) (deliver-going n f _ p r.going kind i j c d (sent i a b))) n (omega arith) log

  -- a lock, and its first order
  module _ (own : Bool) where
    abbrev b₀ : Bench
    b₀ = bench_of true n f own

    pub begins : after (Lock n f own ∷ Order 1 ∷ []) ≡ step b₀ (Order 1)
    begins = unfold run in ap (λ (x : Bench). step x (Order 1)) locks
      where
        locks : step new_bench (Lock n f own) ≡ b₀
        locks = unfold step reply first_no unless bench_of perform in rw sized

    pub shows : view (step b₀ (Order 1)) ≡ opened_v n f (view b₀) 1
    shows = step_sim b₀ (lock-sound n f own sized) (Order 1) ∙ opens
      where
        opens : step_v b₀.shared.n b₀.shared.f (view b₀) (Order 1) ≡ opened_v n f (view b₀) 1
        opens = unfold step_v accepts first_no unless perform_v view bench_of in refl

    pub fresh-going : ReadyAll n f (opened_v n f (view b₀) 1) (λ k. 0)
    unfolding opened_v view order_opened renewed
    fresh-going = record { opened = refl; able = λ k lo hi. record { running = ap is_running (again k); at = ap phase_in (again k); sent = λ kind j a b d r. absurd (none kind d) } }
      where
        runs₀ : (k : ℕ) → (station b₀ k).controller.condition ≡ in_phase 0 None
        runs₀ k = unfold station bench_of in all-of_copies (λ (x : Station). x.controller.condition ≡ in_phase 0 None) (fresh_station []) (fresh_station (replicate limit empty)) (unfold fresh_station fresh in refl) (unfold fresh_station fresh in refl) limit k

        again : (k : ℕ) → (renew (station b₀ k).controller).condition ≡ in_phase 0 None
        again k = unfold renew cleared in rw (runs₀ k)

        none : (kind : Kind) → due kind 0 ≡ true → ⊥
        none Vote d = false≢true d
        none Ack d = false≢true d
        none Help d = false≢true d
        none Helped d = false≢true d

  pub start : Reached [] (λ k. 0)
  start = record {
    sound = subst Sound (sym (begins false)) s.sound;
    is-n = ap (λ (x : Bench). x.shared.n) (begins false) ∙ s.same-n ∙ (unfold bench_of in refl);
    is_f = ap (λ (x : Bench). x.shared.f) (begins false) ∙ s.same-f ∙ (unfold bench_of in refl);
    is-log = unfold log_of in ap (push _ (Order 1)) (silent new_bench (Lock n f false) (unfold entered in refl)) ∙ silent _ (Order 1) (unfold entered in refl);
    going = subst (λ (x : View). ReadyAll n f x (λ k. 0)) (sym (ap view (begins false) ∙ shows false)) (fresh-going false);
  }
    where
      s : Steps (b₀ false) (lock-sound n f false sized) (step (b₀ false) (Order 1))
      s = step_steps (b₀ false) (lock-sound n f false sized) (Order 1)

      silent : (b : Bench) (e : Event) → entered e [] ≡ [] → push b e [] ≡ []
      silent b e h = unfold push in by_cond (λ (l : List Event). l ≡ []) (is_accepted (reply b e)) (entered e []) [] (λ q. h) (λ q. refl)
