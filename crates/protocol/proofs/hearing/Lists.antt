-- The theorem is not hollow: at every lock the backups can be stopped, and then, from there on, or after a controller beyond them has begun to wait and
-- another's answer has come to it, the order goes on to where all premises are met.
use Prim.Native.Nat.{ℕ, zero, suc, ◌+◌, ◌≤◌, ◌<◌}
use mathlib.Core.Path.{◌≡◌, refl, sym, ◌∙◌, ap, subst}
use mathlib.Core.Bool.{true, false, not, ◌&&◌}
use mathlib.Core.List.{List, [], ◌∷◌, ◌++◌}
use native.Mathlib.Omega.{arith}
use native.Mathlib.Decide.{ℕ_discrete}
use lib.Dec.{leb}
use mathlib.Core.Logic.{inl, inr}
use borrow.Author.Tests.{le-leb, lt-leb, ne_eqb}
use Rattle.ground.specs.Tests.{no_both, refuted, and_l}
use Rattle.ground.specs.Quantify.{count_to, all_to, all-at}
use Rattle.ground.specs.Limit.{limit}
use Rattle.ground.specs.Mask.{width, has}
use Rattle.ground.proofs.MaskLaws.{has-none, insert-own, insert_only}
use Rattle.ground.specs.Update.{upd_same, upd_other, fun_ext}
use Rattle.votes.specs.VoteSets.{complete}
use Rattle.votes.specs.declared.VoteSet.{VoteSet}
use Rattle.model.specs.Ranges.{sizes_in_range, is_controller, position_in_range}
use Rattle.model.specs.RangeLaws.{Ranges, ranges}
use Rattle.model.specs.declared.Kind.TheVariants.{Help, Helped}
use Rattle.model.specs.declared.Event.{Event}
use Rattle.model.specs.declared.Event.TheVariants.{Cast, Deliver, Timeout, Stop}
use Rattle.protocol.specs.declared.Controller.{Controller}
use Rattle.protocol.specs.declared.Answer.{Answer}
use Rattle.protocol.specs.declared.Bench.{Bench}
use Rattle.protocol.specs.Controllers.{is_stopped, runs, phase, has_ack, ack_of, has_helped, cleared, advance, learn, aim, keep_helped, freeze, await, propose}
use Rattle.protocol.specs.Rules.{passing_over, becomes, proposing, vote_rule, decides, backups_complete, sufficient, propose_if_sufficient, frozen, calls_help, second_timeout, helped_arrives}
use Rattle.protocol.specs.Calls.{arrives}
use Rattle.protocol.specs.Benches.{new_bench, controller, of_kind}
use Rattle.protocol.specs.Questions.{unless, first_no}
use Rattle.protocol.specs.Steps.{run}
use Rattle.protocol.specs.Claim.{after, opens_any}
use Rattle.protocol.specs.Termination.{RunsAt, few-down, Meets, MetList, WaitedList, Onward}
use Rattle.protocol.proofs.view.View.{View, accepts}
use Rattle.protocol.proofs.view.Performed.{commit_v, timeout_rule, perform_v, run_v}
use Rattle.protocol.proofs.view.RuleCases.{helped_cases, sufficient_cases}
use Rattle.protocol.proofs.view.Simulation.{view, Runs, run_sim}
use Rattle.protocol.proofs.invariant.Decisions.{Blank}
use Rattle.protocol.proofs.clean.Log.{In}
use Rattle.protocol.proofs.clean.Kept.{stopped-idle}
use Rattle.protocol.proofs.lists.Moments.{log_at, append_assoc, run-append, run-one}
use Rattle.protocol.proofs.hearing.Counts.{count-first}
use Rattle.protocol.proofs.hearing.RuleSteps.{counted}
use Rattle.protocol.proofs.hearing.Hears.{hears}
use Rattle.protocol.proofs.hearing.Later.{view_at, running-up, Moment, taken, performs, logs, moment-next, Later, later_trans, later-one}
use Rattle.protocol.proofs.hearing.Opening.{opening, opening-moment, opening-own, opening-runs, opening-blank}
use Rattle.protocol.proofs.hearing.Onward.{open_at, Brought, Raised, unmoved, to-stage, deliver-accepted, onward}

module _ (n f : ℕ) (sized : sizes_in_range n f ≡ true) where
  range : Ranges n f
  range = ranges n f sized

  abbrev At : List Event → Type 0
  At es = Moment n f 1 range.high range.low range.small es

  abbrev To : List Event → List Event → Type 0
  To es es' = Later n f 1 range.high range.low range.small es es'

  open_now : (es : List Event) → At es → leb 1 (view_at es).order ≡ true
  open_now = open_at n f 1 range.high range.low range.small (omega arith)

  -- 1 to m are stopped, and the others have just begun
  record Halted (m : ℕ) (es : List Event) : Type 0 where
    moment : At es
    own : (view_at es).own ≡ false
    stopped : (k : ℕ) → 1 ≤ k → k ≤ m → is_stopped ((view_at es).ctl k).condition ≡ true
    runs : (k : ℕ) → m < k → k ≤ n → runs ((view_at es).ctl k) ≡ true
    blank : (k : ℕ) → m < k → Blank ((view_at es).ctl k)

  record HaltedList (m : ℕ) : Type 0 where
    events : List Event
    halted : Halted m events

  halt : (m : ℕ) → m < n → HaltedList m
  halt zero h = record {
    events = opening n f sized false;
    halted = record {
      moment = opening-moment n f sized false range.high range.low range.small;
      own = opening-own n f sized false;
      stopped = λ k a b. absurd (omega arith);
      runs = λ k a b. opening-runs n f sized false k a b;
      blank = λ k a. opening-blank n f sized false k;
    };
  }
  halt (suc m) h = let l : HaltedList m = halt m (omega arith) in record { events = l.events ++ (Stop (suc m) ∷ []); halted = stop-next l.events l.halted }
    where
      stop-next : (es : List Event) → Halted m es → Halted (suc m) (es ++ (Stop (suc m) ∷ []))
      stop-next es t = record {
        moment = moment-next n f 1 range.high range.low range.small es t.moment (Stop (suc m)) accepted refl (unfold perform_v commit_v in refl);
        own = ap (λ (v : View). v.own) then ∙ (unfold perform_v commit_v in t.own);
        stopped = λ k lo hi. elim (ℕ_discrete k (suc m)) [
          | yes q ↦ subst (λ (x : ℕ). is_stopped ((view_at (es ++ (Stop (suc m) ∷ []))).ctl x).condition ≡ true) (sym q) now
          | no q ↦ subst (λ (c : Controller). is_stopped c.condition ≡ true) (sym (other k q)) (t.stopped k lo (omega arith))
        ];
        runs = λ k lo hi. subst (λ (c : Controller). runs c ≡ true) (sym (other k (λ q. omega arith))) (t.runs k (omega arith) hi);
        blank = λ k lo. subst Blank (sym (other k (λ q. omega arith))) (t.blank k (omega arith));
      }
        where
          accepted : accepts n f (view_at es) (Stop (suc m)) ≡ true
          accepted = unfold accepts first_no unless is_controller in rw (le-leb 1 (suc m) (omega arith), le-leb (suc m) n (omega arith), open_now es t.moment, t.runs (suc m) (omega arith) (omega arith))

          then : view_at (es ++ (Stop (suc m) ∷ [])) ≡ perform_v n f (view_at es) (Stop (suc m))
          then = performs n f 1 range.high range.low range.small es t.moment (Stop (suc m)) accepted

          now : is_stopped ((view_at (es ++ (Stop (suc m) ∷ []))).ctl (suc m)).condition ≡ true
          now = rw then (unfold perform_v commit_v becomes cleared in rw (upd_same (view_at es).ctl (suc m) _))

          other : (k : ℕ) → (k ≡ suc m → ⊥) → (view_at (es ++ (Stop (suc m) ∷ []))).ctl k ≡ (view_at es).ctl k
          other k d = rw then (unfold perform_v commit_v in upd_other (view_at es).ctl (suc m) _ k (ne_eqb k (suc m) d))

  -- a moment at which just the backups are stopped, and all others run
  record BackupsStopped (es : List Event) : Type 0 where
    moment : At es
    own : (view_at es).own ≡ false
    stopped : (k : ℕ) → 1 ≤ k → k ≤ f → is_stopped ((view_at es).ctl k).condition ≡ true
    runs : (k : ℕ) → f < k → k ≤ n → runs ((view_at es).ctl k) ≡ true

  module _ (es : List Event) (t : BackupsStopped es) where
    opened : 1 ≤ (after es).shared.order
    opened = let q : (after es).shared.order ≡ 1 = t.moment.is-order in omega arith

    down-f : count_to n (λ k. not (runs (controller (after es) k))) ≡ f
    unfolding view
    down-f = count-first n f (λ k. not (runs (controller (after es) k))) (let h : f < n = range.high in omega arith)
        (λ k lo hi. ap not (stopped-idle (controller (after es) k).condition (t.stopped k lo hi))) (λ k lo hi. ap not (t.runs k lo hi))

    few : Meets few-down es
    few = let q : (after es).shared.f ≡ f = t.moment.is_f in let e : count_to (after es).shared.n (λ k. not (runs (controller (after es) k))) ≡ f = ap (λ (m : ℕ). count_to m (λ k. not (runs (controller (after es) k)))) t.moment.is-n ∙ down-f in omega arith

    asked : (after es).shared.own ≡ false
    unfolding view
    asked = t.own

    abbrev on : Onward es
    on = onward es opened asked few

    abbrev end : List Event
    end = es ++ (onward es opened asked few).more

    same-lock : Runs (after es) (run (after es) on.more) (run_v n f (view_at es) on.more)
    same-lock = run_sim n f on.more (after es) t.moment.sound t.moment.is-n t.moment.is_f

    end-n : (after end).shared.n ≡ n
    end-n = ap (λ (b : Bench). b.shared.n) (run-append es on.more new_bench) ∙ same-lock.same-n ∙ t.moment.is-n

    end-f : (after end).shared.f ≡ f
    end-f = ap (λ (b : Bench). b.shared.f) (run-append es on.more new_bench) ∙ same-lock.same-f ∙ t.moment.is_f

    stopped-f : count_to n (λ k. is_stopped (controller (after es) k).condition) ≡ f
    unfolding view
    stopped-f = count-first n f (λ k. is_stopped (controller (after es) k).condition) (let h : f < n = range.high in omega arith)
        (λ k lo hi. t.stopped k lo hi) (λ k lo hi. running-up (controller (after es) k).condition (t.runs k lo hi))

    met-from : MetList n f
    met-from = record {
      events = end;
      lock-n = end-n;
      lock-f = end-f;
      stopped = ap (count_to n) (fun_ext (λ k. is_stopped (controller (after end) k).condition) (λ k. is_stopped (controller (after es) k).condition) on.stopped) ∙ stopped-f;
      meets = on.meets;
    }

    runs-at-end : (k : ℕ) → f < k → k ≤ n → RunsAt end k
    runs-at-end k lo hi = record { low = omega arith; high = let q : (after end).shared.n ≡ n = end-n in omega arith; running = on.running k ∙ (unfold view in t.runs k lo hi) }

  all-stopped : HaltedList f
  all-stopped = halt f range.high

  backups-stopped : BackupsStopped all-stopped.events
  backups-stopped = record { moment = all-stopped.halted.moment; own = all-stopped.halted.own; stopped = all-stopped.halted.stopped; runs = all-stopped.halted.runs }

  pub met : MetList n f
  met = met-from all-stopped.events backups-stopped

  -- waiting ---------------------------------------------------------------------------
  decides_not : (i : ℕ) (c : Controller) → c.acks.from ≡ 0 → decides n f i c ≡ false
  unfolding decides backups_complete
  decides_not i c z = refuted _ (λ e. no_both (has 0 1) (ap (λ (m : ℕ). has m 1) (sym z) ∙ first (and_l _ _ e)) (has-none 1))
    where
      first : all_to f (λ j. has_ack c j && complete n (ack_of c j)) ≡ true → has_ack c 1 ≡ true
      first e = and_l (has_ack c 1) (complete n (ack_of c 1)) (all-at f (λ j. has_ack c j && complete n (ack_of c j)) e 1 (omega arith) range.low)

  -- at its second timeout a controller that holds nothing waits, if its own answer is not enough
  second-waits : (i : ℕ) (c : Controller) → suc (suc f) ≤ n → c.acks.from ≡ 0 → c.acks.cnt.0 ≡ 0 → c.helped.cnt_help.0 ≡ 0 → (second_timeout n f i c).controller.help.waiting ≡ true
  unfolding second_timeout propose_if_sufficient sufficient calls_help keep_helped await frozen freeze advance
  second-waits i c h z x y = rw (decides_not i c z, x, y, lt-leb n (1 + f) (omega arith))

  -- and it has counted its own answer alone
  second-alone : (i j : ℕ) (c : Controller) → suc (suc f) ≤ n → c.acks.from ≡ 0 → c.acks.cnt.0 ≡ 0 → c.helped.cnt_help.0 ≡ 0 → c.helped.from ≡ 0 → (j ≡ i → ⊥) → has_helped (second_timeout n f i c).controller j ≡ false
  unfolding second_timeout propose_if_sufficient sufficient calls_help keep_helped await frozen freeze advance
  second-alone i j c h z x y e d = rw (decides_not i c z, x, y, lt-leb n (1 + f) (omega arith))
      (refuted _ (λ q. elim (insert_only c.helped.from i j q) [ inl p ↦ d p | inr p ↦ no_both (has 0 j) (ap (λ (m : ℕ). has m j) (sym e) ∙ p) (has-none j) ]))

  -- while it waits, an answer that comes is counted
  helped-counts : (j : ℕ) (s : VoteSet) (c : Controller) → 1 ≤ j → j ≤ width → c.help.waiting ≡ true → has_helped (helped_arrives n f j s c).controller j ≡ true
  helped-counts j s c lo hi w = helped_cases (λ (a : Answer). has_helped a.controller j ≡ true) n f j s c
      (λ p q. sufficient_cases (λ (a : Answer). has_helped a.controller j ≡ true) n f (becomes (keep_helped c j s)) (λ z. unfold proposing propose becomes keep_helped in insert-own c.helped.from j lo hi) (λ z. unfold becomes keep_helped in insert-own c.helped.from j lo hi))
      (λ q. unfold passing_over in counted (has_helped c j) c.help.waiting w q)

  -- the last controller votes and has its second timeout, right after the backups were stopped
  module _ (far : suc (suc f) ≤ n) where
    abbrev s₀ : List Event
    s₀ = all-stopped.events

    abbrev s₁ : List Event
    s₁ = all-stopped.events ++ (Cast n true 0 ∷ [])

    abbrev s₂ : List Event
    s₂ = (all-stopped.events ++ (Cast n true 0 ∷ [])) ++ (Timeout n ∷ [])

    abbrev m₀ : At s₀
    m₀ = all-stopped.halted.moment

    empty₀ : Blank ((view_at s₀).ctl n)
    empty₀ = all-stopped.halted.blank n range.high

    runs₀ : runs ((view_at s₀).ctl n) ≡ true
    runs₀ = all-stopped.halted.runs n range.high (omega arith)

    cast-accepted : accepts n f (view_at s₀) (Cast n true 0) ≡ true
    unfolding accepts first_no unless is_controller position_in_range
    cast-accepted = rw (le-leb 1 n (omega arith), le-leb n n (omega arith), open_now s₀ m₀, runs₀, empty₀.phase)

    later₁ : To s₀ s₁
    later₁ = later-one n f 1 range.high range.low range.small s₀ m₀ (Cast n true 0) refl cast-accepted runs₀

    record Voted (c : Controller) : Type 0 where
      from : c.acks.from ≡ 0
      cnt : c.acks.cnt.0 ≡ 0
      cnt-help : c.helped.cnt_help.0 ≡ 0
      at : phase c ≡ 2

    voted : Voted ((view_at s₁).ctl n)
    voted = rw (performs n f 1 range.high range.low range.small s₀ m₀ (Cast n true 0) cast-accepted) (unfold perform_v commit_v in rw (upd_same (view_at s₀).ctl n (vote_rule n f n true 0 ((view_at s₀).ctl n)).controller) ruled)
      where
        ruled : Voted (vote_rule n f n true 0 ((view_at s₀).ctl n)).controller
        ruled = unfold vote_rule advance aim learn in record { from = empty₀.acks-none; cnt = empty₀.cnt-none; cnt-help = empty₀.cnt-help-none; at = rw (lt-leb n (suc f) far) }

    runs₁ : runs ((view_at s₁).ctl n) ≡ true
    runs₁ = later₁.running n ∙ runs₀

    timeout-accepted : accepts n f (view_at s₁) (Timeout n) ≡ true
    unfolding accepts first_no unless is_controller
    timeout-accepted = rw (le-leb 1 n (omega arith), le-leb n n (omega arith), open_now s₁ later₁.moment, runs₁, voted.at)

    later₂ : To s₀ s₂
    later₂ = later_trans n f 1 range.high range.low range.small s₀ s₁ s₂ later₁ (later-one n f 1 range.high range.low range.small s₁ later₁.moment (Timeout n) refl timeout-accepted runs₁)

    waits : ((view_at s₂).ctl n).help.waiting ≡ true
    waits = rw (performs n f 1 range.high range.low range.small s₁ later₁.moment (Timeout n) timeout-accepted)
        (unfold perform_v commit_v timeout_rule in rw (voted.at, upd_same (view_at s₁).ctl n (second_timeout n f n ((view_at s₁).ctl n)).controller) (second-waits n ((view_at s₁).ctl n) far voted.from voted.cnt voted.cnt-help))

    alone : has_helped ((view_at s₂).ctl n) (suc f) ≡ false
    alone = rw (performs n f 1 range.high range.low range.small s₁ later₁.moment (Timeout n) timeout-accepted)
        (unfold perform_v commit_v timeout_rule in rw (voted.at, upd_same (view_at s₁).ctl n (second_timeout n f n ((view_at s₁).ctl n)).controller) (second-alone n (suc f) ((view_at s₁).ctl n) far voted.from voted.cnt voted.cnt-help
        ((later₁.moment.inv.owns n).helping.early (let p : phase ((view_at s₁).ctl n) ≡ 2 = voted.at in omega arith)) (λ q. omega arith)))

    -- its call comes to f + 1, which goes on to stage 3 and so answers it; and the answer comes
    abbrev call : Event
    call = Deliver n (suc f) Help

    abbrev s₃ : List Event
    s₃ = s₂ ++ (Deliver n (suc f) Help ∷ [])

    runs₂ : (k : ℕ) → f < k → k ≤ n → runs ((view_at s₂).ctl k) ≡ true
    runs₂ k lo hi = later₂.running k ∙ all-stopped.halted.runs k lo hi

    not-second : n ≡ suc f → ⊥
    not-second q = omega arith

    called : has (of_kind Help ((view_at s₂).state.sent n)).to (suc f) ≡ true
    called = ((later₂.moment.heard.listening n (omega arith) (omega arith) (runs₂ n (omega arith) (omega arith))).stands.waits waits).called (suc f) (omega arith) (omega arith) not-second

    call-accepted : accepts n f (view_at s₂) call ≡ true
    call-accepted = deliver-accepted n f 1 range.high range.low range.small (omega arith) s₂ later₂.moment Help n (suc f) called (runs₂ (suc f) (omega arith) (omega arith))

    later₃ : To s₂ s₃
    later₃ = later-one n f 1 range.high range.low range.small s₂ later₂.moment call refl call-accepted (runs₂ (suc f) (omega arith) (omega arith))

    came₃ : In call (log_at s₃)
    came₃ = subst (In call) (sym (logs n f 1 range.high range.low range.small s₂ later₂.moment call call-accepted refl)) (inl refl)

    raised : Brought n f 1 range.high range.low range.small (omega arith) s₃ (Raised n f 1 range.high range.low range.small (omega arith) (suc f) 3 s₃)
    raised = to-stage n f 1 range.high range.low range.small (omega arith) (suc f) (omega arith) (omega arith) 3 (omega arith) s₃ later₃.moment (later₃.running (suc f) ∙ runs₂ (suc f) (omega arith) (omega arith))

    abbrev s₄ : List Event
    s₄ = raised.to

    later₄ : To s₂ s₄
    later₄ = later_trans n f 1 range.high range.low range.small s₂ s₃ s₄ later₃ raised.later

    runs₄ : (k : ℕ) → f < k → k ≤ n → runs ((view_at s₄).ctl k) ≡ true
    runs₄ k lo hi = later₄.running k ∙ runs₂ k lo hi

    same₄ : (view_at s₄).ctl n ≡ (view_at s₂).ctl n
    same₄ = raised.holds.others n (ne_eqb n (suc f) not-second) ∙ unmoved n f 1 range.high range.low range.small (omega arith) s₂ later₂.moment call refl call-accepted n (ne_eqb n (suc f) not-second)

    waits₄ : ((view_at s₄).ctl n).help.waiting ≡ true
    waits₄ = ap (λ (c : Controller). c.help.waiting) same₄ ∙ waits

    unheard₄ : has_helped ((view_at s₄).ctl n) (suc f) ≡ false
    unheard₄ = ap (λ (c : Controller). has_helped c (suc f)) same₄ ∙ alone

    answered : has (of_kind Helped ((view_at s₄).state.sent (suc f))).to n ≡ true
    answered = (later₄.moment.inv.owns (suc f)).helping.answered raised.holds.stage n
        ∙ (later₄.moment.heard.listening (suc f) (omega arith) (omega arith) (runs₄ (suc f) (omega arith) (omega arith))).came.calls n (raised.later.log call came₃)

    abbrev answer : Event
    answer = Deliver (suc f) n Helped

    answer-accepted : accepts n f (view_at s₄) answer ≡ true
    answer-accepted = deliver-accepted n f 1 range.high range.low range.small (omega arith) s₄ later₄.moment Helped (suc f) n answered (runs₄ n (omega arith) (omega arith))

    abbrev s₅ : List Event
    s₅ = raised.to ++ (Deliver (suc f) n Helped ∷ [])

    later₅ : To s₄ s₅
    later₅ = later-one n f 1 range.high range.low range.small s₄ later₄.moment answer refl answer-accepted (runs₄ n (omega arith) (omega arith))

    heard₅ : has_helped ((view_at s₅).ctl n) (suc f) ≡ true
    heard₅ = rw (performs n f 1 range.high range.low range.small s₄ later₄.moment answer answer-accepted)
        (unfold perform_v commit_v arrives in rw (upd_same (view_at s₄).ctl n _) (helped-counts (suc f) _ ((view_at s₄).ctl n) (omega arith) (let h : n ≤ limit = range.small in omega arith) waits₄))

    stopped₅ : BackupsStopped s₅
    stopped₅ = record {
      moment = later₅.moment;
      own = later₅.own ∙ later₄.own ∙ later₂.own ∙ all-stopped.halted.own;
      stopped = λ k lo hi. later₅.stopped k ∙ later₄.stopped k ∙ later₂.stopped k ∙ all-stopped.halted.stopped k lo hi;
      runs = λ k lo hi. later₅.running k ∙ runs₄ k lo hi;
    }

    pub waited : WaitedList n f
    unfolding met-from
    waited = record {
      list = met-from s₅ stopped₅;
      who = n;
      other = suc f;
      different = λ q. not-second (sym q);
      answer = record {
        before = s₄;
        rest = (on s₅ stopped₅).more;
        parts = sym (append_assoc s₄ (answer ∷ []) (on s₅ stopped₅).more);
        taken = taken n f 1 range.high range.low range.small s₄ later₄.moment answer answer-accepted;
        same = unfold opens_any in subst (λ (b : Bench). opens_any b (on s₅ stopped₅).more ≡ false) (run-append s₄ (answer ∷ []) new_bench ∙ run-one answer (after s₄)) (on s₅ stopped₅).same;
      };
      waited = unfold view in waits₄;
      unheard = unfold view in unheard₄;
      heard = unfold view in heard₅;
      running = runs-at-end s₅ stopped₅ n range.high (omega arith);
      holds = hears (end s₅ stopped₅) (on s₅ stopped₅).meets n (runs-at-end s₅ stopped₅ n range.high (omega arith));
    }
