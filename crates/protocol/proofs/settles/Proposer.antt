-- Controller 1 votes and has both its timeouts before anything else happens, so it holds its own acknowledgement alone and puts a word; then all others
-- come to stage 3 (hearing/Onward).
use Prim.Native.Nat.{ℕ, zero, suc, ◌≤◌, ◌<◌}
use mathlib.Core.Path.{◌≡◌, refl, sym, ◌∙◌, ap, subst}
use mathlib.Core.Bool.{true, cond, not, ◌&&◌}
use mathlib.Core.List.{List, [], ◌∷◌, ◌++◌}
use mathlib.Core.Logic.{inl, inr}
use native.Mathlib.Omega.{arith}
use native.Mathlib.Decide.{ℕ_discrete}
use lib.Dec.{ltb}
use borrow.Author.Tests.{le-leb, ne_eqb}
use Rattle.ground.specs.Limit.{limit}
use Rattle.ground.specs.Tests.{no_both, by_cond, and_i, and_l, and_r, or-second}
use Rattle.ground.specs.Mask.{has, insert}
use Rattle.ground.proofs.MaskLaws.{has-none, none_has, insert_only}
use Rattle.ground.specs.Update.{upd_same}
use Rattle.votes.specs.Joining.{unanimous_in}
use Rattle.model.specs.Ranges.{sizes_in_range, is_backup}
use Rattle.model.specs.declared.Outcome.TheVariants.{None}
use Rattle.model.specs.declared.Event.{Event}
use Rattle.model.specs.declared.Event.TheVariants.{Cast, Timeout}
use Rattle.protocol.specs.declared.Controller.{Controller}
use Rattle.protocol.specs.declared.Answer.{Answer}
use Rattle.protocol.specs.Controllers.{runs, phase, outcome, has_ack, ack_of, advance, learn, aim, keep_ack, freeze, propose}
use Rattle.votes.specs.VoteSets.{complete}
use Rattle.protocol.specs.Rules.{proposing, verdict, vote_rule, count_own, first_timeout, ack_join, backups_complete, second_knows, decides, frozen, ready, second_timeout}
use Rattle.protocol.specs.Ballots.{new_ballots}
use Rattle.protocol.proofs.view.View.{accepts}
use Rattle.protocol.proofs.view.Performed.{commit_v, timeout_rule, perform_v}
use Rattle.protocol.proofs.view.RuleCases.{second_cases}
use Rattle.protocol.proofs.invariant.Words.{some_word}
use Rattle.protocol.proofs.invariant.Decisions.{Blank}
use Rattle.protocol.proofs.paxos.Invariant.{IsPut}
use Rattle.protocol.proofs.hearing.Later.{view_at, Moment, performs, Later, later-one}
use Rattle.protocol.proofs.hearing.Opening.{opening, opening-moment, opening-own, opening-runs, opening-blank, opening-ballots}
use Rattle.protocol.proofs.hearing.Onward.{Brought, Raised, timeout-taken, cast-accepted, to-stage}

-- it votes; it counts its own acknowledgement alone; it puts a word
record Voted (c : Controller) : Type 0 where
  from : c.acks.from ≡ 0
  cnt : c.acks.cnt.0 ≡ 0
  undecided : outcome c ≡ None
  at : phase c ≡ 1

record Acked (c : Controller) : Type 0 where
  from : c.acks.from ≡ insert 0 1
  cnt : c.acks.cnt.0 ≡ 1
  undecided : outcome c ≡ None
  at : phase c ≡ 2

pub record Proposed (c : Controller) : Type 0 where
  pub put : IsPut c.proposal
  pub undecided : outcome c ≡ None
  pub at : phase c ≡ 3

module _ (n f : ℕ) (1≤f : 1 ≤ f) where
  vote_leaves : (c : Controller) → Blank c → Voted (vote_rule n f 1 true 0 c).controller
  unfolding vote_rule advance aim learn
  vote_leaves c b = record { from = b.acks-none; cnt = b.cnt-none; undecided = b.outcome; at = rw (le-leb 1 (suc f) (omega arith)) }

  first_leaves : (c : Controller) → Voted c → Acked (first_timeout n f 1 c).controller
  unfolding first_timeout advance count_own keep_ack
  first_leaves c v = by_cond (λ (x : Controller). Acked (advance x 2)) (is_backup f 1 && not (has_ack c 1)) (keep_ack c 1 c.votes) c
      (λ _. record { from = ap (λ (m : ℕ). insert m 1) v.from; cnt = ap (λ (k : ℕ). cond (ltb k 255) (suc k) k) v.cnt; undecided = v.undecided; at = refl })
      (λ e. absurd (no_both _ (and_i (is_backup f 1) (not (has_ack c 1)) (le-leb 1 f 1≤f) (ap (λ (m : ℕ). not (has m 1)) v.from ∙ ap not (has-none 1))) e))

  -- the acknowledgement of f + 1 is not there
  not-alone : (c : Controller) → Acked c → decides n f 1 c ≡ true → ⊥
  unfolding decides second_knows
  not-alone c v e = elim (insert_only 0 1 (suc f) (ap (λ (m : ℕ). has m (suc f)) (sym v.from) ∙ and_l (has_ack c (suc f)) (complete f (ack_of c (suc f)))
      (or-second (not (is_backup f 1)) _ (ap not (le-leb 1 f 1≤f)) (and_r (backups_complete n f c) _ e)))) [
        | inl q ↦ omega arith
        | inr q ↦ none_has (suc f) q
      ]

  second_leaves : (c : Controller) → Acked c → Proposed (second_timeout n f 1 c).controller
  second_leaves c v = second_cases (λ (a : Answer). Proposed a.controller) n f 1 c
      (λ d. absurd (not-alone c v d))
      (λ e. unfold proposing propose ready frozen freeze advance in record { put = unfold verdict in some_word (unanimous_in n (ack_join n c)); undecided = v.undecided; at = refl })
      (λ e. absurd (no_both _ (ap (ltb 0) v.cnt) e))

module _ (n f : ℕ) (sized : sizes_in_range n f ≡ true) (f<n : f < n) (1≤f : 1 ≤ f) (small : n ≤ limit) where
  abbrev pub At : List Event → Type 0
  At es = Moment n f 1 f<n 1≤f small es

  abbrev pub To : List Event → List Event → Type 0
  To es es' = Later n f 1 f<n 1≤f small es es'

  -- 1 to m are at stage 3, 1 has put a word, and no ballot was opened
  pub record Staged (m : ℕ) (es : List Event) : Type 0 where
    pub moment : At es
    pub own : (view_at es).own ≡ true
    pub running : (k : ℕ) → 1 ≤ k → k ≤ n → runs ((view_at es).ctl k) ≡ true
    pub stage : (k : ℕ) → 1 ≤ k → k ≤ m → 3 ≤ phase ((view_at es).ctl k)
    pub proposer : Proposed ((view_at es).ctl 1)
    pub ballots : (view_at es).ballots ≡ new_ballots

  pub record StagedList (m : ℕ) : Type 0 where
    pub events : List Event
    pub staged : Staged m events

  abbrev s₀ : List Event
  s₀ = opening n f sized true

  abbrev s₁ : List Event
  s₁ = opening n f sized true ++ (Cast 1 true 0 ∷ [])

  abbrev s₂ : List Event
  s₂ = (opening n f sized true ++ (Cast 1 true 0 ∷ [])) ++ (Timeout 1 ∷ [])

  abbrev s₃ : List Event
  s₃ = ((opening n f sized true ++ (Cast 1 true 0 ∷ [])) ++ (Timeout 1 ∷ [])) ++ (Timeout 1 ∷ [])

  m₀ : At s₀
  m₀ = opening-moment n f sized true f<n 1≤f small

  runs₀ : runs ((view_at s₀).ctl 1) ≡ true
  runs₀ = opening-runs n f sized true 1 (omega arith) (omega arith)

  q₁ : accepts n f (view_at s₀) (Cast 1 true 0) ≡ true
  q₁ = cast-accepted n f 1 f<n 1≤f small (omega arith) 1 (omega arith) (omega arith) s₀ m₀ runs₀ (opening-blank n f sized true 1).phase

  later₁ : To s₀ s₁
  later₁ = later-one n f 1 f<n 1≤f small s₀ m₀ (Cast 1 true 0) refl q₁ runs₀

  voted : Voted ((view_at s₁).ctl 1)
  voted = rw (performs n f 1 f<n 1≤f small s₀ m₀ (Cast 1 true 0) q₁)
      (unfold perform_v commit_v in rw (upd_same (view_at s₀).ctl 1 (vote_rule n f 1 true 0 ((view_at s₀).ctl 1)).controller) (vote_leaves n f 1≤f ((view_at s₀).ctl 1) (opening-blank n f sized true 1)))

  q₂ : accepts n f (view_at s₁) (Timeout 1) ≡ true
  q₂ = timeout-taken n f 1 f<n 1≤f small (omega arith) 1 (omega arith) (omega arith) s₁ later₁.moment (later₁.running 1 ∙ runs₀) (rw voted.at)

  later₂ : To s₁ s₂
  later₂ = later-one n f 1 f<n 1≤f small s₁ later₁.moment (Timeout 1) refl q₂ (later₁.running 1 ∙ runs₀)

  acked : Acked ((view_at s₂).ctl 1)
  acked = rw (performs n f 1 f<n 1≤f small s₁ later₁.moment (Timeout 1) q₂)
      (unfold perform_v commit_v timeout_rule in rw (voted.at, upd_same (view_at s₁).ctl 1 (first_timeout n f 1 ((view_at s₁).ctl 1)).controller) (first_leaves n f 1≤f ((view_at s₁).ctl 1) voted))

  runs₂ : runs ((view_at s₂).ctl 1) ≡ true
  runs₂ = later₂.running 1 ∙ later₁.running 1 ∙ runs₀

  q₃ : accepts n f (view_at s₂) (Timeout 1) ≡ true
  q₃ = timeout-taken n f 1 f<n 1≤f small (omega arith) 1 (omega arith) (omega arith) s₂ later₂.moment runs₂ (rw acked.at)

  later₃ : To s₂ s₃
  later₃ = later-one n f 1 f<n 1≤f small s₂ later₂.moment (Timeout 1) refl q₃ runs₂

  proposed : Proposed ((view_at s₃).ctl 1)
  proposed = rw (performs n f 1 f<n 1≤f small s₂ later₂.moment (Timeout 1) q₃)
      (unfold perform_v commit_v timeout_rule in rw (acked.at, upd_same (view_at s₂).ctl 1 (second_timeout n f 1 ((view_at s₂).ctl 1)).controller) (second_leaves n f 1≤f ((view_at s₂).ctl 1) acked))

  unopened : (view_at s₃).ballots ≡ new_ballots
  unopened = rw (performs n f 1 f<n 1≤f small s₂ later₂.moment (Timeout 1) q₃) (unfold perform_v commit_v in
      rw (performs n f 1 f<n 1≤f small s₁ later₁.moment (Timeout 1) q₂) (unfold perform_v commit_v in
      rw (performs n f 1 f<n 1≤f small s₀ m₀ (Cast 1 true 0) q₁) (unfold perform_v commit_v in opening-ballots n f sized true)))

  first : Staged 1 s₃
  first = record {
    moment = later₃.moment;
    own = later₃.own ∙ later₂.own ∙ later₁.own ∙ opening-own n f sized true;
    running = λ k lo hi. later₃.running k ∙ later₂.running k ∙ later₁.running k ∙ opening-runs n f sized true k lo hi;
    stage = λ k lo hi. subst (λ (x : ℕ). 3 ≤ phase ((view_at s₃).ctl x)) (let q : 1 ≡ k = omega arith in q) (let e : phase ((view_at s₃).ctl 1) ≡ 3 = proposed.at in omega arith);
    proposer = proposed;
    ballots = unopened;
  }

  -- the next one comes to stage 3
  next : (m : ℕ) → 1 ≤ m → suc m ≤ n → (es : List Event) → Staged m es → StagedList (suc m)
  next m lo hi es t =
      let b : Brought n f 1 f<n 1≤f small (omega arith) es (Raised n f 1 f<n 1≤f small (omega arith) (suc m) 3 es) = to-stage n f 1 f<n 1≤f small (omega arith) (suc m) (omega arith) hi 3 (omega arith) es t.moment (t.running (suc m) (omega arith) hi) in
      record {
        events = b.to;
        staged = record {
          moment = b.later.moment;
          own = b.later.own ∙ t.own;
          running = λ k l h. b.later.running k ∙ t.running k l h;
          stage = λ k l h. elim (ℕ_discrete k (suc m)) [
            | yes q ↦ subst (λ (x : ℕ). 3 ≤ phase ((view_at b.to).ctl x)) (sym q) b.holds.stage
            | no q ↦ subst (λ (c : Controller). 3 ≤ phase c) (sym (b.holds.others k (ne_eqb k (suc m) q))) (t.stage k l (omega arith))
          ];
          proposer = subst Proposed (sym (b.holds.others 1 (ne_eqb 1 (suc m) (λ q. omega arith)))) t.proposer;
          ballots = b.holds.ballots ∙ t.ballots;
        };
      }

  pub all-staged : (m : ℕ) → 1 ≤ m → m ≤ n → StagedList m
  all-staged zero lo hi = absurd (omega arith)
  all-staged (suc zero) lo hi = record { events = s₃; staged = first }
  all-staged (suc (suc m)) lo hi = let l : StagedList (suc m) = all-staged (suc m) (omega arith) (omega arith) in next (suc m) (omega arith) hi l.events l.staged
