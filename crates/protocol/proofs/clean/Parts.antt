-- A clean order goes through three parts: before any timeout, before any second timeout, after it. Each event keeps what its part knows of the
-- controllers (Kept, Added); as a part ends all its messages are in, since the order is clean, and the next begins. In the last a second timeout decides
-- (Log).
use Prim.Native.Nat.{ℕ, suc, ◌≤◌, ◌<◌}
use mathlib.Core.Path.{◌≡◌, refl, sym, ◌∙◌, subst}
use mathlib.Core.Bool.{Bool, true, false, not, ◌&&◌, false≢true}
use mathlib.Core.List.{List, [], ◌∷◌}
use native.Mathlib.Omega.{arith}
use native.Mathlib.Decide.{dec_le, ℕ_discrete}
use lib.Dec.{leb, eqb}
use mathlib.Core.Logic.{◌⊎◌, inl, inr}
use borrow.Author.Tests.{leb-true, le-leb, eqb-true, ne_eqb}
use Rattle.ground.specs.Tests.{refuted, no_both, split, and_r, and_i, or_l, or_r, or-e, eqb_same, and_l}
use Rattle.ground.proofs.MaskLaws.{has-none}
use Rattle.ground.specs.Update.{upd_same}
use Rattle.votes.specs.VoteSets.{knows}
use Rattle.ground.specs.Limit.{limit}
use Rattle.model.specs.Routes.{vote_route, ack_route}
use Rattle.model.specs.Numbers.{word_of}
use Rattle.model.specs.declared.Kind.TheVariants.{Vote, Ack}
use Rattle.model.specs.declared.Event.{Event}
use Rattle.model.specs.declared.Event.TheVariants.{Lock, Order, Cast, Deliver, Timeout, Decide, Stop, Save, Restore, OfBallots}
use Rattle.protocol.specs.Controllers.{runs, phase, outcome, has_ack}
use Rattle.protocol.specs.Rules.{decides, second_timeout}
use Rattle.protocol.specs.Benches.{unsent_all}
use Rattle.protocol.specs.Questions.{first_no}
use Rattle.protocol.specs.Steps.{renewed, order_opened}
use Rattle.protocol.proofs.view.View.{View, new_order_state, opened_v, accepts, ask_l, ask_r}
use Rattle.protocol.proofs.view.Performed.{commit_v, timeout_rule, perform_v, step_v, run_v, perform-order}
use Rattle.protocol.proofs.invariant.Invariant.{voted_by, will_by, ack_on, acked_by, Grows, Inv}
use Rattle.protocol.proofs.invariant.Arrivals.{stage_bounds}
use Rattle.protocol.proofs.invariant.Decisions.{Blank, renew-blank}
use Rattle.protocol.proofs.invariant.Orders.{step-next, perform-next, next-inv, run-inv}
use Rattle.protocol.proofs.clean.Log.{NotTimeout, In, Voted, VotesIn, AcksIn, Second, CleanTimeout, Clean, entered, push_v, log_v, is-direct, decides-move, decides-stay}
use Rattle.protocol.proofs.clean.Kept.{PhaseMove, stays, times-out, voted, KeptAll, Goes, perform_tame}
use Rattle.protocol.proofs.clean.Added.{NewVote, NewVoteTo, NewAckTo, NewTimeout, New, perform-new}

module _ (n f : ℕ) where
  pub route-low : (i j : ℕ) → vote_route f i j ≡ true → j ≤ suc f
  unfolding vote_route
  route-low i j e = elim (or-e (leb j f) (leb i f && eqb j (suc f)) (and_r (not (eqb i j)) _ e)) [
    | inl q ↦ let h : j ≤ f = leb-true j f q in omega arith
    | inr q ↦ let h : j ≡ suc f = eqb-true j (suc f) (and_r (leb i f) _ q) in omega arith
  ]

  pub vote-route : (i j : ℕ) → (i ≡ j → ⊥) → j ≤ f → vote_route f i j ≡ true
  unfolding vote_route
  vote-route i j d h = rw (ne_eqb i j d) (or_l (leb j f) _ (le-leb j f h))

  pub vote_route₂ : (i : ℕ) → i ≤ f → vote_route f i (suc f) ≡ true
  unfolding vote_route
  vote_route₂ i h = rw (ne_eqb i (suc f) (λ e. omega arith)) (or_r (leb (suc f) f) _ (and_i (leb i f) (eqb (suc f) (suc f)) (le-leb i f h) (eqb_same (suc f))))

  pub ack-route : (i j : ℕ) → (i ≡ j → ⊥) → i ≤ f → ack_route f i j ≡ true
  unfolding ack_route
  ack-route i j d h = rw (ne_eqb i j d) (or_l (leb i f) _ (le-leb i f h))

  pub ack_route₂ : (j : ℕ) → j ≤ f → ack_route f (suc f) j ≡ true
  unfolding ack_route
  ack_route₂ j h = rw (ne_eqb (suc f) j (λ e. omega arith)) (or_r (leb (suc f) f) _ (and_i (eqb (suc f) (suc f)) (leb j f) (eqb_same (suc f)) (le-leb j f h)))

  -- before any timeout
  record BeforeTimeouts (b : View) (log : List Event) : Type 0 where
    low₁ : (j : ℕ) → runs (b.ctl j) ≡ true → j ≤ suc f → phase (b.ctl j) ≤ 1
    low₂ : (j : ℕ) → runs (b.ctl j) ≡ true → phase (b.ctl j) ≤ 2
    far : (j : ℕ) → runs (b.ctl j) ≡ true → suc f < j → 1 ≤ phase (b.ctl j) → 2 ≤ phase (b.ctl j)
    votes : (k : ℕ) (w : Bool) (t : ℕ) → In (Cast k w t) log → (runs (b.ctl k) ≡ true) × (1 ≤ phase (b.ctl k))
    heard : (i j : ℕ) → In (Deliver i j Vote) log → (runs (b.ctl j) ≡ true) × (knows (b.ctl j).votes i ≡ true)
    blank : (j : ℕ) → acked_by j (b.state.sent j) ≡ false
    no-acks : (i j : ℕ) → In (Deliver i j Ack) log → ⊥
    no-timeouts : (i : ℕ) → In (Timeout i) log → ⊥

  -- stages after an event
  phase-up : (e : Event) (j s s' m : ℕ) → PhaseMove n f e j s s' → 1 ≤ m → m ≤ s → m ≤ s'
  phase-up e j s s' m (stays p) a h = omega arith
  phase-up e j s s' m (times-out q p) a h = omega arith
  phase-up e j s s' m (voted w t q z p) a h = absurd (omega arith)

  A-phase : (e : Event) (j s s' : ℕ) → NotTimeout e → PhaseMove n f e j s s' → (s ≤ 2 → s' ≤ 2) × (j ≤ suc f → s ≤ 1 → s' ≤ 1) × (suc f < j → (1 ≤ s → 2 ≤ s) → 1 ≤ s' → 2 ≤ s')
  A-phase e j s s' nb (stays p) = (λ h. omega arith, λ h k. omega arith, λ h k l. let x : 2 ≤ s = k (omega arith) in omega arith)
  A-phase e j s s' nb (times-out q p) = absurd (subst NotTimeout q nb)
  A-phase e j s s' nb (voted w t q z p) = (
    λ h. omega (arith, stage_bounds (leb j (suc f))),
    λ h k. let p' : s' ≡ 1 = (rw (le-leb j (suc f) h) at p) in omega arith,
    λ h k l. let p' : s' ≡ 2 = (rw (refuted (leb j (suc f)) (λ x. let y : j ≤ suc f = leb-true j (suc f) x in omega arith)) at p) in omega arith,
  )

  A-step : (b b' : View) (e : Event) (log : List Event) → NotTimeout e → BeforeTimeouts b log → KeptAll n f e b b' → New n f e b b' → BeforeTimeouts b' (e ∷ log)
  A-step b b' e log nb a t nw = record {
    low₁ = λ j r h. let r₀ : runs (b.ctl j) ≡ true = back j r in (A-phase e j _ _ nb ((t j).phase r₀)).1 h (a.low₁ j r₀ h);
    low₂ = λ j r. let r₀ : runs (b.ctl j) ≡ true = back j r in (A-phase e j _ _ nb ((t j).phase r₀)).0 (a.low₂ j r₀);
    far = λ j r h. let r₀ : runs (b.ctl j) ≡ true = back j r in (A-phase e j _ _ nb ((t j).phase r₀)).2 h (a.far j r₀ h);
    votes = λ k w x i. elim i [
      | inl q ↦ let v : NewVote n f b b' k w = nw.vote k w _ (sym q) in ((t k).running ∙ v.ran, v.begun)
      | inr m ↦ let p : (runs (b.ctl k) ≡ true) × (1 ≤ phase (b.ctl k)) = a.votes k w x m in ((t k).running ∙ p.0, phase-up e k _ _ 1 ((t k).phase p.0) (omega arith) p.1)
    ];
    heard = λ i j x. elim x [
      | inl q ↦ let v : NewVoteTo n f b b' i j = nw.vote-to i j (sym q) in ((t j).running ∙ v.ran, v.known (a.low₁ j v.ran (route-low i j v.route)))
      | inr m ↦ let p : (runs (b.ctl j) ≡ true) × (knows (b.ctl j).votes i ≡ true) = a.heard i j m in ((t j).running ∙ p.0, (t j).votes p.0 i p.1)
    ];
    blank = λ j. refuted _ (λ h. elim ((t j).acked h) [ inl p ↦ no_both _ p.0 (a.blank j) | inr p ↦ subst NotTimeout p.0 nb ]);
    no-acks = λ i j x. elim x [
      | inl q ↦ let v : NewAckTo n f b b' i j = nw.ack-to i j (sym q) in no_both _ v.acked (a.blank i)
      | inr m ↦ a.no-acks i j m
    ];
    no-timeouts = λ i x. elim x [ inl q ↦ subst NotTimeout (sym q) nb | inr m ↦ a.no-timeouts i m ];
  }
    where
      back : (j : ℕ) → runs (b'.ctl j) ≡ true → runs (b.ctl j) ≡ true
      back j r = sym (t j).running ∙ r

  -- all votes are in
  record Base (b : View) (log : List Event) : Type 0 where
    runs : (k : ℕ) → 1 ≤ k → k ≤ n → runs (b.ctl k) ≡ true
    begun : (k : ℕ) → 1 ≤ k → k ≤ n → 1 ≤ phase (b.ctl k)
    far : (k : ℕ) → suc f < k → k ≤ n → 2 ≤ phase (b.ctl k)
    full : (j k : ℕ) → 1 ≤ j → j ≤ f → 1 ≤ k → k ≤ n → knows (b.ctl j).votes k ≡ true
    full₂ : (k : ℕ) → 1 ≤ k → k ≤ f → knows (b.ctl (suc f)).votes k ≡ true
    acks : (j k : ℕ) → 1 ≤ j → j ≤ f → 1 ≤ k → k ≤ n → acked_by j (b.state.sent j) ≡ true → knows (ack_on (b.state.sent j)) k ≡ true
    ack₂ : (k : ℕ) → 1 ≤ k → k ≤ f → acked_by (suc f) (b.state.sent (suc f)) ≡ true → knows (ack_on (b.state.sent (suc f))) k ≡ true
    timed-out : (j : ℕ) → 1 ≤ j → j ≤ suc f → 2 ≤ phase (b.ctl j) → In (Timeout j) log
    after-timeout : (j : ℕ) → 1 ≤ j → j ≤ n → In (Timeout j) log → 2 ≤ phase (b.ctl j)

  module _ (f<n : f < n) where
    base_step : (b b' : View) (e : Event) (log : List Event) → Base b log → KeptAll n f e b b' → New n f e b b' → Base b' (e ∷ log)
    base_step b b' e log a t nw = record {
      runs = λ k x y. (t k).running ∙ a.runs k x y;
      begun = λ k x y. phase-up e k _ _ 1 ((t k).phase (a.runs k x y)) (omega arith) (a.begun k x y);
      far = λ k x y. phase-up e k _ _ 2 ((t k).phase (a.runs k (omega arith) y)) (omega arith) (a.far k x y);
      full = λ j k x y u v. (t j).votes (a.runs j x (omega arith)) k (a.full j k x y u v);
      full₂ = λ k x y. (t (suc f)).votes (a.runs (suc f) (omega arith) f<n) k (a.full₂ k x y);
      acks = λ j k x y u v h. elim ((t j).acked h) [ inl p ↦ rw p.1 (a.acks j k x y u v p.0) | inr p ↦ rw p.1 (a.full j k x y u v) ];
      ack₂ = λ k x y h. elim ((t (suc f)).acked h) [ inl p ↦ rw p.1 (a.ack₂ k x y p.0) | inr p ↦ rw p.1 (a.full₂ k x y) ];
      timed-out = λ j x y h. timed-out_by j x y ((t j).phase (a.runs j x (omega arith))) h;
      after-timeout = λ j x y h. elim h [ inl q ↦ let v : NewTimeout n f b b' j = nw.timeout j (sym q) in v.after | inr m ↦ phase-up e j _ _ 2 ((t j).phase (a.runs j x y)) (omega arith) (a.after-timeout j x y m) ];
    }
      where
        timed-out_by : (j : ℕ) → 1 ≤ j → j ≤ suc f → PhaseMove n f e j (phase (b.ctl j)) (phase (b'.ctl j)) → 2 ≤ phase (b'.ctl j) → In (Timeout j) (e ∷ log)
        timed-out_by j x y (stays p) h = inr (a.timed-out j x y (omega arith))
        timed-out_by j x y (times-out q p) h = inl (sym q)
        timed-out_by j x y (voted w u q z p) h = let s : 1 ≤ phase (b.ctl j) = a.begun j x (omega arith) in absurd (omega arith)

    -- the first timeout comes: all votes are in
    base-new : (b : View) (log : List Event) → Inv n f b → BeforeTimeouts b log → VotesIn n f log → Base b log
    base-new b log inv a v = record {
      runs = λ k x y. (vote-of k x y).0;
      begun = λ k x y. (vote-of k x y).1;
      far = λ k x y. a.far k (vote-of k (omega arith) y).0 x (vote-of k (omega arith) y).1;
      full = λ j k x y u w. elim (ℕ_discrete k j) [
        | yes q ↦ rw q ((inv.owns j).phased.own (vote-of j x (omega arith)).1)
        | no q ↦ (a.heard k j (v.sent k j u w x (omega arith) (vote-route k j q y))).1
      ];
      full₂ = λ k x y. (a.heard k (suc f) (v.sent k (suc f) x (omega arith) (omega arith) f<n (vote_route₂ k y))).1;
      acks = λ j k x y u w h. absurd (no_both _ h (a.blank j));
      ack₂ = λ k x y h. absurd (no_both _ h (a.blank (suc f)));
      timed-out = λ j x y h. let l : phase (b.ctl j) ≤ 1 = a.low₁ j (vote-of j x (omega arith)).0 y in absurd (omega arith);
      after-timeout = λ j x y h. absurd (a.no-timeouts j h);
    }
      where
        vote-of : (k : ℕ) → 1 ≤ k → k ≤ n → (runs (b.ctl k) ≡ true) × (1 ≤ phase (b.ctl k))
        vote-of k x y = let p : Voted n f log k = v.votes k x y in a.votes k p.willing p.target p.entry

    -- before any second timeout
    record PhaseB (b : View) (log : List Event) : Type 0 where
      base : Base b log
      low : (j : ℕ) → 1 ≤ j → j ≤ n → phase (b.ctl j) ≤ 2
      held : (i j : ℕ) → In (Deliver i j Ack) log → 1 ≤ j → j ≤ n → has_ack (b.ctl j) i ≡ true

    -- after it
    record PhaseC (b : View) (log : List Event) : Type 0 where
      base : Base b log
      all : (i j : ℕ) → 1 ≤ i → i ≤ n → 1 ≤ j → j ≤ n → ack_route f i j ≡ true → has_ack (b.ctl j) i ≡ true

    A-to-B : (b : View) (log : List Event) → Inv n f b → BeforeTimeouts b log → VotesIn n f log → PhaseB b log
    A-to-B b log inv a v = let x : Base b log = base-new b log inv a v in record { base = x; low = λ j h k. a.low₂ j (x.runs j h k); held = λ i j m. absurd (a.no-acks i j m) }

    B-to-C : (b : View) (log : List Event) → PhaseB b log → AcksIn n f log → PhaseC b log
    B-to-C b log p v = record { base = p.base; all = λ i j x y u w r. p.held i j (v.sent i j x y u w r) u w }

    -- a timeout at phase 1, or no timeout
    B-step : (b b' : View) (e : Event) (log : List Event) → PhaseB b log → KeptAll n f e b b' → New n f e b b' → ((j : ℕ) → e ≡ Timeout j → phase (b.ctl j) ≡ 1) → PhaseB b' (e ∷ log)
    B-step b b' e log p t nw one = record {
      base = base_step b b' e log p.base t nw;
      low = λ j x y. up j x y ((t j).phase (p.base.runs j x y));
      held = λ i j m x y. elim m [
        | inl q ↦ let v : NewAckTo n f b b' i j = nw.ack-to i j (sym q) in v.held (p.low j x y)
        | inr k ↦ (t j).acks (p.base.runs j x y) i (p.held i j k x y)
      ];
    }
      where
        up : (j : ℕ) → 1 ≤ j → j ≤ n → PhaseMove n f e j (phase (b.ctl j)) (phase (b'.ctl j)) → phase (b'.ctl j) ≤ 2
        up j x y (stays q) = let h : phase (b.ctl j) ≤ 2 = p.low j x y in omega arith
        up j x y (times-out q s) = let h : phase (b.ctl j) ≡ 1 = one j q in omega arith
        up j x y (voted w u q z s) = let h : 1 ≤ phase (b.ctl j) = p.base.begun j x y in absurd (omega arith)

    C-step : (b b' : View) (e : Event) (log : List Event) → PhaseC b log → KeptAll n f e b b' → New n f e b b' → PhaseC b' (e ∷ log)
    C-step b b' e log p t nw = record {
      base = base_step b b' e log p.base t nw;
      all = λ i j x y u w r. (t j).acks (p.base.runs j u w) i (p.all i j x y u w r);
    }

    abbrev Tidy : View → List Event → Type 0
    Tidy b log = BeforeTimeouts b log ⊎ (PhaseB b log ⊎ PhaseC b log)

    -- the votes of the log are the votes sent
    abbrev Told : View → List Event → Type 0
    Told b log = (k : ℕ) (w : Bool) (t : ℕ) → In (Cast k w t) log → (voted_by k (b.state.sent k) ≡ true) × (will_by k (b.state.sent k) ≡ w)

    told-step : (b b' : View) (e : Event) (log : List Event) → Told b log → Grows b.state.sent b'.state.sent → New n f e b b' → Told b' (e ∷ log)
    told-step b b' e log h g nw k w t m = elim m [
      | inl q ↦ let v : NewVote n f b b' k w = nw.vote k w _ (sym q) in (v.cast, v.will)
      | inr x ↦ let p : (voted_by k (b.state.sent k) ≡ true) × (will_by k (b.state.sent k) ≡ w) = h k w t x in ((g k).voted p.0, (g k).will p.0 ∙ p.1)
    ]

    tidy_untimed : (b b' : View) (e : Event) (log : List Event) → NotTimeout e → KeptAll n f e b b' → New n f e b b' → Tidy b log → Tidy b' (e ∷ log)
    tidy_untimed b b' e log nb t nw (inl a) = inl (A-step b b' e log nb a t nw)
    tidy_untimed b b' e log nb t nw (inr (inl p)) = inr (inl (B-step b b' e log p t nw (λ j q. absurd (subst NotTimeout q nb))))
    tidy_untimed b b' e log nb t nw (inr (inr p)) = inr (inr (C-step b b' e log p t nw))

    -- past the first timeout
    abbrev Late : View → List Event → Type 0
    Late b log = PhaseB b log ⊎ PhaseC b log

    to-late : (b : View) (log : List Event) → Inv n f b → VotesIn n f log → Tidy b log → Late b log
    to-late b log inv v (inl a) = inl (A-to-B b log inv a v)
    to-late b log inv v (inr p) = p

    to_last : (b : View) (log : List Event) → AcksIn n f log → Late b log → PhaseC b log
    to_last b log v (inl p) = B-to-C b log p v
    to_last b log v (inr p) = p

    second-of : (b : View) (log : List Event) (i : ℕ) → Base b log → 1 ≤ i → phase (b.ctl i) ≡ 2 → Second n f i log
    second-of b log i a x s = elim (dec_le i (suc f)) [ yes h ↦ inr (a.timed-out i x h (omega arith)) | no h ↦ inl (omega arith) ]

    tidy-timeout : (b b' : View) (i : ℕ) (log : List Event) → Inv n f b → CleanTimeout n f i log → KeptAll n f (Timeout i) b b' → New n f (Timeout i) b b' → Tidy b log → Tidy b' (Timeout i ∷ log)
    tidy-timeout b b' i log inv c t nw y = go (to-late b log inv c.0 y)
      where
        same : (j : ℕ) → phase (b.ctl i) ≡ 1 → Timeout i ≡ Timeout j → phase (b.ctl j) ≡ 1
        same j s q = let z : i ≡ j = cc in rw z at s

        go : Late b log → Tidy b' (Timeout i ∷ log)
        go (inr p) = inr (inr (C-step b b' (Timeout i) log p t nw))
        go (inl p) = elim (nw.timeout i refl).at-phase [
          | inl s ↦ inr (inl (B-step b b' (Timeout i) log p t nw (λ j q. same j s q)))
          | inr s ↦ inr (inr (C-step b b' (Timeout i) log (B-to-C b log p (c.1 (second-of b log i p.base (nw.timeout i refl).at.lo s))) t nw))
        ]

    pub record Good (b : View) (log : List Event) : Type 0 where
      tidy : Tidy b log
      told : Told b log

    pub blank_good : (b : View) → ((k : ℕ) → Blank (b.ctl k)) → ((k : ℕ) → acked_by k (b.state.sent k) ≡ false) → Good b []
    blank_good b bl ln = record {
      told = λ k w t m. absurd m;
      tidy = inl (record {
        low₁ = λ j r h. let s : phase (b.ctl j) ≡ 0 = (bl j).phase in omega arith;
        low₂ = λ j r. let s : phase (b.ctl j) ≡ 0 = (bl j).phase in omega arith;
        far = λ j r h k. let s : phase (b.ctl j) ≡ 0 = (bl j).phase in omega arith;
        votes = λ k w t m. absurd m;
        heard = λ i j m. absurd m;
        blank = ln;
        no-acks = λ i j m. m;
        no-timeouts = λ i m. m;
      });
    }

    opened_good : (b : View) (o : ℕ) → Good (opened_v n f b o) []
    unfolding opened_v new_order_state unsent_all order_opened renewed
    opened_good b o = blank_good (opened_v n f b o) (λ k. renew-blank (b.ctl k)) (λ k. has-none k)

    module _ (1≤f : 1 ≤ f) (small : n ≤ limit) where
      perform_grows : (b : View) (e : Event) → Inv n f b → Goes n f e → accepts n f b e ≡ true → Grows b.state.sent (perform_v n f b e).state.sent
      perform_grows b e inv g q = elim (perform-next n f f<n 1≤f small b e inv q) [
        | inl s ↦ s.keeps.lines
        | inr s ↦ let h : b.order < (perform_v n f b e).order = s.order in let o : (perform_v n f b e).order ≡ b.order = perform-order n f b e (and_l _ _ g) in absurd (omega arith)
      ]

      untimed_good : (b : View) (e : Event) (log : List Event) → Inv n f b → Goes n f e → NotTimeout e → accepts n f b e ≡ true → Good b log → Good (perform_v n f b e) (e ∷ log)
      untimed_good b e log inv g nb q h = record {
        tidy = tidy_untimed b (perform_v n f b e) e log nb (perform_tame n f small b e g q) (perform-new n f small b e inv q) h.tidy;
        told = told-step b (perform_v n f b e) e log h.told (perform_grows b e inv g q) (perform-new n f small b e inv q);
      }

      timeout_good : (b : View) (i : ℕ) (log : List Event) → Inv n f b → CleanTimeout n f i log → accepts n f b (Timeout i) ≡ true → Good b log → Good (perform_v n f b (Timeout i)) (Timeout i ∷ log)
      timeout_good b i log inv c q h = record {
        tidy = tidy-timeout b (perform_v n f b (Timeout i)) i log inv c (perform_tame n f small b (Timeout i) refl q) (perform-new n f small b (Timeout i) inv q) h.tidy;
        told = told-step b (perform_v n f b (Timeout i)) (Timeout i) log h.told (perform_grows b (Timeout i) inv refl q) (perform-new n f small b (Timeout i) inv q);
      }

      perform_good : (b : View) (e : Event) (log : List Event) → Inv n f b → accepts n f b e ≡ true → (Clean n f log → Good b log) → Clean n f (entered e log) → Good (perform_v n f b e) (entered e log)
      unfolding entered
      perform_good b (Lock a x own) log inv q h c = unfold accepts first_no in absurd (false≢true (ask_l _ _ _ (ask_r _ _ _ q)))
      perform_good b (Order o) log inv q h c = unfold perform_v in opened_good b o
      perform_good b (Cast i w t) log inv q h c = untimed_good b _ log inv refl tt q (h c.0)
      perform_good b (Deliver i j k) log inv q h c = untimed_good b _ log inv refl tt q (h c.0)
      perform_good b (Timeout i) log inv q h c = timeout_good b i log inv (c.1.timeouts i refl) q (h c.0)
      perform_good b (Decide i w) log inv q h c = untimed_good b _ log inv refl tt q (h c.0)
      perform_good b (Stop i) log inv q h c = absurd (c.1.stops i refl)
      perform_good b (Save i) log inv q h c = untimed_good b _ log inv refl tt q (h c.0)
      perform_good b (OfBallots e) log inv q h c = untimed_good b _ log inv refl tt q (h c.0)
      perform_good b (Restore i) log inv q h c = untimed_good b _ log inv refl tt q (h c.0)

      pub step_good : (b : View) (e : Event) (log : List Event) → Inv n f b → (Clean n f log → Good b log) → Clean n f (push_v n f b e log) → Good (step_v n f b e) (push_v n f b e log)
      unfolding step_v push_v
      step_good b e log inv h = elim (split (accepts n f b e)) [ inl q ↦ rw q (perform_good b e log inv q h) | inr q ↦ rw q h ]

      run_good : (es : List Event) (b : View) (log : List Event) → Inv n f b → (Clean n f log → Good b log) → Clean n f (log_v n f b log es) → Good (run_v n f b es) (log_v n f b log es)
      unfolding run_v log_v
      run_good [] b log inv h = h
      run_good (e ∷ es) b log inv h = run_good es (step_v n f b e) (push_v n f b e log) (next-inv n f f<n 1≤f small b _ (step-next n f f<n 1≤f small b e inv)) (step_good b e log inv h)

      -- an accepted second timeout in a clean order
      module _ (b : View) (log : List Event) (i : ℕ) (inv : Inv n f b) (good : Good b log) (q : accepts n f b (Timeout i) ≡ true) (sec : Second n f i log) (cl : CleanTimeout n f i log) where
        nw : NewTimeout n f b (perform_v n f b (Timeout i)) i
        nw = (perform-new n f small b (Timeout i) inv q).timeout i refl

        last : PhaseC b log
        last = to_last b log (cl.1 sec) (to-late b log inv cl.0 good.tidy)

        at2 : phase (b.ctl i) ≡ 2
        at2 = elim nw.at-phase [
          | inr s ↦ s
          | inl s ↦ elim sec [
            | inl h ↦ let x : 2 ≤ phase (b.ctl i) = last.base.far i h nw.at.hi in absurd (omega arith)
            | inr m ↦ let x : 2 ≤ phase (b.ctl i) = last.base.after-timeout i nw.at.lo nw.at.hi m in absurd (omega arith)
          ]
        ]

        held : (j : ℕ) → 1 ≤ j → j ≤ f → has_ack (b.ctl i) j ≡ true
        held j x y = elim (ℕ_discrete j i) [
          | yes e ↦ rw e ((inv.owns i).counted.own-ack (omega (arith, at2)) (omega arith))
          | no e ↦ last.all j i x (omega arith) nw.at.lo nw.at.hi (ack-route j i e y)
        ]

        whole : (j : ℕ) → 1 ≤ j → j ≤ f → (k : ℕ) → 1 ≤ k → k ≤ n → knows (ack_on (b.state.sent j)) k ≡ true
        whole j x y k u v = last.base.acks j k x y u v ((inv.ctls i).acks_ok j (held j x y)).acked

        secondary : i ≤ f → (has_ack (b.ctl i) (suc f) ≡ true) × ((k : ℕ) → 1 ≤ k → k ≤ f → knows (ack_on (b.state.sent (suc f))) k ≡ true)
        secondary h = let a : has_ack (b.ctl i) (suc f) ≡ true = last.all (suc f) i (omega arith) f<n nw.at.lo nw.at.hi (ack_route₂ i h) in
            (a, λ k x y. last.base.ack₂ k x y ((inv.ctls i).acks_ok (suc f) a).acked)

        direct : decides n f i (b.ctl i) ≡ true
        direct = is-direct n f f<n 1≤f b inv i nw.ran at2 held whole secondary

        timeout-outcome : (v : Bool) → outcome (second_timeout n f i (b.ctl i)).controller ≡ word_of v → outcome ((perform_v n f b (Timeout i)).ctl i) ≡ word_of v
        unfolding perform_v commit_v timeout_rule
        timeout-outcome v e = rw (upd_same b.ctl i _, not_first) e
          where
            not_first : eqb (phase (b.ctl i)) 1 ≡ false
            not_first = ne_eqb (phase (b.ctl i)) 1 (λ z. omega (arith, at2))

        moves-all : ((k : ℕ) (w : Bool) (t : ℕ) → 1 ≤ k → k ≤ n → In (Cast k w t) log → w ≡ true) → outcome ((perform_v n f b (Timeout i)).ctl i) ≡ word_of true
        moves-all h = timeout-outcome true (decides-move n f f<n 1≤f b inv i nw.ran at2 held whole secondary (λ k x y.
            let v : Voted n f log k = cl.0.votes k x y in
            let p : (voted_by k (b.state.sent k) ≡ true) × (will_by k (b.state.sent k) ≡ v.willing) = good.told k v.willing v.target v.entry in
            (p.0, p.1 ∙ h k v.willing v.target x y v.entry)))

        stays-one : (k t : ℕ) → 1 ≤ k → k ≤ n → In (Cast k false t) log → outcome ((perform_v n f b (Timeout i)).ctl i) ≡ word_of false
        stays-one k t x y m = timeout-outcome false (decides-stay n f f<n 1≤f b inv i nw.ran at2 held whole secondary k x y (good.told k false t m).1)

      -- a timeout in phase 2 of a clean order: every vote and acknowledgement was delivered, and it decides
      pub record Final (b : View) (log : List Event) (i : ℕ) : Type 0 where
        pub votes : VotesIn n f log
        pub acks : AcksIn n f log
        pub direct : decides n f i (b.ctl i) ≡ true

      late-base : (b : View) (log : List Event) → Late b log → Base b log
      late-base b log (inl p) = p.base
      late-base b log (inr p) = p.base

      pub final : (b : View) (log : List Event) (i : ℕ) → Inv n f b → Good b log → accepts n f b (Timeout i) ≡ true → CleanTimeout n f i log → phase (b.ctl i) ≡ 2 → Final b log i
      final b log i inv good q cl p =
          let nw : NewTimeout n f b (perform_v n f b (Timeout i)) i = (perform-new n f small b (Timeout i) inv q).timeout i refl in
          let sec : Second n f i log = second-of b log i (late-base b log (to-late b log inv cl.0 good.tidy)) nw.at.lo p in
          record { votes = cl.0; acks = cl.1 sec; direct = direct b log i inv good q sec cl }

      -- right after a second timeout of a clean order its controller holds Move if all votes were willing, and Stay if one was not
      pub record Decides (b : View) (log : List Event) (i : ℕ) : Type 0 where
        pub move : ((k : ℕ) (w : Bool) (t : ℕ) → 1 ≤ k → k ≤ n → In (Cast k w t) log → w ≡ true) → outcome ((step_v n f b (Timeout i)).ctl i) ≡ word_of true
        pub stay : (k t : ℕ) → 1 ≤ k → k ≤ n → In (Cast k false t) log → outcome ((step_v n f b (Timeout i)).ctl i) ≡ word_of false

      pub clean-decides : (b₀ : View) → Inv n f b₀ → Good b₀ [] → (es : List Event) (i : ℕ) → accepts n f (run_v n f b₀ es) (Timeout i) ≡ true
          → Second n f i (log_v n f b₀ [] es) → Clean n f (Timeout i ∷ log_v n f b₀ [] es) → Decides (run_v n f b₀ es) (log_v n f b₀ [] es) i
      unfolding step_v
      clean-decides b₀ inv₀ good₀ es i q sec cl =
          let inv : Inv n f (run_v n f b₀ es) = run-inv n f f<n 1≤f small es b₀ inv₀ in
          let good : Good (run_v n f b₀ es) (log_v n f b₀ [] es) = run_good es b₀ [] inv₀ (λ c. good₀) cl.0 in
          record { move = λ h. rw q (moves-all _ _ i inv good q sec (cl.1.timeouts i refl) h); stay = λ k t x y m. rw q (stays-one _ _ i inv good q sec (cl.1.timeouts i refl) k t x y m) }
