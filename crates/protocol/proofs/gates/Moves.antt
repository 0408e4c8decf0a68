-- No Move without every willing vote accepted before; a gate moves at most once in an order. Of one event: a willing vote is new by that vote alone, an
-- outcome stays, and a gate moves only as its controller gets its outcome (Frames). Then along the list.
use Prim.Native.Nat.{ℕ, ◌≤◌, ◌<◌}
use mathlib.Core.Path.{◌≡◌, refl, sym, ◌∙◌, ap}
use mathlib.Core.Bool.{Bool, true, false≢true}
use mathlib.Core.List.{List, [], ◌∷◌, ◌++◌}
use native.Mathlib.Omega.{arith}
use lib.Dec.{eqb}
use mathlib.Core.Logic.{◌⊎◌, inl, inr}
use borrow.Author.Tests.{leb-true, eqb-true}
use Rattle.ground.specs.Tests.{no_both, split, by_cond, and_l, and_r}
use Rattle.ground.proofs.MaskLaws.{none_has}
use Rattle.ground.specs.Mask.{width}
use Rattle.votes.specs.VoteSets.{wills, single}
use Rattle.votes.proofs.VoteLaws.{single-wills}
use Rattle.ground.specs.Update.{upd, upd-all, upd_same, upd_other}
use Rattle.ground.specs.Limit.{limit}
use Rattle.model.specs.Ranges.{is_controller}
use Rattle.model.specs.Numbers.{word_of, is_none}
use Rattle.model.specs.declared.Event.{Event}
use Rattle.model.specs.declared.Event.TheVariants.{Lock, Order, Cast, Deliver, Timeout, Decide, Stop, Save, Restore, OfBallots}
use Rattle.protocol.specs.declared.Condition.TheVariants.{Stopped}
use Rattle.protocol.specs.declared.Controller.{Controller}
use Rattle.protocol.specs.declared.Answer.{Answer}
use Rattle.protocol.specs.declared.Sent.{Sent}
use Rattle.protocol.specs.Controllers.{runs, outcome, conclude}
use Rattle.protocol.specs.Rules.{becomes, vote_rule}
use Rattle.protocol.specs.Benches.{unsent_all, sent_after}
use Rattle.protocol.specs.Questions.{first_no}
use Rattle.protocol.specs.Steps.{renewed, order_opened}
use Rattle.protocol.proofs.view.View.{ballots_v, View, new_order_state, opened_v, accepts, ask_l, ask_r}
use Rattle.protocol.proofs.view.Performed.{identity_v, commit_v, chosen, saved_v, checkpoint_at, perform_v, step_v, run_v}
use Rattle.protocol.proofs.invariant.Invariant.{voted_by, will_by, Inv}
use Rattle.protocol.proofs.invariant.Decisions.{renew-keeps}
use Rattle.protocol.proofs.gates.Frames.{Taken, Moved, Framed, decide_framed, cleared_framed, restore_framed, restore-position, arrives_framed, timeout_framed, vote_framed}
use Rattle.protocol.proofs.invariant.Orders.{run-inv, run-order, step-next, next-inv, next-order, Next}

module _ (n f : ℕ) where
  abbrev pub Willing : View → ℕ → Type 0
  Willing b k = (voted_by k (b.state.sent k) ≡ true) × (will_by k (b.state.sent k) ≡ true)

  -- the event is that controller's willing vote, accepted
  pub record VoteOf (b : View) (e : Event) (k : ℕ) : Type 0 where
    pub target : ℕ
    pub is : e ≡ Cast k true target
    pub accepted : accepts n f b e ≡ true

  record StepFacts (b : View) (e : Event) (b' : View) : Type 0 where
    voted : (k : ℕ) → Willing b' k → (b'.order ≡ b.order) × (Willing b k ⊎ VoteOf b e k)
    taken : b'.order ≡ b.order → (k : ℕ) → Taken (b.ctl k) → Taken (b'.ctl k)
    moved : (k : ℕ) → ((b'.ctl k).gate.position ≡ (b.ctl k).gate.position) ⊎ Moved (b.ctl k) (b'.ctl k)

  commit-facts : (b : View) (e : Event) (i : ℕ) (a : Answer) → Framed (b.ctl i) (b.state.sent i) a → StepFacts b e (commit_v b i a)
  unfolding commit_v
  commit-facts b e i a t = record {
    voted = λ k w. (refl, inl ((same k).0 ∙ w.0, (same k).1 ∙ w.1));
    taken = λ o. upd-all (λ k c. Taken (b.ctl k) → Taken c) b.ctl i a.controller t.taken (λ k h. h);
    moved = upd-all (λ k (c : Controller). (c.gate.position ≡ (b.ctl k).gate.position) ⊎ Moved (b.ctl k) c) b.ctl i a.controller t.gate (λ k. inl refl);
  }
    where
      same : (k : ℕ) → (voted_by k (b.state.sent k) ≡ voted_by k (upd b.state.sent i (sent_after (b.state.sent i) a.sends) k)) × (will_by k (b.state.sent k) ≡ will_by k (upd b.state.sent i (sent_after (b.state.sent i) a.sends) k))
      same = upd-all (λ k (x : Sent). (voted_by k (b.state.sent k) ≡ voted_by k x) × (will_by k (b.state.sent k) ≡ will_by k x)) b.state.sent i (sent_after (b.state.sent i) a.sends) (rw t.vote (refl, refl)) (λ k. (refl, refl))

  vote-facts : (b : View) (i : ℕ) (w : Bool) (t : ℕ) → 1 ≤ i → i ≤ width → runs (b.ctl i) ≡ true → accepts n f b (Cast i w t) ≡ true → StepFacts b (Cast i w t) (commit_v b i (vote_rule n f i w t (b.ctl i)))
  unfolding commit_v vote_rule sent_after
  vote-facts b i w t lo hi r q = record {
    voted = λ k x. (
      refl,
      cast w q k (elim (split (eqb k i)) [
        | inl e ↦ inl (eqb-true k i e, willing w (sym (ap (λ (l : Sent). will_by i l) (upd_same b.state.sent i _)) ∙ (rw (eqb-true k i e) at x).1))
        | inr e ↦ inr (rw (upd_other b.state.sent i _ k e) at x)
      ]),
    );
    taken = λ o. upd-all (λ k c. Taken (b.ctl k) → Taken c) b.ctl i _ (vote_framed n f i w t (b.ctl i) r).taken (λ k h. h);
    moved = upd-all (λ k (c : Controller). (c.gate.position ≡ (b.ctl k).gate.position) ⊎ Moved (b.ctl k) c) b.ctl i _ (inl (vote_framed n f i w t (b.ctl i) r).gate) (λ k. inl refl);
  }
    where
      willing : (w : Bool) → wills (single i w) i ≡ true → w ≡ true
      willing w e = and_l w (eqb i i) (sym (single-wills i w i lo hi) ∙ e)

      cast : (w : Bool) → accepts n f b (Cast i w t) ≡ true → (k : ℕ) → ((k ≡ i) × (w ≡ true)) ⊎ Willing b k → Willing b k ⊎ VoteOf b (Cast i w t) k
      cast w q k (inl p) = inr (record { target = t; is = rw (p.0, p.1); accepted = q })
      cast w q k (inr p) = inl p

  order-facts : (b : View) (o : ℕ) → b.order < o → StepFacts b (Order o) (opened_v n f b o)
  unfolding opened_v new_order_state order_opened renewed unsent_all
  order-facts b o h = record { voted = λ k x. none_has k x.0; taken = λ e. absurd (omega arith); moved = λ k. inl (renew-keeps (b.ctl k)).position }

  save-facts : (b : View) (i : ℕ) → StepFacts b (Save i) (saved_v b i (checkpoint_at n f b i))
  unfolding saved_v
  save-facts b i = record { voted = λ k x. (refl, inl x); taken = λ e k h. h; moved = λ k. inl refl }

  decide-facts : (b : View) (i : ℕ) (w : Bool) → StepFacts b (Decide i w) (commit_v (chosen b w) i (becomes (conclude (b.ctl i) (word_of w))))
  unfolding chosen
  decide-facts b i w =
      let t : StepFacts (chosen b w) (Decide i w) (commit_v (chosen b w) i (becomes (conclude (b.ctl i) (word_of w)))) = commit-facts (chosen b w) (Decide i w) i _ (decide_framed w (b.ctl i) (b.state.sent i)) in
      record { voted = λ k x. ((t.voted k x).0, elim (t.voted k x).1 [ inl p ↦ inl p | inr v ↦ no-vote k v.target v.is ]); taken = t.taken; moved = t.moved }
    where
      no-vote : (k t : ℕ) → Decide i w ≡ Cast k true t → Willing b k ⊎ VoteOf b (Decide i w) k
      no-vote k t e = let z : ◌≡◌ {A = ℕ} 0 1 = cc in absurd (omega arith)

  later : (b : View) (o : ℕ) → accepts n f b (Order o) ≡ true → b.order < o
  unfolding accepts first_no
  later b o q = leb-true _ _ (search (ask_l, ask_r, and_l, and_r) depth 14)

  record Voting (b : View) (i : ℕ) : Type 0 where
    lo : 1 ≤ i
    hi : i ≤ n
    runs : runs (b.ctl i) ≡ true

  vote-ran : (b : View) (i : ℕ) (w : Bool) (t : ℕ) → accepts n f b (Cast i w t) ≡ true → Voting b i
  unfolding accepts first_no is_controller
  vote-ran b i w t q = record { lo = leb-true _ _ (search (ask_l, ask_r, and_l, and_r) depth 14); hi = leb-true _ _ (search (ask_l, ask_r, and_l, and_r) depth 14); runs = (search (ask_l, ask_r, and_l, and_r) depth 14) }

  timeout-ran : (b : View) (i : ℕ) → accepts n f b (Timeout i) ≡ true → runs (b.ctl i) ≡ true
  unfolding accepts first_no
  timeout-ran b i q = (search (ask_l, ask_r, and_l, and_r) depth 14)

  perform-facts : n ≤ limit → (b : View) (e : Event) → accepts n f b e ≡ true → StepFacts b e (perform_v n f b e)
  unfolding perform_v
  perform-facts s b (Lock a c own) q = unfold accepts first_no in absurd (false≢true (ask_l _ _ _ (ask_r _ _ _ q)))
  perform-facts s b (Order o) q = order-facts b o (later b o q)
  perform-facts s b (Cast i w t) q = let r : Voting b i = vote-ran b i w t q in vote-facts b i w t r.lo (let h : i ≤ n = r.hi in omega arith) r.runs q
  perform-facts s b (Deliver i j k) q = commit-facts b _ j _ (arrives_framed n f k i _ (b.ctl j) (b.state.sent j))
  perform-facts s b (Timeout i) q = commit-facts b _ i _ (timeout_framed n f i (b.ctl i) (b.state.sent i) (timeout-ran b i q))
  perform-facts s b (Decide i w) q = decide-facts b i w
  perform-facts s b (Stop i) q = commit-facts b _ i _ (cleared_framed Stopped (b.ctl i) (b.state.sent i) refl)
  perform-facts s b (Save i) q = save-facts b i
  perform-facts s b (OfBallots e) q = unfold ballots_v in record { voted = λ k x. (refl, inl x); taken = λ o k h. h; moved = λ k. inl refl }
  perform-facts s b (Restore i) q = commit-facts b _ i _ (restore_framed (identity_v n f b i) (b.saved i) (b.ctl i) (b.state.sent i))

  step-facts : n ≤ limit → (b : View) (e : Event) → StepFacts b e (step_v n f b e)
  unfolding step_v
  step-facts s b e = by_cond (StepFacts b e) (accepts n f b e) (perform_v n f b e) b (perform-facts s b e) (λ q. record { voted = λ k x. (refl, inl x); taken = λ o k h. h; moved = λ k. inl refl })

  -- controller k's willing vote was accepted, in the order that is open at the end
  pub record VotedBefore (b : View) (es : List Event) (k : ℕ) : Type 0 where
    pub before : List Event
    pub after : List Event
    pub target : ℕ
    pub parts : es ≡ before ++ (Cast k true target ∷ after)
    pub accepted : accepts n f (run_v n f b before) (Cast k true target) ≡ true
    pub same-order : (run_v n f b before).order ≡ (run_v n f b es).order

  -- a restore moves no gate
  pub restore-still : (b : View) (i k : ℕ) → ((step_v n f b (Restore i)).ctl k).gate.position ≡ (b.ctl k).gate.position
  unfolding step_v perform_v commit_v
  restore-still b i k = by_cond (λ (v : View). (v.ctl k).gate.position ≡ (b.ctl k).gate.position) (accepts n f b (Restore i)) _ b
      (λ q. upd-all (λ k (c : Controller). c.gate.position ≡ (b.ctl k).gate.position) b.ctl i _ (restore-position (identity_v n f b i) (b.saved i) (b.ctl i)).position (λ k. refl) k) (λ q. refl)

  module _ (f<n : f < n) (1≤f : 1 ≤ f) (small : n ≤ limit) where
    pub voted-run : (es : List Event) (b : View) (k : ℕ) → Willing (run_v n f b es) k → (((run_v n f b es).order ≡ b.order) × Willing b k) ⊎ VotedBefore b es k
    unfolding run_v
    voted-run [] b k w = inl (refl, w)
    voted-run (e ∷ es) b k w = elim (voted-run es (step_v n f b e) k w) [
      | inr v ↦ inr (record { before = e ∷ v.before; after = v.after; target = v.target; parts = ap (λ (l : List Event). e ∷ l) v.parts; accepted = v.accepted; same-order = v.same-order })
      | inl p ↦ let t : ((step_v n f b e).order ≡ b.order) × (Willing b k ⊎ VoteOf b e k) = (step-facts small b e).voted k p.1 in elim t.1 [
        | inl x ↦ inl (p.0 ∙ t.0, x)
        | inr x ↦ inr (record { before = []; after = es; target = x.target; parts = ap (λ (z : Event). z ∷ es) x.is; accepted = rw x.is at x.accepted; same-order = sym (p.0 ∙ t.0) })
      ]
    ]

    taken-run : (es : List Event) (b : View) → Inv n f b → (run_v n f b es).order ≡ b.order → (k : ℕ) → Taken (b.ctl k) → Taken ((run_v n f b es).ctl k)
    unfolding run_v
    taken-run [] b inv o k h = h
    taken-run (e ∷ es) b inv o k h =
        let x : Next n f f<n 1≤f small b (step_v n f b e) = step-next n f f<n 1≤f small b e inv in
        let i₁ : Inv n f (step_v n f b e) = next-inv n f f<n 1≤f small b _ x in
        let p : b.order ≤ (step_v n f b e).order = next-order n f f<n 1≤f small b _ x in
        let q : (step_v n f b e).order ≤ (run_v n f (step_v n f b e) es).order = run-order n f f<n 1≤f small es (step_v n f b e) i₁ in
        taken-run es (step_v n f b e) i₁ (omega arith) k ((step-facts small b e).taken (omega arith) k h)

    -- after a gate has moved, it does not move again in that order
    pub two-moves : (b₀ : View) → Inv n f b₀ → (e₁ : Event) (es : List Event) (e₂ : Event) (k : ℕ)
        → (step_v n f (run_v n f (step_v n f b₀ e₁) es) e₂).order ≡ (step_v n f b₀ e₁).order
        → (((step_v n f b₀ e₁).ctl k).gate.position ≡ (b₀.ctl k).gate.position → ⊥)
        → (((step_v n f (run_v n f (step_v n f b₀ e₁) es) e₂).ctl k).gate.position ≡ ((run_v n f (step_v n f b₀ e₁) es).ctl k).gate.position → ⊥) → ⊥
    two-moves b₀ inv e₁ es e₂ k o m₁ m₂ =
        let b₁ : View = step_v n f b₀ e₁ in
        let b₂ : View = run_v n f b₁ es in
        let i₁ : Inv n f b₁ = next-inv n f f<n 1≤f small b₀ b₁ (step-next n f f<n 1≤f small b₀ e₁ inv) in
        let i₂ : Inv n f b₂ = run-inv n f f<n 1≤f small es b₁ i₁ in
        let o₂ : b₁.order ≤ b₂.order = run-order n f f<n 1≤f small es b₁ i₁ in
        let o₃ : b₂.order ≤ (step_v n f b₂ e₂).order = next-order n f f<n 1≤f small b₂ (step_v n f b₂ e₂) (step-next n f f<n 1≤f small b₂ e₂ i₂) in
        elim ((step-facts small b₀ e₁).moved k) [
          | inl s ↦ m₁ s
          | inr y ↦ elim ((step-facts small b₂ e₂).moved k) [
            | inl s ↦ m₂ s
            | inr z ↦ no_both (is_none (outcome (b₂.ctl k))) z.free (taken-run es b₁ i₁ (omega arith) k y.taken z.ran)
          ]
        ]
