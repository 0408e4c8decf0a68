-- Every accepted event goes on with the order and keeps its grounds, or opens a later one: each rule's answer fits (Arrivals, SecondTimeout, Decisions)
-- and is put back (Commit). So two outcomes of one order are equal (Exclusion).
use Prim.Native.Nat.{ℕ, ◌≤◌, ◌<◌}
use mathlib.Core.Path.{◌≡◌, refl, sym, ◌∙◌}
use mathlib.Core.Bool.{Bool, true, false, ◌||◌, cond, false≢true}
use mathlib.Core.List.{List, [], ◌∷◌}
use native.Mathlib.Omega.{arith}
use lib.Dec.{eqb}
use mathlib.Core.Logic.{◌⊎◌, inl, inr}
use borrow.Author.Tests.{leb-true, eqb-true}
use Rattle.ground.specs.Tests.{split, and_l, and_r, or-second}
use Rattle.ground.specs.Limit.{limit}
use Rattle.model.specs.Ranges.{is_controller}
use Rattle.model.specs.Routes.{route, help_route}
use Rattle.model.specs.Numbers.{word_of}
use Rattle.model.specs.declared.Kind.TheVariants.{Vote, Ack, Help, Helped}
use Rattle.model.specs.declared.Event.{Event}
use Rattle.model.specs.declared.Event.TheVariants.{Lock, Order, Cast, Deliver, Timeout, Decide, Stop, Save, Restore, OfBallots}
use Rattle.protocol.specs.declared.Answer.{Answer}
use Rattle.protocol.specs.declared.Ballots.{Ballots}
use Rattle.protocol.specs.declared.Condition.{Condition}
use Rattle.protocol.specs.declared.Condition.TheVariants.{Running, Stopped, Standby}
use Rattle.protocol.specs.Controllers.{is_running, is_standby, runs, does_stand_by, phase, outcome, conclude}
use Rattle.protocol.specs.Rules.{becomes}
use Rattle.protocol.specs.Calls.{arrives}
use Rattle.protocol.specs.Benches.{sent_after}
use Rattle.protocol.specs.Questions.{first_no, no_other_word, was_proposed}
use Rattle.protocol.specs.Steps.{order_opened}
use Rattle.protocol.proofs.view.RuleCases.{timeout_cases}
use Rattle.protocol.proofs.view.View.{View, ballots_v, opened_v, accepts, ask_l, ask_r}
use Rattle.protocol.proofs.view.Performed.{chosen, commit_v, saved_v, checkpoint_at, perform_v, step_v, run_v}
use Rattle.protocol.proofs.invariant.Words.{given_is}
use Rattle.protocol.proofs.invariant.Invariant.{Grows, OutcomeGrounds, Inv}
use Rattle.protocol.proofs.invariant.Growth.{out_mono}
use Rattle.protocol.proofs.invariant.Exclusion.{agree}
use Rattle.protocol.proofs.invariant.Commit.{Fits, commit-inv, grown-refl, grows-upd}
use Rattle.protocol.proofs.invariant.SecondTimeout.{second_fits}
use Rattle.protocol.proofs.invariant.Arrivals.{stop_fits, restore_fits, vote_in_fits, ack_in_fits, helped_in_fits, help_in_fits, vote_fits, first_fits}
use Rattle.protocol.proofs.invariant.Decisions.{chosen-inv, decide_fits, saved-inv, opened-inv, ballots-inv}

-- one that runs does not stand by
pub not_both : (k : Condition) → is_running k ≡ true → is_standby k ≡ false
not_both (Running p) e = refl
not_both Stopped e = refl
not_both (Standby o) e = absurd (false≢true e)

proposed-is : (n f : ℕ) (b : View) (w : Bool) → was_proposed b.state.consensus w ≡ cond w b.state.consensus.move_proposed b.state.consensus.stay_proposed
proposed-is n f b true = refl
proposed-is n f b false = refl

module _ (n f : ℕ) (f<n : f < n) (1≤f : 1 ≤ f) (small : n ≤ limit) where
  -- what an event keeps within its order
  pub record Keeps (b b' : View) : Type 0 where
    pub inv : Inv n f b'
    pub lines : Grows b.state.sent b'.state.sent
    pub decision : (v : Bool) → b.state.consensus.decision ≡ word_of v → b'.state.consensus.decision ≡ word_of v

  -- an event goes on with the order, or opens a later one
  pub record Same (b b' : View) : Type 0 where
    pub order : b'.order ≡ b.order
    pub keeps : Keeps b b'

  pub record Later (b b' : View) : Type 0 where
    pub order : b.order < b'.order
    pub inv : Inv n f b'

  abbrev pub Next : View → View → Type 0
  Next b b' = Same b b' ⊎ Later b b'

  commit-next : (b : View) (i : ℕ) (a : Answer) → Inv n f b → Fits n f b i a → Next b (commit_v b i a)
  unfolding commit_v
  commit-next b i a inv t = inl (record { order = refl; keeps = record { inv = commit-inv n f b i a inv t; lines = grows-upd b.state.sent i (sent_after (b.state.sent i) a.sends) t.grown; decision = λ v e. e } })

  decide-next : (b : View) (i : ℕ) (w : Bool) → Inv n f b → (runs (b.ctl i) ≡ true → 3 ≤ phase (b.ctl i)) → cond w b.state.consensus.move_proposed b.state.consensus.stay_proposed ≡ true → no_other_word b.state.consensus.decision w ≡ true
      → Next b (commit_v (chosen b w) i (becomes (conclude (b.ctl i) (word_of w))))
  unfolding chosen commit_v
  decide-next b i w inv late p q =
      let b₁ : View = chosen b w in
      let inv₁ : Inv n f b₁ = chosen-inv n f b w inv p q in
      let t : Fits n f b₁ i (becomes (conclude (b.ctl i) (word_of w))) = decide_fits n f b₁ i w inv₁ late p refl in
      inl (record { order = refl; keeps = record { inv = commit-inv n f b₁ i _ inv₁ t; lines = grows-upd b.state.sent i _ t.grown; decision = λ v e. given_is b.state.consensus.decision w v q e } })

  saved-next : (b : View) (i : ℕ) → Inv n f b → Next b (saved_v b i (checkpoint_at n f b i))
  unfolding saved_v
  saved-next b i inv = inl (record { order = refl; keeps = record { inv = saved-inv n f b i (checkpoint_at n f b i) refl refl inv; lines = λ k. grown-refl k (b.state.sent k); decision = λ v e. e } })

  ballot-next : (b : View) (s : Ballots) → Inv n f b → Next b (ballots_v b s)
  unfolding ballots_v
  ballot-next b s inv = inl (record { order = refl; keeps = record { inv = unfold ballots_v in ballots-inv n f b s inv; lines = λ k. grown-refl k (b.state.sent k); decision = λ v e. e } })

  opened-next : (b : View) (o : ℕ) → b.order < o → Inv n f b → Next b (opened_v n f b o)
  unfolding opened_v order_opened
  opened-next b o h inv = inr (record { order = h; inv = opened-inv n f b o h inv })

  -- a running controller takes the arbiter's word at stage 3
  at-three : (b : View) (i : ℕ) → (does_stand_by (b.ctl i) || eqb (phase (b.ctl i)) 3) ≡ true → runs (b.ctl i) ≡ true → 3 ≤ phase (b.ctl i)
  at-three b i e r = let h : phase (b.ctl i) ≡ 3 = eqb-true _ _ (or-second (does_stand_by (b.ctl i)) _ (not_both (b.ctl i).condition r) e) in omega arith

  pub perform-next : (b : View) (e : Event) → Inv n f b → accepts n f b e ≡ true → Next b (perform_v n f b e)
  unfolding accepts first_no perform_v is_controller route help_route arrives
  perform-next b (Lock a c own) inv q = absurd (false≢true (ask_l _ _ _ (ask_r _ _ _ q)))
  perform-next b (Order o) inv q = opened-next b o (leb-true _ _ (search (ask_l, ask_r, and_l, and_r) depth 14)) inv
  perform-next b (Cast i w t) inv q = commit-next b i _ inv (vote_fits n f small b inv i w t (leb-true _ _ (search (ask_l, ask_r, and_l, and_r) depth 14)) (leb-true _ _ (search (ask_l, ask_r, and_l, and_r) depth 14)) (search (ask_l, ask_r, and_l, and_r) depth 14) (eqb-true _ _ (search (ask_l, ask_r, and_l, and_r) depth 14)))
  perform-next b (Deliver i j Vote) inv q = commit-next b j _ inv (vote_in_fits n f small b inv j i)
  perform-next b (Deliver i j Ack) inv q = commit-next b j _ inv (ack_in_fits n f small b inv j f<n (leb-true _ _ (search (ask_l, ask_r, and_l, and_r) depth 14)) (leb-true _ _ (search (ask_l, ask_r, and_l, and_r) depth 14)) i (leb-true _ _ (search (ask_l, ask_r, and_l, and_r) depth 14)) (leb-true _ _ (search (ask_l, ask_r, and_l, and_r) depth 14)) (search (ask_l, ask_r, and_l, and_r) depth 14))
  perform-next b (Deliver i j Help) inv q = commit-next b j _ inv (help_in_fits n f small b inv j i (leb-true _ _ (search (ask_l, ask_r, and_l, and_r) depth 14)) (leb-true _ _ (search (ask_l, ask_r, and_l, and_r) depth 14)) (search (ask_l, ask_r, and_l, and_r) depth 14))
  perform-next b (Deliver i j Helped) inv q = commit-next b j _ inv (helped_in_fits n f small b inv j f<n i (leb-true _ _ (search (ask_l, ask_r, and_l, and_r) depth 14)) (leb-true _ _ (search (ask_l, ask_r, and_l, and_r) depth 14)) (leb-true _ _ (search (ask_l, ask_r, and_l, and_r) depth 14)) (search (ask_l, ask_r, and_l, and_r) depth 14))
  perform-next b (Timeout i) inv q = commit-next b i _ inv (timeout_cases (Fits n f b i) n f i (b.ctl i)
      (λ st. first_fits n f small b inv i (leb-true _ _ (search (ask_l, ask_r, and_l, and_r) depth 14)) (leb-true _ _ (search (ask_l, ask_r, and_l, and_r) depth 14)) (search (ask_l, ask_r, and_l, and_r) depth 14) st)
      (λ e. second_fits n f f<n 1≤f small b inv i (leb-true _ _ (search (ask_l, ask_r, and_l, and_r) depth 14)) (leb-true _ _ (search (ask_l, ask_r, and_l, and_r) depth 14)) (search (ask_l, ask_r, and_l, and_r) depth 14) (eqb-true _ _ (or-second (eqb (phase (b.ctl i)) 1) _ e (search (ask_l, ask_r, and_l, and_r) depth 14)))))
  perform-next b (Decide i w) inv q = decide-next b i w inv (at-three b i (search (ask_l, ask_r, and_l, and_r) depth 14)) (sym (proposed-is n f b w) ∙ (search (ask_l, ask_r, and_l, and_r) depth 14)) (search (ask_l, ask_r, and_l, and_r) depth 14)
  perform-next b (Stop i) inv q = commit-next b i _ inv (stop_fits n f small b inv i)
  perform-next b (Save i) inv q = saved-next b i inv
  perform-next b (OfBallots e) inv q = ballot-next b _ inv
  perform-next b (Restore i) inv q = commit-next b i _ inv (restore_fits n f small b inv i)

  pub step-next : (b : View) (e : Event) → Inv n f b → Next b (step_v n f b e)
  unfolding step_v
  step-next b e inv = elim (split (accepts n f b e)) [
    | inl q ↦ rw q (perform-next b e inv q)
    | inr q ↦ rw q (inl (record { order = refl; keeps = record { inv = inv; lines = λ k. grown-refl k (b.state.sent k); decision = λ v e. e } }))
  ]

  pub next-inv : (b b' : View) → Next b b' → Inv n f b'
  next-inv b b' (inl s) = s.keeps.inv
  next-inv b b' (inr s) = s.inv

  pub next-order : (b b' : View) → Next b b' → b.order ≤ b'.order
  next-order b b' (inl s) = let q : b'.order ≡ b.order = s.order in omega arith
  next-order b b' (inr s) = let q : b.order < b'.order = s.order in omega arith

  pub run-inv : (es : List Event) (b : View) → Inv n f b → Inv n f (run_v n f b es)
  unfolding run_v
  run-inv [] b inv = inv
  run-inv (e ∷ es) b inv = run-inv es (step_v n f b e) (next-inv b _ (step-next b e inv))

  pub run-order : (es : List Event) (b : View) → Inv n f b → b.order ≤ (run_v n f b es).order
  unfolding run_v
  run-order [] b inv = omega arith
  run-order (e ∷ es) b inv =
      let x : Next b (step_v n f b e) = step-next b e inv in
      let p : b.order ≤ (step_v n f b e).order = next-order b _ x in
      let q : (step_v n f b e).order ≤ (run_v n f (step_v n f b e) es).order = run-order es (step_v n f b e) (next-inv b _ x) in
      omega arith

  -- the grounds of an outcome last as long as the order
  run_out : (es : List Event) (b : View) → Inv n f b → (run_v n f b es).order ≡ b.order → (v : Bool) → OutcomeGrounds n f b.state.sent b.state.consensus.decision v
      → OutcomeGrounds n f (run_v n f b es).state.sent (run_v n f b es).state.consensus.decision v
  unfolding run_v
  run_out [] b inv o v g = g
  run_out (e ∷ es) b inv o v g = elim (step-next b e inv) [
    | inl s ↦ let k : Keeps b (step_v n f b e) = s.keeps in let so : (step_v n f b e).order ≡ b.order = s.order in
        run_out es (step_v n f b e) k.inv (o ∙ sym so) v (out_mono b.state.sent (step_v n f b e).state.sent k.lines b.state.consensus.decision (step_v n f b e).state.consensus.decision k.decision n f v g)
    | inr s ↦ let so : b.order < (step_v n f b e).order = s.order in
        let q : (step_v n f b e).order ≤ (run_v n f (step_v n f b e) es).order = run-order es (step_v n f b e) s.inv in absurd (omega arith)
  ]

  -- AGREEMENT, for any two moments of one order
  pub agreement : (b : View) → Inv n f b → (es : List Event) (i j : ℕ) (x y : Bool) → (run_v n f b es).order ≡ b.order
      → outcome (b.ctl i) ≡ word_of x → outcome ((run_v n f b es).ctl j) ≡ word_of y → x ≡ y
  agreement b inv es i j x y o p q =
      let inv₂ : Inv n f (run_v n f b es) = run-inv es b inv in
      agree n f f<n (run_v n f b es) inv₂ x y (run_out es b inv o x ((inv.ctls i).outcome_ok x p)) ((inv₂.ctls j).outcome_ok y q)
