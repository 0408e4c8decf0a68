-- `BallotsAgree`: at every moment the ballots keep their invariant (paxos/Order), by which two words chosen are equal; and within an order a ballot's word and its
-- takers stay, so that what is chosen at one moment is chosen at every later one.
use Prim.Native.Nat.{ℕ, ◌≤◌, ◌<◌, ◌*◌}
use mathlib.Core.Path.{◌≡◌, refl, sym, ◌∙◌, ap, subst}
use mathlib.Core.Bool.{Bool, true, false, cond, ◌&&◌}
use mathlib.Core.List.{List, [], ◌∷◌, ◌++◌}
use mathlib.Core.Logic.{inl, inr}
use native.Mathlib.Omega.{arith}
use borrow.Author.Tests.{ltb-true}
use Rattle.ground.specs.Limit.{limit}
use Rattle.ground.specs.Tests.{split, no_both, and_l, and_r, or_no_l, or_no_r}
use Rattle.ground.specs.Quantify.{count_to}
use Rattle.model.specs.RangeLaws.{ranges}
use Rattle.model.specs.declared.Event.{Event}
use Rattle.model.specs.declared.Event.TheVariants.{Order, Decide}
use Rattle.protocol.specs.declared.Bench.{Bench}
use Rattle.protocol.specs.Benches.{new_bench, bench_of}
use Rattle.protocol.specs.Ballots.{majority, row, is_chosen}
use Rattle.protocol.specs.Questions.{first_no, is_accepted, was_proposed, no_other_word, reply}
use Rattle.protocol.specs.Steps.{step, run}
use Rattle.protocol.specs.Claim.{after, opens_order, opens_any}
use Rattle.protocol.specs.BallotClaim.{Chosen, BallotsAgree}
use Rattle.protocol.proofs.view.View.{View, ballots_v, accepts, ask_l, ask_r}
use Rattle.protocol.proofs.view.Performed.{commit_v, chosen, saved_v, perform_v, by-effect}
use Rattle.protocol.proofs.view.Simulation.{view, Sound, reply_sim, step_steps, step-performs}
use Rattle.protocol.proofs.paxos.Growth.{Grown, grown-refl}
use Rattle.protocol.proofs.paxos.Order.{Balloted, chosen_found, chosen_on, put_first, one, ballots-grown}
use Rattle.protocol.proofs.paxos.Order as O
use Rattle.protocol.proofs.lists.Moments.{accepted-is, run-append, refused-step}
use Rattle.protocol.proofs.lists.Start.{new_refuses}
use Rattle.protocol.proofs.lists.Reach.{Reached, step-reached, reached}

-- the statement's "chosen" and the proof's
inside : (b : Bench) (x : Bool) → Chosen b x → O.Chosen b.shared.n b.ballots x
inside b x c = record { at = c.ballot; word = c.word; taken = c.taken }

outside : (b : Bench) (x : Bool) → O.Chosen b.shared.n b.ballots x → Chosen b x
outside b x c = record { ballot = c.at; word = c.word; taken = c.taken }

-- an accepted event that opens no order leaves each ballot's word and its takers
abbrev AllGrown : View → View → Type 0
AllGrown v w = (c : ℕ) → Grown (row v.ballots c) (row w.ballots c)

perform-grown : (n f : ℕ) → n ≤ limit → (v : View) (e : Event) → Balloted n v → accepts n f v e ≡ true → ((o : ℕ) → e ≡ Order o → ⊥) → AllGrown v (perform_v n f v e)
unfolding commit_v
perform-grown n f small v e ok q z = by-effect n f v (λ e w. accepts n f v e ≡ true → ((o : ℕ) → e ≡ Order o → ⊥) → AllGrown v w) (λ a c own q z. same) (λ o q z. absurd (z o refl)) (λ e c q z. same)
    (λ i w q z. unfold chosen in same) (λ i q z. unfold saved_v in same) (λ e q z. unfold ballots_v perform_v in ballots-grown n f small v e ok q) e q z
  where
    same : (c : ℕ) → Grown (row v.ballots c) (row v.ballots c)
    same c = grown-refl (row v.ballots c)

module _ (b : Bench) (a : Sound b) where
  small : b.shared.n ≤ limit
  small = (ranges b.shared.n b.shared.f a.sized).small

  step-grown : (e : Event) → is_accepted (reply b e) ≡ true → ((o : ℕ) → e ≡ Order o → ⊥) → AllGrown (view b) (view (step b e))
  step-grown e q z = subst (AllGrown (view b)) (sym (step-performs b a e q))
      (perform-grown b.shared.n b.shared.f small (view b) e a.balloted (sym (reply_sim b a e) ∙ q) z)

  -- what is chosen stays so
  chosen-step : (e : Event) (x : Bool) → is_accepted (reply b e) ≡ true → ((o : ℕ) → e ≡ Order o → ⊥) → Chosen b x → Chosen (step b e) x
  chosen-step e x q z c = outside (step b e) x (subst (λ (n : ℕ). O.Chosen n (step b e).ballots x) (sym (step_steps b a e).same-n)
      (chosen_on b.shared.n b.ballots (step b e).ballots x (unfold view in step-grown e q z) (inside b x c)))

-- on a new bench nothing is
nothing-new : {X : Type 0} (x : Bool) → Chosen new_bench x → X
unfolding bench_of majority count_to
nothing-new x c = let z : 0 < 2 * 0 = ltb-true 0 (2 * 0) c.taken in absurd (omega arith)

not-opening : (b : Bench) (e : Event) → is_accepted (reply b e) ≡ true → opens_order b e ≡ false → ((o : ℕ) → e ≡ Order o → ⊥)
not-opening b e q z o y = no_both (is_accepted (reply b (Order o))) (rw y at q) (rw y at z)

step_stays : (b : Bench) (e : Event) (x : Bool) → Reached b → opens_order b e ≡ false → Chosen b x → Chosen (step b e) x
step_stays b e x (inl z) o c = nothing-new x (subst (λ (y : Bench). Chosen y x) z c)
step_stays b e x (inr a) o c = elim (split (is_accepted (reply b e))) [
  | inl q ↦ chosen-step b a e x q (not-opening b e q o) c
  | inr q ↦ subst (λ (y : Bench). Chosen y x) (sym (refused-step b e q)) c
]

run-stays : (more : List Event) (b : Bench) (x : Bool) → Reached b → opens_any b more ≡ false → Chosen b x → Chosen (run b more) x
unfolding run opens_any
run-stays [] b x r o c = c
run-stays (e ∷ more) b x r o c = run-stays more (step b e) x (step-reached b e r) (or_no_r (opens_order b e) _ o) (step_stays b e x r (or_no_l (opens_order b e) _ o) c)

stay-chosen : (es more : List Event) (x : Bool) → opens_any (after es) more ≡ false → Chosen (after es) x → Chosen (after (es ++ more)) x
stay-chosen es more x o c = subst (λ (y : Bench). Chosen y x) (sym (run-append es more new_bench)) (run-stays more (after es) x (reached es) o c)

-- two at one moment are equal
same_word_lem : (b : Bench) (x y : Bool) → Reached b → Chosen b x → Chosen b y → x ≡ y
same_word_lem b x y (inl z) c d = nothing-new x (subst (λ (y : Bench). Chosen y x) z c)
same_word_lem b x y (inr a) c d = one b.shared.n (view b) a.balloted x y (unfold view in inside b x c) (unfold view in inside b y d)

put_word : (b : Bench) (x : Bool) → Reached b → Chosen b x → was_proposed b.shared.consensus x ≡ true
put_word b x (inl z) c = nothing-new x (subst (λ (y : Bench). Chosen y x) z c)
put_word b x (inr a) c = unfold view in put_first b.shared.n (view b) a.balloted x (unfold view in inside b x c)

-- the arbiter's word, behind its questions
module _ (b : Bench) (i : ℕ) (x : Bool) where
  asked_18 : Sound b → is_accepted (reply b (Decide i x)) ≡ true → (was_proposed b.shared.consensus x && no_other_word b.shared.consensus.decision x && cond b.shared.own (is_chosen b.shared.n b.ballots x) true) ≡ true
  unfolding accepts first_no view
  asked_18 a q = let p : accepts b.shared.n b.shared.f (view b) (Decide i x) ≡ true = sym (reply_sim b a (Decide i x)) ∙ q in search (ask_l, ask_r) depth 14

  abbrev put : Bool
  put = was_proposed b.shared.consensus x

  abbrev alone : Bool
  alone = no_other_word b.shared.consensus.decision x

  abbrev settled : Bool
  settled = cond b.shared.own (is_chosen b.shared.n b.ballots x) true

  no_arbiter : {X : Type 0} → b ≡ new_bench → is_accepted (reply b (Decide i x)) ≡ true → X
  no_arbiter z q = absurd (new_refuses (Decide i x) refl (ap (λ (y : Bench). is_accepted (reply y (Decide i x))) (sym z) ∙ q))

  chosen-given : Reached b → b.shared.own ≡ true → is_accepted (reply b (Decide i x)) ≡ true → Chosen b x
  chosen-given (inl z) own q = no_arbiter z q
  chosen-given (inr a) own q = outside b x (chosen_found b.shared.n b.ballots x (let h : settled ≡ true = and_r (put && alone) settled (asked_18 a q) in rw own at h))

  put-given : Reached b → is_accepted (reply b (Decide i x)) ≡ true → was_proposed b.shared.consensus x ≡ true
  put-given (inl z) q = no_arbiter z q
  put-given (inr a) q = and_l put alone (and_l (put && alone) settled (asked_18 a q))

  none_other : Reached b → is_accepted (reply b (Decide i x)) ≡ true → no_other_word b.shared.consensus.decision x ≡ true
  none_other (inl z) q = no_arbiter z q
  none_other (inr a) q = and_r put alone (and_l (put && alone) settled (asked_18 a q))

pub ballots_agree : BallotsAgree
ballots_agree = record {
  one_word = λ es more x y o c d. same_word_lem (after (es ++ more)) x y (reached (es ++ more)) (stay-chosen es more x o c) d;
  stays = stay-chosen;
  was-put = λ es x c. put_word (after es) x (reached es) c;
  given-is-chosen = λ es i x own q. chosen-given (after es) i x (reached es) own (accepted-is _ q);
  given-was-put = λ es i x q. put-given (after es) i x (reached es) (accepted-is _ q);
  no-other-given = λ es i x q. none_other (after es) i x (reached es) (accepted-is _ q);
}
