-- Exactly 2fn. In a clean order an outcome comes after every vote and every acknowledgement was delivered (clean/WithoutHelp), and what was delivered was sent: so at least fn
-- of each kind. The two kinds together are at most 2fn in any order (demand 3). So the figures are exact.
use Prim.Native.Nat.{ℕ, zero, suc, ◌+◌, ◌*◌, ◌≤◌, ◌<◌}
use mathlib.Core.Path.{◌≡◌, refl, sym, ◌∙◌, ap, subst, subst₂}
use mathlib.Core.Bool.{Bool, true, false}
use mathlib.Core.List.{List, []}
use native.Mathlib.Omega.{arith}
use native.Mathlib.Decide.{dec_le, ℕ_discrete}
use native.Mathlib.Nat.{mul_comm, suc-mul}
use mathlib.Core.Logic.{inl, inr}
use borrow.Author.Tests.{ne_eqb}
use Rattle.ground.specs.Tests.{split}
use Rattle.ground.specs.Quantify.{count_to}
use Rattle.ground.specs.Mask.{has}
use Rattle.ground.specs.Update.{upd, upd_same, upd_other}
use Rattle.ground.proofs.Sizes.{count-new, none-count}
use Rattle.model.specs.Routes.{vote_route, ack_route}
use Rattle.model.specs.declared.Kind.TheVariants.{Vote, Ack, Help, Helped}
use Rattle.model.specs.declared.Event.{Event}
use Rattle.protocol.specs.declared.Bench.{Bench}
use Rattle.protocol.specs.Benches.{bench_of, sent_by}
use Rattle.protocol.specs.Display.{sum_to, sent_count, message_count}
use Rattle.protocol.specs.Claim.{after, Clean, HoldsSome}
use Rattle.protocol.specs.CleanMessages.{CleanEnd, fn, CleanMessages}
use Rattle.protocol.proofs.view.View.{View, saved_outcome}
use Rattle.protocol.proofs.view.Simulation.{view}
use Rattle.protocol.proofs.invariant.Words.{none-word}
use Rattle.protocol.proofs.clean.Log.{log_v}
use Rattle.protocol.proofs.clean.Log as steps
use Rattle.protocol.proofs.clean.Steps.{clean_by_steps, clean-log}
use Rattle.protocol.proofs.clean.Parts.{vote-route, vote_route₂, ack-route, ack_route₂}
use Rattle.protocol.proofs.clean.WithoutHelp.{Delivered, WithoutHelp, blank_without-help, run_without-help}
use Rattle.protocol.proofs.lists.Moments.{log_at}
use Rattle.protocol.proofs.lists.Start.{Opened, start, freshes, lock-inv, lock_good}
use Rattle.protocol.proofs.claim.Bound.{vote_self, ack_self}
use Rattle.protocol.proofs.counting.Counted.{sum-zero, fresh-silent}
use Rattle.protocol.proofs.claim.Theorem.{log_sim, Word, word-of, range, sound₀, n₀, f₀, here, demand_3}

-- more pass a test that is passed wherever another is
count-more : (m : ℕ) (p q : ℕ → Bool) → ((k : ℕ) → 1 ≤ k → k ≤ m → p k ≡ true → q k ≡ true) → count_to m p ≤ count_to m q
unfolding count_to
count-more zero p q h = omega arith
count-more (suc m) p q h = let ih : count_to m p ≤ count_to m q = count-more m p q (λ k a b. h k a (omega arith)) in elim (split (p (suc m))) [
  | inl e ↦ rw (e, h (suc m) (omega arith) (omega arith) e) (omega arith)
  | inr e ↦ rw e (omega arith)
]

-- all of 1..k pass, so at least k
count-from : (m k : ℕ) (p : ℕ → Bool) → k ≤ m → ((j : ℕ) → 1 ≤ j → j ≤ k → p j ≡ true) → k ≤ count_to m p
unfolding count_to
count-from zero k p l h = l
count-from (suc m) k p l h = elim (dec_le k m) [
  | yes s ↦ let ih : k ≤ count_to m p = count-from m k p s h in omega arith
  | no s ↦ let ih : m ≤ count_to m p = count-from m m p (omega arith) (λ j a b. h j a (omega arith)) in rw (h (suc m) (omega arith) (omega arith)) (omega arith)
]

-- all of 1..k but i, so at least k - 1
count_but : (m k i : ℕ) (p : ℕ → Bool) → k ≤ m → 1 ≤ i → i ≤ m → p i ≡ false → ((j : ℕ) → 1 ≤ j → j ≤ k → (i ≡ j → ⊥) → p j ≡ true) → k ≤ suc (count_to m p)
count_but m k i p l lo hi e h =
    let s : count_to m (upd p i true) ≡ suc (count_to m p) = count-new m p i lo hi e in
    let t : k ≤ count_to m (upd p i true) = count-from m k (upd p i true) l (λ j a b. elim (ℕ_discrete i j) [
      | yes q ↦ rw (sym q) (upd_same p i true)
      | no q ↦ upd_other p i true j (ne_eqb j i (λ z. q (sym z))) ∙ h j a b q
    ]) in omega arith

sum_mono : (g : ℕ → ℕ) (k m : ℕ) → k ≤ m → sum_to k g ≤ sum_to m g
unfolding sum_to
sum_mono g k zero l = let z : k ≡ 0 = omega arith in rw z (omega arith)
sum_mono g k (suc m) l = elim (ℕ_discrete k (suc m)) [
  | yes q ↦ rw q (omega arith)
  | no q ↦ let ih : sum_to k g ≤ sum_to m g = sum_mono g k m (omega arith) in omega arith
]

module _ (n f : ℕ) (f<n : f < n) where
  -- the routes of each sender
  votes-least : (i : ℕ) → 1 ≤ i → i ≤ n → f ≤ count_to n (vote_route f i)
  votes-least i lo hi = elim (dec_le i f) [
    | yes h ↦ let x : suc f ≤ suc (count_to n (vote_route f i)) = count_but n (suc f) i (vote_route f i) f<n lo hi (vote_self n f i) (λ j a b d. elim (dec_le j f) [
      | yes s ↦ vote-route n f i j d s
      | no s ↦ let z : j ≡ suc f = omega arith in rw z (vote_route₂ n f i h)
    ]) in omega arith
    | no h ↦ count-from n f (vote_route f i) (omega arith) (λ j a b. vote-route n f i j (λ z. omega arith) b)
  ]

  acks-least : (i : ℕ) → 1 ≤ i → i ≤ f → n ≤ suc (count_to n (ack_route f i))
  acks-least i lo hi = count_but n n i (ack_route f i) (omega arith) lo (omega arith) (ack_self n f i) (λ j a b d. ack-route n f i j d hi)

  acks-second-least : f ≤ count_to n (ack_route f (suc f))
  acks-second-least = count-from n f (ack_route f (suc f)) (omega arith) (λ j a b. ack_route₂ n f j b)

  -- all senders together
  module _ (g : ℕ → ℕ) where
    votes-sum-least : ((i : ℕ) → 1 ≤ i → i ≤ n → count_to n (vote_route f i) ≤ g i) → (m : ℕ) → m ≤ n → m * f ≤ sum_to m g
    unfolding sum_to
    votes-sum-least h zero b = omega arith
    votes-sum-least h (suc m) b =
        let x : count_to n (vote_route f (suc m)) ≤ g (suc m) = h (suc m) (omega arith) b in
        let y : f ≤ count_to n (vote_route f (suc m)) = votes-least (suc m) (omega arith) b in
        let z : m * f ≤ sum_to m g = votes-sum-least h m (omega arith) in rw suc-mul (omega arith)

    acks-sum-least : ((i : ℕ) → 1 ≤ i → i ≤ n → count_to n (ack_route f i) ≤ g i) → (m : ℕ) → m ≤ f → m * n ≤ sum_to m g + m
    unfolding sum_to
    acks-sum-least h zero b = omega arith
    acks-sum-least h (suc m) b =
        let x : count_to n (ack_route f (suc m)) ≤ g (suc m) = h (suc m) (omega arith) (omega arith) in
        let y : n ≤ suc (count_to n (ack_route f (suc m))) = acks-least (suc m) (omega arith) b in
        let z : m * n ≤ sum_to m g + m = acks-sum-least h m (omega arith) in rw suc-mul (omega arith)

    acks-all-least : ((i : ℕ) → 1 ≤ i → i ≤ n → count_to n (ack_route f i) ≤ g i) → f * n ≤ sum_to n g
    unfolding sum_to
    acks-all-least h =
        let x : count_to n (ack_route f (suc f)) ≤ g (suc f) = h (suc f) (omega arith) f<n in
        let y : f ≤ count_to n (ack_route f (suc f)) = acks-second-least in
        let z : f * n ≤ sum_to f g + f = acks-sum-least h f (omega arith) in
        let s : sum_to (suc f) g ≤ sum_to n g = sum_mono g (suc f) n f<n in omega arith

-- a bench in a clean order
module _ (b : Bench) (f<n : b.shared.f < b.shared.n) (log : List Event) (q : WithoutHelp b.shared.n b.shared.f (view b) log) where
  abbrev n : ℕ
  n = b.shared.n

  abbrev f : ℕ
  f = b.shared.f

  vote-sends : Delivered n f log → (i : ℕ) → 1 ≤ i → i ≤ n → count_to n (vote_route f i) ≤ sent_count b Vote i
  unfolding sent_count view
  vote-sends d i lo hi = count-more n (vote_route f i) (has (sent_by b i).vote.to) (λ j a b r. q.sent i j Vote (d.votes.sent i j lo hi a b r))

  ack-sends : Delivered n f log → (i : ℕ) → 1 ≤ i → i ≤ n → count_to n (ack_route f i) ≤ sent_count b Ack i
  unfolding sent_count view
  ack-sends d i lo hi = count-more n (ack_route f i) (has (sent_by b i).ack.to) (λ j a b r. q.sent i j Ack (d.acks.sent i j lo hi a b r))

  votes-least-sent : Delivered n f log → f * n ≤ message_count b Vote
  unfolding message_count
  votes-least-sent d = let x : n * f ≤ sum_to n (sent_count b Vote) = votes-sum-least n f f<n (sent_count b Vote) (vote-sends d) n (omega arith) in
      let z : n * f ≡ f * n = mul_comm n f in omega arith

  acks-least-sent : Delivered n f log → f * n ≤ message_count b Ack
  unfolding message_count
  acks-least-sent d = acks-all-least n f f<n (sent_count b Ack) (ack-sends d)

  help-unsent : message_count b Help ≡ 0
  unfolding message_count sent_count view
  help-unsent = sum-zero n _ (λ i. none-count n _ (λ j lo hi. q.no-help i j))

  helped-unsent : message_count b Helped ≡ 0
  unfolding message_count sent_count view
  helped-unsent = sum-zero n _ (λ i. none-count n _ (λ j lo hi. q.no-helped i j))

-- a moment of a clean order, of a list in which a lock was accepted
module _ (es : List Event) (o : Opened es) (c : Clean (after es).shared.n (after es).shared.f es) where
  abbrev b₀ : Bench
  b₀ = bench_of true o.n o.f o.own

  lock_without-help : WithoutHelp o.n o.f (view b₀) []
  unfolding view
  lock_without-help = blank_without-help o.n o.f (view b₀) (λ k. (freshes true o.n o.f o.own k).ctl) (λ k. (freshes true o.n o.f o.own k).sent) (unfold bench_of in refl) (unfold bench_of in refl)
      (λ k v e x. none-word v (sym (ap saved_outcome (freshes true o.n o.f o.own k).saved) ∙ x))

  vlog : List Event
  vlog = log_v o.n o.f (view b₀) [] o.post

  is-log : log_at es ≡ vlog
  unfolding vlog
  is-log = o.silent ∙ log_sim o.n o.f o.post b₀ (sound₀ es o) (n₀ es o) (f₀ es o) []

  clean_steps : steps.Clean o.n o.f vlog
  clean_steps = subst (steps.Clean o.n o.f) is-log (clean_by_steps o.n o.f (log_at es) (clean-log o.n o.f es (subst₂ (λ x y. Clean x y es) (here es o).is-n (here es o).is_f c)))

  without-help : WithoutHelp (after es).shared.n (after es).shared.f (view (after es)) vlog
  unfolding vlog
  without-help = subst₂ (λ x y. WithoutHelp x y (view (after es)) vlog) (sym (here es o).is-n) (sym (here es o).is_f) (subst (λ (v : View). WithoutHelp o.n o.f v vlog) (sym (here es o).shows)
      (run_without-help o.n o.f (range es o).high (range es o).low (range es o).small o.post (view b₀) [] (lock-inv o.n o.f o.own o.sized) (λ x. lock_good o.n o.f o.own o.sized (range es o).high) (λ x. lock_without-help) clean_steps))

  below : (after es).shared.f < (after es).shared.n
  below = let x : (after es).shared.n ≡ o.n = (here es o).is-n in let y : (after es).shared.f ≡ o.f = (here es o).is_f in let z : o.f < o.n = (range es o).high in omega arith

  -- one outcome is enough
  delivered : HoldsSome es 1 → Delivered (after es).shared.n (after es).shared.f vlog
  unfolding view
  delivered h = let w : Word h.outcome = word-of h.outcome h.holds.some in without-help.held 1 w.move (h.holds.shows ∙ w.is)

record Figures (b : Bench) : Type 0 where
  votes : message_count b Vote ≡ b.shared.f * b.shared.n
  acks : message_count b Ack ≡ b.shared.f * b.shared.n
  no-help : message_count b Help ≡ 0
  no-helped : message_count b Helped ≡ 0

figures : (es : List Event) → CleanEnd es → Figures (after es)
figures es e = elim (start es) [
  | inl z ↦ subst Figures (sym z) none
  | inr o ↦
      let q : WithoutHelp (after es).shared.n (after es).shared.f (view (after es)) (vlog es o e.clean) = without-help es o e.clean in
      let l : (after es).shared.f < (after es).shared.n = below es o e.clean in
      let d : Delivered (after es).shared.n (after es).shared.f (vlog es o e.clean) = delivered es o e.clean (e.ended 1 (omega arith) (omega arith)) in
      let x : fn es ≤ message_count (after es) Vote = votes-least-sent (after es) l _ q d in
      let y : fn es ≤ message_count (after es) Ack = acks-least-sent (after es) l _ q d in
      let z : message_count (after es) Vote + message_count (after es) Ack ≤ 2 * fn es = demand_3.at-most_2fn es in
      record { votes = omega arith; acks = omega arith; no-help = help-unsent (after es) l _ q; no-helped = helped-unsent (after es) l _ q }
]
  where
    none : Figures (bench_of false 0 0 false)
    none = record {
      votes = fresh-silent Vote false 0 0 false ∙ (unfold bench_of in refl);
      acks = fresh-silent Ack false 0 0 false ∙ (unfold bench_of in refl);
      no-help = fresh-silent Help false 0 0 false;
      no-helped = fresh-silent Helped false 0 0 false;
    }

pub clean-messages : CleanMessages
clean-messages = record {
  exactly_2fn = λ es e. let x : Figures (after es) = figures es e in let y : message_count (after es) Vote ≡ fn es = x.votes in let z : message_count (after es) Ack ≡ fn es = x.acks in omega arith;
  votes = λ es e. (figures es e).votes;
  acks = λ es e. (figures es e).acks;
  no-help = λ es e. (figures es e).no-help;
  no-helped = λ es e. (figures es e).no-helped;
}
