-- A clean order, as the log of its accepted events, newest first: all vote, every vote message is delivered, 1 to f + 1 have their first
-- timeout, every acknowledgement is delivered. Then the timeout of any controller is a second one, and the log with it is clean; so it stays while
-- 1 to m have theirs.
use Prim.Native.Nat.{ℕ, zero, suc, ◌≤◌}
use mathlib.Core.Path.{◌≡◌, refl, sym, ◌∙◌, ap, subst}
use mathlib.Core.Bool.{Bool, false≢true, false}
use mathlib.Core.List.{List, [], ◌∷◌}
use native.Mathlib.Omega.{arith}
use native.Mathlib.Decide.{dec_le}
use mathlib.Core.Logic.{inl, inr}
use Rattle.model.specs.Routes.{route}
use Rattle.model.specs.declared.Kind.{Kind}
use Rattle.model.specs.declared.Kind.TheVariants.{Vote, Ack}
use Rattle.model.specs.declared.Event.{Event}
use Rattle.model.specs.declared.Event.TheVariants.{Cast, Deliver, Timeout}
use Rattle.protocol.specs.CleanOrders.{casts, timeouts, deliveries, all_voted, all_acked}
use Rattle.protocol.proofs.clean.Log.{NotTimeout, In, VotesIn, AcksIn, Second, CleanTimeout, CleanStep, Clean}
use Rattle.protocol.proofs.clean.Steps.{inject, votes-more, acks-more}
use Rattle.protocol.proofs.clean.Loops.{differ, cast_in, cast_as, cast-calm, timeouts_in, timeouts_keep, timeouts-back, timeouts-low, rows_all, rows_keep, rows_back, rows_in}
use Rattle.protocol.proofs.view.Kinds.{is_stop}

module _ (n f : ℕ) where
  one_more : (log : List Event) (e : Event) → VotesIn n f log → VotesIn n f (e ∷ log)
  one_more log e = votes-more n f (e ∷ log) log [] e refl

  module _ (w : ℕ → Bool) where
    voted-votes : VotesIn n f (all_voted n f w)
    unfolding all_voted route
    voted-votes = record {
      votes = λ k a b. record { willing = w k; target = 0; entry = rows_keep n f _ Vote (casts w n) (cast_in w n k a b) };
      sent = λ i j a b c d r. rows_in n f Vote n i j (casts w n) (omega arith) a b c d r;
    }

    voted-calm : (k : ℕ) → In (Timeout k) (all_voted n f w) → ⊥
    unfolding all_voted
    voted-calm k e = cast-calm w n k (rows_back n f _ Vote away _ e)
      where
        away : (i j : ℕ) → Timeout k ≡ Deliver i j Vote → ⊥
        away i j q = let z : ◌≡◌ {A = ℕ} 0 1 = cc in differ z

    timeouts-votes : (m : ℕ) → VotesIn n f (timeouts m (all_voted n f w))
    unfolding timeouts
    timeouts-votes zero = voted-votes
    timeouts-votes (suc m) = one_more _ _ (timeouts-votes m)

    -- votes and deliveries leave the log clean; so does a timeout that is not a second one, once the votes are in
    calm : (e : Event) (log : List Event) → NotTimeout e → is_stop e ≡ false → CleanStep n f e log
    calm e log t s = record { timeouts = λ i z. absurd (subst NotTimeout z t); stops = λ i z. false≢true (sym s ∙ ap is_stop z) }

    timed : (i : ℕ) (log : List Event) → CleanTimeout n f i log → CleanStep n f (Timeout i) log
    timed i log c = record { timeouts = λ j z. subst (λ k. CleanTimeout n f k log) (inject i j z) c; stops = λ j z. false≢true (ap is_stop z) }

    cast-clean : (m : ℕ) → Clean n f (casts w m)
    unfolding casts
    cast-clean zero = tt
    cast-clean (suc m) = (cast-clean m, calm _ _ tt refl)

    rows-clean : (kind : Kind) (log : List Event) → Clean n f log → Clean n f (deliveries n f kind n log)
    rows-clean kind = rows_all n f (Clean n f) kind (λ i j a b c d r l h. (h, calm _ l tt refl)) n (omega arith)

    timeouts-clean : (m : ℕ) → m ≤ suc f → Clean n f (timeouts m (all_voted n f w))
    unfolding timeouts
    timeouts-clean zero h = unfold all_voted in rows-clean Vote (casts w n) (cast-clean n)
    timeouts-clean (suc m) h = (timeouts-clean m (omega arith), timed (suc m) _ (timeouts-votes m, λ s. absurd (first s)))
      where
        first : Second n f (suc m) (timeouts m (all_voted n f w)) → ⊥
        first (inl x) = omega arith
        first (inr e) = let z : suc m ≤ m = timeouts-low m (suc m) (all_voted n f w) (voted-calm (suc m)) e in omega arith

    -- the acknowledgements are in
    acked-acks : AcksIn n f (all_acked n f w)
    unfolding all_acked route
    acked-acks = record { sent = λ i j a b c d r. rows_in n f Ack n i j (timeouts (suc f) (all_voted n f w)) (omega arith) a b c d r }

    acked-votes : VotesIn n f (all_acked n f w)
    unfolding all_acked
    acked-votes = rows_all n f (VotesIn n f) Ack (λ i j a b c d r l. one_more l _) n (omega arith) _ (timeouts-votes (suc f))

    -- 1 to m have had their second timeout
    abbrev pub ending : ℕ → List Event
    ending m = timeouts m (all_acked n f w)

    ending-votes : (m : ℕ) → VotesIn n f (ending m)
    unfolding timeouts
    ending-votes zero = acked-votes
    ending-votes (suc m) = one_more _ _ (ending-votes m)

    ending-acks : (m : ℕ) → AcksIn n f (ending m)
    unfolding timeouts
    ending-acks zero = acked-acks
    ending-acks (suc m) = acks-more n f _ _ [] _ refl (ending-acks m)

    -- the timeout of any controller is now a second one, and the log is clean with it
    pub ending-second : (m i : ℕ) → 1 ≤ i → Second n f i (ending m)
    ending-second m i a = elim (dec_le i (suc f)) [
      | yes h ↦ inr (timeouts_keep (Timeout i) m _ (unfold all_acked in rows_keep n f (Timeout i) Ack _ (timeouts_in (suc f) i (all_voted n f w) a h)))
      | no h ↦ inl (omega arith)
    ]

    pub ending-clean : (m : ℕ) → Clean n f (ending m)
    unfolding timeouts
    ending-clean zero = unfold all_acked in rows-clean Ack _ (timeouts-clean (suc f) (omega arith))
    ending-clean (suc m) = (ending-clean m, timed (suc m) _ (ending-votes m, λ s. ending-acks m))

    pub next-clean : (m i : ℕ) → Clean n f (Timeout i ∷ ending m)
    next-clean m i = (ending-clean m, timed i _ (ending-votes m, λ s. ending-acks m))

    -- the votes in it are those of w
    pub ending-cast : (m k : ℕ) → 1 ≤ k → k ≤ n → In (Cast k (w k) 0) (ending m)
    unfolding all_acked all_voted
    ending-cast m k a b = timeouts_keep _ m _ (rows_keep n f _ Ack _ (timeouts_keep _ (suc f) _ (rows_keep n f _ Vote _ (cast_in w n k a b))))

    pub ending_as : (m k : ℕ) (x : Bool) (t : ℕ) → In (Cast k x t) (ending m) → x ≡ w k
    unfolding all_acked all_voted
    ending_as m k x t e = cast_as w n k x t (rows_back n f _ Vote (away Vote) _ (timeouts-back _ (suc f) times-out _ (rows_back n f _ Ack (away Ack) _ (timeouts-back _ m times-out _ e))))
      where
        away : (kind : Kind) (i j : ℕ) → Cast k x t ≡ Deliver i j kind → ⊥
        away kind i j q = let z : ◌≡◌ {A = ℕ} 0 1 = cc in differ z

        times-out : (i : ℕ) → Cast k x t ≡ Timeout i → ⊥
        times-out i q = let z : ◌≡◌ {A = ℕ} 0 1 = cc in differ z
