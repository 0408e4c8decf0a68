-- The way back from CleanSteps.antt: where the log is clean step by step, the order is clean as the statement has it.
use Prim.Native.Nat.{ℕ}
use mathlib.Core.Path.{subst, ◌≡◌, refl}
use mathlib.Core.List.{List, [], ◌∷◌, ◌++◌}
use Rattle.model.specs.declared.Event.{Event}
use Rattle.model.specs.declared.Event.TheVariants.{Timeout, Stop}
use mathlib.Core.Bool.{true}
use Rattle.protocol.specs.Events.{concerns_one}
use Rattle.protocol.specs.Claim.{InOrder}
use Rattle.protocol.specs.Claim as claim
use Rattle.protocol.proofs.clean.Log.{Voted, VotesIn, AcksIn, CleanStep, Clean}
use Rattle.protocol.proofs.clean.Steps.{second_is}
use Rattle.protocol.proofs.lists.Moments.{log_at, in_order, Stands, stands}

module _ (n f : ℕ) where
  clean_at : (e : Event) (earlier later : List Event) → Clean n f (later ++ (e ∷ earlier)) → CleanStep n f e earlier
  clean_at e earlier [] c = c.1
  clean_at e earlier (y ∷ later) c = clean_at e earlier later c.0

  -- what a clean log says of an event accepted in the order
  step-at : (es : List Event) → Clean n f (log_at es) → (e : Event) → concerns_one e ≡ true → (t : InOrder es e) → CleanStep n f e (log_at t.before)
  step-at es c e u t = let s : Stands es e t.before = stands es e u t in clean_at e (log_at t.before) s.later (subst (Clean n f) s.is c)

  votes_in : (es : List Event) → VotesIn n f (log_at es) → claim.VotesIn n f es
  votes_in es v = record {
    cast = λ k a b. let x : Voted n f (log_at es) k = v.votes k a b in record { willing = x.willing; target = x.target; vote = in_order es _ x.entry };
    delivered = λ i j a b c d r. in_order es _ (v.sent i j a b c d r);
  }

  acks_in : (es : List Event) → AcksIn n f (log_at es) → claim.AcksIn n f es
  acks_in es v = record { delivered = λ i j a b c d r. in_order es _ (v.sent i j a b c d r) }

  pub clean-order : (es : List Event) → Clean n f (log_at es) → claim.Clean n f es
  clean-order es c = record {
    no_stop = λ i t. (step-at es c (Stop i) refl t).stops i refl;
    votes-first = λ i t none. votes_in t.before ((step-at es c (Timeout i) refl t).timeouts i refl).0;
    acks-first = λ i t s none. acks_in t.before (((step-at es c (Timeout i) refl t).timeouts i refl).1 (second_is n f t.before i s));
  }
