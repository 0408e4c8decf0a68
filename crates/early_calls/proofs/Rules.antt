-- Each rule does to a controller without kept calls what it does to the controller: it sends and puts the same, and leaves the same but for the calls kept.
-- The help call before stage 3 and the second timeout are apart (Timeouts).
use Prim.Native.Nat.{ℕ, suc}
use mathlib.Core.Path.{◌≡◌, refl, sym, ◌∙◌, ap}
use mathlib.Core.Bool.{Bool, true, false, not, ◌&&◌, ◌||◌, cond, false≢true}
use lib.Dec.{eqb, leb}
use mathlib.Core.Logic.{inl, inr}
use borrow.Author.Tests.{eqb-true}
use Rattle.ground.specs.Tests.{split, by_cond}
use Rattle.votes.specs.declared.VoteSet.{VoteSet}
use Rattle.model.specs.Ranges.{is_backup}
use Rattle.model.specs.declared.Outcome.{Outcome}
use Rattle.model.specs.declared.Outcome.TheVariants.{None}
use Rattle.protocol.specs.declared.Condition.{Condition}
use Rattle.protocol.specs.declared.Condition.TheVariants.{Stopped, Standby}
use Rattle.protocol.specs.declared.Controller.{Controller}
use Rattle.protocol.specs.declared.Answer.{Answer}
use Rattle.protocol.specs.declared.Identity.{Identity}
use Rattle.protocol.specs.Controllers.{is_stopped, phase_in, phase, has_ack, has_helped, has_called, in_phase, cleared, advance, learn, aim, keep_ack, keep_helped, add_caller, propose, conclude}
use Rattle.protocol.specs.Rules.{nothing, passing_over, becomes, proposing, verdict, vote_rule, vote_arrives, count_own, first_timeout, ack_join, sufficient, answers_join, propose_if_sufficient, ack_arrives, helped_arrives, keeps_call, answers_call, help_arrives}
use Rattle.protocol.specs.Calls.{restore, renew}
use Rattle.protocol.specs.Events.{restore_from}
use Rattle.protocol.proofs.invariant.Words.{noting-phase}
use Rattle.early_calls.specs.Document01.{with_callers, without_kept}
use Rattle.std.specs.Prelude.{Option, Some, None}
use Rattle.model.specs.declared.Checkpoint.{Checkpoint}

-- two conditionals on one test
pub by_cond₂ : {A B : Type 0} (P : A → B → Type 0) (t : Bool) (x y : A) (x' y' : B) → (t ≡ true → P x x') → (t ≡ false → P y y') → P (cond t x y) (cond t x' y')
by_cond₂ P true x y x' y' p q = p refl
by_cond₂ P false x y x' y' p q = q refl

-- or on two equal ones
pub by_equal : {A B : Type 0} (P : A → B → Type 0) (t t' : Bool) → t' ≡ t → (x y : A) (x' y' : B) → (t ≡ true → P x x') → (t ≡ false → P y y') → P (cond t x y) (cond t' x' y')
by_equal P true true e x y x' y' p q = p refl
by_equal P true false e x y x' y' p q = absurd (false≢true e)
by_equal P false true e x y x' y' p q = absurd (false≢true (sym e))
by_equal P false false e x y x' y' p q = q refl

-- a controller before stage 3, and one from there on
pub early : (c : Controller) → leb (phase c) 2 ≡ true → without_kept c ≡ with_callers c 0
unfolding without_kept
early c e = rw e

pub late : (c : Controller) → leb (phase c) 2 ≡ false → without_kept c ≡ c
unfolding without_kept
late c e = rw e

-- what of a controller does not change
pub record Alike (c c' : Controller) : Type 0 where
  pub condition : c'.condition ≡ c.condition
  pub sets : c'.acks.sets ≡ c.acks.sets
  pub position : c'.gate.position ≡ c.gate.position
  pub proposal : c'.proposal ≡ c.proposal

pub alike : (c : Controller) → Alike c (without_kept c)
unfolding without_kept
alike c = by_cond (Alike c) (leb (phase c) 2) (with_callers c 0) c
    (λ e. record { condition = refl; sets = refl; position = refl; proposal = refl }) (λ e. record { condition = refl; sets = refl; position = refl; proposal = refl })

-- an answer, and the answer of the controller without kept calls
pub record Matches (a a' : Answer) : Type 0 where
  pub next : without_kept a.controller ≡ a'.controller
  pub sends : a.sends ≡ a'.sends
  pub word : a.proposal ≡ a'.proposal

-- the same for a controller before stage 3 that stays there; and of one from stage 3 on
record EarlyMatch (a a' : Answer) : Type 0 where
  there : leb (phase a.controller) 2 ≡ true
  next : with_callers a.controller 0 ≡ a'.controller
  sends : a.sends ≡ a'.sends
  word : a.proposal ≡ a'.proposal

early_match : (a a' : Answer) → EarlyMatch a a' → Matches a a'
early_match a a' m = record { next = early a.controller m.there ∙ m.next; sends = m.sends; word = m.word }

record Stays (a : Answer) : Type 0 where
  there : leb (phase a.controller) 2 ≡ false

-- by the stage
by-stage : (r : Controller → Answer) (c : Controller) → (leb (phase c) 2 ≡ true → EarlyMatch (r c) (r (with_callers c 0))) → (leb (phase c) 2 ≡ false → Stays (r c)) → Matches (r c) (r (without_kept c))
by-stage r c p q = elim (split (leb (phase c) 2)) [
  | inl e ↦ rw (early c e) (early_match _ _ (p e))
  | inr e ↦ rw (late c e) (record { next = late (r c).controller (q e).there; sends = refl; word = refl })
]

passed_over : (c : Controller) → leb (phase c) 2 ≡ true → EarlyMatch (passing_over c) (passing_over (with_callers c 0))
unfolding passing_over
passed_over c e = record { there = e; next = refl; sends = refl; word = refl }

passed-stays : (c : Controller) → leb (phase c) 2 ≡ false → Stays (passing_over c)
unfolding passing_over
passed-stays c e = record { there = e }

-- a vote arrives
pub vote_matches : (s : VoteSet) (c : Controller) → Matches (vote_arrives s c) (vote_arrives s (without_kept c))
unfolding vote_arrives becomes learn
vote_matches s c = by-stage (vote_arrives s) c
    (λ e. by_cond₂ EarlyMatch (leb (phase c) 1) _ _ _ _ (λ p. record { there = e; next = refl; sends = refl; word = refl }) (λ p. passed_over c e))
    (λ e. by_cond Stays (leb (phase c) 1) _ _ (λ p. record { there = e }) (λ p. passed-stays c e))

-- an acknowledgement or a help answer arrives: what is kept may end waiting
module _ (n f : ℕ) where
  settle_matches : (d : Controller) → leb (phase d) 2 ≡ true → EarlyMatch (propose_if_sufficient n f (becomes d)) (propose_if_sufficient n f (becomes (with_callers d 0)))
  unfolding propose_if_sufficient sufficient proposing verdict answers_join ack_join becomes propose
  settle_matches d e = by_cond₂ EarlyMatch (sufficient n f d) _ _ _ _ (λ q. record { there = e; next = refl; sends = refl; word = refl }) (λ q. record { there = e; next = refl; sends = refl; word = refl })

  settle-stays : (d : Controller) → leb (phase d) 2 ≡ false → Stays (propose_if_sufficient n f (becomes d))
  unfolding propose_if_sufficient proposing becomes propose
  settle-stays d e = by_cond Stays (sufficient n f d) _ _ (λ q. record { there = e }) (λ q. record { there = e })

module _ (n f j : ℕ) (s : VoteSet) (c : Controller) where
  pub ack_matches : Matches (ack_arrives n f j s c) (ack_arrives n f j s (without_kept c))
  unfolding ack_arrives keep_ack
  ack_matches = by-stage (ack_arrives n f j s) c
      (λ e. by_cond₂ EarlyMatch (not (has_ack c j) && (leb (phase c) 2 || c.help.waiting)) _ _ _ _
      (λ p. settle_matches n f (keep_ack c j s) e)
      (λ p. passed_over c e))
      (λ e. by_cond Stays (not (has_ack c j) && (leb (phase c) 2 || c.help.waiting)) _ _
      (λ p. settle-stays n f (keep_ack c j s) e)
      (λ p. passed-stays c e))

  pub helped_matches : Matches (helped_arrives n f j s c) (helped_arrives n f j s (without_kept c))
  unfolding helped_arrives keep_helped
  helped_matches = by-stage (helped_arrives n f j s) c
      (λ e. by_cond₂ EarlyMatch (not (has_helped c j) && c.help.waiting) _ _ _ _
      (λ p. settle_matches n f (keep_helped c j s) e)
      (λ p. passed_over c e))
      (λ e. by_cond Stays (not (has_helped c j) && c.help.waiting) _ _
      (λ p. settle-stays n f (keep_helped c j s) e)
      (λ p. passed-stays c e))

-- a help call from stage 3 on
pub call_matches : (j : ℕ) (c : Controller) → leb (phase c) 2 ≡ false → Matches (help_arrives j c) (help_arrives j (without_kept c))
unfolding help_arrives answers_call add_caller
call_matches j c e = rw (late c e, e) (by_cond (λ (a : Answer). Matches a a) (has_called c j) _ _
    (λ p. unfold passing_over in record { next = late c e; sends = refl; word = refl })
    (λ p. record { next = late (add_caller c j) e; sends = refl; word = refl }))

-- before stage 3 it is kept, or passed over: nothing is sent, and nothing changes but the calls kept
pub record KeptAlone (c : Controller) (a : Answer) : Type 0 where
  pub next : without_kept a.controller ≡ without_kept c
  pub sends : a.sends ≡ nothing
  pub word : a.proposal ≡ None

pub early-call : (j : ℕ) (c : Controller) → leb (phase c) 2 ≡ true → KeptAlone c (help_arrives j c)
unfolding help_arrives keeps_call becomes passing_over add_caller
early-call j c e = rw e (by_cond (KeptAlone c) (has_called c j) _ _
    (λ p. record { next = refl; sends = refl; word = refl })
    (λ p. record { next = early (add_caller c j) e ∙ sym (early c e); sends = refl; word = refl }))

-- the own vote, and the first timeout
pub cast_matches : (n f i : ℕ) (w : Bool) (t : ℕ) (c : Controller) → eqb (phase c) 0 ≡ true → Matches (vote_rule n f i w t c) (vote_rule n f i w t (without_kept c))
unfolding vote_rule advance aim learn
cast_matches n f i w t c e = let z : phase c ≡ 0 = eqb-true _ _ e in rw (early c (rw z)) (early_match _ _ (record { there = below (leb i (suc f)); next = refl; sends = refl; word = refl }))
  where
    below : (x : Bool) → leb (cond x 1 2) 2 ≡ true
    below true = refl
    below false = refl

pub first_matches : (n f i : ℕ) (c : Controller) → eqb (phase c) 1 ≡ true → Matches (first_timeout n f i c) (first_timeout n f i (without_kept c))
unfolding first_timeout advance
first_matches n f i c e = let z : phase c ≡ 1 = eqb-true _ _ e in rw (early c (rw z)) (early_match _ _ (record { there = refl; next = ap (λ (x : Controller). advance x 2) own; sends = refl; word = refl }))
  where
    own : with_callers (count_own f i c) 0 ≡ count_own f i (with_callers c 0)
    own = unfold count_own keep_ack in by_cond₂ (λ (x y : Controller). with_callers x 0 ≡ y) (is_backup f i && not (has_ack c i)) _ _ _ _ (λ p. refl) (λ p. refl)

-- the arbiter's word, a stop, a restore, a new order
pub conclude-kept : (c : Controller) (o : Outcome) → without_kept (conclude c o) ≡ conclude (without_kept c) o
unfolding conclude
conclude-kept c o = elim (split (leb (phase c) 2)) [
  | inl e ↦ rw (early c e) (early (conclude c o) (rw (noting-phase c.condition o) e))
  | inr e ↦ rw (late c e) (late (conclude c o) (rw (noting-phase c.condition o) e))
]

pub cleared-kept : (k : Condition) (c : Controller) → phase_in k ≡ 0 → without_kept (cleared k c) ≡ cleared k (without_kept c)
unfolding cleared
cleared-kept k c z = early (cleared k c) (rw z) ∙ rw ((alike c).sets, (alike c).position)

pub renew-kept : (c : Controller) → without_kept (renew c) ≡ renew (without_kept c)
unfolding renew
renew-kept c = by_equal (λ (x y : Controller). without_kept x ≡ y) (is_stopped c.condition) _ (ap is_stopped (alike c).condition) _ _ _ _
    (λ p. cleared-kept Stopped c refl) (λ p. cleared-kept (in_phase 0 None) c refl)

pub becomes_matches : (c c' : Controller) → without_kept c ≡ c' → Matches (becomes c) (becomes c')
unfolding becomes
becomes_matches c c' e = record { next = e; sends = refl; word = refl }

passed_matches : (c : Controller) → Matches (passing_over c) (passing_over (without_kept c))
unfolding passing_over
passed_matches c = record { next = refl; sends = refl; word = refl }

pub restore_matches : (me : Identity) (s : Option Checkpoint) (c : Controller) → Matches (restore_from me s c) (restore_from me s (without_kept c))
unfolding restore_from restore
restore_matches me None c = passed_matches c
restore_matches me (Some x) c = by_equal Matches (is_stopped c.condition) _ (ap is_stopped (alike c).condition) _ _ _ _
    (λ p. becomes_matches _ _ (cleared-kept (Standby (cond (eqb x.order me.order) x.outcome None)) c refl)) (λ p. passed_matches c)
