-- The clean order over the log of its accepted events, newest first, step by step; and the decision of a second timeout in it. The acknowledgements that
-- it holds are complete and, by the invariant, tell the votes as they were cast, so their word is that of the votes.
use Prim.Native.Nat.{ℕ, suc, ◌≤◌, ◌<◌}
use mathlib.Core.Path.{◌≡◌, ◌∙◌, ap}
use mathlib.Core.Bool.{Bool, true, false, not, ◌&&◌, ◌||◌, cond}
use mathlib.Core.List.{List, [], ◌∷◌}
use native.Mathlib.Omega.{arith}
use lib.Dec.{leb}
use mathlib.Core.Logic.{◌⊎◌, inl, inr}
use borrow.Author.Tests.{leb-true}
use Rattle.ground.specs.Tests.{refuted, no_both, split, and_i, or_r}
use Rattle.ground.specs.Quantify.{all_to, all_of}
use Rattle.votes.specs.VoteSets.{knows, complete, unanimous}
use Rattle.votes.proofs.VoteLaws.{knows_in-all, knows-complete}
use Rattle.model.specs.Routes.{vote_route, ack_route}
use Rattle.model.specs.Numbers.{word_of}
use Rattle.model.specs.declared.Kind.TheVariants.{Vote, Ack}
use Rattle.model.specs.declared.Outcome.TheVariants.{None}
use Rattle.model.specs.declared.Event.{Event}
use Rattle.model.specs.declared.Event.TheVariants.{Lock, Order, Cast, Deliver, Timeout, Decide, Stop, Save, Restore, OfBallots}
use Rattle.protocol.specs.declared.Controller.{Controller}
use Rattle.protocol.specs.declared.Sent.{Sent}
use Rattle.protocol.specs.Controllers.{runs, phase, outcome, has_ack, ack_of, advance, freeze, conclude}
use Rattle.protocol.specs.Rules.{verdict, backups_complete, second_knows, decides, frozen, ready, second_timeout}
use Rattle.protocol.specs.Events.{concerns_one}
use Rattle.protocol.specs.NoContradiction.{acks_union}
use Rattle.protocol.proofs.view.View.{View, accepts}
use Rattle.protocol.proofs.view.Performed.{step_v}
use Rattle.protocol.proofs.invariant.Invariant.{will_by, ack_on, Truthful, AllWilling, HeldAck, Inv}
use Rattle.protocol.proofs.invariant.TrueVotes.{move_all, all-move}
use Rattle.protocol.proofs.invariant.Waiting.{acks-true, acks-word}

abbrev pub In : Event → List Event → Type 0
In e [] = ⊥
In e (x ∷ log) = (e ≡ x) ⊎ In e log

-- an accepted event enters the log; an order begins it anew
unfoldable pub entered : Event → List Event → List Event
entered e log = cond (concerns_one e) (e ∷ log) []

abbrev pub NotTimeout : Event → Type 0
NotTimeout (Lock a c own) = Unit {0}
NotTimeout (Order o) = Unit {0}
NotTimeout (Cast i w t) = Unit {0}
NotTimeout (Deliver i j k) = Unit {0}
NotTimeout (Timeout i) = ⊥
NotTimeout (Decide i w) = Unit {0}
NotTimeout (Stop i) = Unit {0}
NotTimeout (Save i) = Unit {0}
NotTimeout (OfBallots e) = Unit {0}
NotTimeout (Restore i) = Unit {0}

module _ (n f : ℕ) where
  unfoldable pub push_v : View → Event → List Event → List Event
  push_v b e log = cond (accepts n f b e) (entered e log) log

  unfoldable pub log_v : View → List Event → List Event → List Event
  log_v b log [] = log
  log_v b log (e ∷ es) = log_v (step_v n f b e) (push_v b e log) es

  pub record Voted (log : List Event) (k : ℕ) : Type 0 where
    pub willing : Bool
    pub target : ℕ
    pub entry : In (Cast k willing target) log

  -- every vote accepted, and every vote message delivered; every acknowledgement delivered
  pub record VotesIn (log : List Event) : Type 0 where
    pub votes : (k : ℕ) → 1 ≤ k → k ≤ n → Voted log k
    pub sent : (i j : ℕ) → 1 ≤ i → i ≤ n → 1 ≤ j → j ≤ n → vote_route f i j ≡ true → In (Deliver i j Vote) log

  pub record AcksIn (log : List Event) : Type 0 where
    pub sent : (i j : ℕ) → 1 ≤ i → i ≤ n → 1 ≤ j → j ≤ n → ack_route f i j ≡ true → In (Deliver i j Ack) log

  -- a timeout of i that comes after these is its second
  abbrev pub Second : ℕ → List Event → Type 0
  Second i log = (suc f < i) ⊎ In (Timeout i) log

  abbrev pub CleanTimeout : ℕ → List Event → Type 0
  CleanTimeout i log = VotesIn log × (Second i log → AcksIn log)

  pub record CleanStep (e : Event) (log : List Event) : Type 0 where
    pub timeouts : (i : ℕ) → e ≡ Timeout i → CleanTimeout i log
    pub stops : (i : ℕ) → e ≡ Stop i → ⊥

  abbrev pub Clean : List Event → Type 0
  Clean [] = Unit {0}
  Clean (e ∷ log) = Clean log × CleanStep e log

  -- the decision: all acknowledgements held and complete
  module _ (f<n : f < n) (1≤f : 1 ≤ f) (b : View) (inv : Inv n f b) (i : ℕ) (ran : runs (b.ctl i) ≡ true) (at2 : phase (b.ctl i) ≡ 2)
      (held : (j : ℕ) → 1 ≤ j → j ≤ f → has_ack (b.ctl i) j ≡ true)
      (whole : (j : ℕ) → 1 ≤ j → j ≤ f → (k : ℕ) → 1 ≤ k → k ≤ n → knows (ack_on (b.state.sent j)) k ≡ true)
      (second : i ≤ f → (has_ack (b.ctl i) (suc f) ≡ true) × ((k : ℕ) → 1 ≤ k → k ≤ f → knows (ack_on (b.state.sent (suc f))) k ≡ true)) where
    abbrev c : Controller
    c = b.ctl i

    abbrev L : ℕ → Sent
    L = b.state.sent

    fact : (j : ℕ) → has_ack c j ≡ true → HeldAck n f L i (ack_of c j) j
    fact = (inv.ctls i).acks_ok

    pub is-direct : decides n f i c ≡ true
    unfolding decides backups_complete second_knows
    is-direct = and_i (all_to f (λ j. has_ack c j && complete n (ack_of c j))) (not (leb i f) || (has_ack c (suc f) && complete f (ack_of c (suc f))))
        (all_of f (λ j. has_ack c j && complete n (ack_of c j)) (λ j a h. and_i (has_ack c j) (complete n (ack_of c j)) (held j a h) (rw (fact j (held j a h)).copy (knows-complete n (ack_on (L j)) (whole j a h)))))
        (elim (split (leb i f)) [
          | inr e ↦ rw e
          | inl e ↦ let s : (has_ack c (suc f) ≡ true) × ((k : ℕ) → 1 ≤ k → k ≤ f → knows (ack_on (L (suc f))) k ≡ true) = second (leb-true i f e) in
              or_r (not (leb i f)) _ (and_i (has_ack c (suc f)) (complete f (ack_of c (suc f))) s.0 (rw (fact (suc f) s.0).copy (knows-complete f (ack_on (L (suc f))) s.1)))
        ])

    union-known : (k : ℕ) → 1 ≤ k → k ≤ n → knows (acks_union n c) k ≡ true
    union-known k x y = knows_in-all n c.acks.from c.acks.sets 1 (omega arith) (omega arith) (held 1 (omega arith) 1≤f) k (rw (fact 1 (held 1 (omega arith) 1≤f)).copy (whole 1 (omega arith) 1≤f k x y))

    union_ok : Truthful L (acks_union n c)
    union_ok = acks-true n f L inv.lines i c (inv.ctls i).acks_ok

    none_yet : outcome c ≡ None
    none_yet = (inv.owns i).phased.undecided ran (omega arith)

    concludes : outcome (second_timeout n f i c).controller ≡ word_of (unanimous n (acks_union n c))
    unfolding second_timeout ready conclude frozen freeze advance verdict
    concludes = rw is-direct (rw none_yet (ap word_of (acks-word n f L inv.lines i c (inv.ctls i).acks_ok)))

    pub decides-move : AllWilling n f L → outcome (second_timeout n f i c).controller ≡ word_of true
    decides-move w = concludes ∙ ap word_of (all-move L n f (acks_union n c) union_ok w (knows-complete n (acks_union n c) union-known))

    pub decides-stay : (k : ℕ) → 1 ≤ k → k ≤ n → will_by k (L k) ≡ false → outcome (second_timeout n f i c).controller ≡ word_of false
    decides-stay k x y e = concludes ∙ ap word_of (refuted (unanimous n (acks_union n c)) (λ m. no_both (will_by k (L k)) (move_all L n f (acks_union n c) union_ok m k x y).1 e))
