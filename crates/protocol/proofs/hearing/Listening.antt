-- What a running controller has done with what came to it in the order, by the log of the order's accepted events; and where it stands. What of
-- this a rule's answer owes, and how it passes to the next moment.
use Prim.Native.Nat.{ℕ, ◌+◌, ◌≤◌, ◌<◌}
use mathlib.Core.Path.{◌≡◌, refl, sym, subst}
use mathlib.Core.Bool.{Bool, true, false}
use mathlib.Core.List.{List, ◌∷◌}
use mathlib.Core.Logic.{◌⊎◌, inl, inr}
use Rattle.ground.specs.Mask.{has}
use Rattle.model.specs.Numbers.{is_none}
use Rattle.model.specs.declared.Kind.TheVariants.{Vote, Ack, Help, Helped}
use Rattle.model.specs.declared.Event.{Event}
use Rattle.model.specs.declared.Event.TheVariants.{Lock, Order, Cast, Deliver, Timeout, Decide, Stop, Save, Restore, OfBallots}
use Rattle.protocol.specs.declared.Controller.{Controller}
use Rattle.protocol.specs.declared.Answer.{Answer}
use Rattle.protocol.specs.declared.Sent.{Sent}
use Rattle.protocol.specs.Controllers.{phase, outcome, has_ack, has_helped, has_called}
use Rattle.protocol.specs.Benches.{sent_after}
use Rattle.protocol.specs.Events.{subject}
use Rattle.protocol.proofs.clean.Log.{In}

-- it takes acknowledgements: before the second timeout, or while it waits
abbrev pub Open : Controller → Type 0
Open c = (phase c ≤ 2) ⊎ (c.help.waiting ≡ true)

-- what came to controller i
pub record Came (i : ℕ) (c : Controller) (log : List Event) : Type 0 where
  -- each help call was taken
  pub calls : (k : ℕ) → In (Deliver k i Help) log → has_called c k ≡ true
  -- no answer came before the second timeout; while it waits, each that came was counted
  pub unhelped : phase c ≤ 2 → (k : ℕ) → In (Deliver k i Helped) log → ⊥
  pub answers : c.help.waiting ≡ true → (k : ℕ) → In (Deliver k i Helped) log → has_helped c k ≡ true
  -- so was each acknowledgement that came till then, or comes while it waits
  pub acks : Open c → (k : ℕ) → In (Deliver k i Ack) log → has_ack c k ≡ true
  -- the arbiter's answer became its outcome
  pub decisions : (w : Bool) → In (Decide i w) log → is_none (outcome c) ≡ false

-- what an event e adds to it
abbrev pub Adds : ℕ → Controller → Event → Type 0
Adds i c (Lock a x own) = Unit {0}
Adds i c (Order o) = Unit {0}
Adds i c (Cast j w t) = Unit {0}
Adds i c (Deliver k j Vote) = Unit {0}
Adds i c (Deliver k j Ack) = j ≡ i → Open c → has_ack c k ≡ true
Adds i c (Deliver k j Help) = j ≡ i → has_called c k ≡ true
Adds i c (Deliver k j Helped) = j ≡ i → (phase c ≤ 2 → ⊥) × (c.help.waiting ≡ true → has_helped c k ≡ true)
Adds i c (Timeout j) = Unit {0}
Adds i c (Decide j w) = j ≡ i → is_none (outcome c) ≡ false
Adds i c (Stop j) = Unit {0}
Adds i c (Save j) = Unit {0}
Adds i c (OfBallots e) = Unit {0}
Adds i c (Restore j) = Unit {0}

-- an event of another controller adds nothing
adds_none : (i : ℕ) (c : Controller) (e : Event) → (subject e ≡ i → ⊥) → Adds i c e
adds_none i c (Lock a x own) d = tt
adds_none i c (Order o) d = tt
adds_none i c (Cast j w t) d = tt
adds_none i c (Deliver k j Vote) d = tt
adds_none i c (Deliver k j Ack) d = λ q. absurd (d q)
adds_none i c (Deliver k j Help) d = λ q. absurd (d q)
adds_none i c (Deliver k j Helped) d = λ q. absurd (d q)
adds_none i c (Timeout j) d = tt
adds_none i c (Decide j w) d = λ q. absurd (d q)
adds_none i c (Stop j) d = tt
adds_none i c (Save j) d = tt
adds_none i c (OfBallots e) d = tt
adds_none i c (Restore j) d = tt

pub came-more : (i : ℕ) (c : Controller) (e : Event) (log : List Event) → Came i c log → Adds i c e → Came i c (e ∷ log)
came-more i c e log h a = record {
  calls = λ k m. elim m [ inl q ↦ now (Deliver k i Help) q refl | inr x ↦ h.calls k x ];
  unhelped = λ s k m. elim m [ inl q ↦ (now (Deliver k i Helped) q refl).0 s | inr x ↦ h.unhelped s k x ];
  answers = λ w k m. elim m [ inl q ↦ (now (Deliver k i Helped) q refl).1 w | inr x ↦ h.answers w k x ];
  acks = λ o k m. elim m [ inl q ↦ now (Deliver k i Ack) q refl o | inr x ↦ h.acks o k x ];
  decisions = λ w m. elim m [ inl q ↦ now (Decide i w) q refl | inr x ↦ h.decisions w x ];
}
  where
    now : (x : Event) → x ≡ e → Adds i c x
    now x q = subst (Adds i c) (sym q) a

-- what a controller keeps as it goes on
pub record Forth (c c' : Controller) : Type 0 where
  pub callers : (k : ℕ) → has_called c k ≡ true → has_called c' k ≡ true
  pub helped : (k : ℕ) → has_helped c k ≡ true → has_helped c' k ≡ true
  pub acks : (k : ℕ) → has_ack c k ≡ true → has_ack c' k ≡ true
  pub low : phase c' ≤ 2 → phase c ≤ 2
  -- it begins to wait at its second timeout
  pub waits : c'.help.waiting ≡ true → Open c
  pub outcome : is_none (outcome c) ≡ false → is_none (outcome c') ≡ false

pub forth-refl : (c : Controller) → Forth c c
forth-refl c = record { callers = λ k e. e; helped = λ k e. e; acks = λ k e. e; low = λ h. h; waits = λ e. inr e; outcome = λ e. e }

came-on : (i : ℕ) (c c' : Controller) (log : List Event) → Came i c log → Forth c c' → Came i c' log
came-on i c c' log h t = record {
  calls = λ k m. t.callers k (h.calls k m);
  unhelped = λ s k m. h.unhelped (t.low s) k m;
  answers = λ w k m. elim (t.waits w) [ inl s ↦ absurd (h.unhelped s k m) | inr x ↦ t.helped k (h.answers x k m) ];
  acks = λ o k m. t.acks k (h.acks (elim o [ inl s ↦ inl (t.low s) | inr w ↦ t.waits w ]) k m);
  decisions = λ w m. t.outcome (h.decisions w m);
}

module _ (n f : ℕ) where
  -- Where controller i stands. One that waits has called all others beyond the backups, has counted itself, and has too few;
  pub record Waits (i : ℕ) (c : Controller) (l : Sent) : Type 0 where
    pub called : (k : ℕ) → f < k → k ≤ n → (i ≡ k → ⊥) → has l.help.to k ≡ true
    pub itself : has_helped c i ≡ true

  abbrev pub Short : Controller → Type 0
  Short c = c.acks.cnt.0 + c.helped.cnt_help.0 + f < n

  -- past its second timeout a controller has an outcome, has put a word, or waits; a backup past its first has sent its acknowledgement to all others
  pub record Stands (i : ℕ) (c : Controller) (l : Sent) : Type 0 where
    pub waits : c.help.waiting ≡ true → Waits i c l
    pub ended : 3 ≤ phase c → is_none (outcome c) ≡ true → is_none c.proposal ≡ true → c.help.waiting ≡ true
    pub acked : 2 ≤ phase c → i ≤ f → (k : ℕ) → 1 ≤ k → k ≤ n → (i ≡ k → ⊥) → has l.ack.to k ≡ true

  pub record Listening (i : ℕ) (c : Controller) (l : Sent) (log : List Event) : Type 0 where
    pub came : Came i c log
    pub stands : Stands i c l
    pub short : c.help.waiting ≡ true → Short c

  -- what a rule's answer owes at an event e of controller i, but for the count
  pub record Nearly (e : Event) (i : ℕ) (c : Controller) (l : Sent) (a : Answer) : Type 0 where
    pub forth : Forth c a.controller
    pub adds : Adds i a.controller e
    pub stands : Stands i a.controller (sent_after l a.sends)

  -- and with it
  pub record Follows (e : Event) (i : ℕ) (c : Controller) (l : Sent) (a : Answer) : Type 0 where
    pub nearly : Nearly e i c l a
    pub short : a.controller.help.waiting ≡ true → Short a.controller

  pub listening-on : (e : Event) (i : ℕ) (c : Controller) (l : Sent) (a : Answer) (log : List Event) → Listening i c l log → Follows e i c l a
      → Listening i a.controller (sent_after l a.sends) (e ∷ log)
  listening-on e i c l a log h t = record {
    came = came-more i a.controller e log (came-on i c a.controller log h.came t.nearly.forth) t.nearly.adds;
    stands = t.nearly.stands;
    short = t.short;
  }

  pub listening-other : (e : Event) (i : ℕ) (c : Controller) (l : Sent) (log : List Event) → (subject e ≡ i → ⊥) → Listening i c l log → Listening i c l (e ∷ log)
  listening-other e i c l log d h = record { came = came-more i c e log h.came (adds_none i c e d); stands = h.stands; short = h.short }
