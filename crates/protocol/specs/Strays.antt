-- STRAY MESSAGES, off the bench too. Document 02, U7: "A controller that meets a contradiction among its own sheet, acknowledgements and help answers takes
-- the telegram as not received, also one already held that its own vote contradicts. One that is passed over anyway, as a sender's second acknowledgement or
-- answer, is not tested." Said of every controller and every message; what comes of it through a list of calls is in Alone. `stray_messages` in src/lib.rt has
-- it as its contract.
use Rattle.std.specs.Prelude.{ℕ, ◌≤◌, ◌≡◌, Bool, true, false, ◌&&◌, eqb}
use Rattle.ground.specs.Quantify.{count_to}
use Rattle.votes.specs.VoteSets.{knows, wills, single}
use Rattle.votes.specs.Joining.{contradicts}
use Rattle.votes.specs.declared.VoteSet.{VoteSet}
use Rattle.model.specs.Routes.{route}
use Rattle.model.specs.declared.Kind.TheVariants.{Ack}
use Rattle.model.specs.declared.Outcome.TheVariants.{None}
use Rattle.model.specs.declared.Message.{Message}
use Rattle.message_record.specs.Messages.{suits}
use Rattle.protocol.specs.declared.Identity.{Identity}
use Rattle.protocol.specs.declared.Controller.{Controller}
use Rattle.protocol.specs.declared.Answer.{Answer}
use Rattle.protocol.specs.Controllers.{runs, phase, has_ack, ack_of}
use Rattle.protocol.specs.Rules.{nothing, reception_number, is_taken, passing_over}
use Rattle.protocol.specs.Calls.{valid_identity, vote, arrives, receive}

-- a vote set contradicts one that is held: the own vote set, the join of the help answers, or an acknowledgement
pub data OneHeld (n : ℕ) (c : Controller) (s : VoteSet) : Type 0 where
  own : contradicts c.votes s ≡ true → OneHeld n c s
  answers : contradicts c.helped.votes s ≡ true → OneHeld n c s
  ack : (j : ℕ) → 1 ≤ j → j ≤ n → has_ack c j ≡ true → contradicts (ack_of c j) s ≡ true → OneHeld n c s

-- a message that comes to a running controller of a lock, in an order: of this order, n and f, meant for it; its sender a controller of the lock that may send it
-- (question 10, "May the kind travel so, by the rules above?"), and its vote set one that reading lets through (question 9)
pub record Comes (me : Identity) (m : Message) (c : Controller) : Type 0 where
  pub valid : valid_identity me ≡ true
  pub running : runs c ≡ true
  pub order : m.order ≡ me.order
  pub n : m.n ≡ me.n
  pub f : m.f ≡ me.f
  pub to : m.to ≡ me.id
  pub from_low : 1 ≤ m.from
  pub from-high : m.from ≤ me.n
  pub travels : route me.f m.kind m.from me.id ≡ true
  pub suited : suits m ≡ true

-- document 01's rule for it, without the test
abbrev pub untested : Identity → Message → Controller → Answer
untested me m c = arrives m.kind me.n me.f m.from m.votes c

-- the controller may vote: it is a controller of a lock, in an order, that runs at stage 0
abbrev pub MayVote : Identity → Controller → Type 0
MayVote me c = (valid_identity me && runs c && eqb (phase c) 0) ≡ true

pub record Strays : Type 0 where
  -- "a controller passes over any of another order, n or f, or meant for another controller" (document 01)
  pub another-order : (me : Identity) (m : Message) (c : Controller) → (m.order ≡ me.order → ⊥) → receive me m c ≡ passing_over c
  pub another-n : (me : Identity) (m : Message) (c : Controller) → (m.n ≡ me.n → ⊥) → receive me m c ≡ passing_over c
  pub another-f : (me : Identity) (m : Message) (c : Controller) → (m.f ≡ me.f → ⊥) → receive me m c ≡ passing_over c
  pub another_receiver : (me : Identity) (m : Message) (c : Controller) → (m.to ≡ me.id → ⊥) → receive me m c ≡ passing_over c
  -- and whatever else does not come: also any that may not travel so, or whose vote set does not suit its kind
  pub not_coming : (me : Identity) (m : Message) (c : Controller) → (Comes me m c → ⊥) → receive me m c ≡ passing_over c
  -- "Refused by the controller: 24, a delivered sheet that contradicts one held": where it would be taken, and contradicts one
  pub refused : (me : Identity) (m : Message) (c : Controller) → Comes me m c → is_taken (untested me m c).reception ≡ true → OneHeld me.n c m.votes
      → reception_number (receive me m c).reception ≡ 24
  -- "last of all questions": 24 comes of nothing else
  pub refused_only : (me : Identity) (m : Message) (c : Controller) → reception_number (receive me m c).reception ≡ 24
      → Comes me m c × (is_taken (untested me m c).reception ≡ true) × OneHeld me.n c m.votes
  -- any other that comes is received as ever
  pub received : (me : Identity) (m : Message) (c : Controller) → Comes me m c → (OneHeld me.n c m.votes → ⊥) → receive me m c ≡ untested me m c
  -- "One that is passed over anyway, as a sender's second acknowledgement or answer, is not tested."
  pub passed_over : (me : Identity) (m : Message) (c : Controller) → Comes me m c → is_taken (untested me m c).reception ≡ false → receive me m c ≡ passing_over c
  -- "takes the telegram as not received": 24 changes nothing, sends nothing and puts no word
  pub unchanged : (me : Identity) (m : Message) (c : Controller) → reception_number (receive me m c).reception ≡ 24
      → ((receive me m c).controller ≡ c) × ((receive me m c).sends ≡ nothing) × ((receive me m c).proposal ≡ None)
  -- no message changes what a controller's own vote set says of that controller: only its own vote does
  pub own-word : (me : Identity) (m : Message) (c : Controller)
      → (knows (receive me m c).controller.votes me.id ≡ knows c.votes me.id) × (wills (receive me m c).controller.votes me.id ≡ wills c.votes me.id)
  -- the own vote is answered 0
  pub voted : (me : Identity) (w : Bool) (t : ℕ) (c : Controller) → reception_number (vote me w t c).reception ≡ 0
  -- "also one already held that its own vote contradicts": it drops these, and no others
  pub dropped : (me : Identity) (w : Bool) (t : ℕ) (c : Controller) (j : ℕ) → MayVote me c → 1 ≤ j → j ≤ me.n
      → contradicts (ack_of c j) (single me.id w) ≡ true → has_ack (vote me w t c).controller j ≡ false
  pub kept : (me : Identity) (w : Bool) (t : ℕ) (c : Controller) (j : ℕ) → MayVote me c → 1 ≤ j → j ≤ me.n
      → contradicts (ack_of c j) (single me.id w) ≡ false
      → (has_ack (vote me w t c).controller j ≡ has_ack c j) × (ack_of (vote me w t c).controller j ≡ ack_of c j)
  -- "as not received": it no longer counts; the count is the number of those still held, if it was before
  pub counted : (me : Identity) (w : Bool) (t : ℕ) (c : Controller) → c.acks.cnt.0 ≡ count_to me.n (has_ack c)
      → (vote me w t c).controller.acks.cnt.0 ≡ count_to me.n (has_ack (vote me w t c).controller)
  -- and an acknowledgement of its sender may be received again: the rule would take it
  pub again : (me : Identity) (w : Bool) (t : ℕ) (c : Controller) (m : Message) → MayVote me c → contradicts (ack_of c m.from) (single me.id w) ≡ true
      → m.kind ≡ Ack → Comes me m (vote me w t c).controller → is_taken (untested me m (vote me w t c).controller).reception ≡ true
