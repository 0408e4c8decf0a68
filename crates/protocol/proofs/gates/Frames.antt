-- What each rule leaves alone: the vote sent, an outcome once held, the position but for a new Move of a running gate. By the cases of each rule
-- (view/RuleCases).
use Prim.Native.Nat.{ℕ}
use mathlib.Core.Path.{◌≡◌, refl, sym, ◌∙◌, ap, subst}
use mathlib.Core.Bool.{Bool, true, false, not, ◌&&◌, true≢false, false≢true}
use lib.Dec.{eqb}
use mathlib.Core.Logic.{◌⊎◌, inl, inr}
use Rattle.ground.specs.Tests.{by_cond, and_l, and_r}
use Rattle.votes.specs.Joining.{unanimous_in}
use Rattle.votes.specs.declared.VoteSet.{VoteSet}
use Rattle.model.specs.Ranges.{is_backup}
use Rattle.model.specs.Numbers.{word_of, is_none, says_move}
use Rattle.model.specs.declared.Kind.{Kind}
use Rattle.model.specs.declared.Outcome.{Outcome}
use Rattle.model.specs.declared.Outcome.TheVariants.{None, Stay, Move}
use Rattle.protocol.specs.declared.Condition.{Condition}
use Rattle.protocol.specs.declared.Condition.TheVariants.{Running, Stopped, Standby}
use Rattle.protocol.specs.declared.Gate.{Gate}
use Rattle.protocol.specs.declared.Controller.{Controller}
use Rattle.protocol.specs.declared.Answer.{Answer}
use Rattle.protocol.specs.declared.Sent.{Sent}
use Rattle.protocol.specs.Controllers.{is_running, outcome_in, runs, phase, outcome, has_ack, cleared, advance, learn, aim, keep_ack, keep_helped, freeze, add_caller, await, propose, or_else, noting, conclude}
use Rattle.protocol.specs.Rules.{answers_call, passing_over, becomes, proposing, verdict, vote_rule, count_own, first_timeout, ack_join, propose_if_sufficient, frozen, ready, calls_help, second_timeout, help_votes}
use Rattle.protocol.specs.declared.Identity.{Identity}
use Rattle.protocol.specs.Calls.{arrives}
use Rattle.protocol.specs.Events.{restore_from}
use Rattle.protocol.specs.Benches.{sent_after}
use Rattle.protocol.proofs.view.RuleCases.{sufficient_cases, second_cases, restore_cases, arrives_cases}
use Rattle.protocol.proofs.view.Performed.{timeout_rule}
use Rattle.protocol.proofs.invariant.Words.{some_word}
use Rattle.std.specs.Prelude.{Option}
use Rattle.model.specs.declared.Checkpoint.{Checkpoint}

-- it has an outcome, or does not run
abbrev TakenIn : Condition → Type 0
TakenIn k = is_running k ≡ true → is_none (outcome_in k) ≡ false

abbrev pub Taken : Controller → Type 0
Taken c = TakenIn c.condition

-- a running controller without outcome got one
pub record Moved (c c' : Controller) : Type 0 where
  pub ran : runs c ≡ true
  pub free : is_none (outcome c) ≡ true
  pub taken : Taken c'

pub record Framed (c : Controller) (l : Sent) (a : Answer) : Type 0 where
  pub vote : (sent_after l a.sends).vote ≡ l.vote
  pub taken : Taken c → Taken a.controller
  pub gate : (a.controller.gate.position ≡ c.gate.position) ⊎ Moved c a.controller

-- keeping an acknowledgement touches neither the condition nor the position
pub record Steady (c c' : Controller) : Type 0 where
  pub condition : c'.condition ≡ c.condition
  pub position : c'.gate.position ≡ c.gate.position

own_steady : (f i : ℕ) (c : Controller) → Steady c (count_own f i c)
unfolding count_own keep_ack
own_steady f i c = by_cond (Steady c) (is_backup f i && not (has_ack c i)) (keep_ack c i c.votes) c (λ e. record { condition = refl; position = refl }) (λ e. record { condition = refl; position = refl })

becomes_framed : (c c' : Controller) (l : Sent) → (Taken c → Taken c') → (c'.gate.position ≡ c.gate.position) ⊎ Moved c c' → Framed c l (becomes c')
unfolding becomes sent_after
becomes_framed c c' l h g = record { vote = refl; taken = h; gate = g }

passed-over_framed : (c : Controller) (l : Sent) → Framed c l (passing_over c)
unfolding passing_over sent_after
passed-over_framed c l = record { vote = refl; taken = λ h. h; gate = inl refl }

move_taken : (o : Outcome) → says_move o ≡ true → is_none o ≡ false
move_taken None e = absurd (false≢true e)
move_taken Stay e = refl
move_taken Move e = refl

or_else_some : (o x : Outcome) → is_none x ≡ false → is_none (or_else o x) ≡ false
or_else_some None x e = e
or_else_some Stay x e = refl
or_else_some Move x e = refl

noting-taken : (k : Condition) (o : Outcome) → is_none o ≡ false → TakenIn (noting k o)
noting-taken (Running p) o e r = or_else_some p.outcome o e
noting-taken Stopped o e r = absurd (false≢true r)
noting-taken (Standby x) o e r = absurd (false≢true r)

-- an outcome taken: the position changes only where a running gate without outcome takes Move
pub conclude-taken : (c : Controller) (w : Bool) → Taken (conclude c (word_of w))
unfolding conclude
conclude-taken c w = noting-taken c.condition (word_of w) (some_word w)

conclude-gate : (c : Controller) (o : Outcome) → ((conclude c o).gate.position ≡ c.gate.position) ⊎ Moved c (conclude c o)
unfolding conclude
conclude-gate c o = by_cond (λ (p : ℕ). (p ≡ c.gate.position) ⊎ Moved c (conclude c o)) (runs c && is_none (outcome c) && says_move o) c.gate.target c.gate.position
    (λ e. inr (record { ran = search (and_l, and_r); free = search (and_l, and_r); taken = taken_by (search (and_l, and_r)) })) (λ e. inl refl)
  where
    taken_by : says_move o ≡ true → Taken (conclude c o)
    taken_by m = unfold conclude in noting-taken c.condition o (move_taken o m)

pub decide_framed : (w : Bool) (c : Controller) (l : Sent) → Framed c l (becomes (conclude c (word_of w)))
decide_framed w c l = becomes_framed c _ l (λ h. conclude-taken c w) (conclude-gate c (word_of w))

pub cleared_framed : (k : Condition) (c : Controller) (l : Sent) → is_running k ≡ false → Framed c l (becomes (cleared k c))
unfolding cleared
cleared_framed k c l e = becomes_framed c _ l (λ h r. absurd (true≢false (sym r ∙ e))) (inl refl)

pub restore_framed : (me : Identity) (s : Option Checkpoint) (c : Controller) (l : Sent) → Framed c l (restore_from me s c)
restore_framed me s c l = restore_cases (Framed c l) me s c (λ x q e. cleared_framed (Standby _) c l refl) (passed-over_framed c l)

-- a restore leaves the position, also of one that does not run
pub record Still (c : Controller) (a : Answer) : Type 0 where
  pub position : a.controller.gate.position ≡ c.gate.position

pub restore-position : (me : Identity) (s : Option Checkpoint) (c : Controller) → Still c (restore_from me s c)
unfolding passing_over becomes cleared
restore-position me s c = restore_cases (Still c) me s c (λ x q e. record { position = refl }) (record { position = refl })

module _ (n f : ℕ) where
  settle_framed : (c : Controller) (l : Sent) (a : Answer) → Framed c l a → Framed c l (propose_if_sufficient n f a)
  unfolding proposing propose sent_after
  settle_framed c l a h = sufficient_cases (Framed c l) n f a
      (λ e. record { vote = h.vote; taken = h.taken; gate = elim h.gate [ inl p ↦ inl p | inr m ↦ inr (record { ran = m.ran; free = m.free; taken = m.taken }) ] }) (λ e. h)

  pub arrives_framed : (kind : Kind) (j : ℕ) (s : VoteSet) (c : Controller) (l : Sent) → Framed c l (arrives kind n f j s c)
  arrives_framed kind j s c l = arrives_cases (Framed c l) n f kind j s c (λ c' q. becomes_framed c c' l (subst TakenIn (sym q.condition)) (inl (ap (λ (g : Gate). g.position) q.gate))) (settle_framed c l)
      (λ z p q. unfold answers_call add_caller sent_after in record { vote = refl; taken = λ h. h; gate = inl refl }) (passed-over_framed c l)

  first_framed : (i : ℕ) (c : Controller) (l : Sent) → runs c ≡ true → Framed c l (first_timeout n f i c)
  unfolding first_timeout advance sent_after
  first_framed i c l q = record { vote = refl; taken = λ h r. ap (λ (k : Condition). is_none (outcome_in k)) (own_steady f i c).condition ∙ h q; gate = inl (own_steady f i c).position }

  second_framed : (i : ℕ) (c : Controller) (l : Sent) → runs c ≡ true → Framed c l (second_timeout n f i c)
  second_framed i c l q = second_cases (Framed c l) n f i c (λ d. direct) (λ e. put) (λ e. settle_framed c l _ waits)
    where
      direct : Framed c l (ready (help_votes n c) (conclude (frozen n c) (verdict n (ack_join n c))))
      direct = unfold ready verdict sent_after in record { vote = refl; taken = λ h. conclude-taken (frozen n c) (unanimous_in n (ack_join n c)); gate = gate (conclude-gate (frozen n c) (word_of (unanimous_in n (ack_join n c)))) }
        where
          gate : ((conclude (frozen n c) (word_of (unanimous_in n (ack_join n c)))).gate.position ≡ (frozen n c).gate.position) ⊎ Moved (frozen n c) (conclude (frozen n c) (word_of (unanimous_in n (ack_join n c)))) → ((conclude (frozen n c) (word_of (unanimous_in n (ack_join n c)))).gate.position ≡ c.gate.position) ⊎ Moved c (conclude (frozen n c) (word_of (unanimous_in n (ack_join n c))))
          gate (inl p) = unfold frozen freeze advance in inl p
          gate (inr m) = unfold frozen freeze advance in inr (record { ran = q; free = m.free; taken = m.taken })

      put : Framed c l (proposing (ready (help_votes n c) (frozen n c)) (verdict n (ack_join n c)))
      put = unfold proposing ready propose frozen freeze advance sent_after in record { vote = refl; taken = λ h r. h q; gate = inl refl }

      waits : Framed c l (calls_help n f i (help_votes n c) (frozen n c))
      waits = unfold calls_help keep_helped await frozen freeze advance sent_after in record { vote = refl; taken = λ h r. h q; gate = inl refl }

  pub timeout_framed : (i : ℕ) (c : Controller) (l : Sent) → runs c ≡ true → Framed c l (timeout_rule n f i c)
  unfolding timeout_rule
  timeout_framed i c l q = by_cond (Framed c l) (eqb (phase c) 1) _ _ (λ e. first_framed i c l q) (λ e. second_framed i c l q)

-- the vote: it touches neither outcome nor position
pub record VoteFramed (c : Controller) (a : Answer) : Type 0 where
  pub taken : Taken c → Taken a.controller
  pub gate : a.controller.gate.position ≡ c.gate.position

pub vote_framed : (n f i : ℕ) (w : Bool) (t : ℕ) (c : Controller) → runs c ≡ true → VoteFramed c (vote_rule n f i w t c)
unfolding vote_rule advance aim learn
vote_framed n f i w t c q = record { taken = λ h r. h q; gate = refl }
