-- The cases of each rule, once: what holds of every answer that a rule may give, with the tests on the way to it, holds of the rule's answer.
use Prim.Native.Nat.{ℕ, ◌≤◌}
use mathlib.Core.Path.{◌≡◌, refl}
use mathlib.Core.Bool.{true, false, cond, not, ◌&&◌, ◌||◌}
use lib.Dec.{leb, eqb, ltb}
use borrow.Author.Tests.{leb-true, leb-false, eqb-true, not-true}
use Rattle.ground.specs.Tests.{by_cond, and_l, and_r}
use Rattle.votes.specs.declared.VoteSet.{VoteSet}
use Rattle.model.specs.declared.Kind.{Kind}
use Rattle.model.specs.declared.Kind.TheVariants.{Vote, Ack, Help, Helped}
use Rattle.model.specs.declared.Outcome.TheVariants.{None}
use Rattle.model.specs.declared.Checkpoint.{Checkpoint}
use Rattle.protocol.specs.declared.Condition.TheVariants.{Standby}
use Rattle.protocol.specs.declared.Controller.{Controller}
use Rattle.protocol.specs.declared.Answer.{Answer}
use Rattle.protocol.specs.declared.Identity.{Identity}
use Rattle.protocol.specs.Controllers.{is_stopped, cleared, phase, has_ack, has_helped, has_called, learn, keep_ack, keep_helped, add_caller, conclude}
use Rattle.protocol.specs.Rules.{passing_over, becomes, proposing, verdict, vote_arrives, first_timeout, ack_join, decides, sufficient, answers_join, propose_if_sufficient, help_votes, frozen, ready, calls_help, second_timeout, ack_arrives, helped_arrives, keeps_call, answers_call, help_arrives}
use Rattle.protocol.specs.Calls.{arrives, restore}
use Rattle.protocol.specs.Events.{restore_from}
use Rattle.protocol.proofs.view.Performed.{timeout_rule}
use Rattle.std.specs.Prelude.{Option, Some, None}

module _ (P : Answer → Type 0) where
  -- a vote arrives in time, or late
  pub vote_cases : (s : VoteSet) (c : Controller) → (phase c ≤ 1 → P (becomes (learn c s))) → P (passing_over c) → P (vote_arrives s c)
  unfolding vote_arrives
  vote_cases s c taken late = by_cond P (leb (phase c) 1) _ _ (λ e. taken (leb-true _ _ e)) (λ e. late)

  -- a help call is kept, or answered, or passed over
  pub help_cases : (j : ℕ) (c : Controller) → (phase c ≤ 2 → P (keeps_call j c)) → (3 ≤ phase c → has_called c j ≡ false → P (answers_call j c)) → (has_called c j ≡ true → P (passing_over c)) → P (help_arrives j c)
  unfolding help_arrives
  help_cases j c early late again = by_cond P (has_called c j) _ _ again
      (λ q. by_cond P (leb (phase c) 2) _ _ (λ e. early (leb-true _ _ e)) (λ e. late (leb-false _ _ e) q))

  -- a checkpoint is used by a stopped controller alone
  pub restore_cases : (me : Identity) (s : Option Checkpoint) (c : Controller) → ((x : Checkpoint) → s ≡ Some x → is_stopped c.condition ≡ true → P (becomes (cleared (Standby (cond (eqb x.order me.order) x.outcome None)) c)))
      → P (passing_over c) → P (restore_from me s c)
  unfolding restore_from restore
  restore_cases me None c taken none = none
  restore_cases me (Some x) c taken none = by_cond P (is_stopped c.condition) _ _ (taken x (λ i. Some x)) (λ e. none)

  module _ (n f : ℕ) where
    -- the counts suffice, and a word is put; or not
    pub sufficient_cases : (a : Answer) → (sufficient n f a.controller ≡ true → P (proposing a (verdict n (answers_join n a.controller)))) → (sufficient n f a.controller ≡ false → P a) → P (propose_if_sufficient n f a)
    unfolding propose_if_sufficient
    sufficient_cases a puts not_yet = by_cond P (sufficient n f a.controller) _ _ puts not_yet

    -- an acknowledgement is kept, or passed over
    pub ack_cases : (j : ℕ) (s : VoteSet) (c : Controller) → (has_ack c j ≡ false → P (propose_if_sufficient n f (becomes (keep_ack c j s))))
        → ((not (has_ack c j) && (leb (phase c) 2 || c.help.waiting)) ≡ false → P (passing_over c)) → P (ack_arrives n f j s c)
    unfolding ack_arrives
    ack_cases j s c taken late = by_cond P (not (has_ack c j) && (leb (phase c) 2 || c.help.waiting)) _ _ (λ e. taken (not-true _ (and_l (not (has_ack c j)) _ e))) late

    -- a help answer is counted, or passed over
    pub helped_cases : (j : ℕ) (s : VoteSet) (c : Controller) → (has_helped c j ≡ false → c.help.waiting ≡ true → P (propose_if_sufficient n f (becomes (keep_helped c j s))))
        → ((not (has_helped c j) && c.help.waiting) ≡ false → P (passing_over c)) → P (helped_arrives n f j s c)
    unfolding helped_arrives
    helped_cases j s c taken late = by_cond P (not (has_helped c j) && c.help.waiting) _ _
        (λ e. taken (not-true _ (and_l (not (has_helped c j)) _ e)) (and_r (not (has_helped c j)) _ e)) late

    -- the second timeout decides, puts a word, or waits
    pub second_cases : (i : ℕ) (c : Controller) → (decides n f i c ≡ true → P (ready (help_votes n c) (conclude (frozen n c) (verdict n (ack_join n c)))))
        → (ltb 0 c.acks.cnt.0 ≡ true → P (proposing (ready (help_votes n c) (frozen n c)) (verdict n (ack_join n c))))
        → (ltb 0 c.acks.cnt.0 ≡ false → P (propose_if_sufficient n f (calls_help n f i (help_votes n c) (frozen n c))))
        → P (second_timeout n f i c)
    unfolding second_timeout
    second_cases i c direct puts waits = by_cond P (decides n f i c) _ _ direct (λ d. by_cond P (ltb 0 c.acks.cnt.0) _ _ puts waits)

    -- the first timeout, or the second
    pub timeout_cases : (i : ℕ) (c : Controller) → (phase c ≡ 1 → P (first_timeout n f i c)) → (eqb (phase c) 1 ≡ false → P (second_timeout n f i c)) → P (timeout_rule n f i c)
    unfolding timeout_rule
    timeout_cases i c first later = by_cond P (eqb (phase c) 1) _ _ (λ e. first (eqb-true _ _ e)) later

-- A message that is kept, as a vote, an acknowledgement, a help call or an answer, leaves the condition, the gate, the word put and the help vote set.
pub record Same (c c' : Controller) : Type 0 where
  pub condition : c'.condition ≡ c.condition
  pub gate : c'.gate ≡ c.gate
  pub proposal : c'.proposal ≡ c.proposal
  pub frozen : c'.help.votes ≡ c.help.votes

pub ack-same : (c : Controller) (j : ℕ) (s : VoteSet) → Same c (keep_ack c j s)
unfolding keep_ack
ack-same c j s = record { condition = refl; gate = refl; proposal = refl; frozen = refl }

pub caller-same : (c : Controller) (j : ℕ) → Same c (add_caller c j)
unfolding add_caller
caller-same c j = record { condition = refl; gate = refl; proposal = refl; frozen = refl }

-- So, for what looks at no more: a message of any kind is kept, and a word may be put then; or it is a help call that is answered; or it is passed over.
pub arrives_cases : (P : Answer → Type 0) (n f : ℕ) (kind : Kind) (j : ℕ) (s : VoteSet) (c : Controller) → ((c' : Controller) → Same c c' → P (becomes c')) → ((a : Answer) → P a → P (propose_if_sufficient n f a))
    → (kind ≡ Help → 3 ≤ phase c → has_called c j ≡ false → P (answers_call j c)) → P (passing_over c) → P (arrives kind n f j s c)
unfolding arrives learn keep_helped
arrives_cases P n f Vote j s c keeps puts answers passes = vote_cases P s c (λ q. keeps (learn c s) (record { condition = refl; gate = refl; proposal = refl; frozen = refl })) passes
arrives_cases P n f Ack j s c keeps puts answers passes = ack_cases P n f j s c (λ q. puts _ (keeps (keep_ack c j s) (ack-same c j s))) (λ q. passes)
arrives_cases P n f Help j s c keeps puts answers passes = help_cases P j c (λ q. unfold keeps_call in keeps (add_caller c j) (caller-same c j)) (answers refl) (λ q. passes)
arrives_cases P n f Helped j s c keeps puts answers passes = helped_cases P n f j s c (λ p q. puts _ (keeps (keep_helped c j s) (record { condition = refl; gate = refl; proposal = refl; frozen = refl }))) (λ q. passes)
