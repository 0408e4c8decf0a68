-- The invariant of one order, in parts, each over what it looks at: what was sent, what each controller holds of it, and the grounds of every word put
-- and every outcome. Definitions alone: that the rules keep them is shown in the files beside this.
use Prim.Native.Nat.{ℕ, suc, ◌≤◌, ◌<◌}
use mathlib.Core.Path.{◌≡◌}
use mathlib.Core.Bool.{Bool, true, false, cond}
use lib.ListN.{length}
use mathlib.Core.Logic.{◌⊎◌}
use Rattle.ground.specs.Quantify.{count_to}
use Rattle.ground.specs.Mask.{has}
use Rattle.votes.specs.VoteSets.{knows, wills, unanimous}
use Rattle.votes.specs.declared.VoteSet.{VoteSet}
use Rattle.model.specs.Numbers.{word_of}
use Rattle.model.specs.Routes.{vote_route, ack_route}
use Rattle.model.specs.declared.Outcome.{Outcome}
use Rattle.model.specs.declared.Outcome.TheVariants.{None}
use Rattle.protocol.specs.declared.Condition.{Condition}
use Rattle.protocol.specs.declared.Acks.{Acks}
use Rattle.protocol.specs.declared.HelpAnswers.{HelpAnswers}
use Rattle.protocol.specs.declared.HelpState.{HelpState}
use Rattle.protocol.specs.declared.Controller.{Controller}
use Rattle.protocol.specs.declared.Sent.{Sent}
use Rattle.protocol.specs.Controllers.{is_running, phase_in, outcome_in, outcome, has_ack, ack_of, has_helped, has_called}
use Rattle.protocol.proofs.view.View.{View, saved_order, saved_outcome}

-- what controller i has sent: has it voted, and willingly; is its acknowledgement frozen, its help vote set; each vote set knows its sender
abbrev pub voted_by : ℕ → Sent → Bool
voted_by i l = knows l.vote.votes i

abbrev pub will_by : ℕ → Sent → Bool
will_by i l = wills l.vote.votes i

abbrev pub ack_on : Sent → VoteSet
ack_on l = l.ack.votes

abbrev pub acked_by : ℕ → Sent → Bool
acked_by i l = knows l.ack.votes i

abbrev pub help_on : Sent → VoteSet
help_on l = l.helped.votes

abbrev pub frozen_by : ℕ → Sent → Bool
frozen_by i l = knows l.helped.votes i

-- each vote on a vote set is the vote accepted; willing lies within known
pub record Truthful (L : ℕ → Sent) (s : VoteSet) : Type 0 where
  pub cast : (k : ℕ) → knows s k ≡ true → voted_by k (L k) ≡ true
  pub true-to : (k : ℕ) → knows s k ≡ true → wills s k ≡ will_by k (L k)
  pub within : (k : ℕ) → wills s k ≡ true → knows s k ≡ true

-- what one controller has sent
pub record SentSound (f : ℕ) (L : ℕ → Sent) (i : ℕ) (l : Sent) : Type 0 where
  pub ack_ok : acked_by i l ≡ true → Truthful L (ack_on l)
  pub help_ok : frozen_by i l ≡ true → Truthful L (help_on l)
  pub ack_in-help : acked_by i l ≡ true → frozen_by i l ≡ true → (k : ℕ) → knows (ack_on l) k ≡ true → knows (help_on l) k ≡ true
  pub vote-to : (j : ℕ) → has l.vote.to j ≡ true → (voted_by i l ≡ true) × (vote_route f i j ≡ true)
  pub ack-to : (j : ℕ) → has l.ack.to j ≡ true → (acked_by i l ≡ true) × (ack_route f i j ≡ true)
  pub help-to : (j : ℕ) → has l.help.to j ≡ true → frozen_by i l ≡ true
  pub helped-to : (j : ℕ) → has l.helped.to j ≡ true → frozen_by i l ≡ true
  pub vote-within : (k : ℕ) → wills l.vote.votes k ≡ true → knows l.vote.votes k ≡ true
  pub vote_only : (k : ℕ) → knows l.vote.votes k ≡ true → k ≡ i

-- what is once sent stays
pub record Grown (i : ℕ) (l l' : Sent) : Type 0 where
  pub voted : voted_by i l ≡ true → voted_by i l' ≡ true
  pub will : voted_by i l ≡ true → will_by i l' ≡ will_by i l
  pub acked : acked_by i l ≡ true → acked_by i l' ≡ true
  pub ack : acked_by i l ≡ true → ack_on l' ≡ ack_on l
  pub helped : frozen_by i l ≡ true → frozen_by i l' ≡ true
  pub help : frozen_by i l ≡ true → help_on l' ≡ help_on l
  pub calls : (j : ℕ) → has l.help.to j ≡ true → has l'.help.to j ≡ true

abbrev pub Grows : (ℕ → Sent) → (ℕ → Sent) → Type 0
Grows L L' = (k : ℕ) → Grown k (L k) (L' k)

module _ (n f : ℕ) where
  abbrev pub AllWilling : (ℕ → Sent) → Type 0
  AllWilling L = (k : ℕ) → 1 ≤ k → k ≤ n → (voted_by k (L k) ≡ true) × (will_by k (L k) ≡ true)

  pub record Unwilling (L : ℕ → Sent) : Type 0 where
    pub at : ℕ
    pub low : 1 ≤ at
    pub high : at ≤ n
    pub voted : voted_by at (L at) ≡ true
    pub unwilling : will_by at (L at) ≡ false

  -- the grounds of a direct decision of Move: every backup's acknowledgement has the word Move,
  -- and a help vote set beyond the backups has it too, or the second backup's acknowledgement knows all backups
  pub record HelpMove (L : ℕ → Sent) : Type 0 where
    pub at : ℕ
    pub low : f < at
    pub high : at ≤ n
    pub helped : frozen_by at (L at) ≡ true
    pub moves : unanimous n (help_on (L at)) ≡ true

  pub record SecondAck (L : ℕ → Sent) : Type 0 where
    pub acked : acked_by (suc f) (L (suc f)) ≡ true
    pub knows : (k : ℕ) → 1 ≤ k → k ≤ f → knows (ack_on (L (suc f))) k ≡ true

  pub record DirectMove (L : ℕ → Sent) : Type 0 where
    pub acks : (j : ℕ) → 1 ≤ j → j ≤ f → (acked_by j (L j) ≡ true) × (unanimous n (ack_on (L j)) ≡ true)
    pub more : HelpMove L ⊎ SecondAck L

  -- the grounds of a Stay put to the arbiter: a backup's acknowledgement with the word Stay,
  -- or all help vote sets beyond the backups, with one vote willing on none of them
  pub record AckStay (L : ℕ → Sent) : Type 0 where
    pub at : ℕ
    pub low : 1 ≤ at
    pub high : at ≤ f
    pub acked : acked_by at (L at) ≡ true
    pub stays : unanimous n (ack_on (L at)) ≡ false

  pub record HelpStay (L : ℕ → Sent) : Type 0 where
    pub at : ℕ
    pub low : 1 ≤ at
    pub high : at ≤ n
    pub helped : (j : ℕ) → f < j → j ≤ n → frozen_by j (L j) ≡ true
    pub lacks : (j : ℕ) → f < j → j ≤ n → wills (help_on (L j)) at ≡ false

  abbrev pub StayGrounds : (ℕ → Sent) → Type 0
  StayGrounds L = AckStay L ⊎ HelpStay L

  -- the grounds of an outcome
  abbrev pub OutcomeGrounds : (ℕ → Sent) → Outcome → Bool → Type 0
  OutcomeGrounds L ch true = AllWilling L × (DirectMove L ⊎ (ch ≡ word_of true))
  OutcomeGrounds L ch false = Unwilling L ⊎ (ch ≡ word_of false)

  -- A controller and what itself has sent, by parts, each over what it looks at: a change that leaves these alone leaves the part as it is.
  -- its phase and its own vote set
  pub record Phased (i : ℕ) (k : Condition) (s : VoteSet) (l : Sent) : Type 0 where
    pub fresh0 : is_running k ≡ true → phase_in k ≡ 0 → voted_by i l ≡ false
    pub fresh1 : is_running k ≡ true → phase_in k ≤ 1 → acked_by i l ≡ false
    pub fresh2 : is_running k ≡ true → phase_in k ≤ 2 → frozen_by i l ≡ false
    pub undecided : is_running k ≡ true → phase_in k ≤ 2 → outcome_in k ≡ None
    pub own : 1 ≤ phase_in k → knows s i ≡ true
    pub same : 2 ≤ phase_in k → acked_by i l ≡ true → (j : ℕ) → knows (ack_on l) j ≡ true → knows s j ≡ true
    pub late : 3 ≤ phase_in k → frozen_by i l ≡ true

  -- its help: only one beyond the backups waits, and none before the second timeout; from then on those who have called are those who were answered
  pub record Helping (i : ℕ) (k : Condition) (h : HelpState) (from : ℕ) (l : Sent) : Type 0 where
    pub help-copy : 3 ≤ phase_in k → h.votes ≡ help_on l
    pub answered : 3 ≤ phase_in k → (j : ℕ) → has l.helped.to j ≡ has h.callers j
    pub waiter : h.waiting ≡ true → f < i
    pub idle : phase_in k ≤ 2 → h.waiting ≡ false
    pub early : phase_in k ≤ 2 → from ≡ 0

  -- its two counters count the senders; the array has a place for each
  pub record Counted (i : ℕ) (k : Condition) (a : Acks) (h : HelpAnswers) : Type 0 where
    pub own-ack : 2 ≤ phase_in k → i ≤ f → has a.from i ≡ true
    pub ack-count : a.cnt.0 ≡ count_to n (has a.from)
    pub help-count : h.cnt_help.0 ≡ count_to n (has h.from)
    pub room : 1 ≤ i → i ≤ n → n ≤ length a.sets

  pub record Own (i : ℕ) (c : Controller) (l : Sent) : Type 0 where
    pub phased : Phased i c.condition c.votes l
    pub helping : Helping i c.condition c.help c.helped.from l
    pub counted : Counted i c.condition c.acks c.helped

  -- an acknowledgement held is a copy of the one sent, and for one beyond the backups it is a backup's
  pub record HeldAck (L : ℕ → Sent) (i : ℕ) (s : VoteSet) (j : ℕ) : Type 0 where
    pub acked : acked_by j (L j) ≡ true
    pub copy : s ≡ ack_on (L j)
    pub backup : f < i → j ≤ f

  -- a help answer held is on the join
  pub record HeldHelp (L : ℕ → Sent) (s : VoteSet) (j : ℕ) : Type 0 where
    pub helped : frozen_by j (L j) ≡ true
    pub covers : (k : ℕ) → wills (help_on (L j)) k ≡ true → wills s k ≡ true
    pub beyond : f < j

  -- a controller and the world
  pub record HeldSound (L : ℕ → Sent) (ch : Outcome) (i : ℕ) (c : Controller) : Type 0 where
    pub votes_ok : Truthful L c.votes
    pub acks_ok : (j : ℕ) → has_ack c j ≡ true → HeldAck L i (ack_of c j) j
    pub helps_ok : (j : ℕ) → has_helped c j ≡ true → HeldHelp L c.helped.votes j
    pub helped_ok : Truthful L c.helped.votes
    -- a help call taken was sent
    pub calls_ok : (j : ℕ) → has_called c j ≡ true → has (L j).help.to i ≡ true
    pub outcome_ok : (v : Bool) → outcome c ≡ word_of v → OutcomeGrounds L ch v

  pub record Inv (b : View) : Type 0 where
    pub lines : (k : ℕ) → SentSound f b.state.sent k (b.state.sent k)
    pub owns : (k : ℕ) → Own k (b.ctl k) (b.state.sent k)
    pub ctls : (k : ℕ) → HeldSound b.state.sent b.state.consensus.decision k (b.ctl k)
    pub move : b.state.consensus.move_proposed ≡ true → AllWilling b.state.sent
    pub stay : b.state.consensus.stay_proposed ≡ true → StayGrounds b.state.sent
    pub saved_old : (k : ℕ) → saved_order (b.saved k) ≤ b.order
    pub saved_ok : (k : ℕ) → saved_order (b.saved k) ≡ b.order → (v : Bool) → saved_outcome (b.saved k) ≡ word_of v → OutcomeGrounds b.state.sent b.state.consensus.decision v
    pub chosen : (v : Bool) → b.state.consensus.decision ≡ word_of v → cond v b.state.consensus.move_proposed b.state.consensus.stay_proposed ≡ true
