-- Rules whose code finds each part of the next controller first: those parts together are the rule's answer.
use Prim.Native.Nat.{ℕ, ◌+◌}
use mathlib.Core.Path.{◌≡◌, refl}
use mathlib.Core.Bool.{Bool, true, false, cond, not, ◌&&◌}
use mathlib.Core.Logic.{inl, inr}
use lib.Dec.{leb, ltb}
use Rattle.ground.specs.Tests.{split, by_cond}
use Rattle.ground.specs.Mask.{insert}
use Rattle.votes.specs.Joining.{join, agreed_or}
use Rattle.votes.specs.declared.VoteSet.{VoteSet}
use Rattle.model.specs.Numbers.{word_of, is_none}
use Rattle.model.specs.Ranges.{is_backup}
use Rattle.model.specs.Routes.{recipients}
use Rattle.model.specs.declared.Kind.TheVariants.{Ack}
use Rattle.model.specs.declared.Outcome.{Outcome}
use Rattle.model.specs.declared.Outcome.TheVariants.{None}
use Rattle.protocol.specs.declared.Answer.{Answer}
use Rattle.protocol.specs.declared.Condition.{Condition}
use Rattle.protocol.specs.declared.HelpAnswers.{HelpAnswers}
use Rattle.protocol.specs.declared.Sends.{Sends}
use Rattle.protocol.specs.declared.Controller.{Controller}
use Rattle.protocol.specs.declared.Reception.TheVariants.{Taken, PassedOver}
use Rattle.controller_rules.specs.declared.second.Conclusion.{Conclusion}
use Rattle.controller_rules.specs.declared.second.Conclusion.TheVariants.{Waits}
use Rattle.protocol.specs.Controllers.{bump, phase, outcome, in_phase, has_ack, has_called, keep_ack, with_votes, with_help, learn, add_caller, advance, freeze, await, keep_helped, propose, conclude, or_else}
use Rattle.protocol.specs.Rules.{nothing, helps, sending, acks_to, count_own, first_timeout, passing_over, becomes, proposing, verdict, ack_join, decides, sufficient, answers_join, propose_if_sufficient, help_votes, frozen, ready, calls_help, vote_arrives, keeps_call, answers_call, help_arrives, second_timeout}
use Rattle.controller_rules.specs.Conclusions.{conclusion_of, condition_after, position_after, helped_after, word_after, calls_after, waits_after}
use Rattle.std.specs.Prelude.{None}
use Rattle.protocol.specs.Rules.{send_to}

pub vote-joined : (s : VoteSet) (c : Controller)
    → ◌≡◌ {A = Answer} (record { reception = cond (leb (phase c) 1) Taken PassedOver; controller = with_votes c (cond (leb (phase c) 1) (agreed_or c.votes (join c.votes s)) c.votes); sends = nothing; proposal = None }) (vote_arrives s c)
unfolding vote_arrives becomes passing_over learn
vote-joined s c = elim (split (leb (phase c) 1)) [
  | inl t ↦ rw t
  | inr t ↦ rw t
]

pub help-joined : (j : ℕ) (c : Controller)
    → ◌≡◌ {A = Answer} (record {
      reception = cond (not (has_called c j)) Taken PassedOver;
      controller = with_help c (record { waiting = c.help.waiting; votes = c.help.votes; callers = cond (not (has_called c j)) (insert c.help.callers j) c.help.callers });
      sends = helps None (cond (not (has_called c j) && not (leb (phase c) 2)) (send_to (insert 0 j) c.help.votes) None);
      proposal = None;
    }) (help_arrives j c)
unfolding help_arrives becomes passing_over keeps_call answers_call add_caller
help-joined j c = elim (split (has_called c j)) [
  | inl t ↦ rw t
  | inr t ↦ elim (split (leb (phase c) 2)) [
    | inl p ↦ rw (t, p)
    | inr p ↦ rw (t, p)
  ]
]

-- a word that was put is there
put_word : (b : Bool) (old : Outcome) → or_else (word_of b) old ≡ word_of b
put_word true old = refl
put_word false old = refl

some_word : (b : Bool) → is_none (word_of b) ≡ false
some_word true = refl
some_word false = refl

-- the answer of those parts
abbrev parts : Conclusion → ℕ → ℕ → ℕ → Controller → Answer
parts k n f i c =
    let word = verdict n (ack_join n c) in
    let next = in_phase 3 (outcome c) in
    let helped = helped_after k i (help_votes n c) c.helped in
    let put = word_after k n f word c.acks.cnt helped in
    record {
      reception = Taken;
      controller = record {
        condition = condition_after k next word;
        votes = c.votes;
        acks = c.acks;
        helped = helped;
        help = record { waiting = waits_after k put; votes = help_votes n c; callers = c.help.callers };
        proposal = or_else put c.proposal;
        gate = record { target = c.gate.target; position = position_after k next word c.gate };
      };
      sends = helps (calls_after k n f i) (send_to c.help.callers (help_votes n c));
      proposal = put;
    }

-- one that waits: with its own help vote set the count may be complete
waits : (n f i : ℕ) (c : Controller) → ltb 0 c.acks.cnt.0 ≡ false
    → parts Waits n f i c ≡ propose_if_sufficient n f (calls_help n f i (help_votes n c) (frozen n c))
unfolding frozen calls_help proposing propose_if_sufficient sufficient answers_join advance freeze await keep_helped propose verdict
waits n f i c p = elim (split (leb n (c.acks.cnt.0 + bump c.helped.cnt_help.0 + f))) [
  | inl q ↦ rw (q, p, put_word, some_word)
  | inr q ↦ rw q
]

second-joined : (n f i : ℕ) (c : Controller) → parts (conclusion_of n f i c) n f i c ≡ second_timeout n f i c
unfolding second_timeout frozen ready proposing advance freeze propose conclude verdict
second-joined n f i c = elim (split (decides n f i c)) [
  | inl d ↦ rw d
  | inr d ↦ elim (split (ltb 0 c.acks.cnt.0)) [
    | inl p ↦ rw (d, p, put_word)
    | inr p ↦ rw (d, p) (waits n f i c p)
  ]
]

-- its own acknowledgement leaves its vote set as it is
own-votes : (f i : ℕ) (c : Controller) → (count_own f i c).votes ≡ c.votes
unfolding count_own keep_ack
own-votes f i c = by_cond (λ (x : Controller). x.votes ≡ c.votes) (is_backup f i && not (has_ack c i)) (keep_ack c i c.votes) c (λ _. refl) (λ _. refl)

pub first-joined : (n f i : ℕ) (c : Controller) → sending (advance (count_own f i c) 2) (acks_to (recipients n f Ack i) (count_own f i c).votes) ≡ first_timeout n f i c
unfolding first_timeout
first-joined n f i c = rw (own-votes f i c)

-- the same, part by part
module _ (n f i : ℕ) (c : Controller) (k : Conclusion) (votes : VoteSet) (word : Outcome) (next : Condition) (helped : HelpAnswers) (put : Outcome) where
  pub second_from : votes ≡ help_votes n c → word ≡ verdict n (ack_join n c) → k ≡ conclusion_of n f i c → next ≡ in_phase 3 (outcome c)
      → helped ≡ helped_after k i votes c.helped → put ≡ word_after k n f word c.acks.cnt helped
      → (condition : Condition) → condition ≡ condition_after k next word → (position : ℕ) → position ≡ position_after k next word c.gate
      → (waiting : Bool) → waiting ≡ waits_after k put → (sends : Sends) → sends ≡ helps (calls_after k n f i) (send_to c.help.callers votes)
      → (proposal : Outcome) → proposal ≡ or_else put c.proposal
      → ◌≡◌ {A = Answer} (record {
        reception = Taken;
        controller = record {
          condition = condition;
          votes = c.votes;
          acks = c.acks;
          helped = helped;
          help = record { waiting = waiting; votes = votes; callers = c.help.callers };
          proposal = proposal;
          gate = record { target = c.gate.target; position = position };
        };
        sends = sends;
        proposal = put;
      }) (second_timeout n f i c)
  second_from e1 e2 e3 e4 e5 e6 condition e7 position e8 waiting e9 sends e10 proposal e11 = rw (e7, e8, e9, e10, e11, e6, e5, e4, e3, e2, e1) (second-joined n f i c)
