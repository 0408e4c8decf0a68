-- The second timeout: with calls kept it gives what it gives without them, and the help vote set goes to the callers; one caller more is one call answered.
use Prim.Native.Nat.{ℕ}
use mathlib.Core.Path.{◌≡◌, refl}
use mathlib.Core.Bool.{true}
use lib.Dec.{ltb}
use Rattle.votes.specs.declared.VoteSet.{VoteSet}
use Rattle.protocol.specs.declared.Controller.{Controller}
use Rattle.protocol.specs.declared.Answer.{Answer}
use Rattle.protocol.specs.Controllers.{is_running, phase, advance, keep_helped, freeze, await, propose, conclude}
use Rattle.protocol.specs.Rules.{proposing, verdict, ack_join, backups_complete, second_knows, decides, sufficient, answers_join, propose_if_sufficient, help_votes, frozen, ready, calls_help, second_timeout}
use Rattle.protocol.proofs.view.RuleCases.{sufficient_cases, second_cases}
use Rattle.early_calls.specs.Document01.{with_callers}
use Rattle.early_calls.proofs.Rules.{by_cond₂}
use Rattle.protocol.specs.Rules.{send_to}

-- an answer of the second timeout, with the help vote set s sent to the callers m
abbrev pub answered_to : ℕ → VoteSet → Answer → Answer
answered_to m s a = record {
  reception = a.reception;
  controller = with_callers a.controller m;
  sends = record { vote = a.sends.vote; ack = a.sends.ack; help = a.sends.help; helped = send_to m s };
  proposal = a.proposal;
}

module _ (n f i : ℕ) (c : Controller) where
  pub timeout-kept : (m : ℕ) → second_timeout n f i (with_callers c m) ≡ answered_to m (help_votes n c) (second_timeout n f i (with_callers c 0))
  unfolding second_timeout decides backups_complete second_knows ack_join help_votes frozen freeze advance ready calls_help conclude proposing propose await keep_helped propose_if_sufficient sufficient answers_join verdict
  timeout-kept m = by_cond₂ (λ (x y : Answer). x ≡ answered_to m (help_votes n c) y) (decides n f i c) _ _ _ _ (λ d. refl)
      (λ d. by_cond₂ (λ (x y : Answer). x ≡ answered_to m (help_votes n c) y) (ltb 0 c.acks.cnt.0) _ _ _ _ (λ e. refl)
      (λ e. by_cond₂ (λ (x y : Answer). x ≡ answered_to m (help_votes n c) y) (sufficient n f (calls_help n f i (help_votes n c) (frozen n c)).controller) _ _ _ _ (λ q. refl) (λ q. refl)))

  -- after it the controller runs at stage 3, with its help vote set frozen
  pub record Frozen (a : Answer) : Type 0 where
    pub runs : is_running a.controller.condition ≡ true
    pub phase : phase a.controller ≡ 3
    pub votes : a.controller.help.votes ≡ help_votes n c

  pub timeout-frozen : Frozen (second_timeout n f i c)
  timeout-frozen = second_cases Frozen n f i c
      (λ d. unfold ready conclude frozen freeze advance in record { runs = refl; phase = refl; votes = refl })
      (λ e. unfold proposing ready propose frozen freeze advance in record { runs = refl; phase = refl; votes = refl })
      (λ e. sufficient_cases Frozen n f _
      (λ q. unfold proposing propose calls_help keep_helped await frozen freeze advance in record { runs = refl; phase = refl; votes = refl })
      (λ q. unfold calls_help keep_helped await frozen freeze advance in record { runs = refl; phase = refl; votes = refl }))
