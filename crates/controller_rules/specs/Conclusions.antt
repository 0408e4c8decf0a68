-- What comes of a second timeout, and each part of the controller from that. These are the parts of `second_timeout` (protocol, Rules), by which the code goes.
use Rattle.std.specs.Prelude.{ℕ, ◌+◌, Bool, false, cond, leb, ltb, Option, None}
use Rattle.ground.specs.Mask.{insert}
use Rattle.votes.specs.VoteSets.{empty}
use Rattle.votes.specs.Joining.{join, agreed_or}
use Rattle.votes.specs.declared.VoteSet.{VoteSet}
use Rattle.std.specs.Prelude.{Ok}
use Rattle.model.specs.Numbers.{is_none}
use Rattle.model.specs.Routes.{recipients}
use Rattle.model.specs.declared.Kind.TheVariants.{Help}
use Rattle.model.specs.declared.Outcome.{Outcome}
use Rattle.model.specs.declared.Outcome.TheVariants.{None}
use Rattle.protocol.specs.declared.Cnt.{Cnt}
use Rattle.protocol.specs.declared.Condition.{Condition}
use Rattle.protocol.specs.declared.Controller.{Controller}
use Rattle.protocol.specs.declared.Gate.{Gate}
use Rattle.protocol.specs.declared.HelpAnswers.{HelpAnswers}
use Rattle.protocol.specs.Controllers.{bump, noting, landing}
use Rattle.protocol.specs.Rules.{decides, verdict}
use Rattle.controller_rules.specs.declared.second.Conclusion.{Conclusion}
use Rattle.controller_rules.specs.declared.second.Conclusion.TheVariants.{Decides, Proposes, Waits}
use Rattle.protocol.specs.declared.Outgoing.{Outgoing}
use Rattle.protocol.specs.Rules.{send_to}

abbrev pub conclusion_of : ℕ → ℕ → ℕ → Controller → Conclusion
conclusion_of n f i c = cond (decides n f i c) Decides (cond (ltb 0 c.acks.cnt.0) Proposes Waits)

abbrev pub condition_after : Conclusion → Condition → Outcome → Condition
condition_after Decides next word = noting next word
condition_after Proposes next word = next
condition_after Waits next word = next

abbrev pub position_after : Conclusion → Condition → Outcome → Gate → ℕ
position_after Decides next word gate = landing next word gate
position_after Proposes next word gate = gate.position
position_after Waits next word gate = gate.position

abbrev pub helped_after : Conclusion → ℕ → VoteSet → HelpAnswers → HelpAnswers
helped_after Decides i s old = old
helped_after Proposes i s old = old
helped_after Waits i s old = record { votes = agreed_or old.votes (join old.votes s); from = insert old.from i; cnt_help = record { 0 = bump old.cnt_help.0 } }

-- the word of the help answers, if the two counts add up to n − f or more
abbrev pub counted_word : ℕ → ℕ → Cnt → HelpAnswers → Outcome
counted_word n f cnt helped = cond (leb n (cnt.0 + helped.cnt_help.0 + f)) (verdict n (Ok helped.votes)) None

abbrev pub word_after : Conclusion → ℕ → ℕ → Outcome → Cnt → HelpAnswers → Outcome
word_after Decides n f word cnt helped = None
word_after Proposes n f word cnt helped = word
word_after Waits n f word cnt helped = counted_word n f cnt helped

abbrev pub calls_after : Conclusion → ℕ → ℕ → ℕ → Option Outgoing
calls_after Decides n f i = None
calls_after Proposes n f i = None
calls_after Waits n f i = send_to (recipients n f Help i) empty

abbrev pub waits_after : Conclusion → Outcome → Bool
waits_after Decides word = false
waits_after Proposes word = false
waits_after Waits word = is_none word
