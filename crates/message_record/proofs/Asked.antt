-- Questions that are asked after those of the head, from what the code replied to those.
use Rattle.std.specs.Prelude.{ℕ, ◌≡◌, List, drop}
use Rattle.std.proofs.Common.{sym, ◌∙◌}
use Rattle.model.specs.Questions.{Reply, accepted, refused, Question, first_no}
use Rattle.model.specs.QuestionLaws.{first-accepted, first-refused}
use Rattle.model.specs.declared.BallotMessage.{BallotMessage}
use Rattle.model.specs.declared.Message.{Message}
use Rattle.message_record.specs.Messages.{about_head, about_message}
use Rattle.message_record.specs.BallotMessages.{about_ballot}

abbrev message_head : Message → List Question
message_head m = about_head m.n m.f m.from m.to m.order

abbrev message_rest : Message → List Question
message_rest m = drop 3 (about_message m)

pub message-stopped : (m : Message) (q : ℕ) → refused q ≡ first_no (message_head m) → refused q ≡ first_no (about_message m)
unfolding about_message
message-stopped m q e = sym (first-refused (message_head m) (message_rest m) q (sym e))

pub message-past : (m : Message) (r : Reply) → accepted ≡ first_no (message_head m) → r ≡ first_no (message_rest m) → r ≡ first_no (about_message m)
unfolding about_message
message-past m r e h = h ∙ sym (first-accepted (message_head m) (message_rest m) (sym e))

abbrev ballot_head : BallotMessage → List Question
ballot_head b = about_head b.n b.f b.from b.to b.order

abbrev ballot_rest : BallotMessage → List Question
ballot_rest b = drop 3 (about_ballot b)

pub ballot-stopped : (b : BallotMessage) (q : ℕ) → refused q ≡ first_no (ballot_head b) → refused q ≡ first_no (about_ballot b)
unfolding about_ballot
ballot-stopped b q e = sym (first-refused (ballot_head b) (ballot_rest b) q (sym e))

pub ballot-past : (b : BallotMessage) (r : Reply) → accepted ≡ first_no (ballot_head b) → r ≡ first_no (ballot_rest b) → r ≡ first_no (about_ballot b)
unfolding about_ballot
ballot-past b r e h = h ∙ sym (first-accepted (ballot_head b) (ballot_rest b) (sym e))
