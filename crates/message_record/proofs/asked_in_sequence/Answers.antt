use Prim.Native.Nat.{ℕ}
use mathlib.Core.Path.{◌≡◌, refl}
use mathlib.Core.List.{List, ◌∷◌}
use lib.ListN.{length}
use Rattle.model.specs.Questions.{numbers_asked}
use Rattle.model.specs.declared.Telegram.{Telegram}
use Rattle.model.specs.declared.Telegram.TheVariants.{Plain, OfBallot}
use Rattle.records.specs.Bytes.{number2}
use Rattle.records.specs.Codec.{form_questions, write_questions}
use Rattle.records.specs.Promises.{AskedInSequence}
use Rattle.message_record.specs.declared.MessageBody.{MessageBody}
use Rattle.message_record.specs.declared.MessageBody.TheVariants.{Votes, Ballot}
use Rattle.message_record.specs.declared.MessageWidth.{MessageWidth}
use Rattle.message_record.specs.Messages.{about_message}
use Rattle.message_record.specs.BallotMessages.{about_ballot}
use Rattle.message_record.specs.Telegrams.{formed, telegram_of, telegram_form, form_for, form_of, asked_of, telegrams}
use Rattle.message_record.proofs.asked_in_sequence.Goals as goal

reading : (w : MessageWidth) (b : MessageBody) (s : List ℕ) → numbers_asked (form_questions (telegram_form (formed w b)) s) ≡ 1 ∷ 2 ∷ 3 ∷ asked_of b
unfolding about_message about_ballot telegram_of
reading w Votes s = refl
reading w Ballot s = refl

writing : (out : List ℕ) (t : Telegram) → numbers_asked (write_questions telegrams out t) ≡ 1 ∷ asked_of (form_of t).body
unfolding about_message about_ballot form_of
writing out (Plain m) = refl
writing out (OfBallot b) = refl

asked : AskedInSequence telegrams (λ k. 1 ∷ 2 ∷ 3 ∷ asked_of k.body) (λ k. 1 ∷ asked_of k.body)
asked = record { at_reading = λ s. let k = form_for (length s) (number2 s 0) in reading k.width k.body s; at_writing = writing }

pub returns : goal.returns
returns c = asked
