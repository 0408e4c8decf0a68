-- Telegrams as records, in four forms: document 01, "Records"; document 02, U12 (two widths) and U14 (with a ballot's four bytes more, and without).
use Rattle.std.specs.Prelude.{ℕ, ◌+◌, Bool, cond, ◌&&◌, List, [], ◌∷◌, ◌++◌, eqb, leb, ltb, get_or, length, Result}
use Rattle.model.specs.Numbers.{kind_number, ballot_kind_number, outcome_number}
use Rattle.model.specs.Questions.{Question, ask}
use Rattle.model.specs.declared.BallotMessage.{BallotMessage}
use Rattle.model.specs.declared.Message.{Message}
use Rattle.model.specs.declared.Telegram.{Telegram}
use Rattle.model.specs.declared.Telegram.TheVariants.{Plain, OfBallot}
use Rattle.votes.specs.declared.VoteSet.{VoteSet}
use Rattle.records.specs.Bytes.{byte, number2, Width, one, two, four, size, number_at, bytes_of_widths}
use Rattle.records.specs.Codes.{is_kind, kind_of, is_ballot_kind, ballot_kind_of, is_outcome, outcome_of, unused}
use Rattle.records.specs.Codec.{marked, mark_bytes, Form, form_length, Codec}
use Rattle.message_record.specs.declared.BallotFields.{BallotFields}
use Rattle.message_record.specs.declared.Fields.{Fields}
use Rattle.message_record.specs.declared.MessageBody.{MessageBody}
use Rattle.message_record.specs.declared.MessageBody.TheVariants.{Votes, Ballot}
use Rattle.message_record.specs.declared.MessageWidth.{MessageWidth}
use Rattle.message_record.specs.declared.MessageWidth.TheVariants.{Short, Long}
use Rattle.message_record.specs.declared.TelegramForm.{TelegramForm}
use Rattle.message_record.specs.Messages.{about_message}
use Rattle.message_record.specs.BallotMessages.{about_ballot}

-- what is asked of a telegram
abbrev pub about_telegram : Telegram → List Question
about_telegram (Plain m) = about_message m
about_telegram (OfBallot b) = about_ballot b

abbrev pub size_of : Telegram → ℕ
size_of (Plain m) = m.n
size_of (OfBallot b) = b.n

-- a form: how wide known and willing stand, and what body the telegram has
abbrev pub formed : MessageWidth → MessageBody → TelegramForm
formed width body = record { width = width; body = body }

-- THE WIDTH. Document 02, U12: "Up to 16 the telegram remains as it is." The widest lock of the short forms.
abbrev pub short_limit : ℕ
short_limit = 16

unfoldable pub width_for : ℕ → MessageWidth
width_for n = cond (leb n short_limit) Short Long

-- "The long form with n below 17, and the short form with n above 16, get 4"
unfoldable pub suits_width : MessageWidth → ℕ → Bool
suits_width Short n = leb n short_limit
suits_width Long n = ltb short_limit n

-- "From 17 up it is 20 bytes with mark 4C 4C, known and willing of 4 bytes each."
abbrev pub mark_of : MessageWidth → ℕ
mark_of Short = 0x4C4B
mark_of Long = 0x4C4C

abbrev pub set_width : MessageWidth → Width
set_width Short = two
set_width Long = four

-- THE BODY. Document 02, U14: "four bytes more: ballot, ballot last taken (0 none), word (0 none, 1 Stay, 2 Move), 0"
abbrev pub more_widths : MessageBody → List Width
more_widths Votes = []
more_widths Ballot = one ∷ one ∷ one ∷ one ∷ []

abbrev pub more_numbers : MessageBody → BallotFields → List ℕ
more_numbers Votes x = []
more_numbers Ballot x = x.ballot ∷ x.last ∷ x.word ∷ x.spare ∷ []

abbrev pub no_more : BallotFields
no_more = record { ballot = 0; last = 0; word = 0; spare = 0 }

abbrev pub body_of : Telegram → MessageBody
body_of (Plain m) = Votes
body_of (OfBallot b) = Ballot

-- "kind; n; f; from; to; 0; order (4); known (2); willing (2)", and a ballot's four bytes more: as numbers
abbrev pub numbers_in : MessageBody → Fields → List ℕ
numbers_in body x = x.kind ∷ x.n ∷ x.f ∷ x.from ∷ x.to ∷ x.spare ∷ x.order ∷ x.votes.known ∷ x.votes.willing ∷ more_numbers body x.more

unfoldable pub fields_in : List ℕ → Fields
fields_in v =
    record {
      kind = get_or v 0 0;
      n = get_or v 1 0;
      f = get_or v 2 0;
      from = get_or v 3 0;
      to = get_or v 4 0;
      spare = get_or v 5 0;
      order = get_or v 6 0;
      votes = record { known = get_or v 7 0; willing = get_or v 8 0 };
      more = record { ballot = get_or v 9 0; last = get_or v 10 0; word = get_or v 11 0; spare = get_or v 12 0 };
    }

-- the fields of a telegram
abbrev pub plain_fields : Message → Fields
plain_fields m =
    record {
      kind = kind_number m.kind;
      n = m.n;
      f = m.f;
      from = m.from;
      to = m.to;
      spare = 0;
      order = m.order;
      votes = m.votes;
      more = no_more;
    }

abbrev pub ballot_fields : BallotMessage → Fields
ballot_fields b =
    record {
      kind = ballot_kind_number b.kind;
      n = b.n;
      f = b.f;
      from = b.from;
      to = b.to;
      spare = 0;
      order = b.order;
      votes = b.votes;
      more = record { ballot = b.ballot; last = b.last; word = outcome_number b.word; spare = 0 };
    }

unfoldable pub fields_of : Telegram → Fields
fields_of (Plain m) = plain_fields m
fields_of (OfBallot b) = ballot_fields b

-- the telegram of the fields
abbrev pub message_of : Fields → Message
message_of x = record { kind = kind_of x.kind; n = x.n; f = x.f; from = x.from; to = x.to; order = x.order; votes = x.votes }

abbrev pub ballot_message_of : Fields → BallotMessage
ballot_message_of x =
    record {
      kind = ballot_kind_of x.kind;
      n = x.n;
      f = x.f;
      from = x.from;
      to = x.to;
      order = x.order;
      votes = x.votes;
      ballot = x.more.ballot;
      last = x.more.last;
      word = outcome_of x.more.word;
    }

unfoldable pub telegram_of : MessageBody → Fields → Telegram
telegram_of Votes x = Plain (message_of x)
telegram_of Ballot x = OfBallot (ballot_message_of x)

-- 3: "a word above 2, or a kind that does not suit mark and length, gets 3"; and what is 0 on every record
unfoldable pub listed_in : MessageBody → Fields → Bool
listed_in Votes x = is_kind x.kind && unused x.spare
listed_in Ballot x = is_ballot_kind x.kind && unused x.spare && (is_outcome x.more.word && unused x.more.spare)

abbrev pub asked_in : MessageWidth → Telegram → List Question
asked_in width t = ask 4 (suits_width width (size_of t)) ∷ about_telegram t

-- "Telegram, 16 bytes: 4C 4B; kind (1 vote, 2 acknowledgement, 3 help call, 4 help answer); n; f; from; to; 0; order (4); known (2); willing (2)." The
-- same for either width of known and willing, and for either body.
abbrev pub telegram_form : TelegramForm → Form Telegram
telegram_form k = record {
  mark = marked (mark_of k.width);
  widths = one ∷ one ∷ one ∷ one ∷ one ∷ one ∷ four ∷ set_width k.width ∷ set_width k.width ∷ more_widths k.body;
  fields = λ t. numbers_in k.body (fields_of t);
  value = λ v. telegram_of k.body (fields_in v);
  listed = λ v. listed_in k.body (fields_in v);
  asked = asked_in k.width;
}

-- "20 bytes now admit either mark, 24 just 4C 4C": by which form bytes of a length and a mark are read
unfoldable pub form_of_twenty : ℕ → TelegramForm
form_of_twenty mark = cond (eqb mark (mark_of Short)) (formed Short Ballot) (formed Long Votes)

unfoldable pub form_for : ℕ → ℕ → TelegramForm
form_for l mark =
    cond (eqb l (form_length (telegram_form (formed Long Ballot)))) (formed Long Ballot)
    (cond (eqb l (form_length (telegram_form (formed Long Votes)))) (form_of_twenty mark) (formed Short Votes))

-- in which form a telegram is written
unfoldable pub form_of : Telegram → TelegramForm
form_of t = formed (width_for (size_of t)) (body_of t)

abbrev pub telegrams : Codec TelegramForm Telegram
telegrams = record {
  form = telegram_form;
  form_on = λ s. form_for (length s) (number2 s 0);
  form_of = form_of;
}

-- what its reader returns
abbrev pub ReadTelegram : Type 0
ReadTelegram = Result Telegram ℕ

-- the questions from 4 on, in their sequence: 4 is asked of n and the form, then of n and f
abbrev pub asked_of : MessageBody → List ℕ
asked_of Votes = 4 ∷ 4 ∷ 7 ∷ 8 ∷ 9 ∷ 10 ∷ []
asked_of Ballot = 4 ∷ 4 ∷ 7 ∷ 8 ∷ 9 ∷ 28 ∷ []

-- what stands on a record: the vote set after its first twelve bytes, the four bytes more from a place on, and all of it
abbrev pub votes_at : MessageWidth → List ℕ → VoteSet
votes_at width s = record { known = number_at (set_width width) s 12; willing = number_at (set_width width) s (12 + size (set_width width)) }

abbrev pub more_at : List ℕ → ℕ → BallotFields
more_at s at = record { ballot = byte s at; last = byte s (at + 1); word = byte s (at + 2); spare = byte s (at + 3) }

abbrev pub bytes_in : TelegramForm → Fields → List ℕ
bytes_in k x = mark_bytes (marked (mark_of k.width)) ++ bytes_of_widths (telegram_form k).widths (numbers_in k.body x)
