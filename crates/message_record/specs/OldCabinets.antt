-- Document 01's telegram, as cabinets of before document 02, U12 read and write it: locks of 2 to 16 controllers, one form, kinds 1 to 4.
use Rattle.std.specs.Prelude.{ℕ, Bool, ◌&&◌, List, [], ◌∷◌, leb, ltb, get_or, Result, Ok, Err}
use Rattle.model.specs.Numbers.{kind_number}
use Rattle.model.specs.Questions.{ask}
use Rattle.model.specs.Ranges.{different_controllers}
use Rattle.model.specs.Routes.{route}
use Rattle.model.specs.declared.Message.{Message}
use Rattle.model.specs.declared.Telegram.{Telegram}
use Rattle.model.specs.declared.Telegram.TheVariants.{Plain}
use Rattle.records.specs.Bytes.{one, two, four}
use Rattle.records.specs.Codes.{is_kind, kind_of, unused}
use Rattle.records.specs.Codec.{marked, Form, Codec, one_form}
use Rattle.message_record.specs.Messages.{suits}

-- what its reader returns, as an answer of today's
abbrev pub as_now : Result Message ℕ → Result Telegram ℕ
as_now (Ok m) = Ok (Plain m)
as_now (Err q) = Err q

-- "n from 2 to 16; f from 1 to n − 1"
unfoldable pub old_sizes : ℕ → ℕ → Bool
old_sizes n f = leb 2 n && leb n 16 && leb 1 f && ltb f n

-- the message of the fields
abbrev pub old_message_of : List ℕ → Message
old_message_of v =
    record {
      kind = kind_of (get_or v 0 0);
      n = get_or v 1 0;
      f = get_or v 2 0;
      from = get_or v 3 0;
      to = get_or v 4 0;
      order = get_or v 6 0;
      votes = record { known = get_or v 7 0; willing = get_or v 8 0 };
    }

-- "Telegram, 16 bytes: 4C 4B; kind (1 vote, 2 acknowledgement, 3 help call, 4 help answer); n; f; from; to; 0; order (4); known (2); willing (2)."
abbrev pub old_form : Form Message
old_form = record {
  mark = marked 0x4C4B;
  widths = one ∷ one ∷ one ∷ one ∷ one ∷ one ∷ four ∷ two ∷ two ∷ [];
  fields = λ m. kind_number m.kind ∷ m.n ∷ m.f ∷ m.from ∷ m.to ∷ 0 ∷ m.order ∷ m.votes.known ∷ m.votes.willing ∷ [];
  value = old_message_of;
  listed = λ v. is_kind (get_or v 0 0) && unused (get_or v 5 0);
  asked = λ m. ask 4 (old_sizes m.n m.f)
      ∷ ask 7 (different_controllers m.n m.from m.to)
      ∷ ask 8 (leb 1 m.order)
      ∷ ask 9 (suits m)
      ∷ ask 10 (route m.f m.kind m.from m.to)
      ∷ [];
}

abbrev pub old_messages : Codec (Unit {0}) Message
old_messages = one_form old_form
