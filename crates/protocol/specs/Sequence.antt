-- In which sequence the messages (document 01: telegrams) of an answer go out, so that a cabinet can send them one by one: by kind, in the sequence of
-- the kinds, and to its receivers in rising order. So a kept call is answered (document 02, U4) "after its own calls, in rising order of caller".
use Rattle.std.specs.Prelude.{ℕ, zero, suc, ◌≡◌, cond, List, [], ◌∷◌, ◌++◌, map, take, drop, slice_get, Option, Some, None, option_to_list}
use Rattle.ground.specs.Mask.{has}
use Rattle.votes.specs.declared.VoteSet.{VoteSet}
use Rattle.model.specs.declared.Kind.{Kind}
use Rattle.model.specs.declared.Kind.TheVariants.{Vote, Ack, Help, Helped}
use Rattle.model.specs.declared.Message.{Message}
use Rattle.protocol.specs.declared.Identity.{Identity}
use Rattle.protocol.specs.declared.Sends.{Sends}
use Rattle.protocol.specs.declared.Outgoing.{Outgoing}

-- those of 1 to m that are in a set, rising
unfoldable pub members : ℕ → ℕ → List ℕ
members zero set = []
members (suc m) set = members m set ++ cond (has set (suc m)) (suc m ∷ []) []

-- the messages of one kind that controller `me` sends
abbrev pub message_to : Identity → Kind → VoteSet → ℕ → Message
message_to me kind s j = record { kind = kind; n = me.n; f = me.f; from = me.id; to = j; order = me.order; votes = s }

unfoldable pub messages_of_kind : Identity → Kind → Option Outgoing → List Message
messages_of_kind me kind None = []
messages_of_kind me kind (Some o) = map (message_to me kind o.votes) (members me.n o.to)

-- all that it sends in one answer, in their sequence
unfoldable pub messages_of : Identity → Sends → List Message
messages_of me s = messages_of_kind me Vote s.vote ++ (messages_of_kind me Ack s.ack ++ (messages_of_kind me Help s.help ++ messages_of_kind me Helped s.helped))

-- what the one with k before it, if there are so many, says in document 01's terms: 0, since nothing is asked of it and so nothing refused
abbrev pub to_send_number : Option Message → ℕ
to_send_number None = 0
to_send_number (Some m) = 0

-- what is promised of the message that has k before it: the list's k-th, from 0 on; as values, one message, or none where there are not so many
pub record NthMessageOf (me : Identity) (sends : Sends) (k : ℕ) (r : Option Message) : Type 0 where
  pub answer : r ≡ slice_get (messages_of me sends) k
  pub number : to_send_number r ≡ 0
  pub values : option_to_list r ≡ take 1 (drop k (messages_of me sends))
