-- Trials of stray messages (document 02, U7; document 01, **New order**): what one controller, alone in its cabinet, answers to each of a list of calls, and
-- how many acknowledgements and help answers it has counted after them.
use Rattle.std.specs.Prelude.{ℕ, Bool, true, false, ◌&&◌, List, [], ◌∷◌, eqb}
use Rattle.model.specs.declared.Kind.{Kind}
use Rattle.model.specs.declared.Kind.TheVariants.{Vote, Ack, Help, Helped}
use Rattle.protocol.specs.declared.Identity.{Identity}
use Rattle.protocol.specs.Rules.{reception_number}
use Rattle.protocol.specs.Alone.{Call, voting, receiving, timing-out, Cabinet, answer_in, called, fresh_cabinet, cabinet}
use Rattle.protocol.specs.Rows.{same, message}

pub record StrayTrial : Type 0 where
  pub me : Identity
  pub calls : List Call
  pub numbers : List ℕ
  pub cnt : ℕ
  pub cnt-help : ℕ

unfoldable pub numbers_of : Identity → Cabinet → List Call → List ℕ
numbers_of me x [] = []
numbers_of me x (k ∷ ks) = reception_number (answer_in me x k).reception ∷ numbers_of me (called me x k) ks

unfoldable pub answers_as : StrayTrial → Bool
answers_as r = same eqb (numbers_of r.me (fresh_cabinet r.me) r.calls) r.numbers
    && eqb (cabinet r.me r.calls).controller.acks.cnt.0 r.cnt
    && eqb (cabinet r.me r.calls).controller.helped.cnt_help.0 r.cnt-help

-- Of a lock of five with one backup: controller 1, the backup, and 5, which waits after its vote and its timeout. Vote sets as masks: 4 is controller 3.
abbrev backup : List Call → List ℕ → ℕ → ℕ → StrayTrial
backup calls numbers cnt cnt-help = record { me = record { n = 5; f = 1; id = 1; order = 1 }; calls = calls; numbers = numbers; cnt = cnt; cnt-help = cnt-help }

abbrev waiting : List Call → List ℕ → ℕ → ℕ → StrayTrial
waiting calls numbers cnt cnt-help = record { me = record { n = 5; f = 1; id = 5; order = 1 }; calls = voting true 0 ∷ timing-out ∷ calls; numbers = 0 ∷ 0 ∷ numbers; cnt = cnt; cnt-help = cnt-help }

abbrev to1 : Kind → ℕ → ℕ → ℕ → Call
to1 kind from known willing = receiving (message 5 1 kind from 1 known willing)

abbrev to5 : Kind → ℕ → ℕ → ℕ → Call
to5 kind from known willing = receiving (message 5 1 kind from 5 known willing)

-- an acknowledgement of 2 that knows 2, with this n, f, receiver and order
abbrev of_two : ℕ → ℕ → ℕ → ℕ → Call
of_two n f to order = receiving (record { kind = Ack; n = n; f = f; from = 2; to = to; order = order; votes = record { known = 2; willing = 2 } })

unfoldable pub strays : List StrayTrial
strays =
    -- "24, a delivered sheet that contradicts one held". A vote against the own vote set (3 was willing), and against an acknowledgement (2's has 3 willing)
    backup (to1 Vote 3 4 4 ∷ to1 Vote 3 4 0 ∷ []) (0 ∷ 24 ∷ []) 0 0
    ∷ backup (to1 Ack 2 6 6 ∷ to1 Vote 3 4 0 ∷ []) (0 ∷ 24 ∷ []) 1 0
    -- an acknowledgement against the own vote set, also against the own vote
    ∷ backup (to1 Vote 3 4 4 ∷ to1 Ack 2 6 2 ∷ []) (0 ∷ 24 ∷ []) 0 0
    ∷ backup (voting true 0 ∷ to1 Ack 2 3 2 ∷ []) (0 ∷ 24 ∷ []) 0 0
    -- against another's acknowledgement: at a lock with two backups, 1's has 3 willing
    ∷ record {
      me = record { n = 5; f = 2; id = 5; order = 1 };
      calls = receiving (message 5 2 Ack 1 5 5 5) ∷ receiving (message 5 2 Ack 2 5 6 2) ∷ [];
      numbers = 0 ∷ 24 ∷ [];
      cnt = 1;
      cnt-help = 0;
    }
    -- against the help answers
    ∷ waiting (to5 Helped 3 4 4 ∷ to5 Ack 1 5 1 ∷ []) (0 ∷ 24 ∷ []) 0 2
    -- a help answer against the own vote set, an acknowledgement, the help answers
    ∷ waiting (to5 Helped 3 20 4 ∷ []) (24 ∷ []) 0 1
    ∷ waiting (to5 Ack 1 5 1 ∷ to5 Helped 3 4 4 ∷ []) (0 ∷ 24 ∷ []) 1 1
    ∷ waiting (to5 Helped 3 4 4 ∷ to5 Helped 4 12 8 ∷ []) (0 ∷ 24 ∷ []) 0 2
    -- refused once, it may come again as one that contradicts nothing
    ∷ waiting (to5 Helped 3 20 4 ∷ to5 Helped 3 20 20 ∷ []) (24 ∷ 0 ∷ []) 0 2
    -- "One that is passed over anyway, as a sender's second acknowledgement or answer, is not tested."
    ∷ backup (to1 Ack 2 6 6 ∷ to1 Ack 2 6 2 ∷ []) (0 ∷ 0 ∷ []) 1 0
    ∷ waiting (to5 Helped 3 4 4 ∷ to5 Helped 3 4 0 ∷ []) (0 ∷ 0 ∷ []) 0 2
    -- nor a vote that comes late
    ∷ backup (to1 Vote 3 4 4 ∷ voting true 0 ∷ timing-out ∷ to1 Vote 3 4 0 ∷ []) (0 ∷ 0 ∷ 0 ∷ 0 ∷ []) 1 0
    -- "also one already held that its own vote contradicts": the vote is answered 0 and drops it, and its sender may be received again
    ∷ backup (to1 Ack 2 3 2 ∷ voting true 0 ∷ []) (0 ∷ 0 ∷ []) 0 0
    ∷ backup (to1 Ack 2 3 2 ∷ voting true 0 ∷ to1 Ack 2 3 3 ∷ []) (0 ∷ 0 ∷ 0 ∷ []) 1 0
    -- one that it does not contradict is kept
    ∷ backup (to1 Ack 2 3 2 ∷ voting false 0 ∷ []) (0 ∷ 0 ∷ []) 1 0
    -- a help call has an empty vote set, and so contradicts none; with another it does not suit its kind, and is passed over
    ∷ waiting (to5 Helped 3 4 4 ∷ to5 Help 4 0 0 ∷ to5 Help 2 4 0 ∷ []) (0 ∷ 0 ∷ 0 ∷ []) 0 2
    -- a vote set that does not suit its kind is passed over, though it contradicts: 3's vote that knows 2 as well
    ∷ backup (to1 Vote 2 2 2 ∷ to1 Vote 3 6 4 ∷ []) (0 ∷ 0 ∷ []) 0 0
    -- question 9, of what reading would have refused. "No bit above n": 2's acknowledgement knows 6, or has it willing; "willing within known": it has 3 willing, not known
    ∷ backup (to1 Ack 2 34 34 ∷ []) (0 ∷ []) 0 0
    ∷ backup (to1 Ack 2 2 34 ∷ []) (0 ∷ []) 0 0
    ∷ backup (to1 Ack 2 2 6 ∷ []) (0 ∷ []) 0 0
    -- "kinds 2 and 4 know at least their sender": 2's knows 3 alone, or nobody; 3's answer knows 4 alone
    ∷ backup (to1 Ack 2 4 4 ∷ []) (0 ∷ []) 0 0
    ∷ backup (to1 Ack 2 0 0 ∷ []) (0 ∷ []) 0 0
    ∷ waiting (to5 Helped 3 8 8 ∷ []) (0 ∷ []) 0 1
    -- questions 7 and 10: a sender that is none of the lock, or that may not send it
    ∷ backup (to1 Ack 6 32 32 ∷ []) (0 ∷ []) 0 0
    ∷ backup (to1 Ack 3 4 4 ∷ []) (0 ∷ []) 0 0
    ∷ waiting (to5 Ack 2 2 2 ∷ []) (0 ∷ []) 0 1
    ∷ waiting (to5 Helped 1 1 1 ∷ []) (0 ∷ []) 0 1
    -- Document 01: "a controller passes over any of another order, n or f, or meant for another controller". 2's acknowledgement is counted,
    ∷ backup (of_two 5 1 1 1 ∷ []) (0 ∷ []) 1 0
    -- and not one of order 2, of n = 4, of f = 2, or for 3
    ∷ backup (of_two 5 1 1 2 ∷ []) (0 ∷ []) 0 0
    ∷ backup (of_two 4 1 1 1 ∷ []) (0 ∷ []) 0 0
    ∷ backup (of_two 5 2 1 1 ∷ []) (0 ∷ []) 0 0
    ∷ backup (of_two 5 1 3 1 ∷ []) (0 ∷ []) 0 0
    ∷ []
