-- Trials of a controller's calls in ballots, in its cabinet (document 02, U14): what it holds of a ballot before a call, the call, what it holds after it, and the telegrams that it
-- sends, in their sequence. On the bench the questions stand before the rules; here a call that does not fit changes nothing and sends nothing.
use Rattle.std.specs.Prelude.{ℕ, zero, suc, Bool, true, false, ◌&&◌, List, [], ◌∷◌, ◌++◌, eqb, slice_get, option_to_list}
use Rattle.ground.specs.Mask.{insert}
use Rattle.votes.specs.VoteSets.{empty}
use Rattle.model.specs.Numbers.{ballot_kind_number}
use Rattle.model.specs.declared.Outcome.{Outcome}
use Rattle.model.specs.declared.Outcome.TheVariants.{None, Stay, Move}
use Rattle.model.specs.declared.BallotKind.{BallotKind}
use Rattle.model.specs.declared.BallotKind.TheVariants.{Prepare, Promise, Accept, Accepted}
use Rattle.model.specs.declared.BallotMessage.{BallotMessage}
use Rattle.protocol.specs.declared.Identity.{Identity}
use Rattle.protocol.specs.declared.Controller.{Controller}
use Rattle.protocol.specs.declared.Acceptor.{Acceptor}
use Rattle.protocol.specs.declared.Tally.{Tally}
use Rattle.protocol.specs.declared.BallotAnswer.{BallotAnswer}
use Rattle.protocol.specs.Sequence.{members}
use Rattle.protocol.specs.Alone.{Call, voting, timing-out, deciding, alone}
use Rattle.protocol.specs.BallotCalls.{open_call, receive_ballot, ballot_messages}
use Rattle.protocol.specs.Rows.{same, same_outcome, same_votes}
use Rattle.protocol.specs.BallotTrials.{has-promised, idle, same_acceptor}

-- what is called: it is to open a ballot; a telegram comes in
pub data BallotCall : Type 0 where
  opening : ℕ → BallotCall
  receiving : BallotMessage → BallotCall

-- what its owner has counted for a ballot: whose promises came in, the highest ballot reported and its word, the word put
pub record Counted : Type 0 where
  pub promises : List ℕ
  pub top : ℕ
  pub top-word : Outcome
  pub word : Outcome

pub record BallotCallTrial : Type 0 where
  pub me : Identity
  pub calls : List Call
  pub acceptor : Acceptor
  pub counted : Counted
  pub call : BallotCall
  pub acceptor-after : Acceptor
  pub counted-after : Counted
  pub sent : List BallotMessage

unfoldable pub mask_of : List ℕ → ℕ
mask_of [] = 0
mask_of (j ∷ js) = insert (mask_of js) j

abbrev tally_of : Counted → Tally
tally_of k = record { from = mask_of k.promises; top = k.top; top_word = k.top-word; word = k.word }

abbrev ballot_of : BallotCall → ℕ
ballot_of (opening b) = b
ballot_of (receiving m) = m.ballot

abbrev answer_to : Identity → Controller → Acceptor → Tally → BallotCall → BallotAnswer
answer_to me c a t (opening b) = open_call me true b c a t
answer_to me c a t (receiving m) = receive_ballot me true m c a t

abbrev answer_of : BallotCallTrial → BallotAnswer
answer_of r = answer_to r.me (alone r.me r.calls) r.acceptor (tally_of r.counted) r.call

-- one by one, up to one more than the row has
unfoldable pub one_by_one : List BallotMessage → ℕ → List BallotMessage
one_by_one ms zero = option_to_list (slice_get ms 0)
one_by_one ms (suc k) = one_by_one ms k ++ option_to_list (slice_get ms (suc k))

abbrev same_ballot_message : BallotMessage → BallotMessage → Bool
same_ballot_message x y = eqb (ballot_kind_number x.kind) (ballot_kind_number y.kind) && eqb x.n y.n && eqb x.f y.f && eqb x.from y.from && eqb x.to y.to
    && eqb x.order y.order && same_votes x.votes y.votes && eqb x.ballot y.ballot && eqb x.last y.last && same_outcome x.word y.word

abbrev same_counted : ℕ → Tally → Counted → Bool
same_counted n t k = same eqb (members n t.from) k.promises && eqb t.top k.top && same_outcome t.top_word k.top-word && same_outcome t.word k.word

unfoldable pub call_passes : BallotCallTrial → Bool
call_passes r = same_acceptor (answer_of r).acceptor r.acceptor-after && same_counted r.me.n (answer_of r).tally r.counted-after
    && same same_ballot_message (one_by_one (ballot_messages r.me (ballot_of r.call) (answer_of r)) 4) r.sent

-- controller 1 of a lock of three with one backup, in order 1: it has voted and had both its bells, and has put Stay by its own acknowledgement
abbrev one_of : ℕ → Identity
one_of n = record { n = n; f = 1; id = 1; order = 1 }

abbrev put-stay : List Call
put-stay = voting true 500 ∷ timing-out ∷ timing-out ∷ []

-- a telegram of a ballot in that lock
abbrev telegram : BallotKind → ℕ → ℕ → ℕ → ℕ → Outcome → BallotMessage
telegram kind from to b last word = record { kind = kind; n = 3; f = 1; from = from; to = to; order = 1; votes = empty; ballot = b; last = last; word = word }

abbrev counts : List ℕ → ℕ → Outcome → Outcome → Counted
counts promises top top-word word = record { promises = promises; top = top; top-word = top-word; word = word }

abbrev nothing : Counted
nothing = counts [] 0 None None

-- 1 of three that has put Stay, a call, and what comes of it; a call that changes nothing and sends nothing, of 1 after any calls
abbrev one : Acceptor → Counted → BallotCall → Acceptor → Counted → List BallotMessage → BallotCallTrial
one a k call a' k' sent = record { me = one_of 3; calls = put-stay; acceptor = a; counted = k; call = call; acceptor-after = a'; counted-after = k'; sent = sent }

abbrev passes_over : Identity → List Call → Acceptor → Counted → BallotCall → BallotCallTrial
passes_over me calls a k call = record { me = me; calls = calls; acceptor = a; counted = k; call = call; acceptor-after = a; counted-after = k; sent = [] }

abbrev none : Acceptor → Counted → BallotCall → BallotCallTrial
none a k call = passes_over (one_of 3) put-stay a k call

abbrev asks : ℕ → List BallotMessage
asks b = telegram Prepare 1 2 b 0 None ∷ telegram Prepare 1 3 b 0 None ∷ []

abbrev puts : ℕ → Outcome → List BallotMessage
puts b word = telegram Accept 1 2 b 0 word ∷ telegram Accept 1 3 b 0 word ∷ []

unfoldable pub ballot_call_trials : List BallotCallTrial
ballot_call_trials =
    -- **Open**: "it promises to itself and sends all others an ask"; its own promise is counted, with what it has last taken; with an outcome too
    one idle nothing (opening 4) (has-promised 4 4 0 None) (counts (1 ∷ []) 0 None None) (asks 4)
    ∷ one (has-promised 3 0 3 Move) nothing (opening 4) (has-promised 4 4 3 Move) (counts (1 ∷ []) 3 Move None) (asks 4)
    ∷ record { me = one_of 3; calls = put-stay ++ (deciding false ∷ []); acceptor = idle; counted = nothing; call = opening 4; acceptor-after = has-promised 4 4 0 None; counted-after = counts (1 ∷ []) 0 None None; sent = asks 4 }
    -- 28: outside 1 to 255 (256 would be its own, and 0), not its own, opened before, below its highest promise; 29: no word put
    ∷ none idle nothing (opening 0)
    ∷ none idle nothing (opening 256)
    ∷ none idle nothing (opening 5)
    ∷ none (has-promised 4 4 0 None) (counts (1 ∷ []) 0 None None) (opening 4)
    ∷ none (has-promised 5 5 0 None) nothing (opening 4)
    ∷ passes_over (one_of 3) [] idle nothing (opening 4)
    -- **An ask**: "answers only ballots not below its highest promise, once per ballot and kind: an ask by a promise", which has "both or neither"
    ∷ one idle nothing (receiving (telegram Prepare 2 1 5 0 None)) (has-promised 5 5 0 None) nothing (telegram Promise 1 2 5 0 None ∷ [])
    ∷ one (has-promised 3 0 3 Move) nothing (receiving (telegram Prepare 2 1 5 0 None)) (has-promised 5 5 3 Move) nothing (telegram Promise 1 2 5 3 Move ∷ [])
    ∷ one (has-promised 5 0 5 Move) nothing (receiving (telegram Prepare 2 1 5 0 None)) (has-promised 5 5 5 Move) nothing (telegram Promise 1 2 5 5 Move ∷ [])
    ∷ none (has-promised 5 5 0 None) nothing (receiving (telegram Prepare 2 1 5 0 None))
    ∷ none (has-promised 6 3 6 Move) nothing (receiving (telegram Prepare 2 1 5 0 None))
    -- **A put**: "by taking it and a taken to the owner", once
    ∷ one idle nothing (receiving (telegram Accept 2 1 5 0 Move)) (has-promised 5 0 5 Move) nothing (telegram Accepted 1 2 5 0 Move ∷ [])
    ∷ one (has-promised 5 5 3 Stay) nothing (receiving (telegram Accept 2 1 5 0 Move)) (has-promised 5 5 5 Move) nothing (telegram Accepted 1 2 5 0 Move ∷ [])
    ∷ none (has-promised 5 5 5 Move) nothing (receiving (telegram Accept 2 1 5 0 Move))
    ∷ none (has-promised 6 6 0 None) nothing (receiving (telegram Accept 2 1 5 0 Move))
    -- **A promise**: "the owner puts, once per ballot, the word of the highest ballot reported, else its own"; "The put goes to all others; the owner takes its own by the same rule", and no taken
    ∷ one (has-promised 4 4 0 None) (counts (1 ∷ []) 0 None None) (receiving (telegram Promise 2 1 4 0 None)) (has-promised 4 4 4 Stay) (counts (1 ∷ 2 ∷ []) 0 None Stay) (puts 4 Stay)
    ∷ one (has-promised 4 4 0 None) (counts (1 ∷ []) 0 None None) (receiving (telegram Promise 2 1 4 3 Move)) (has-promised 4 4 4 Move) (counts (1 ∷ 2 ∷ []) 3 Move Move) (puts 4 Move)
    ∷ one (has-promised 4 4 3 Move) (counts (1 ∷ []) 3 Move None) (receiving (telegram Promise 2 1 4 2 Stay)) (has-promised 4 4 4 Move) (counts (1 ∷ 2 ∷ []) 3 Move Move) (puts 4 Move)
    ∷ one (has-promised 5 5 0 None) (counts (1 ∷ []) 0 None None) (receiving (telegram Promise 2 1 4 0 None)) (has-promised 5 5 0 None) (counts (1 ∷ 2 ∷ []) 0 None Stay) (puts 4 Stay)
    -- after the put; from none of 1 to n; of no ballot
    ∷ none (has-promised 4 4 4 Stay) (counts (1 ∷ 2 ∷ []) 0 None Stay) (receiving (telegram Promise 3 1 4 0 None))
    ∷ none (has-promised 4 4 0 None) (counts (1 ∷ []) 0 None None) (receiving (telegram Promise 0 1 4 3 Move))
    ∷ none (has-promised 4 4 0 None) (counts (1 ∷ []) 0 None None) (receiving (telegram Promise 4 1 4 3 Move))
    ∷ none (has-promised 4 4 0 None) (counts (1 ∷ []) 0 None None) (receiving (telegram Promise 2 1 0 0 None))
    -- a taken changes nothing; and no controller of a lock takes no part
    ∷ none (has-promised 4 4 4 Stay) (counts (1 ∷ 2 ∷ []) 0 None Stay) (receiving (telegram Accepted 2 1 4 0 Stay))
    ∷ passes_over (record { n = 3; f = 3; id = 1; order = 1 }) put-stay idle nothing (receiving (record { kind = Prepare; n = 3; f = 3; from = 2; to = 1; order = 1; votes = empty; ballot = 5; last = 0; word = None }))
    ∷ []
