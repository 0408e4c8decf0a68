-- Trials of document 02, U11: lists of acts, the answer to each, and what the bench shows at the end. What is expected was written from the documents;
-- the definition runs the acts. `back_trials_hold` in src/lib.rt has the table as its contract; it is computed in proofs/Computed.antt.
-- A row of a kind plays an event, takes it back, and shows the C lines and the T line of before; what they do not show (votes received, cards, telegrams,
-- takings) is told by the acts after the step back: each is answered, or ends, as if the event had never been.
use Rattle.std.specs.Prelude.{ℕ, Bool, true, false, ◌&&◌, List, [], ◌∷◌, ◌++◌, map, eqb, replicate}
use Rattle.model.specs.Questions.{number}
use Rattle.model.specs.declared.Kind.TheVariants.{Vote, Ack, Help, Helped}
use Rattle.model.specs.declared.Outcome.{Outcome}
use Rattle.model.specs.declared.Outcome.TheVariants.{None, Stay, Move}
use Rattle.model.specs.declared.BallotKind.{BallotKind}
use Rattle.model.specs.declared.BallotKind.TheVariants.{Prepare, Promise, Accept, Accepted}
use Rattle.model.specs.declared.BallotEvent.TheVariants.{Open, Carry}
use Rattle.model.specs.declared.Event.{Event}
use Rattle.model.specs.declared.Event.TheVariants.{Lock, Order, Cast, Deliver, Timeout, Decide, Stop, Save, Restore, OfBallots}
use Rattle.model.specs.declared.Act.{Act}
use Rattle.model.specs.declared.Act.TheVariants.{Play, Back}
use Rattle.protocol.specs.declared.Bench.{Bench}
use Rattle.protocol.specs.Counts.{open_gates_of}
use Rattle.protocol.specs.Rows.{Line, each, line_of, message_counts_of, words_put, same, same_line, same_outcome}
use Rattle.protocol.specs.RowWords.{C, T, minus, all_accepted, AllPass}
use Rattle.protocol.specs.Trials.{listing, helped}
use Rattle.steps_back.specs.Memory.{Remembering, new_remembering, answer, next, run_acts}

pub record BackTrial : Type 0 where
  -- put to a new bench, and the answer to each, 0 accepted
  pub acts : List Act
  pub answers : List ℕ
  -- the C lines, from controller 1 on; the T line; the words put in this order; how many gates are still open
  pub lines : List Line
  pub message_counts : List ℕ
  pub words : List Outcome
  pub undecided : ℕ

unfoldable pub answers_to : Remembering → List Act → List ℕ
answers_to s [] = []
answers_to s (a ∷ acts) = number (answer s a) ∷ answers_to (next s a) acts

unfoldable pub shows : Bench → BackTrial → Bool
shows b r = same same_line (each b.shared.n (line_of b)) r.lines && same eqb (message_counts_of b) r.message_counts
    && same same_outcome (words_put b.shared.consensus) r.words && eqb (open_gates_of b.shared) r.undecided

unfoldable pub passes : BackTrial → Bool
passes r = same eqb (answers_to new_remembering r.acts) r.answers && shows (run_acts new_remembering r.acts).bench r

-- the words that rows are written in
abbrev row : List Act → List ℕ → List Line → List ℕ → List Outcome → ℕ → BackTrial
row acts answers lines message_counts words undecided = record { acts = acts; answers = answers; lines = lines; message_counts = message_counts; words = words; undecided = undecided }

abbrev plays : List Event → List Act
plays es = map Play es

-- an event, and a step back
abbrev undone : Event → List Act
undone e = Play e ∷ Back ∷ []

abbrev opens : ℕ → ℕ → Event
opens i b = OfBallots (Open i b)

abbrev carries : BallotKind → ℕ → ℕ → ℕ → Event
carries kind b i j = OfBallots (Carry i j kind b)

-- two that have voted
abbrev voted : List Event
voted = Lock 2 1 false ∷ Order 1 ∷ Cast 1 true 500 ∷ Cast 2 true 250 ∷ []

-- the votes come, and both acknowledge them; 1 holds its own acknowledgement
abbrev votes_in : List Event
votes_in = Deliver 1 2 Vote ∷ Deliver 2 1 Vote ∷ Timeout 1 ∷ Timeout 2 ∷ []

abbrev acknowledged : List Event
acknowledged = voted ++ votes_in

-- what follows two votes where nothing is late
abbrev all_in : List Event
all_in = votes_in ++ (Deliver 1 2 Ack ∷ Deliver 2 1 Ack ∷ Timeout 1 ∷ Timeout 2 ∷ [])

-- at a lock without an arbiter, all willing: the votes reach 1 alone, so 1 puts Move, 2 and 3 put Stay
abbrev words_put3 : List Event
words_put3 = Lock 3 2 true ∷ Order 1 ∷ Cast 1 true 10 ∷ Cast 2 true 20 ∷ Cast 3 true 30 ∷ Deliver 2 1 Vote ∷ Deliver 3 1 Vote ∷ Timeout 1 ∷ Timeout 2 ∷ Timeout 3
    ∷ Timeout 1 ∷ Timeout 2 ∷ Timeout 3 ∷ []

abbrev nobody2 : List Line
nobody2 = C 3 None 0 ∷ C 3 None 0 ∷ []

abbrev nobody3 : List Line
nobody3 = C 3 None 0 ∷ C 3 None 0 ∷ C 3 None 0 ∷ []

-- what such a lock shows after them: each of its two backups has sent votes to the two others, 3 to the two backups; likewise acknowledgements
abbrev ballot_row : List Act → List ℕ → List Line → ℕ → BackTrial
ballot_row acts answers lines undecided = row (plays words_put3 ++ acts) (all_accepted 13 ++ answers) lines (T 6 6 0 0) (Move ∷ Stay ∷ []) undecided

unfoldable pub each_kind : List BackTrial
each_kind =
    -- AN ORDER, which may be undone, and its number opened again: then 7 is not "the last one" any more (12), and with no order a vote gets 14
    row (plays (Lock 2 1 false ∷ Order 7 ∷ Order 7 ∷ []) ++ (Back ∷ plays (Cast 1 true 500 ∷ Order 3 ∷ Order 7 ∷ []) ++ (Back ∷ plays (Order 7 ∷ []))))
    (0 ∷ 0 ∷ 12 ∷ 0 ∷ 14 ∷ 0 ∷ 13 ∷ 0 ∷ 0 ∷ []) (C 0 None 0 ∷ C 0 None 0 ∷ []) (T 0 0 0 0) [] 2
    -- one after another: outcomes and telegrams of the first are there again, and may be delivered
    ∷ row (plays (listing true) ++ (undone (Order 2) ++ plays (Deliver 1 2 Ack ∷ []))) (all_accepted 15) (C 3 Move 500 ∷ C 3 Move (minus 250) ∷ []) (T 2 2 0 0) [] 0
    -- A VOTE: T is set back, its telegram was not sent (17), and it may be given otherwise; that one is undone here too
    ∷ row (plays (Lock 2 1 false ∷ Order 1 ∷ []) ++ (undone (Cast 1 true 500) ++ (plays (Deliver 1 2 Vote ∷ []) ++ undone (Cast 1 false 20)))) (0 ∷ 0 ∷ 0 ∷ 0 ∷ 17 ∷ 0 ∷ 0 ∷ [])
    (C 0 None 0 ∷ C 0 None 0 ∷ []) (T 0 0 0 0) [] 2
    -- A VOTE DELIVERED is not on the sheet: as trial 3, in which none is, both put Stay
    ∷ row (plays voted ++ (undone (Deliver 1 2 Vote) ++ (undone (Deliver 2 1 Vote) ++ plays (Timeout 1 ∷ Timeout 2 ∷ Timeout 1 ∷ Timeout 2 ∷ [])))) (all_accepted 12)
    nobody2 (T 2 2 0 0) (Stay ∷ []) 2
    -- delivered two times, the second of which changed nothing, is remembered two times: one step back leaves it there
    ∷ row (plays (voted ++ (Deliver 2 1 Vote ∷ Deliver 2 1 Vote ∷ [])) ++ (Back ∷ plays (Timeout 1 ∷ Timeout 1 ∷ []))) (all_accepted 9)
    (C 3 None 0 ∷ C 1 None 0 ∷ []) (T 2 1 0 0) (Move ∷ []) 2
    -- AN ACKNOWLEDGEMENT DELIVERED: at its second timeout 1 does not hold that of 2, and puts a word
    ∷ row (plays acknowledged ++ (undone (Deliver 2 1 Ack) ++ plays (Timeout 1 ∷ []))) (all_accepted 11) (C 3 None 0 ∷ C 2 None 0 ∷ []) (T 2 2 0 0) (Move ∷ []) 2
    -- A HELP CALL DELIVERED to one at stage 3: its answer was not sent
    ∷ row (plays (Lock 3 1 false ∷ Order 1 ∷ Cast 2 true 20 ∷ Cast 3 true 30 ∷ Timeout 2 ∷ Timeout 2 ∷ Timeout 3 ∷ []) ++ (undone (Deliver 3 2 Help) ++ plays (Deliver 2 3 Helped ∷ [])))
    (all_accepted 9 ++ (17 ∷ [])) (C 0 None 0 ∷ C 3 None 0 ∷ C 3 None 0 ∷ []) (T 2 1 2 0) [] 3
    -- and one that comes early is not kept: 2 answers nobody at its second timeout
    ∷ row (plays (Lock 3 1 false ∷ Order 1 ∷ Cast 2 true 20 ∷ Cast 3 true 30 ∷ Timeout 3 ∷ []) ++ (undone (Deliver 3 2 Help) ++ plays (Timeout 2 ∷ Timeout 2 ∷ [])))
    (all_accepted 9) (C 0 None 0 ∷ C 3 None 0 ∷ C 3 None 0 ∷ []) (T 2 1 2 0) [] 3
    -- A HELP ANSWER DELIVERED: 3, which put Stay by it in trial 5, waits; it puts it when the answer comes again
    ∷ row (plays helped ++ (Back ∷ [])) (all_accepted 14) (C 2 None 0 ∷ C 3 None 0 ∷ C 3 None 0 ∷ []) (T 3 3 2 1) [] 3
    ∷ row (plays helped ++ (Back ∷ plays (Deliver 2 3 Helped ∷ []))) (all_accepted 15) (C 2 None 0 ∷ C 3 None 0 ∷ C 3 None 0 ∷ []) (T 3 3 2 1) (Stay ∷ []) 3
    -- A BELL, the first: the acknowledgements were not sent
    ∷ row (plays (voted ++ (Deliver 1 2 Vote ∷ Deliver 2 1 Vote ∷ Timeout 1 ∷ [])) ++ (undone (Timeout 2) ++ (Back ∷ plays (Deliver 1 2 Ack ∷ [])))) (all_accepted 10 ++ (17 ∷ []))
    (C 1 None 0 ∷ C 1 None 0 ∷ []) (T 2 0 0 0) [] 2
    -- and the second, which moved the gate: "positions"
    ∷ row (plays (listing true) ++ (Back ∷ [])) (all_accepted 13) (C 3 Move 500 ∷ C 2 None 0 ∷ []) (T 2 2 0 0) [] 1
    -- "a gate set back by a step back has not been moved": both are, up to 2's vote, and move again in the same order, 2's to another target
    ∷ row (plays (listing true) ++ (replicate 9 Back ++ plays (Cast 2 true 700 ∷ all_in))) (all_accepted 30) (C 3 Move 500 ∷ C 3 Move 700 ∷ []) (T 2 2 0 0) [] 0
    -- THE ARBITER's word: the gate is back, and the other word may be given
    ∷ row (plays (helped ++ (Deliver 1 2 Ack ∷ Decide 2 true ∷ Decide 3 false ∷ [])) ++ (Back ∷ plays (Decide 3 false ∷ Decide 2 true ∷ []))) (all_accepted 15 ++ (18 ∷ 0 ∷ 0 ∷ 18 ∷ []))
    (C 2 None 0 ∷ C 3 None 0 ∷ C 3 Stay 0 ∷ []) (T 3 3 2 1) (Move ∷ Stay ∷ []) 2
    -- A STOP of one that held acknowledgements: it holds them again, and decides
    ∷ row (plays (acknowledged ++ (Deliver 2 1 Ack ∷ [])) ++ (undone (Stop 1) ++ plays (Timeout 1 ∷ []))) (all_accepted 12) (C 3 Move 500 ∷ C 2 None 0 ∷ []) (T 2 2 0 0) [] 1
    -- it is present: a new order finds both undecided
    ∷ row (plays (listing true) ++ (undone (Stop 1) ++ plays (Order 2 ∷ []))) (all_accepted 15) (C 0 None 500 ∷ C 0 None (minus 250) ∷ []) (T 0 0 0 0) [] 2
    -- A SAVE: there is no card (19)
    ∷ row (plays voted ++ (undone (Save 1) ++ plays (Stop 1 ∷ Restore 1 ∷ []))) (all_accepted 7 ++ (19 ∷ [])) (C 8 None 0 ∷ C 1 None 0 ∷ []) (T 2 0 0 0) [] 1
    -- or the one of before is the newest again: 1 was saved without outcome, and then with Move
    ∷ row (plays (acknowledged ++ (Save 1 ∷ Deliver 2 1 Ack ∷ Timeout 1 ∷ [])) ++ (undone (Save 1) ++ plays (Stop 1 ∷ Restore 1 ∷ []))) (all_accepted 15)
    (C 9 None 500 ∷ C 2 None 0 ∷ []) (T 2 2 0 0) [] 1
    -- A RESTORE: it is stopped, and its card is there
    ∷ row (plays (voted ++ (Save 1 ∷ Stop 1 ∷ [])) ++ (undone (Restore 1) ++ plays (Timeout 1 ∷ Stop 1 ∷ []))) (all_accepted 8 ++ (15 ∷ 15 ∷ [])) (C 8 None 0 ∷ C 1 None 0 ∷ []) (T 2 0 0 0) [] 1
    -- THE SECOND BELL at a lock without an arbiter: 3 has put no word, and may open no ballot (29)
    ∷ ballot_row (Back ∷ plays (opens 3 3 ∷ [])) (0 ∷ 29 ∷ []) (C 3 None 0 ∷ C 3 None 0 ∷ C 2 None 0 ∷ []) 3
    -- A BALLOT OPENED: its ask was not sent, and it may be opened again, once (28)
    ∷ ballot_row (plays (opens 1 1 ∷ opens 1 1 ∷ []) ++ (Back ∷ plays (carries Prepare 1 1 2 ∷ opens 1 1 ∷ opens 1 1 ∷ []))) (0 ∷ 28 ∷ 0 ∷ 17 ∷ 0 ∷ 28 ∷ []) nobody3 3
    -- AN ASK DELIVERED: 2 has promised nothing, and may open its ballot 2 though it had promised ballot 4
    ∷ ballot_row (plays (opens 1 4 ∷ []) ++ (undone (carries Prepare 4 1 2) ++ plays (carries Promise 4 2 1 ∷ opens 2 2 ∷ []))) (0 ∷ 0 ∷ 0 ∷ 17 ∷ 0 ∷ []) nobody3 3
    -- A PROMISE DELIVERED: 1 has not put its word; it does so when the promise comes again
    ∷ ballot_row (plays (opens 1 1 ∷ carries Prepare 1 1 2 ∷ []) ++ (undone (carries Promise 1 2 1) ++ plays (carries Accept 1 1 2 ∷ carries Promise 1 2 1 ∷ carries Accept 1 1 2 ∷ [])))
    (0 ∷ 0 ∷ 0 ∷ 0 ∷ 17 ∷ 0 ∷ 0 ∷ []) nobody3 3
    -- A PUT DELIVERED: 2's taking is not noted. Move was chosen by it, and is no more (18); delivered again, it is
    ∷ ballot_row (plays (opens 1 1 ∷ carries Prepare 1 1 2 ∷ carries Promise 1 2 1 ∷ []) ++ (undone (carries Accept 1 1 2)
    ++ plays (carries Accepted 1 2 1 ∷ Decide 1 true ∷ carries Accept 1 1 2 ∷ Decide 1 true ∷ []))) (0 ∷ 0 ∷ 0 ∷ 0 ∷ 0 ∷ 17 ∷ 18 ∷ 0 ∷ 0 ∷ []) (C 3 Move 10 ∷ C 3 None 0 ∷ C 3 None 0 ∷ []) 2
    -- A TAKEN DELIVERED, which changes nothing: the step back undoes that, and not the put before it
    ∷ ballot_row (plays (opens 1 1 ∷ carries Prepare 1 1 2 ∷ carries Promise 1 2 1 ∷ carries Accept 1 1 2 ∷ []) ++ (undone (carries Accepted 1 2 1) ++ plays (Decide 2 true ∷ [])))
    (all_accepted 7) (C 3 None 0 ∷ C 3 Move 20 ∷ C 3 None 0 ∷ []) 2
    -- THE WORD OF A BALLOT GIVEN
    ∷ ballot_row (plays (opens 1 1 ∷ carries Prepare 1 1 2 ∷ carries Promise 1 2 1 ∷ carries Accept 1 1 2 ∷ []) ++ undone (Decide 1 true)) (all_accepted 6) nobody3 3
    ∷ []

unfoldable pub remembered : List BackTrial
remembered =
    -- "Refused: 26, nothing to undo; after question 5": with no lock 5; "lock events cannot be undone": right after it 26, and it is there (6)
    row (Back ∷ Play (Lock 2 1 false) ∷ Back ∷ Play (Lock 3 1 false) ∷ []) (5 ∷ 0 ∷ 26 ∷ 6 ∷ []) (C 0 None 0 ∷ C 0 None 0 ∷ []) (T 0 0 0 0) [] 2
    -- "the last accepted event": refused ones are not remembered
    ∷ row (plays (Lock 2 1 false ∷ Timeout 1 ∷ Order 0 ∷ []) ++ (Back ∷ plays (Order 1 ∷ Timeout 1 ∷ Order 1 ∷ Restore 2 ∷ []) ++ (Back ∷ Back ∷ []))) (0 ∷ 14 ∷ 8 ∷ 26 ∷ 0 ∷ 16 ∷ 12 ∷ 15 ∷ 0 ∷ 26 ∷ [])
    (C 0 None 0 ∷ C 0 None 0 ∷ []) (T 0 0 0 0) [] 2
    -- "that is neither a step back nor undone already": the second step back undoes the first stop, and not the first step back; "one undone is dropped"
    ∷ row (plays (Lock 2 1 false ∷ Order 1 ∷ Stop 1 ∷ Stop 2 ∷ []) ++ (Back ∷ Back ∷ [])) (all_accepted 6) (C 0 None 0 ∷ C 0 None 0 ∷ []) (T 0 0 0 0) [] 2
    ∷ row (plays (Lock 2 1 false ∷ Order 1 ∷ Stop 1 ∷ []) ++ (Back ∷ Play (Stop 2) ∷ Back ∷ Back ∷ Back ∷ [])) (all_accepted 7 ++ (26 ∷ [])) (C 0 None 0 ∷ C 0 None 0 ∷ []) (T 0 0 0 0) [] 2
    -- the last one may be of the order before
    ∷ row (plays (listing true ++ (Order 2 ∷ [])) ++ (Back ∷ Back ∷ [])) (all_accepted 15) (C 3 Move 500 ∷ C 2 None 0 ∷ []) (T 2 2 0 0) [] 1
    -- a step back, another event in the place of the one undone, and on
    ∷ row (plays (Lock 2 1 false ∷ Order 1 ∷ Cast 1 true 500 ∷ []) ++ (Back ∷ plays (Cast 1 false 20 ∷ Cast 2 true 250 ∷ all_in))) (all_accepted 14)
    (C 3 Stay 0 ∷ C 3 Stay 0 ∷ []) (T 2 2 0 0) [] 0
    -- "its clean orders included": a stop, and a bell before the votes were in, are undone, and all second bells decide
    ∷ row (plays voted ++ (undone (Stop 2) ++ (undone (Timeout 1) ++ plays all_in))) (all_accepted 16) (C 3 Move 500 ∷ C 3 Move 250 ∷ []) (T 2 2 0 0) [] 0
    -- "Up to 64 such events are remembered": the order and 63 more can all be undone
    ∷ row (plays (Lock 2 1 false ∷ Order 1 ∷ []) ++ (replicate 63 (Play (Save 1)) ++ replicate 65 Back)) (all_accepted 129 ++ (26 ∷ [])) (C 0 None 0 ∷ C 0 None 0 ∷ []) (T 0 0 0 0) [] 2
    -- "one undone is dropped", and makes room: the one after it pushes out none
    ∷ row (plays (Lock 2 1 false ∷ Order 1 ∷ []) ++ (replicate 63 (Play (Save 1)) ++ (Back ∷ Play (Save 2) ∷ replicate 65 Back))) (all_accepted 131 ++ (26 ∷ []))
    (C 0 None 0 ∷ C 0 None 0 ∷ []) (T 0 0 0 0) [] 2
    -- "one more pushes out the oldest", and it stays out: with one more the order is not undone, and 2 may vote
    ∷ row (plays (Lock 2 1 false ∷ Order 1 ∷ []) ++ (replicate 64 (Play (Save 1)) ++ (replicate 65 Back ++ (Play (Cast 2 true 250) ∷ Back ∷ Back ∷ [])))) (all_accepted 130 ++ (26 ∷ 0 ∷ 0 ∷ 26 ∷ []))
    (C 0 None 0 ∷ C 0 None 0 ∷ []) (T 0 0 0 0) [] 2
    ∷ []

pub record BackTrialsHold : Type 0 where
  pub each-kind : AllPass passes each_kind
  pub memory : AllPass passes remembered
