-- Trials of document 01, "A controller's rules", where nothing that is claimed of every list would tell a wrong rule from the right one.
use Rattle.std.specs.Prelude.{ℕ, true, false, List, [], ◌∷◌, ◌++◌}
use Rattle.model.specs.declared.Kind.TheVariants.{Vote, Ack, Help, Helped}
use Rattle.model.specs.declared.Outcome.TheVariants.{None, Stay, Move}
use Rattle.model.specs.declared.Event.{Event}
use Rattle.model.specs.declared.Event.TheVariants.{Lock, Order, Cast, Deliver, Timeout, Decide}
use Rattle.protocol.specs.Rows.{Trial}
use Rattle.protocol.specs.RowWords.{C, T, held, proposed, waits, called_by, silent, putting, minus, all_accepted}

-- all are willing; 1 has the votes of 2 and 3 but not 4's, and its acknowledgement reaches 4, which waits
abbrev incomplete : List Event
incomplete = Lock 4 1 false ∷ Order 1 ∷ Cast 1 true 10 ∷ Cast 2 true 20 ∷ Cast 3 true 30 ∷ Cast 4 true 40 ∷ Deliver 2 1 Vote ∷ Deliver 3 1 Vote ∷ Timeout 1 ∷ Timeout 4 ∷ Deliver 1 4 Ack ∷ []

-- 3 waits, and has called 2; 1, which has no other's vote, puts Stay at its second timeout
abbrev alone : List Event
alone = Lock 3 1 false ∷ Order 1 ∷ Cast 1 true 10 ∷ Cast 2 true 20 ∷ Cast 3 true 30 ∷ Timeout 3 ∷ Timeout 1 ∷ Timeout 1 ∷ []

-- all are willing; 2's vote reaches 1 before its first timeout, 3's after it
abbrev late : List Event
late = Lock 3 1 false ∷ Order 1 ∷ Cast 1 true 10 ∷ Cast 2 true 20 ∷ Cast 3 true 30 ∷ Deliver 2 1 Vote ∷ Timeout 1 ∷ Deliver 3 1 Vote ∷ []

-- a clean order of a lock of two, all willing, with these two targets
abbrev moving : ℕ → ℕ → ℕ → List Event
moving order target1 target2 = Order order ∷ Cast 1 true target1 ∷ Cast 2 true target2 ∷ Deliver 1 2 Vote ∷ Deliver 2 1 Vote ∷ Timeout 1 ∷ Timeout 2 ∷ Deliver 1 2 Ack ∷ Deliver 2 1 Ack
    ∷ Timeout 1 ∷ Timeout 2 ∷ []

-- one in which 1 decides, and 2, which has no acknowledgement, puts Move by its own vote set and is given it
abbrev given : ℕ → ℕ → ℕ → List Event
given order target1 target2 = Order order ∷ Cast 1 true target1 ∷ Cast 2 true target2 ∷ Deliver 1 2 Vote ∷ Deliver 2 1 Vote ∷ Timeout 1 ∷ Timeout 2 ∷ Deliver 2 1 Ack ∷ Timeout 1 ∷ Timeout 2
    ∷ Decide 2 true ∷ []

unfoldable pub rule_trials : List Trial
rule_trials =
    -- **Waiting**: "it puts a word: of the join of acknowledgements if it holds any, else of the join of help answers."
    -- 4 has 1's acknowledgement and its own answer, two of three
    silent incomplete (all_accepted 11) (C 2 None 0 ∷ C 1 None 0 ∷ C 2 None 0 ∷ C 3 None 0 ∷ []) (T 4 3 2 0) (held 1 0 ∷ held 0 0 ∷ held 0 0 ∷ waits 1 1 ∷ [])
    -- 2's answer is the third; with the answers, all are known to be willing: but it holds an acknowledgement, by which 4 is not known, and puts Stay
    ∷ putting Stay (incomplete ++ (Timeout 2 ∷ Timeout 2 ∷ Deliver 4 2 Help ∷ Deliver 2 4 Helped ∷ [])) (all_accepted 15)
    (C 2 None 0 ∷ C 3 None 0 ∷ C 2 None 0 ∷ C 3 None 0 ∷ []) (T 4 4 4 1) (held 1 0 ∷ called_by (4 ∷ []) (waits 0 1) ∷ held 0 0 ∷ proposed Stay 1 2 ∷ [])
    -- **Bell at stage 2**: "Otherwise, if at least one is held, it puts the word of their join to the arbiter": of all that are held, that of f + 1 too.
    -- 1's own knows 1 alone, 2's knows both
    ∷ putting Move (Lock 2 1 false ∷ Order 1 ∷ Cast 1 true 500 ∷ Cast 2 true 250 ∷ Deliver 1 2 Vote ∷ Timeout 1 ∷ Timeout 2 ∷ Deliver 2 1 Ack ∷ Timeout 1 ∷ []) (all_accepted 9)
    (C 3 None 0 ∷ C 2 None 0 ∷ []) (T 2 2 0 0) (proposed Move 2 0 ∷ held 0 0 ∷ [])
    -- "After a word or an outcome, more of either is passed over." 2's acknowledgement comes to 1 after its word
    ∷ putting Stay (alone ++ (Timeout 2 ∷ Deliver 2 1 Ack ∷ [])) (all_accepted 10) (C 3 None 0 ∷ C 2 None 0 ∷ C 3 None 0 ∷ []) (T 3 3 1 0)
    (proposed Stay 1 0 ∷ held 0 0 ∷ waits 0 1 ∷ [])
    -- and after its outcome
    ∷ putting Stay (alone ++ (Decide 1 false ∷ Timeout 2 ∷ Deliver 2 1 Ack ∷ [])) (all_accepted 11) (C 3 Stay 0 ∷ C 2 None 0 ∷ C 3 None 0 ∷ []) (T 3 3 1 0)
    (proposed Stay 1 0 ∷ held 0 0 ∷ waits 0 1 ∷ [])
    -- **Arbiter's word**: "becomes the outcome if there is none." One that waited waits no more
    ∷ putting Stay (alone ++ (Decide 3 false ∷ [])) (all_accepted 9) (C 3 None 0 ∷ C 1 None 0 ∷ C 3 Stay 0 ∷ []) (T 3 2 1 0)
    (proposed Stay 1 0 ∷ held 0 0 ∷ held 0 1 ∷ [])
    -- neither 1's acknowledgement nor 2's answer is then counted, and it puts no word
    ∷ putting Stay (alone ++ (Decide 3 false ∷ Deliver 1 3 Ack ∷ Deliver 3 2 Help ∷ Timeout 2 ∷ Timeout 2 ∷ Deliver 2 3 Helped ∷ [])) (all_accepted 14)
    (C 3 None 0 ∷ C 3 None 0 ∷ C 3 Stay 0 ∷ []) (T 3 3 2 1) (proposed Stay 1 0 ∷ called_by (3 ∷ []) (waits 0 1) ∷ held 0 1 ∷ [])
    -- and it still answers: "at stage 3 the help sheet is sent back"
    ∷ putting Stay (alone ++ (Decide 3 false ∷ Timeout 2 ∷ Timeout 2 ∷ Deliver 2 3 Help ∷ [])) (all_accepted 12) (C 3 None 0 ∷ C 3 None 0 ∷ C 3 Stay 0 ∷ []) (T 3 3 2 1)
    (proposed Stay 1 0 ∷ waits 0 1 ∷ called_by (2 ∷ []) (held 0 1) ∷ [])
    -- **Vote arrives**: "later it is passed over." 3's vote comes to 1 after its first timeout: the acknowledgement, "frozen" there, lacks 3. So 1 puts Stay by it,
    ∷ putting Stay (late ++ (Timeout 1 ∷ [])) (all_accepted 9) (C 3 None 0 ∷ C 1 None 0 ∷ C 2 None 0 ∷ []) (T 3 2 0 0) (proposed Stay 1 0 ∷ held 0 0 ∷ held 0 0 ∷ [])
    -- and so does 3, which gets it after that vote
    ∷ putting Stay (late ++ (Deliver 1 3 Ack ∷ Timeout 3 ∷ [])) (all_accepted 10) (C 2 None 0 ∷ C 1 None 0 ∷ C 3 None 0 ∷ []) (T 3 2 0 0) (held 1 0 ∷ held 0 0 ∷ proposed Stay 1 0 ∷ [])
    -- its *word* is "Move if all n are known and willing, else Stay": 2 has not voted, and nobody is unwilling
    ∷ putting Stay (Lock 2 1 false ∷ Order 1 ∷ Cast 1 true 500 ∷ Timeout 1 ∷ Timeout 1 ∷ []) (all_accepted 5) (C 3 None 0 ∷ C 0 None 0 ∷ []) (T 1 1 0 0) (proposed Stay 1 0 ∷ held 0 0 ∷ [])
    -- "**Move** as outcome sets a running gate's position to its target", in every order and from wherever it stands: the second order's targets, and back to 0
    ∷ silent (Lock 2 1 false ∷ (moving 1 500 (minus 250) ++ moving 2 (minus 100) 300)) (all_accepted 23) (C 3 Move (minus 100) ∷ C 3 Move 300 ∷ []) (T 2 2 0 0) (held 2 0 ∷ held 1 0 ∷ [])
    ∷ silent (Lock 2 1 false ∷ (moving 1 500 (minus 250) ++ (moving 2 (minus 100) 300 ++ moving 7 0 20000))) (all_accepted 34) (C 3 Move 0 ∷ C 3 Move 20000 ∷ []) (T 2 2 0 0)
    (held 2 0 ∷ held 1 0 ∷ [])
    -- by the arbiter's word too
    ∷ putting Move (Lock 2 1 false ∷ (moving 1 500 (minus 250) ++ given 2 (minus 100) 300)) (all_accepted 23) (C 3 Move (minus 100) ∷ C 3 Move 300 ∷ []) (T 2 2 0 0)
    (held 2 0 ∷ proposed Move 0 1 ∷ [])
    -- Stay leaves it where it stands
    ∷ silent (Lock 2 1 false ∷ (moving 1 500 (minus 250) ++ (Order 2 ∷ Cast 1 true 10 ∷ Cast 2 false 20 ∷ Deliver 1 2 Vote ∷ Deliver 2 1 Vote ∷ Timeout 1 ∷ Timeout 2 ∷ Deliver 1 2 Ack ∷ Deliver 2 1 Ack
    ∷ Timeout 1 ∷ Timeout 2 ∷ []))) (all_accepted 23) (C 3 Stay 500 ∷ C 3 Stay (minus 250) ∷ []) (T 2 2 0 0) (held 2 0 ∷ held 1 0 ∷ [])
    ∷ []
