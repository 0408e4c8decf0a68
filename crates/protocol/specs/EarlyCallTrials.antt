-- Trials of document 02, U4: help calls that come early, and in which sequence the messages of an answer go out.
use Rattle.std.specs.Prelude.{true, false, List, [], ◌∷◌, ◌++◌}
use Rattle.model.specs.declared.Kind.TheVariants.{Vote, Ack, Help, Helped}
use Rattle.model.specs.declared.Outcome.TheVariants.{None, Stay, Move}
use Rattle.model.specs.declared.Event.{Event}
use Rattle.model.specs.declared.Event.TheVariants.{Lock, Order, Cast, Deliver, Timeout, Decide, Stop, Save, Restore}
use Rattle.protocol.specs.Rows.{Trial, SendTrial, message}
use Rattle.protocol.specs.RowWords.{C, T, held, proposed, waits, called_by, silent, all_accepted}

-- 3 calls while 2 has not voted yet; or where 2 will hold 1's full acknowledgement at its second timeout
abbrev pub calling : List Event
calling = Lock 3 1 false ∷ Order 1 ∷ Cast 1 true 10 ∷ Cast 3 true 30 ∷ Timeout 3 ∷ []

abbrev pub decides_with_call : List Event
decides_with_call = Lock 3 1 false ∷ Order 1 ∷ Cast 1 true 10 ∷ Cast 2 true 20 ∷ Cast 3 true 30 ∷ Deliver 2 1 Vote ∷ Deliver 3 1 Vote ∷ Timeout 3 ∷ Timeout 1 ∷ Timeout 2
    ∷ Deliver 3 2 Help ∷ Deliver 1 2 Ack ∷ []

-- 4 calls 2, and 3 calls 2 after it; then 2's first timeout
abbrev pub two_calling : List Event
two_calling = Lock 4 1 false ∷ Order 1 ∷ Cast 3 true 30 ∷ Cast 4 true 40 ∷ Timeout 3 ∷ Timeout 4 ∷ Deliver 4 2 Help ∷ Deliver 3 2 Help ∷ Cast 2 true 20 ∷ Timeout 2 ∷ []

unfoldable pub early_calls : List Trial
early_calls =
    -- "a call that comes before stage 3 is kept, one per caller, and answered at the second bell". Kept at stage 0:
    silent (calling ++ (Deliver 3 2 Help ∷ [])) (all_accepted 6) (C 1 None 0 ∷ C 0 None 0 ∷ C 3 None 0 ∷ []) (T 2 0 1 0)
    (held 0 0 ∷ called_by (3 ∷ []) (held 0 0) ∷ waits 0 1 ∷ [])
    -- and answered at the second timeout, which waits
    ∷ silent (calling ++ (Deliver 3 2 Help ∷ Cast 2 true 20 ∷ Timeout 2 ∷ Timeout 2 ∷ [])) (all_accepted 9) (C 1 None 0 ∷ C 3 None 0 ∷ C 3 None 0 ∷ []) (T 3 1 2 1)
    (held 0 0 ∷ called_by (3 ∷ []) (waits 0 1) ∷ waits 0 1 ∷ [])
    -- kept at stage 1:
    ∷ silent (calling ++ (Cast 2 true 20 ∷ Deliver 3 2 Help ∷ [])) (all_accepted 7) (C 1 None 0 ∷ C 1 None 0 ∷ C 3 None 0 ∷ []) (T 3 0 1 0)
    (held 0 0 ∷ called_by (3 ∷ []) (held 0 0) ∷ waits 0 1 ∷ [])
    -- and answered at the second timeout, which puts a word
    ∷ record {
      events = calling ++ (Cast 2 true 20 ∷ Deliver 3 2 Help ∷ Timeout 1 ∷ Deliver 1 2 Ack ∷ Timeout 2 ∷ Timeout 2 ∷ []);
      answers = all_accepted 11;
      lines = C 2 None 0 ∷ C 3 None 0 ∷ C 3 None 0 ∷ [];
      message_counts = T 3 3 1 1;
      words = Stay ∷ [];
      inside = held 1 0 ∷ called_by (3 ∷ []) (proposed Stay 1 0) ∷ waits 0 1 ∷ [];
    }
    -- kept at stage 2:
    ∷ silent decides_with_call (all_accepted 12) (C 2 None 0 ∷ C 2 None 0 ∷ C 3 None 0 ∷ []) (T 3 3 1 0)
    (held 1 0 ∷ called_by (3 ∷ []) (held 1 0) ∷ waits 0 1 ∷ [])
    -- and answered at the second timeout, which decides
    ∷ silent (decides_with_call ++ (Timeout 2 ∷ [])) (all_accepted 13) (C 2 None 0 ∷ C 3 Move 20 ∷ C 3 None 0 ∷ []) (T 3 3 1 1)
    (held 1 0 ∷ called_by (3 ∷ []) (held 1 0) ∷ waits 0 1 ∷ [])
    -- "one per caller": it comes three times, is kept once and answered once, and not again when it comes at stage 3
    ∷ silent (calling ++ (Deliver 3 2 Help ∷ Deliver 3 2 Help ∷ Cast 2 true 20 ∷ Timeout 2 ∷ Deliver 3 2 Help ∷ Timeout 2 ∷ Deliver 3 2 Help ∷ [])) (all_accepted 12)
    (C 1 None 0 ∷ C 3 None 0 ∷ C 3 None 0 ∷ []) (T 3 1 2 1) (held 0 0 ∷ called_by (3 ∷ []) (waits 0 1) ∷ waits 0 1 ∷ [])
    -- "in rising order of caller" (`sequences` has the sequence)
    ∷ silent (two_calling ++ (Timeout 2 ∷ [])) (all_accepted 11) (C 0 None 0 ∷ C 3 None 0 ∷ C 3 None 0 ∷ C 3 None 0 ∷ []) (T 3 1 6 2)
    (held 0 0 ∷ called_by (3 ∷ 4 ∷ []) (waits 0 1) ∷ waits 0 1 ∷ waits 0 1 ∷ [])
    -- "A stop loses kept calls."
    ∷ silent (calling ++ (Deliver 3 2 Help ∷ Save 2 ∷ Stop 2 ∷ [])) (all_accepted 8) (C 1 None 0 ∷ C 8 None 0 ∷ C 3 None 0 ∷ []) (T 2 0 1 0)
    (held 0 0 ∷ held 0 0 ∷ waits 0 1 ∷ [])
    -- one standing by has none, and takes none
    ∷ silent (calling ++ (Deliver 3 2 Help ∷ Save 2 ∷ Stop 2 ∷ Restore 2 ∷ Deliver 3 2 Help ∷ Timeout 2 ∷ [])) (all_accepted 9 ++ (15 ∷ 15 ∷ []))
    (C 1 None 0 ∷ C 9 None 0 ∷ C 3 None 0 ∷ []) (T 2 0 1 0) (held 0 0 ∷ held 0 0 ∷ waits 0 1 ∷ [])
    -- a new order drops them: 3's call of order 1 is not answered in order 2
    ∷ silent (decides_with_call ++ (Timeout 2 ∷ Deliver 2 3 Helped ∷ Timeout 1 ∷ Decide 1 true ∷ Decide 3 true ∷ Order 2 ∷ Cast 2 true 20 ∷ Timeout 2 ∷ Timeout 2 ∷ []))
    (all_accepted 21) (C 0 None 10 ∷ C 3 None 20 ∷ C 0 None 30 ∷ []) (T 1 1 1 0) (held 0 0 ∷ waits 0 1 ∷ held 0 0 ∷ [])
    ∷ []

unfoldable pub sequences : List SendTrial
sequences =
    -- the messages of a vote, and of a first timeout
    record { events = Lock 4 2 false ∷ Order 1 ∷ []; last = Cast 1 true 10; messages = message 4 2 Vote 1 2 1 1 ∷ message 4 2 Vote 1 3 1 1 ∷ [] }
    ∷ record {
      events = Lock 4 2 false ∷ Order 1 ∷ Cast 1 true 10 ∷ Cast 4 false 40 ∷ Deliver 4 1 Vote ∷ [];
      last = Timeout 1;
      messages = message 4 2 Ack 1 2 9 1 ∷ message 4 2 Ack 1 3 9 1 ∷ message 4 2 Ack 1 4 9 1 ∷ [];
    }
    -- "answered at the second bell, after its own calls, in rising order of caller"
    ∷ record {
      events = two_calling;
      last = Timeout 2;
      messages = message 4 1 Help 2 3 0 0 ∷ message 4 1 Help 2 4 0 0 ∷ message 4 1 Helped 2 3 2 2 ∷ message 4 1 Helped 2 4 2 2 ∷ [];
    }
    -- with the help vote set that is frozen at that timeout
    ∷ record { events = decides_with_call; last = Timeout 2; messages = message 3 1 Helped 2 3 7 7 ∷ [] }
    -- a call that is kept sends nothing, nor does one that was answered
    ∷ record { events = calling; last = Deliver 3 2 Help; messages = [] }
    ∷ record { events = decides_with_call ++ (Timeout 2 ∷ []); last = Deliver 3 2 Help; messages = [] }
    ∷ []
