-- Trials of the questions: an event beside the number that it gives, 0 where it is accepted. Document 01, "Questions put to a record or event": "In this sequence,
-- each where it applies. .. The first "no" gives its number." (AskedInSequence has the numbers of every kind in their sequence.)
use Rattle.std.specs.Prelude.{ℕ, Bool, true, false, ◌&&◌, List, [], ◌∷◌, ◌++◌, eqb}
use Rattle.model.specs.declared.Kind.{Kind}
use Rattle.model.specs.declared.Kind.TheVariants.{Vote, Ack, Help, Helped}
use Rattle.model.specs.declared.Event.{Event}
use Rattle.model.specs.declared.Event.TheVariants.{Lock, Order, Cast, Deliver, Timeout, Decide, Stop, Save, Restore}
use Rattle.protocol.specs.declared.Bench.{Bench}
use Rattle.protocol.specs.Benches.{new_bench}
use Rattle.protocol.specs.Questions.{number, reply}
use Rattle.protocol.specs.Steps.{step}
use Rattle.protocol.specs.RowWords.{minus}

pub record Asked : Type 0 where
  pub event : Event
  pub answer : ℕ

abbrev pub gives : Event → ℕ → Asked
gives e answer = record { event = e; answer = answer }

-- each event, put to the bench that those before it left, gives its number
unfoldable pub gives_all : Bench → List Asked → Bool
gives_all b [] = true
gives_all b (x ∷ xs) = eqb (number (reply b x.event)) x.answer && gives_all (step b x.event) xs

unfoldable pub as_asked : List Asked → Bool
as_asked schedule = gives_all new_bench schedule

-- a kind of message from 1 to 2, 1 to 3, 2 to 1, 2 to 3, 3 to 1, 3 to 2
abbrev six_ways : Kind → ℕ → ℕ → ℕ → ℕ → ℕ → ℕ → List Asked
six_ways kind a b c d x y = gives (Deliver 1 2 kind) a ∷ gives (Deliver 1 3 kind) b ∷ gives (Deliver 2 1 kind) c ∷ gives (Deliver 2 3 kind) d ∷ gives (Deliver 3 1 kind) x ∷ gives (Deliver 3 2 kind) y ∷ []

-- a lock of three with one backup, and an order in it
abbrev locked : List Asked
locked = gives (Lock 3 1 false) 0 ∷ []

abbrev opened : List Asked
opened = gives (Lock 3 1 false) 0 ∷ gives (Order 1) 0 ∷ []

unfoldable pub schedules : List (List Asked)
schedules =
    -- "5. Is a lock set up? (every event but lock)", before all that comes after it
    (gives (Order 0) 5 ∷ gives (Cast 0 true 20001) 5 ∷ gives (Deliver 1 1 Help) 5 ∷ gives (Timeout 0) 5 ∷ gives (Decide 0 true) 5 ∷ gives (Stop 0) 5 ∷ gives (Save 0) 5
    ∷ gives (Restore 0) 5 ∷ [])
    -- "4. Are n and f in range?" before "6. Is no lock set up yet? (lock)"
    ∷ (locked ++ (gives (Lock 33 1 false) 4 ∷ gives (Lock 3 1 false) 6 ∷ gives (Lock 2 1 false) 6 ∷ []))
    -- "7. Are controller numbers in 1 to n, sender and receiver different?" of every event with a controller, of a delivery's sender as of its receiver;
    -- before 10, 11 and 14
    ∷ (locked ++ (gives (Cast 0 true 20001) 7 ∷ gives (Cast 4 true 20001) 7 ∷ gives (Deliver 0 1 Vote) 7 ∷ gives (Deliver 4 1 Vote) 7 ∷ gives (Deliver 1 0 Ack) 7
    ∷ gives (Deliver 1 4 Ack) 7 ∷ gives (Deliver 2 2 Help) 7 ∷ gives (Timeout 0) 7 ∷ gives (Timeout 4) 7 ∷ gives (Decide 0 true) 7 ∷ gives (Decide 4 true) 7
    ∷ gives (Stop 0) 7 ∷ gives (Stop 4) 7 ∷ gives (Save 0) 7 ∷ gives (Save 4) 7 ∷ gives (Restore 0) 7 ∷ gives (Restore 4) 7 ∷ []))
    -- "10. May the kind travel so, by the rules above?" of every kind; before 14, which is what the others give.
    -- A vote goes "to every other controller of 1 to f; a holder also sends one to f + 1"
    ∷ (locked ++ six_ways Vote 14 10 14 10 14 10)
    -- an acknowledgement of a holder "to all others", of f + 1 "to the holders only"
    ∷ (locked ++ six_ways Ack 14 14 14 10 10 10)
    -- help calls "to all others of f + 1 to n", from one of these; and an answer "is sent back"
    ∷ (locked ++ six_ways Help 10 10 10 14 10 14)
    ∷ (locked ++ six_ways Helped 10 10 10 14 10 14)
    -- "11. Is the position in range?" before 14; "14. Is an order open? (kinds 2 to 8)" before 15, 16, 18 and 19
    ∷ (locked ++ (gives (Cast 1 true 20001) 11 ∷ gives (Cast 1 true (minus 20001)) 11 ∷ gives (Cast 1 true 20000) 14 ∷ gives (Timeout 1) 14 ∷ gives (Decide 1 true) 14
    ∷ gives (Stop 1) 14 ∷ gives (Save 1) 14 ∷ gives (Restore 1) 14 ∷ []))
    -- "8. Is the order number at least 1?", "12. Is the order number above the last one?", "13. Has every running controller an outcome ..?"
    ∷ (locked ++ (gives (Order 0) 8 ∷ gives (Order 5) 0 ∷ gives (Order 0) 8 ∷ gives (Order 5) 12 ∷ gives (Order 4) 12 ∷ gives (Order 6) 13 ∷ []))
    -- "15. Is the condition right? Vote, bell, receiver of a delivery: running. Arbiter, stop, save: running or standing by. Restore: stopped." Of a running one
    ∷ (opened ++ (gives (Restore 1) 15 ∷ gives (Save 1) 0 ∷ gives (Restore 1) 15 ∷ []))
    -- of a stopped one; before 16, 17 and 18
    ∷ (opened ++ (gives (Stop 1) 0 ∷ gives (Cast 1 true 10) 15 ∷ gives (Deliver 2 1 Vote) 15 ∷ gives (Timeout 1) 15 ∷ gives (Decide 1 true) 15 ∷ gives (Stop 1) 15
    ∷ gives (Save 1) 15 ∷ gives (Restore 1) 19 ∷ []))
    -- of one standing by
    ∷ (opened ++ (gives (Save 1) 0 ∷ gives (Stop 1) 0 ∷ gives (Restore 1) 0 ∷ gives (Cast 1 true 10) 15 ∷ gives (Deliver 2 1 Vote) 15 ∷ gives (Timeout 1) 15
    ∷ gives (Restore 1) 15 ∷ gives (Decide 1 true) 18 ∷ gives (Save 1) 0 ∷ gives (Stop 1) 0 ∷ gives (Stop 1) 15 ∷ gives (Restore 1) 0 ∷ []))
    -- "16. Is the stage right? Vote 0; bell 1 or 2; arbiter 3, if running." before 18. A backup at stage 0, 1, 2 and 3: there is no third bell
    ∷ (opened ++ (gives (Timeout 1) 16 ∷ gives (Decide 1 false) 16 ∷ gives (Cast 1 true 10) 0 ∷ gives (Cast 1 true 10) 16 ∷ gives (Decide 1 false) 16 ∷ gives (Timeout 1) 0
    ∷ gives (Cast 1 true 10) 16 ∷ gives (Decide 1 false) 16 ∷ gives (Timeout 1) 0 ∷ gives (Cast 1 true 10) 16 ∷ gives (Timeout 1) 16 ∷ gives (Decide 1 false) 0 ∷ gives (Timeout 1) 16 ∷ []))
    -- and one of f + 2 to n, which has just one bell
    ∷ (opened ++ (gives (Timeout 3) 16 ∷ gives (Cast 3 true 30) 0 ∷ gives (Decide 3 false) 16 ∷ gives (Timeout 3) 0 ∷ gives (Cast 3 true 30) 16 ∷ gives (Timeout 3) 16
    ∷ gives (Decide 3 false) 18 ∷ []))
    -- "17. Was that telegram sent in this order? It may be delivered any number of times."
    ∷ (opened ++ (gives (Deliver 2 1 Vote) 17 ∷ gives (Cast 2 true 20) 0 ∷ gives (Deliver 2 1 Vote) 0 ∷ gives (Deliver 2 1 Vote) 0 ∷ gives (Deliver 3 1 Vote) 17
    ∷ gives (Deliver 2 1 Ack) 17 ∷ gives (Timeout 2) 0 ∷ gives (Deliver 2 1 Ack) 0 ∷ gives (Deliver 2 1 Ack) 0 ∷ []))
    -- "18. Was the word put in this order, and no other given?" 1 puts Stay
    ∷ (opened ++ (gives (Cast 1 true 10) 0 ∷ gives (Cast 3 true 30) 0 ∷ gives (Timeout 3) 0 ∷ gives (Decide 3 false) 18 ∷ gives (Timeout 1) 0 ∷ gives (Timeout 1) 0
    ∷ gives (Decide 3 true) 18 ∷ gives (Decide 3 false) 0 ∷ gives (Decide 3 true) 18 ∷ gives (Decide 3 false) 0 ∷ gives (Decide 1 false) 0 ∷ []))
    -- **New order**: "Old telegrams, words put and the arbiter's choice are gone". In order 1 both put Stay and are given it; in order 2 only 2 puts a word, Move
    ∷ (gives (Lock 2 1 false) 0 ∷ gives (Order 1) 0 ∷ gives (Cast 1 true 10) 0 ∷ gives (Cast 2 true 20) 0 ∷ gives (Timeout 1) 0 ∷ gives (Timeout 2) 0 ∷ gives (Timeout 1) 0 ∷ gives (Timeout 2) 0
    ∷ gives (Deliver 2 1 Vote) 0 ∷ gives (Deliver 2 1 Ack) 0 ∷ gives (Decide 1 false) 0 ∷ gives (Decide 2 false) 0 ∷ gives (Order 2) 0 ∷ gives (Deliver 2 1 Vote) 17 ∷ gives (Deliver 2 1 Ack) 17
    ∷ gives (Cast 1 true 10) 0 ∷ gives (Cast 2 true 20) 0 ∷ gives (Deliver 1 2 Vote) 0 ∷ gives (Timeout 2) 0 ∷ gives (Timeout 2) 0 ∷ gives (Decide 2 false) 18 ∷ gives (Decide 2 true) 0
    ∷ gives (Decide 2 false) 18 ∷ [])
    ∷ []
