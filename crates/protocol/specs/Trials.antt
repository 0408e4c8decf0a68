-- Document 01, "Trials": the starred ones, a row each in one table, with the other places where it, or document 02's U10, states figures; and THE THEOREM on all
-- tables of trials, those of the files named below too. What is expected was written from the documents; the definition runs the events. `trials_hold` in
-- src/lib.rt has it as its contract; it is computed in proofs/Computed.antt.
use Rattle.std.specs.Prelude.{ℕ, ◌≡◌, Bool, true, false, List, [], ◌∷◌, ◌++◌, eqb, ltb, replicate}
use Rattle.model.specs.declared.Kind.TheVariants.{Vote, Ack, Help, Helped}
use Rattle.model.specs.declared.Outcome.TheVariants.{None, Stay, Move}
use Rattle.model.specs.declared.Event.{Event}
use Rattle.model.specs.declared.Event.TheVariants.{Lock, Order, Cast, Deliver, Timeout, Decide, Stop, Save, Restore}
use Rattle.protocol.specs.Benches.{new_bench}
use Rattle.protocol.specs.CleanOrders.{clean_order}
use Rattle.protocol.specs.Rows.{Trial, answers_to, open_after, same, passes, sends_as}
use Rattle.protocol.specs.RowWords.{C, T, held, proposed, waits, called_by, silent, minus, all_accepted, AllPass}
use Rattle.protocol.specs.RuleTrials.{rule_trials}
use Rattle.protocol.specs.StandbyTrials.{standby_trials, has_checkpoint, checkpoint_trials}
use Rattle.protocol.specs.QuestionTrials.{as_asked, schedules}
use Rattle.protocol.specs.EarlyCallTrials.{early_calls, sequences}
use Rattle.protocol.specs.StrayTrials.{answers_as, strays}
use Rattle.protocol.specs.BallotTrials.{ballot_passes, ballot_trials}
use Rattle.protocol.specs.BallotCallTrials.{call_passes, ballot_call_trials}
use Rattle.protocol.specs.AloneTrials.{stands_as, alone_trials}

-- "Input: lock 2 1; order 1; vote 1 willing 500; vote 2 willing −250; deliver votes 1 to 2, 2 to 1; bells 1, 2;
-- deliver acknowledgements 1 to 2, 2 to 1; bells 1, 2." With 2 willing or not.
abbrev pub listing : Bool → List Event
listing willing = Lock 2 1 false ∷ Order 1 ∷ Cast 1 true 500 ∷ Cast 2 willing (minus 250) ∷ Deliver 1 2 Vote ∷ Deliver 2 1 Vote ∷ Timeout 1 ∷ Timeout 2
    ∷ Deliver 1 2 Ack ∷ Deliver 2 1 Ack ∷ Timeout 1 ∷ Timeout 2 ∷ []

-- trial 3: "n = 2, f = 1, willing, no delivery, all bells"
abbrev pub undelivered : List Event
undelivered = Lock 2 1 false ∷ Order 1 ∷ Cast 1 true 500 ∷ Cast 2 true 250 ∷ Timeout 1 ∷ Timeout 2 ∷ Timeout 1 ∷ Timeout 2 ∷ []

-- trial 5, up to 2's help answer; 3's call reaches 2 before
abbrev pub helped : List Event
helped = Lock 3 1 false ∷ Order 1 ∷ Cast 1 true 10 ∷ Cast 2 true 20 ∷ Cast 3 true 30 ∷ Deliver 2 1 Vote ∷ Deliver 3 1 Vote
    ∷ Timeout 1 ∷ Timeout 2 ∷ Timeout 2 ∷ Timeout 3 ∷ Deliver 3 2 Help ∷ Deliver 2 3 Helped ∷ []

-- as the listing, but without 1's acknowledgement to 2, which puts Move by its own vote set and is given it; then 2 is saved, stopped and restored
abbrev pub restored : List Event
restored = Lock 2 1 false ∷ Order 1 ∷ Cast 1 true 500 ∷ Cast 2 true 250 ∷ Deliver 1 2 Vote ∷ Deliver 2 1 Vote ∷ Timeout 1 ∷ Timeout 2 ∷ Deliver 2 1 Ack
    ∷ Timeout 1 ∷ Timeout 2 ∷ Decide 2 true ∷ Save 2 ∷ Stop 2 ∷ Restore 2 ∷ []

unfoldable pub table : List Trial
table =
    -- 1★ "The listing." Its output: twelve lines "0 0" to "11 0", then "C 1 3 M 500", "C 2 3 M -250", "T 2 2 0 0"
    silent (listing true) (all_accepted 12) (C 3 Move 500 ∷ C 3 Move (minus 250) ∷ []) (T 2 2 0 0) (held 2 0 ∷ held 1 0 ∷ [])
    -- 2★ "The same with 2 unwilling: both S, nothing put."
    ∷ silent (listing false) (all_accepted 12) (C 3 Stay 0 ∷ C 3 Stay 0 ∷ []) (T 2 2 0 0) (held 2 0 ∷ held 1 0 ∷ [])
    -- 3★ "n = 2, f = 1, willing, no delivery, all bells: both put Stay."
    ∷ record {
      events = undelivered;
      answers = all_accepted 8;
      lines = C 3 None 0 ∷ C 3 None 0 ∷ [];
      message_counts = T 2 2 0 0;
      words = Stay ∷ [];
      inside = proposed Stay 1 0 ∷ proposed Stay 0 1 ∷ [];
    }
    -- 4★ "n = 16, f = 15 accepted; n = 17, f = 0 and f = n give 4", by document 02, U12 with 32, 31 and 33. Then "every controller is running at stage 0", and "with no order T is all 0"
    ∷ silent (Lock 33 32 false ∷ Lock 32 0 false ∷ Lock 32 32 false ∷ Lock 32 31 false ∷ []) (4 ∷ 4 ∷ 4 ∷ 0 ∷ []) (replicate 32 (C 0 None 0)) (T 0 0 0 0) (replicate 32 (held 0 0))
    -- 5★ "n = 3, f = 1, all willing; votes of 2 and 3 reach 1, nothing else before the bells; 3 gets 2's help answer and puts Stay;
    ∷ record {
      events = helped;
      answers = all_accepted 13;
      lines = C 2 None 0 ∷ C 3 None 0 ∷ C 3 None 0 ∷ [];
      message_counts = T 3 3 2 1;
      words = Stay ∷ [];
      inside = held 1 0 ∷ called_by (3 ∷ []) (waits 0 1) ∷ proposed Stay 0 2 ∷ [];
    }
    -- 1's acknowledgement then reaches 2, which puts Move."
    ∷ record {
      events = helped ++ (Deliver 1 2 Ack ∷ []);
      answers = all_accepted 14;
      lines = C 2 None 0 ∷ C 3 None 0 ∷ C 3 None 0 ∷ [];
      message_counts = T 3 3 2 1;
      words = Move ∷ Stay ∷ [];
      inside = held 1 0 ∷ called_by (3 ∷ []) (proposed Move 1 1) ∷ proposed Stay 0 2 ∷ [];
    }
    -- 6★ "n = 4, f = 1: 4 holds nothing at its second bell; then 1's acknowledgement comes two times: counted a single time, 4 still waits."
    ∷ silent (Lock 4 1 false ∷ Order 1 ∷ Cast 1 true 10 ∷ Cast 4 true 40 ∷ Timeout 1 ∷ Timeout 4 ∷ Deliver 1 4 Ack ∷ Deliver 1 4 Ack ∷ []) (all_accepted 8)
    (C 2 None 0 ∷ C 0 None 0 ∷ C 0 None 0 ∷ C 3 None 0 ∷ []) (T 2 3 2 0) (held 1 0 ∷ held 0 0 ∷ held 0 0 ∷ waits 1 1 ∷ [])
    -- 7★ "Position 20,000 accepted, 20,001 gives 11." And "Positions are −20,000 to 20,000 mm"
    ∷ silent (Lock 2 1 false ∷ Order 1 ∷ Cast 1 true 20001 ∷ Cast 1 true 20000 ∷ Cast 2 true (minus 20001) ∷ Cast 2 true (minus 20000) ∷ []) (0 ∷ 0 ∷ 11 ∷ 0 ∷ 11 ∷ 0 ∷ [])
    (C 1 None 0 ∷ C 1 None 0 ∷ []) (T 2 0 0 0) (held 0 0 ∷ held 0 0 ∷ [])
    -- 8★ "Restore without card: 19."
    ∷ silent (Lock 2 1 false ∷ Order 1 ∷ Stop 1 ∷ Restore 1 ∷ []) (0 ∷ 0 ∷ 0 ∷ 19 ∷ []) (C 8 None 0 ∷ C 0 None 0 ∷ []) (T 0 0 0 0) (held 0 0 ∷ held 0 0 ∷ [])
    -- 9★ "Arbiter Move when just Stay was put: 18." Stay is then accepted
    ∷ record {
      events = undelivered ++ (Decide 1 true ∷ Decide 1 false ∷ []);
      answers = all_accepted 8 ++ (18 ∷ 0 ∷ []);
      lines = C 3 Stay 0 ∷ C 3 None 0 ∷ [];
      message_counts = T 2 2 0 0;
      words = Stay ∷ [];
      inside = proposed Stay 1 0 ∷ proposed Stay 0 1 ∷ [];
    }
    -- The arbiter's Move moves the gate; "**Restore** brings a stopped controller to standing by, with the card's outcome if the card is of this order,
    ∷ record {
      events = restored;
      answers = all_accepted 15;
      lines = C 3 Move 500 ∷ C 9 Move 250 ∷ [];
      message_counts = T 2 2 0 0;
      words = Move ∷ [];
      inside = held 2 0 ∷ held 0 0 ∷ [];
    }
    -- else none."
    ∷ silent (restored ++ (Order 2 ∷ Stop 2 ∷ Restore 2 ∷ [])) (all_accepted 18) (C 0 None 500 ∷ C 9 None 250 ∷ []) (T 0 0 0 0) (held 0 0 ∷ held 0 0 ∷ [])
    -- Document 02, U10: "For a clean order that has ended everywhere, the figure is to be exactly 2fn, fn of each kind, with no help call and no answer,
    ∷ silent (clean_order 16 15 (λ k. true)) (all_accepted 530) (replicate 16 (C 3 Move 0)) (T 240 240 0 0) (replicate 15 (held 16 0) ++ (held 15 0 ∷ []))
    -- willing or not." Here 5 is not
    ∷ silent (clean_order 5 2 (λ k. ltb k 5)) (all_accepted 35) (replicate 5 (C 3 Stay 0)) (T 10 10 0 0) (held 3 0 ∷ held 3 0 ∷ replicate 3 (held 2 0))
    -- "The bench program": "With no lock there are no C lines; with no order T is all 0."
    ∷ silent [] [] [] (T 0 0 0 0) []
    -- "Questions put to a record or event": "The first "no" gives its number." The other numbers that the bench gives
    ∷ silent (Order 1 ∷ Lock 2 1 false ∷ Lock 2 1 false ∷ Timeout 3 ∷ Deliver 1 1 Vote ∷ Order 0 ∷ Deliver 1 2 Help ∷ Timeout 1 ∷ Order 1 ∷ Order 1 ∷ Order 2
    ∷ Restore 1 ∷ Timeout 1 ∷ Deliver 1 2 Vote ∷ []) (5 ∷ 0 ∷ 6 ∷ 7 ∷ 7 ∷ 8 ∷ 10 ∷ 14 ∷ 0 ∷ 12 ∷ 13 ∷ 15 ∷ 16 ∷ 17 ∷ [])
    (C 0 None 0 ∷ C 0 None 0 ∷ []) (T 0 0 0 0) (held 0 0 ∷ held 0 0 ∷ [])
    ∷ []

-- Document 02, U9: the answers, and the count of gates still open after each event. Saved, stopped, restored; an order refused by 13; the arbiter's word, given again,
-- also to the one standing by; and a new order, which that one is in again.
abbrev pub reopened : List Event
reopened = Lock 3 1 false ∷ Order 1 ∷ Save 2 ∷ Stop 2 ∷ Order 2 ∷ Restore 2 ∷ Cast 1 true 10 ∷ Timeout 1 ∷ Timeout 1 ∷ Decide 1 false ∷ Decide 1 false ∷ Decide 2 false
    ∷ Stop 3 ∷ Order 2 ∷ []

abbrev pub reopened_answers : List ℕ
reopened_answers = all_accepted 4 ++ (13 ∷ all_accepted 9)

abbrev pub still_open : List ℕ
still_open = 3 ∷ 3 ∷ 3 ∷ 2 ∷ 2 ∷ 2 ∷ 2 ∷ 2 ∷ 2 ∷ 1 ∷ 1 ∷ 1 ∷ 0 ∷ 2 ∷ []

pub record TrialsHold : Type 0 where
  -- the starred trials
  pub starred : AllPass passes table
  -- the rules, and one standing by, where a row alone tells right from wrong (RuleTrials, StandbyTrials)
  pub rules : AllPass passes rule_trials
  pub standby : AllPass passes standby_trials
  pub checkpoints : AllPass has_checkpoint checkpoint_trials
  -- the numbers that events give (QuestionTrials)
  pub questions : AllPass as_asked schedules
  -- document 02's U4 (EarlyCallTrials), U9 (`reopened`) and U7 (StrayTrials)
  pub early-calls : AllPass passes early_calls
  pub sequence : AllPass sends_as sequences
  pub answers : same eqb (answers_to new_bench reopened) reopened_answers ≡ true
  pub open_gates : same eqb (open_after new_bench reopened) still_open ≡ true
  pub stray : AllPass answers_as strays
  -- a controller alone, to which a call may come that the bench would refuse (AloneTrials)
  pub alone : AllPass stands_as alone_trials
  -- ballots (BallotTrials; document 02, U14)
  pub ballots : AllPass ballot_passes ballot_trials
  -- and in a cabinet (BallotCallTrials)
  pub ballot-calls : AllPass call_passes ballot_call_trials
