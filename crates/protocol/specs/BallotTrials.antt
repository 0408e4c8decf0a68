-- Trials of ballots (document 02, U14): schedules at locks whose controllers are their own arbiter, the answer to each event, the C lines, and what stands
-- in each controller and in each ballot at the end. What only a row tells apart stands beside its row.
use Rattle.std.specs.Prelude.{ℕ, Bool, true, false, ◌&&◌, List, [], ◌∷◌, ◌++◌, eqb}
use Rattle.model.specs.declared.Kind.TheVariants.{Vote}
use Rattle.model.specs.declared.Outcome.{Outcome}
use Rattle.model.specs.declared.Outcome.TheVariants.{None, Stay, Move}
use Rattle.model.specs.declared.BallotKind.{BallotKind}
use Rattle.model.specs.declared.BallotKind.TheVariants.{Prepare, Promise, Accept, Accepted}
use Rattle.model.specs.declared.BallotEvent.TheVariants.{Open, Carry}
use Rattle.model.specs.declared.Event.{Event}
use Rattle.model.specs.declared.Event.TheVariants.{Lock, Order, Cast, Deliver, Timeout, Decide, Stop, Save, Restore, OfBallots}
use Rattle.protocol.specs.declared.Acceptor.{Acceptor}
use Rattle.protocol.specs.declared.Bench.{Bench}
use Rattle.protocol.specs.Sequence.{members}
use Rattle.protocol.specs.Benches.{new_bench}
use Rattle.protocol.specs.Steps.{run}
use Rattle.protocol.specs.Ballots.{acceptor, row}
use Rattle.protocol.specs.Rows.{Line, answers_to, each, same, same_outcome, same_line, line_of}
use Rattle.protocol.specs.RowWords.{C, all_accepted}

-- what a row says of one ballot: the word put in it, whose promises its owner has counted, who has taken it
pub record BallotLine : Type 0 where
  pub ballot : ℕ
  pub word : Outcome
  pub promises : List ℕ
  pub takers : List ℕ

pub record BallotTrial : Type 0 where
  -- put to a new bench, and the answer to each
  pub events : List Event
  pub answers : List ℕ
  -- the C lines, and what each controller has promised and taken, from 1 on
  pub lines : List Line
  pub acceptors : List Acceptor
  pub ballots : List BallotLine

-- a controller that has promised and taken so far; one that has done neither
abbrev pub has-promised : ℕ → ℕ → ℕ → Outcome → Acceptor
has-promised highest promised last word = record { highest = highest; promised = promised; last = last; word = word }

abbrev pub idle : Acceptor
idle = has-promised 0 0 0 None

abbrev pub ballot : ℕ → Outcome → List ℕ → List ℕ → BallotLine
ballot b word promises takers = record { ballot = b; word = word; promises = promises; takers = takers }

abbrev pub same_acceptor : Acceptor → Acceptor → Bool
same_acceptor x y = eqb x.highest y.highest && eqb x.promised y.promised && eqb x.last y.last && same_outcome x.word y.word

abbrev shows_ballot : Bench → BallotLine → Bool
shows_ballot b r = same_outcome (row b.ballots r.ballot).tally.word r.word && same eqb (members b.shared.n (row b.ballots r.ballot).tally.from) r.promises
    && same eqb (members b.shared.n (row b.ballots r.ballot).accepted_by) r.takers

unfoldable pub all_shown : Bench → List BallotLine → Bool
all_shown b [] = true
all_shown b (r ∷ rs) = shows_ballot b r && all_shown b rs

unfoldable pub stands_in : Bench → BallotTrial → Bool
stands_in b r = same same_line (each b.shared.n (line_of b)) r.lines && same same_acceptor (each b.shared.n (acceptor b.ballots)) r.acceptors && all_shown b r.ballots

unfoldable pub ballot_passes : BallotTrial → Bool
ballot_passes r = same eqb (answers_to new_bench r.events) r.answers && stands_in (run new_bench r.events) r

abbrev opens : ℕ → ℕ → Event
opens i b = OfBallots (Open i b)

abbrev carries : BallotKind → ℕ → ℕ → ℕ → Event
carries kind b i j = OfBallots (Carry i j kind b)

-- all three are willing, and the votes reach 1 alone: 1 puts Move, 2 and 3 put Stay
abbrev words_put3 : Bool → List Event
words_put3 own = Lock 3 2 own ∷ Order 1 ∷ Cast 1 true 10 ∷ Cast 2 true 20 ∷ Cast 3 true 30 ∷ Deliver 2 1 Vote ∷ Deliver 3 1 Vote ∷ Timeout 1 ∷ Timeout 2 ∷ Timeout 3
    ∷ Timeout 1 ∷ Timeout 2 ∷ Timeout 3 ∷ []

-- 1's first ballot gets 2's promise; 1 puts Move in it, and takes it
abbrev move_in1 : List Event
move_in1 = opens 1 1 ∷ carries Prepare 1 1 2 ∷ carries Promise 1 2 1 ∷ []

-- of five, 1 alone votes and puts Stay
abbrev one_of_five : List Event
one_of_five = Lock 5 1 true ∷ Order 1 ∷ Cast 1 true 10 ∷ Timeout 1 ∷ Timeout 1 ∷ []

abbrev nobody3 : List Line
nobody3 = C 3 None 0 ∷ C 3 None 0 ∷ C 3 None 0 ∷ []

unfoldable pub ballot_trials : List BallotTrial
ballot_trials =
    -- one ballot to its end: "With promises from more than n/2 controllers, .. its own counted, the owner puts .. its own"; "the owner takes its own by the same rule"
    record {
      events = words_put3 true ++ (move_in1 ++ (carries Accept 1 1 2 ∷ carries Accepted 1 2 1 ∷ Decide 1 false ∷ Decide 1 true ∷ Decide 2 true ∷ Decide 3 true ∷ []));
      answers = all_accepted 18 ++ (18 ∷ all_accepted 3);
      lines = C 3 Move 10 ∷ C 3 Move 20 ∷ C 3 Move 30 ∷ [];
      acceptors = has-promised 1 1 1 Move ∷ has-promised 1 1 1 Move ∷ idle ∷ [];
      ballots = ballot 1 Move (1 ∷ 2 ∷ []) (1 ∷ 2 ∷ []) ∷ ballot 2 None [] [] ∷ [];
    }
    -- "whether more than n/2 have taken the word in one ballot": one of three has, and Move was put
    ∷ record {
      events = words_put3 true ++ (move_in1 ++ (Decide 1 true ∷ []));
      answers = all_accepted 16 ++ (18 ∷ []);
      lines = nobody3;
      acceptors = has-promised 1 1 1 Move ∷ has-promised 1 1 0 None ∷ idle ∷ [];
      ballots = ballot 1 Move (1 ∷ 2 ∷ []) (1 ∷ []) ∷ [];
    }
    -- "Both raise its highest promise to that ballot": 1 takes ballot 2, and so its own put in ballot 1 is not taken by itself; a late ask of a ballot already taken
    -- is answered, with that ballot; and ballot 4 goes on with the word of ballot 2
    ∷ record {
      events = words_put3 true ++ (opens 2 2 ∷ opens 1 1 ∷ carries Prepare 1 1 3 ∷ carries Prepare 2 2 3 ∷ carries Promise 2 3 2 ∷ carries Accept 2 2 1 ∷ carries Promise 1 3 1 ∷ carries Prepare 2 2 1
          ∷ opens 1 4 ∷ carries Prepare 4 1 3 ∷ carries Promise 4 3 1 ∷ carries Accept 4 1 2 ∷ Decide 2 true ∷ Decide 2 false ∷ []);
      answers = all_accepted 25 ++ (18 ∷ 0 ∷ []);
      lines = C 3 None 0 ∷ C 3 Stay 0 ∷ C 3 None 0 ∷ [];
      acceptors = has-promised 4 4 4 Stay ∷ has-promised 4 2 4 Stay ∷ has-promised 4 4 0 None ∷ [];
      ballots = ballot 1 Move (1 ∷ 3 ∷ []) [] ∷ ballot 2 Stay (2 ∷ 3 ∷ []) (1 ∷ 2 ∷ []) ∷ ballot 4 Stay (1 ∷ 3 ∷ []) (1 ∷ 2 ∷ []) ∷ [];
    }
    -- a stopped owner's put, which 2 has taken, is finished by 2, though its own word is Stay: "the word of the highest ballot reported, else its own"; "a stop keeps the note"
    ∷ record {
      events = words_put3 true ++ (move_in1 ++ (carries Accept 1 1 2 ∷ Stop 1 ∷ opens 2 2 ∷ carries Prepare 2 2 3 ∷ carries Promise 2 3 2 ∷ carries Accept 2 2 3 ∷ Decide 2 true ∷ Decide 3 true ∷ []));
      answers = all_accepted 24;
      lines = C 8 None 0 ∷ C 3 Move 20 ∷ C 3 Move 30 ∷ [];
      acceptors = has-promised 1 1 1 Move ∷ has-promised 2 2 2 Move ∷ has-promised 2 2 2 Move ∷ [];
      ballots = ballot 1 Move (1 ∷ 2 ∷ []) (1 ∷ 2 ∷ []) ∷ ballot 2 Move (2 ∷ 3 ∷ []) (2 ∷ 3 ∷ []) ∷ [];
    }
    -- one that nobody else has taken loses to the next: nothing was reported, so 2 puts its own. The put of ballot 1 comes too late to 2
    ∷ record {
      events = words_put3 true ++ (move_in1 ++ (opens 2 2 ∷ carries Prepare 2 2 3 ∷ carries Promise 2 3 2 ∷ carries Accept 1 1 2 ∷ carries Accept 2 2 3 ∷ Decide 3 false ∷ []));
      answers = all_accepted 22;
      lines = C 3 None 0 ∷ C 3 None 0 ∷ C 3 Stay 0 ∷ [];
      acceptors = has-promised 1 1 1 Move ∷ has-promised 2 2 2 Stay ∷ has-promised 2 2 2 Stay ∷ [];
      ballots = ballot 1 Move (1 ∷ 2 ∷ []) (1 ∷ []) ∷ ballot 2 Stay (2 ∷ 3 ∷ []) (2 ∷ 3 ∷ []) ∷ [];
    }
    -- then 1's promise reports ballot 1 and 3's ballot 2: the higher one's word is put
    ∷ record {
      events = words_put3 true ++ (move_in1 ++ (opens 2 2 ∷ carries Prepare 2 2 3 ∷ carries Promise 2 3 2 ∷ carries Accept 2 2 3 ∷ opens 1 4 ∷ carries Prepare 4 1 3 ∷ carries Promise 4 3 1 ∷ []));
      answers = all_accepted 23;
      lines = nobody3;
      acceptors = has-promised 4 4 4 Stay ∷ has-promised 2 2 2 Stay ∷ has-promised 4 4 2 Stay ∷ [];
      ballots = ballot 4 Stay (1 ∷ 3 ∷ []) (1 ∷ []) ∷ [];
    }
    -- "one per sender": 2's promise comes two times, and two of five are no majority; with 3's they are, "once per ballot": 4's comes after the put and is not counted
    ∷ record {
      events = one_of_five ++ (opens 1 1 ∷ carries Prepare 1 1 2 ∷ carries Prepare 1 1 2 ∷ carries Promise 1 2 1 ∷ carries Promise 1 2 1 ∷ carries Accept 1 1 2 ∷ []);
      answers = all_accepted 10 ++ (17 ∷ []);
      lines = C 3 None 0 ∷ C 0 None 0 ∷ C 0 None 0 ∷ C 0 None 0 ∷ C 0 None 0 ∷ [];
      acceptors = has-promised 1 1 0 None ∷ has-promised 1 1 0 None ∷ idle ∷ idle ∷ idle ∷ [];
      ballots = ballot 1 None (1 ∷ 2 ∷ []) [] ∷ [];
    }
    ∷ record {
      events = one_of_five ++ (opens 1 1 ∷ carries Prepare 1 1 2 ∷ carries Prepare 1 1 3 ∷ carries Prepare 1 1 4 ∷ carries Promise 1 2 1 ∷ carries Promise 1 3 1 ∷ carries Promise 1 4 1
          ∷ carries Accept 1 1 5 ∷ carries Accept 1 1 5 ∷ []);
      answers = all_accepted 14;
      lines = C 3 None 0 ∷ C 0 None 0 ∷ C 0 None 0 ∷ C 0 None 0 ∷ C 0 None 0 ∷ [];
      acceptors = has-promised 1 1 1 Stay ∷ has-promised 1 1 0 None ∷ has-promised 1 1 0 None ∷ has-promised 1 1 0 None ∷ has-promised 1 0 1 Stay ∷ [];
      ballots = ballot 1 Stay (1 ∷ 2 ∷ 3 ∷ []) (1 ∷ 5 ∷ []) ∷ [];
    }
    -- "more than n/2": two of four have taken it, and that is not enough; nor are two promises
    ∷ record {
      events = Lock 4 1 true ∷ Order 1 ∷ Cast 1 true 10 ∷ Timeout 1 ∷ Timeout 1 ∷ opens 1 1 ∷ carries Prepare 1 1 2 ∷ carries Prepare 1 1 3 ∷ carries Promise 1 2 1 ∷ carries Accept 1 1 4
          ∷ carries Promise 1 3 1 ∷ carries Accept 1 1 4 ∷ Decide 1 false ∷ carries Accept 1 1 3 ∷ Decide 1 false ∷ [];
      answers = all_accepted 9 ++ (17 ∷ 0 ∷ 0 ∷ 18 ∷ 0 ∷ 0 ∷ []);
      lines = C 3 Stay 0 ∷ C 0 None 0 ∷ C 0 None 0 ∷ C 0 None 0 ∷ [];
      acceptors = has-promised 1 1 1 Stay ∷ has-promised 1 1 0 None ∷ has-promised 1 1 1 Stay ∷ has-promised 1 0 1 Stay ∷ [];
      ballots = ballot 1 Stay (1 ∷ 2 ∷ 3 ∷ []) (1 ∷ 3 ∷ 4 ∷ []) ∷ [];
    }
    -- 5, 7 and 14 before 15: no lock, no such controller, to itself, no order
    ∷ record {
      events = opens 1 1 ∷ carries Prepare 1 1 2 ∷ Lock 3 2 true ∷ opens 4 1 ∷ opens 0 1 ∷ carries Prepare 1 1 1 ∷ carries Prepare 1 1 4 ∷ opens 1 1 ∷ carries Prepare 0 1 2 ∷ [];
      answers = 5 ∷ 5 ∷ 0 ∷ 7 ∷ 7 ∷ 7 ∷ 7 ∷ 14 ∷ 14 ∷ [];
      lines = C 0 None 0 ∷ C 0 None 0 ∷ C 0 None 0 ∷ [];
      acceptors = idle ∷ idle ∷ idle ∷ [];
      ballots = [];
    }
    -- 15: "Those standing by .. take no part"; 28, "a ballot outside 1 to 255, or one to open that is not the controller's", before 29, "by a controller with no word put"; 17
    ∷ record {
      events = Lock 3 2 true ∷ Order 1 ∷ Save 3 ∷ Stop 3 ∷ opens 3 3 ∷ carries Prepare 1 1 3 ∷ Restore 3 ∷ opens 3 3 ∷ carries Prepare 1 1 3 ∷ opens 1 0 ∷ opens 1 256 ∷ opens 1 2 ∷ opens 1 1
          ∷ carries Prepare 0 1 2 ∷ carries Prepare 256 1 2 ∷ carries Prepare 1 1 2 ∷ carries Promise 1 2 1 ∷ carries Accept 1 1 2 ∷ carries Accepted 1 2 1 ∷ [];
      answers = 0 ∷ 0 ∷ 0 ∷ 0 ∷ 15 ∷ 15 ∷ 0 ∷ 15 ∷ 15 ∷ 28 ∷ 28 ∷ 28 ∷ 29 ∷ 28 ∷ 28 ∷ 17 ∷ 17 ∷ 17 ∷ 17 ∷ [];
      lines = C 0 None 0 ∷ C 0 None 0 ∷ C 9 None 0 ∷ [];
      acceptors = idle ∷ idle ∷ idle ∷ [];
      ballots = ballot 1 None [] [] ∷ [];
    }
    -- 28: one that "was opened or is below its highest promise"; 255 is one, and belongs to 3: 1 + 254 mod 3. An ask below the highest promise is not answered
    ∷ record {
      events = words_put3 true ++ (opens 1 4 ∷ opens 1 4 ∷ opens 1 1 ∷ opens 3 255 ∷ carries Prepare 255 3 2 ∷ opens 2 254 ∷ carries Prepare 4 1 2 ∷ carries Promise 4 2 1 ∷ carries Accept 4 1 2 ∷ []);
      answers = all_accepted 14 ++ (28 ∷ 28 ∷ 0 ∷ 0 ∷ 28 ∷ 0 ∷ 17 ∷ 17 ∷ []);
      lines = nobody3;
      acceptors = has-promised 4 4 0 None ∷ has-promised 255 255 0 None ∷ has-promised 255 255 0 None ∷ [];
      ballots = ballot 4 None (1 ∷ []) [] ∷ ballot 255 None (3 ∷ []) [] ∷ [];
    }
    -- "a ballot to open at a lock with c = 0" gives 29; nothing was sent there
    ∷ record {
      events = words_put3 false ++ (opens 1 2 ∷ opens 1 1 ∷ carries Prepare 1 1 2 ∷ carries Prepare 0 1 2 ∷ Decide 1 true ∷ []);
      answers = all_accepted 13 ++ (28 ∷ 29 ∷ 17 ∷ 28 ∷ 0 ∷ []);
      lines = C 3 Move 10 ∷ C 3 None 0 ∷ C 3 None 0 ∷ [];
      acceptors = idle ∷ idle ∷ idle ∷ [];
      ballots = ballot 1 None [] [] ∷ [];
    }
    -- "A new order forgets ballots, promises and takings": ballot 1 may be opened again, and the word of the old order is not chosen in the new one
    ∷ record {
      events = words_put3 true ++ (move_in1 ++ (carries Accept 1 1 2 ∷ Decide 1 true ∷ Decide 2 true ∷ Decide 3 true ∷ Order 2 ∷ carries Accept 1 1 2 ∷ Cast 1 true 11 ∷ Timeout 1 ∷ Timeout 1 ∷ Decide 1 true
          ∷ opens 1 1 ∷ []));
      answers = all_accepted 21 ++ (17 ∷ 0 ∷ 0 ∷ 0 ∷ 18 ∷ 0 ∷ []);
      lines = C 3 None 10 ∷ C 0 None 20 ∷ C 0 None 30 ∷ [];
      acceptors = has-promised 1 1 0 None ∷ idle ∷ idle ∷ [];
      ballots = ballot 1 None (1 ∷ []) [] ∷ [];
    }
    -- 17 looks at both ends, kind by kind: an ask and a put come from the owner, a promise and a taken go to it. 2 has promised ballot 1 and taken it, and is not its owner; the owner's own
    -- promise and taking are not sent
    ∷ record {
      events = words_put3 true ++ (move_in1 ++ (carries Accept 1 1 2 ∷ carries Prepare 1 2 3 ∷ carries Promise 1 2 3 ∷ carries Accept 1 2 3 ∷ carries Accepted 1 2 3 ∷ carries Promise 1 1 2
          ∷ carries Accepted 1 1 2 ∷ carries Accepted 1 2 1 ∷ []));
      answers = all_accepted 17 ++ (17 ∷ 17 ∷ 17 ∷ 17 ∷ 17 ∷ 17 ∷ 0 ∷ []);
      lines = nobody3;
      acceptors = has-promised 1 1 1 Move ∷ has-promised 1 1 1 Move ∷ idle ∷ [];
      ballots = ballot 1 Move (1 ∷ 2 ∷ []) (1 ∷ 2 ∷ []) ∷ [];
    }
    -- "answers only ballots not below its highest promise", which a taking alone has raised: 3 has taken ballot 2, never promised, and does not answer the ask of ballot 1
    ∷ record {
      events = words_put3 true ++ (opens 1 1 ∷ opens 2 2 ∷ carries Prepare 2 2 1 ∷ carries Promise 2 1 2 ∷ carries Accept 2 2 3 ∷ carries Prepare 1 1 3 ∷ carries Promise 1 3 1 ∷ []);
      answers = all_accepted 19 ++ (17 ∷ []);
      lines = nobody3;
      acceptors = has-promised 2 2 0 None ∷ has-promised 2 2 2 Stay ∷ has-promised 2 0 2 Stay ∷ [];
      ballots = ballot 1 None (1 ∷ []) [] ∷ ballot 2 Stay (1 ∷ 2 ∷ []) (2 ∷ 3 ∷ []) ∷ [];
    }
    -- a promise says what stood when it was given: 3 promised ballot 1 before it took ballot 2, so 1 learns of nothing and puts its own. Stay is chosen, Move is not
    ∷ record {
      events = words_put3 true ++ (opens 1 1 ∷ carries Prepare 1 1 3 ∷ opens 2 2 ∷ carries Prepare 2 2 3 ∷ carries Promise 2 3 2 ∷ carries Accept 2 2 3 ∷ carries Promise 1 3 1 ∷ Decide 1 true
          ∷ Decide 1 false ∷ []);
      answers = all_accepted 20 ++ (18 ∷ 0 ∷ []);
      lines = C 3 Stay 0 ∷ C 3 None 0 ∷ C 3 None 0 ∷ [];
      acceptors = has-promised 1 1 1 Move ∷ has-promised 2 2 2 Stay ∷ has-promised 2 2 2 Stay ∷ [];
      ballots = ballot 1 Move (1 ∷ 3 ∷ []) (1 ∷ []) ∷ ballot 2 Stay (2 ∷ 3 ∷ []) (2 ∷ 3 ∷ []) ∷ [];
    }
    -- "in one ballot": 1 has taken Move in ballot 1 and 2 in ballot 2, and that is not enough
    ∷ record {
      events = words_put3 true ++ (move_in1 ++ (opens 2 2 ∷ carries Prepare 2 2 1 ∷ carries Promise 2 1 2 ∷ Decide 1 true ∷ carries Accept 2 2 1 ∷ Decide 1 true ∷ []));
      answers = all_accepted 19 ++ (18 ∷ 0 ∷ 0 ∷ []);
      lines = C 3 Move 10 ∷ C 3 None 0 ∷ C 3 None 0 ∷ [];
      acceptors = has-promised 2 2 2 Move ∷ has-promised 2 2 2 Move ∷ idle ∷ [];
      ballots = ballot 1 Move (1 ∷ 2 ∷ []) (1 ∷ []) ∷ ballot 2 Move (1 ∷ 2 ∷ []) (1 ∷ 2 ∷ []) ∷ [];
    }
    -- the last ballot, 255, is one to choose in; and "the owner, running and having put a word", opens ballots with an outcome too, as others with one answer
    ∷ record {
      events = words_put3 true ++ (opens 3 255 ∷ carries Prepare 255 3 2 ∷ carries Promise 255 2 3 ∷ carries Accept 255 3 2 ∷ Decide 2 false ∷ Decide 3 false ∷ []);
      answers = all_accepted 19;
      lines = C 3 None 0 ∷ C 3 Stay 0 ∷ C 3 Stay 0 ∷ [];
      acceptors = idle ∷ has-promised 255 255 255 Stay ∷ has-promised 255 255 255 Stay ∷ [];
      ballots = ballot 255 Stay (2 ∷ 3 ∷ []) (2 ∷ 3 ∷ []) ∷ [];
    }
    ∷ record {
      events = words_put3 true ++ (move_in1 ++ (carries Accept 1 1 2 ∷ Decide 1 true ∷ Decide 2 true ∷ opens 2 2 ∷ carries Prepare 2 2 1 ∷ carries Promise 2 1 2 ∷ carries Accept 2 2 1 ∷ []));
      answers = all_accepted 23;
      lines = C 3 Move 10 ∷ C 3 Move 20 ∷ C 3 None 0 ∷ [];
      acceptors = has-promised 2 2 2 Move ∷ has-promised 2 2 2 Move ∷ idle ∷ [];
      ballots = ballot 1 Move (1 ∷ 2 ∷ []) (1 ∷ 2 ∷ []) ∷ ballot 2 Move (1 ∷ 2 ∷ []) (1 ∷ 2 ∷ []) ∷ [];
    }
    -- 29, "by a controller with no word put": that another has put one does not help
    ∷ record {
      events = one_of_five ++ (opens 2 2 ∷ Cast 2 true 20 ∷ opens 2 2 ∷ []);
      answers = all_accepted 5 ++ (29 ∷ 0 ∷ 29 ∷ []);
      lines = C 3 None 0 ∷ C 1 None 0 ∷ C 0 None 0 ∷ C 0 None 0 ∷ C 0 None 0 ∷ [];
      acceptors = idle ∷ idle ∷ idle ∷ idle ∷ idle ∷ [];
      ballots = ballot 2 None [] [] ∷ [];
    }
    -- "a stop keeps the note", and what was sent: the stopped owner's put still arrives, and both takers being down the word may be given
    ∷ record {
      events = words_put3 true ++ (move_in1 ++ (Stop 1 ∷ carries Accept 1 1 2 ∷ Stop 2 ∷ Decide 3 true ∷ []));
      answers = all_accepted 20;
      lines = C 8 None 0 ∷ C 8 None 0 ∷ C 3 Move 30 ∷ [];
      acceptors = has-promised 1 1 1 Move ∷ has-promised 1 1 1 Move ∷ idle ∷ [];
      ballots = ballot 1 Move (1 ∷ 2 ∷ []) (1 ∷ 2 ∷ []) ∷ [];
    }
    -- a promise says the word of its own report too: 3 promises ballot 4 with Move of ballot 1, then takes Stay in ballot 5; 1 puts Move in ballot 4 all the same. Only Stay is chosen
    ∷ record {
      events = words_put3 true ++ (opens 1 1 ∷ carries Prepare 1 1 3 ∷ opens 2 2 ∷ carries Prepare 2 2 1 ∷ carries Promise 1 3 1 ∷ carries Accept 1 1 3 ∷ carries Promise 2 1 2 ∷ opens 1 4
          ∷ carries Prepare 4 1 3 ∷ opens 2 5 ∷ carries Prepare 5 2 1 ∷ carries Promise 5 1 2 ∷ carries Accept 5 2 3 ∷ carries Promise 4 3 1 ∷ Decide 1 true ∷ Decide 1 false ∷ []);
      answers = all_accepted 27 ++ (18 ∷ 0 ∷ []);
      lines = C 3 Stay 0 ∷ C 3 None 0 ∷ C 3 None 0 ∷ [];
      acceptors = has-promised 5 5 0 None ∷ has-promised 5 5 5 Stay ∷ has-promised 5 4 5 Stay ∷ [];
      ballots = ballot 1 Move (1 ∷ 3 ∷ []) (3 ∷ []) ∷ ballot 2 Stay (1 ∷ 2 ∷ []) (2 ∷ []) ∷ ballot 4 Move (1 ∷ 3 ∷ []) [] ∷ ballot 5 Stay (1 ∷ 2 ∷ []) (2 ∷ 3 ∷ []) ∷ [];
    }
    ∷ []
