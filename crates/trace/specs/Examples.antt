-- Traces worked by hand from the documents, line by line, without the lines that are typed. `examples_hold` in src/lib.rt has them as its contract; they are computed in
-- proofs/Computed.antt.
use Rattle.std.specs.Prelude.{◌≡◌, true, false, List, [], ◌∷◌, ◌++◌, map}
use Prim.Native.String.{String}
use Rattle.model.specs.declared.Kind.TheVariants.{Vote, Help, Helped}
use Rattle.model.specs.declared.BallotKind.TheVariants.{Prepare, Promise, Accept}
use Rattle.model.specs.declared.BallotEvent.TheVariants.{Open, Carry}
use Rattle.model.specs.declared.Event.TheVariants.{Lock, Order, Cast, Deliver, Timeout, Decide, OfBallots}
use Rattle.model.specs.declared.Act.{Act}
use Rattle.model.specs.declared.Act.TheVariants.{Play, Back}
use Rattle.protocol.specs.Trials.{listing}
use Rattle.bench_report.specs.Listing.{page}
use Rattle.trace.specs.Lines.{text}
use Rattle.trace.specs.Traces.{trace}

abbrev Prints : List Act → List String → Type 0
Prints acts lines = text (trace acts) ≡ page lines

pub record ExamplesHold : Type 0 where
  -- document 01's listing: "lock 2 1; order 1; vote 1 willing 500; vote 2 willing −250; deliver votes 1 to 2, 2 to 1; bells 1, 2; deliver acknowledgements 1 to 2,
  -- 2 to 1; bells 1, 2". Nothing is put to the arbiter.
  pub listing_traced : Prints (map Play (listing true)) (
      "0 0 accepted" ∷ "C 1 0 - 0" ∷ "C 2 0 - 0" ∷
      "1 0 accepted" ∷
      "2 0 accepted" ∷ "C 1 1 - 0" ∷ "sent vote 1 2" ∷
      "3 0 accepted" ∷ "C 2 1 - 0" ∷ "sent vote 2 1" ∷
      "4 0 accepted" ∷
      "5 0 accepted" ∷
      "6 0 accepted" ∷ "C 1 2 - 0" ∷ "sent acknowledgement 1 2" ∷
      "7 0 accepted" ∷ "C 2 2 - 0" ∷ "sent acknowledgement 2 1" ∷
      "8 0 accepted" ∷
      "9 0 accepted" ∷
      "10 0 accepted" ∷ "C 1 3 M 500" ∷
      "11 0 accepted" ∷ "C 2 3 M -250" ∷ [])
  -- trial 5 to 3's word, in which 3 calls for help, then the arbiter gives it; with a refused bell, and a step back over the word
  pub helped_traced : Prints (map Play (Lock 3 1 false ∷ Order 1 ∷ Cast 2 true 20 ∷ Cast 3 true 30 ∷ Timeout 2 ∷ Timeout 2 ∷ Timeout 3 ∷ Timeout 9 ∷ Deliver 3 2 Help ∷ Deliver 2 3 Helped ∷ Decide 3 false ∷ []) ++ (Back ∷ [])) (
      "0 0 accepted" ∷ "C 1 0 - 0" ∷ "C 2 0 - 0" ∷ "C 3 0 - 0" ∷
      "1 0 accepted" ∷
      "2 0 accepted" ∷ "C 2 1 - 0" ∷ "sent vote 2 1" ∷
      "3 0 accepted" ∷ "C 3 2 - 0" ∷ "sent vote 3 1" ∷
      "4 0 accepted" ∷ "C 2 2 - 0" ∷ "sent acknowledgement 2 1" ∷
      "5 0 accepted" ∷ "C 2 3 - 0" ∷ "sent help-call 2 3" ∷
      "6 0 accepted" ∷ "C 3 3 - 0" ∷ "sent help-call 3 2" ∷
      "7 7 refused: Are the controllers' numbers in 1 to n, sender and receiver different?" ∷
      "8 0 accepted" ∷ "sent help-answer 2 3" ∷
      "9 0 accepted" ∷ "put 3 stay" ∷
      "10 0 accepted" ∷ "C 3 3 S 0" ∷ "given 3 stay" ∷
      "11 0 accepted" ∷ "undone 10" ∷ "C 3 3 - 0" ∷ [])
  -- two telegrams of one event; a word put and given that is Move; a refused word, of which nothing is shown; a step back right after a refused event
  pub moved_traced : Prints (map Play (Lock 3 2 false ∷ Order 1 ∷ Cast 1 true 10 ∷ Cast 2 true 20 ∷ Cast 3 true 30 ∷ Deliver 2 1 Vote ∷ Deliver 3 1 Vote ∷ Timeout 1 ∷ Timeout 1
      ∷ Decide 1 false ∷ Decide 1 true ∷ Timeout 9 ∷ []) ++ (Back ∷ [])) (
      "0 0 accepted" ∷ "C 1 0 - 0" ∷ "C 2 0 - 0" ∷ "C 3 0 - 0" ∷
      "1 0 accepted" ∷
      "2 0 accepted" ∷ "C 1 1 - 0" ∷ "sent vote 1 2" ∷ "sent vote 1 3" ∷
      "3 0 accepted" ∷ "C 2 1 - 0" ∷ "sent vote 2 1" ∷ "sent vote 2 3" ∷
      "4 0 accepted" ∷ "C 3 1 - 0" ∷ "sent vote 3 1" ∷ "sent vote 3 2" ∷
      "5 0 accepted" ∷
      "6 0 accepted" ∷
      "7 0 accepted" ∷ "C 1 2 - 0" ∷ "sent acknowledgement 1 2" ∷ "sent acknowledgement 1 3" ∷
      "8 0 accepted" ∷ "C 1 3 - 0" ∷ "put 1 move" ∷
      "9 18 refused: Was that word put in this order, and no other given? Without an arbiter: has a ballot settled it?" ∷
      "10 0 accepted" ∷ "C 1 3 M 10" ∷ "given 1 move" ∷
      "11 7 refused: Are the controllers' numbers in 1 to n, sender and receiver different?" ∷
      "12 0 accepted" ∷ "undone 10" ∷ "C 1 3 - 0" ∷ [])
  -- a lock without an arbiter: both put Stay, and ballot 1 settles it (README)
  pub ballot_traced : Prints (map Play (Lock 2 1 true ∷ Order 1 ∷ Cast 1 true 100 ∷ Cast 2 true 200 ∷ Timeout 1 ∷ Timeout 2 ∷ Timeout 1 ∷ Timeout 2
      ∷ OfBallots (Open 1 1) ∷ OfBallots (Carry 1 2 Prepare 1) ∷ OfBallots (Carry 2 1 Promise 1) ∷ OfBallots (Carry 1 2 Accept 1) ∷ Decide 1 false ∷ [])) (
      "0 0 accepted" ∷ "C 1 0 - 0" ∷ "C 2 0 - 0" ∷
      "1 0 accepted" ∷
      "2 0 accepted" ∷ "C 1 1 - 0" ∷ "sent vote 1 2" ∷
      "3 0 accepted" ∷ "C 2 1 - 0" ∷ "sent vote 2 1" ∷
      "4 0 accepted" ∷ "C 1 2 - 0" ∷ "sent acknowledgement 1 2" ∷
      "5 0 accepted" ∷ "C 2 2 - 0" ∷ "sent acknowledgement 2 1" ∷
      "6 0 accepted" ∷ "C 1 3 - 0" ∷ "put 1 stay" ∷
      "7 0 accepted" ∷ "C 2 3 - 0" ∷ "put 2 stay" ∷
      "8 0 accepted" ∷ "sent ask 1 1 2" ∷
      "9 0 accepted" ∷ "sent promise 1 2 1" ∷
      "10 0 accepted" ∷ "sent put 1 1 2" ∷
      "11 0 accepted" ∷ "sent taken 1 2 1" ∷
      "12 0 accepted" ∷ "C 1 3 S 0" ∷ "given 1 stay" ∷ [])
