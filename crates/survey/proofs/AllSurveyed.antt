-- What is promised of the figures holds (Figures). In a file of its own, so that an edit there is refused for what it means.
use Rattle.survey.specs.Claim.{Surveyed}
use Rattle.survey.proofs.Figures.{adds-up, all_moved, all-stayed, all-vote, all-ack, all-help, all-helped, sum-of_kinds, best}

pub all_surveyed : Surveyed
all_surveyed = record {
  moved = λ ends s k. all_moved ends s k;
  stayed = λ ends s k. all-stayed ends s k;
  votes = λ ends s k. all-vote ends s k;
  acks = λ ends s k. all-ack ends s k;
  helps = λ ends s k. all-help ends s k;
  helpeds = λ ends s k. all-helped ends s k;
  adds-up = λ ends s k. adds-up ends s k;
  most = λ ends s k g l u. (best ends s k).most g l u;
  reached = λ ends s k l. (best ends s k).reached l;
  in-run = λ ends s k l. ((best ends s k).low, (best ends s k).high l);
  smallest = λ ends s k g l u. (best ends s k).smallest g l u;
  sum = λ ends s k. sum-of_kinds ends s k;
}
