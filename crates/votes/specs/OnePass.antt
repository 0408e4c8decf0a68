-- Joining in one pass answers as document 01's two definitions do of the join, or says that there is none, for any n, any list of vote sets and any set of
-- senders.
use Rattle.std.specs.Prelude.{ℕ, ◌≡◌, cond, List, map}
use Rattle.votes.specs.VoteSets.{empty}
use Rattle.votes.specs.Joining.{joined_number, joined_values, join_list, join_all, pairwise}
use Rattle.votes.specs.Tallies.{tally_of, tallied_of, tallied_number, tallied_values, tally_from, sets_of, union_list}
use Rattle.votes.specs.Contradictions.{AllWellFormed}
use Rattle.votes.specs.declared.VoteSet.{VoteSet}
use Rattle.std.specs.Prelude.{Ok, Err}
use Rattle.votes.specs.declared.JoinError.TheVariants.{Contradiction}

pub record OnePass : Type 0 where
  -- a list of any length
  pub any-list : (n : ℕ) (sets : List VoteSet) → tally_from n (Ok empty) sets ≡ tallied_of n (join_list sets)
  -- the vote sets of any set of senders of 1..m
  pub any_senders : (n m from : ℕ) (l : List VoteSet) → tally_from n (Ok empty) (sets_of m from l) ≡ tallied_of n (join_all m from l)
  -- document 01's two definitions, of the union of vote sets that agree pairwise; of others there is no tally
  pub of-sets : (n : ℕ) (sets : List VoteSet) → AllWellFormed sets → tally_from n (Ok empty) sets ≡ cond (pairwise sets) (Ok (tally_of n (union_list sets))) (Err Contradiction)
  -- in the papers' terms, of what the call answers: joining's number; of the join its tally, and of none none
  pub numbers : (n m from : ℕ) (l : List VoteSet) → tallied_number (tallied_of n (join_all m from l)) ≡ joined_number (join_all m from l)
  pub values : (n m from : ℕ) (l : List VoteSet) → tallied_values (tallied_of n (join_all m from l)) ≡ map (tally_of n) (joined_values (join_all m from l))
