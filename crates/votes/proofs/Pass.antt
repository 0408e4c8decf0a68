-- `OnePass`, by induction over the length of the list and over the number of senders.
use Prim.Native.Nat.{ℕ}
use mathlib.Core.Path.{◌≡◌, refl, ◌∙◌, ap}
use mathlib.Core.Bool.{Bool, true, false, cond}
use mathlib.Core.List.{List, [], ◌∷◌, map}
use Rattle.votes.specs.VoteSets.{empty}
use Rattle.votes.specs.Joining.{joined_number, joined_values, join_next, join_from, join_all, pairwise}
use Rattle.votes.proofs.JoinLaws.{list-is, senders-list}
use Rattle.votes.specs.Tallies.{tally_of, tallied_of, tallied_number, tallied_values, tally_from, sets_of, union_list}
use Rattle.votes.specs.OnePass.{OnePass}
use Rattle.votes.specs.declared.VoteSet.{VoteSet}
use Rattle.votes.specs.Joining.{Joined}
use Rattle.std.specs.Prelude.{Ok, Err}
use Rattle.votes.specs.declared.JoinError.TheVariants.{Contradiction}

-- from any join on, the pass gives the answers of its join with the rest
from-any : (n : ℕ) (joined : Joined) (sets : List VoteSet) → tally_from n joined sets ≡ tallied_of n (join_from joined sets)
unfolding tally_from join_from
from-any n joined [] = refl
from-any n joined (s ∷ sets) = from-any n (join_next joined s) sets

-- the same in the papers' terms
number_of : (n : ℕ) (j : Joined) → tallied_number (tallied_of n j) ≡ joined_number j
number_of n (Ok s) = refl
number_of n (Err Contradiction) = refl

values_of : (n : ℕ) (j : Joined) → tallied_values (tallied_of n j) ≡ map (tally_of n) (joined_values j)
values_of n (Ok s) = refl
values_of n (Err Contradiction) = refl

tallied-cond : (n : ℕ) (b : Bool) (s : VoteSet) → tallied_of n (cond b (Ok s) (Err Contradiction)) ≡ cond b (Ok (tally_of n s)) (Err Contradiction)
tallied-cond n true s = refl
tallied-cond n false s = refl

pub one_pass : OnePass
one_pass = record {
  any-list = λ n sets. from-any n (Ok empty) sets;
  any_senders = λ n m from l. from-any n (Ok empty) (sets_of m from l) ∙ ap (λ (j : Joined). tallied_of n j) (senders-list m from l);
  of-sets = λ n sets a. from-any n (Ok empty) sets ∙ ap (λ (j : Joined). tallied_of n j) (list-is sets a) ∙ tallied-cond n (pairwise sets) (union_list sets);
  numbers = λ n m from l. number_of n (join_all m from l);
  values = λ n m from l. values_of n (join_all m from l);
}
