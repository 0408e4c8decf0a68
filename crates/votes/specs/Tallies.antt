-- What joining in one pass gives. Document 02, U3: "one call is to go over the sheets to be joined and give both whether the join is full and its word";
-- U7: it says that they contradict each other, where they do.
use Rattle.std.specs.Prelude.{ℕ, zero, suc, ◌≡◌, refl, Bool, false, cond, List, [], ◌∷◌, ◌++◌}
use Rattle.ground.specs.Lists.{nth}
use Rattle.ground.specs.Mask.{has}
use Rattle.votes.specs.VoteSets.{empty, union, complete, unanimous}
use Rattle.votes.specs.Joining.{join, join_next, unanimous_in, agreed_or}
use Rattle.votes.specs.declared.VoteSet.{VoteSet}
use Rattle.votes.specs.Joining.{Joined}
use Rattle.std.specs.Prelude.{Result, Ok, Err}
use Rattle.votes.specs.declared.JoinError.{JoinError}
use Rattle.votes.specs.declared.JoinError.TheVariants.{Contradiction}
use Rattle.votes.specs.declared.Tally.{Tally}

-- a vote set with document 01's two answers on it: is it "full", is its "word" Move
unfoldable pub tally_of : ℕ → VoteSet → Tally
tally_of n s = record { votes = s; complete = complete n s; unanimous = unanimous n s }

-- what joining answers, with these two
abbrev pub Tallied : Type 0
Tallied = Result Tally JoinError

abbrev pub tallied_of : ℕ → Joined → Tallied
tallied_of n (Ok s) = Ok (tally_of n s)
tallied_of n (Err Contradiction) = Err Contradiction

-- in the papers' terms: 0 and the tally; or 24, and none
abbrev pub tallied_number : Tallied → ℕ
tallied_number (Ok t) = 0
tallied_number (Err Contradiction) = 24

abbrev pub tallied_values : Tallied → List Tally
tallied_values (Ok t) = t ∷ []
tallied_values (Err Contradiction) = []

-- is the word of what was gone over Move; and its join with one vote set more, or that vote set alone where there is no join
abbrev pub tallied_word : Tallied → Bool
tallied_word (Ok t) = t.unanimous
tallied_word (Err Contradiction) = false

abbrev pub tallied_with : VoteSet → Tallied → VoteSet
tallied_with s (Ok t) = agreed_or s (join t.votes s)
tallied_with s (Err Contradiction) = s

-- so it is of any join
pub tallied-word : (n : ℕ) (j : Joined) → tallied_word (tallied_of n j) ≡ unanimous_in n j
unfolding tally_of
tallied-word n (Ok s) = refl
tallied-word n (Err Contradiction) = refl

pub tallied_with_lem : (n : ℕ) (s : VoteSet) (j : Joined) → tallied_with s (tallied_of n j) ≡ agreed_or s (join_next j s)
unfolding tally_of
tallied_with_lem n s (Ok t) = refl
tallied_with_lem n s (Err Contradiction) = refl

-- the union of a list of vote sets
unfoldable pub union_list : List VoteSet → VoteSet
union_list [] = empty
union_list (s ∷ sets) = union s (union_list sets)

-- One pass over a list: each vote set is met once, and joined to what the pass has so far; after the last the two answers are given.
unfoldable pub tally_from : ℕ → Joined → List VoteSet → Tallied
tally_from n joined [] = tallied_of n joined
tally_from n joined (s ∷ sets) = tally_from n (join_next joined s) sets

-- the vote sets of those senders of 1..m that are in a set, in rising number
unfoldable pub sets_of : ℕ → ℕ → List VoteSet → List VoteSet
sets_of zero from l = []
sets_of (suc m) from l = sets_of m from l ++ cond (has from (suc m)) (nth empty l (suc m) ∷ []) []
