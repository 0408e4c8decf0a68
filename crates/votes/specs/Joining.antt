-- Joining vote sets. Document 02, U7: "a stray cabinet could send a sheet that has controller 4 willing when another has it unwilling. Joining now says so
-- instead of taking either."
use Rattle.std.specs.Prelude.{ℕ, zero, suc, Bool, true, false, not, cond, ◌&&◌, List, [], ◌∷◌, eqb, Result, Ok, Err}
use Rattle.std.specs.Int.Bits.{bit_and, bit_xor}
use Rattle.ground.specs.Lists.{nth}
use Rattle.ground.specs.Mask.{has}
use Rattle.votes.specs.VoteSets.{empty, union, unanimous}
use Rattle.votes.specs.declared.VoteSet.{VoteSet}
use Rattle.votes.specs.declared.JoinError.{JoinError}
use Rattle.votes.specs.declared.JoinError.TheVariants.{Contradiction}

-- Those known to both vote sets and willing in just one. Two vote sets contradict each other where there is such a controller.
abbrev pub disputed : VoteSet → VoteSet → ℕ
disputed s t = bit_and (bit_and s.known t.known) (bit_xor s.willing t.willing)

unfoldable pub contradicts : VoteSet → VoteSet → Bool
contradicts s t = not (eqb (disputed s t) 0)

-- what joining answers: a join, or that there is none
abbrev pub Joined : Type 0
Joined = Result VoteSet JoinError

-- the join of two vote sets, what either knows; or that they contradict each other
unfoldable pub join : VoteSet → VoteSet → Joined
join s t = cond (contradicts s t) (Err Contradiction) (Ok (union s t))

-- what joining answers in the papers' terms: 0 and the join; or 24, and none
abbrev pub joined_number : Joined → ℕ
joined_number (Ok s) = 0
joined_number (Err Contradiction) = 24

abbrev pub joined_values : Joined → List VoteSet
joined_values (Ok s) = s ∷ []
joined_values (Err Contradiction) = []

-- one vote set more: a contradiction stays one, whatever follows
abbrev pub join_next : Joined → VoteSet → Joined
join_next (Ok s) t = join s t
join_next (Err Contradiction) t = Err Contradiction

-- the vote sets of a list, joined one after another to what there is; and the join of a list
unfoldable pub join_from : Joined → List VoteSet → Joined
join_from j [] = j
join_from j (s ∷ sets) = join_from (join_next j s) sets

abbrev pub join_list : List VoteSet → Joined
join_list sets = join_from (Ok empty) sets

-- the join of the vote sets of those senders of 1..m that are in a set
unfoldable pub join_all : ℕ → ℕ → List VoteSet → Joined
join_all zero from l = Ok empty
join_all (suc m) from l = cond (has from (suc m)) (join_next (join_all m from l) (nth empty l (suc m))) (join_all m from l)

-- Is the word of a join Move? "Its *word* is Move if all n are known and willing, else Stay": of vote sets that contradict each other there is no join, and so
-- no Move.
abbrev pub unanimous_in : ℕ → Joined → Bool
unanimous_in n (Ok s) = unanimous n s
unanimous_in n (Err Contradiction) = false

-- the join, or another vote set where there is none
abbrev pub agreed_or : VoteSet → Joined → VoteSet
agreed_or other (Ok s) = s
agreed_or other (Err Contradiction) = other

-- a vote set contradicts none of a list; and no two of a list contradict each other
unfoldable pub agrees_with : VoteSet → List VoteSet → Bool
agrees_with s [] = true
agrees_with s (t ∷ sets) = not (contradicts s t) && agrees_with s sets

unfoldable pub pairwise : List VoteSet → Bool
pairwise [] = true
pairwise (s ∷ sets) = agrees_with s sets && pairwise sets
