-- Vote sets. Document 01, "Words with values": "A *sheet* has two sets of controllers: known, and willing (within known);
-- it is *full* when all n are known. Its *word* is Move if all n are known and willing, else Stay."
use Rattle.std.specs.Prelude.{ℕ, zero, suc, ◌≤◌, ◌≡◌, Bool, true, cond, ◌&&◌, List}
use Rattle.std.specs.Int.Bits.{bit_or}
use Rattle.ground.specs.Lists.{nth}
use Rattle.ground.specs.Mask.{has, insert, full_to}
use Rattle.votes.specs.declared.VoteSet.{VoteSet}

abbrev pub empty : VoteSet
empty = record { known = 0; willing = 0 }

-- is the vote of controller k known; is it known to be willing
abbrev pub knows : VoteSet → ℕ → Bool
knows s k = has s.known k

abbrev pub wills : VoteSet → ℕ → Bool
wills s k = has s.willing k

-- the vote set of one vote
unfoldable pub single : ℕ → Bool → VoteSet
single k willing = record { known = insert 0 k; willing = cond willing (insert 0 k) 0 }

-- the union of two vote sets: what either knows. Where they do not contradict each other it is their join (Joining).
unfoldable pub union : VoteSet → VoteSet → VoteSet
union s t = record { known = bit_or s.known t.known; willing = bit_or s.willing t.willing }

-- "full": all n are known
unfoldable pub complete : ℕ → VoteSet → Bool
complete n s = full_to n s.known

-- the "word" is Move: all n are known and willing
unfoldable pub unanimous : ℕ → VoteSet → Bool
unanimous n s = full_to n s.known && full_to n s.willing

-- the union of the vote sets of those senders of 1..m that are in a set
unfoldable pub union_all : ℕ → ℕ → List VoteSet → VoteSet
union_all zero from l = empty
union_all (suc m) from l = cond (has from (suc m)) (union (union_all m from l) (nth empty l (suc m))) (union_all m from l)

-- s is the vote set of some sender of 1..m that is in the set
pub record Among (m from : ℕ) (l : List VoteSet) (s : VoteSet) : Type 0 where
  pub sender : ℕ
  pub low : 1 ≤ sender
  pub high : sender ≤ m
  pub sent : has from sender ≡ true
  pub set : nth empty l sender ≡ s
