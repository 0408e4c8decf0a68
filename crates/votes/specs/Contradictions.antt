-- WHAT JOINING PROMISES, for any n: when two vote sets contradict each other, that it does not matter which is named first, that what contradicts a part
-- contradicts the whole, and that the join of a list is there exactly when its members agree pairwise. `contradictions` in src/lib.rt has it as its contract.
use Rattle.std.specs.Prelude.{ℕ, ◌≡◌, true, false, not, cond, ◌||◌, List, [], ◌∷◌}
use Rattle.ground.specs.Mask.{within}
use Rattle.votes.specs.VoteSets.{knows, wills, union, union_all, Among}
use Rattle.votes.specs.Tallies.{union_list, sets_of}
use Rattle.votes.specs.Joining.{contradicts, join, joined_number, joined_values, join_list, join_all, pairwise}
use Rattle.votes.specs.declared.VoteSet.{VoteSet}
use Rattle.std.specs.Prelude.{Ok, Err}
use Rattle.votes.specs.declared.JoinError.TheVariants.{Contradiction}

-- "A *sheet* has two sets of controllers: known, and willing (within known)"; and each of a list is one
abbrev pub WellFormed : VoteSet → Type 0
WellFormed s = within s.willing s.known ≡ true

abbrev pub AllWellFormed : List VoteSet → Type 0
AllWellFormed [] = Unit {0}
AllWellFormed (s ∷ sets) = WellFormed s × AllWellFormed sets

-- a controller known to both, and willing in just one
pub record Differ (s t : VoteSet) : Type 0 where
  pub who : ℕ
  pub known : knows s who ≡ true
  pub known_too : knows t who ≡ true
  pub willing : wills s who ≡ not (wills t who)

pub record Contradictions : Type 0 where
  -- two vote sets contradict each other exactly where such a controller is
  pub differ : (s t : VoteSet) → contradicts s t ≡ true → Differ s t
  pub differs : (s t : VoteSet) → Differ s t → contradicts s t ≡ true
  -- whichever is named first
  pub symmetric : (s t : VoteSet) → join s t ≡ join t s
  -- the answer: 24 and no join, or 0 and the union
  pub refused : (s t : VoteSet) → contradicts s t ≡ true → (joined_number (join s t) ≡ 24) × (joined_values (join s t) ≡ [])
  pub agreed : (s t : VoteSet) → contradicts s t ≡ false → (joined_number (join s t) ≡ 0) × (joined_values (join s t) ≡ (union s t ∷ []))
  -- what contradicts a part contradicts the whole, and nothing else does
  pub monotone : (s t u w : VoteSet) → WellFormed s → WellFormed t → join s t ≡ Ok w → contradicts w u ≡ (contradicts s u || contradicts t u)
  -- the join of a list, and that of the vote sets of any set of senders of 1..m, is there exactly when its members agree pairwise
  pub any-list : (sets : List VoteSet) → AllWellFormed sets → join_list sets ≡ cond (pairwise sets) (Ok (union_list sets)) (Err Contradiction)
  pub any_senders : (m from : ℕ) (l : List VoteSet) → AllWellFormed (sets_of m from l)
      → join_all m from l ≡ cond (pairwise (sets_of m from l)) (Ok (union_all m from l)) (Err Contradiction)
  -- in the papers' terms: 0 and the union, or 24 and none
  pub numbers : (m from : ℕ) (l : List VoteSet) → AllWellFormed (sets_of m from l) → joined_number (join_all m from l) ≡ cond (pairwise (sets_of m from l)) 0 24
  pub values : (m from : ℕ) (l : List VoteSet) → AllWellFormed (sets_of m from l) → joined_values (join_all m from l) ≡ cond (pairwise (sets_of m from l)) (union_all m from l ∷ []) []
  -- the join depends only on which vote sets are joined: not on their sequence, on who sent them or on how many sent the same
  pub only-members : (m from : ℕ) (l : List VoteSet) (m' from' : ℕ) (l' : List VoteSet) → AllWellFormed (sets_of m from l) → AllWellFormed (sets_of m' from' l')
      → ((s : VoteSet) → Among m from l s → Among m' from' l' s)
      → ((s : VoteSet) → Among m' from' l' s → Among m from l s)
      → join_all m from l ≡ join_all m' from' l'
