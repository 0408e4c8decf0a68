-- What is asked of a telegram of a ballot (document 02, U14: kinds 5 ask, 6 promise, 7 put and 8 taken), read or to be written.
use Rattle.std.specs.Prelude.{ℕ, Bool, not, cond, ◌&&◌, List, [], ◌∷◌, eqb, leb}
use Rattle.model.specs.Numbers.{is_none}
use Rattle.model.specs.Questions.{Question, ask}
use Rattle.model.specs.Ranges.{sizes_in_range, different_controllers, is_ballot}
use Rattle.model.specs.declared.BallotKind.{BallotKind}
use Rattle.model.specs.declared.BallotKind.TheVariants.{Prepare, Promise, Accept, Accepted}
use Rattle.model.specs.declared.BallotMessage.{BallotMessage}
use Rattle.model.specs.declared.Outcome.{Outcome}

-- 9: "ballot, ballot last taken (0 none), word (0 none, 1 Stay, 2 Move), 0."
-- "Ask has the middle two 0"
unfoldable pub tells_nothing : ℕ → Outcome → Bool
tells_nothing last word = eqb last 0 && is_none word

-- "put and taken have last 0 and a word"
unfoldable pub tells_word : ℕ → Outcome → Bool
tells_word last word = eqb last 0 && not (is_none word)

-- "a promise has both or neither, last not above its ballot"
unfoldable pub reports_last : ℕ → ℕ → Outcome → Bool
reports_last ballot last word = cond (eqb last 0) (is_none word) (not (is_none word) && leb last ballot)

unfoldable pub tells_for_kind : BallotKind → ℕ → ℕ → Outcome → Bool
tells_for_kind Prepare ballot last word = tells_nothing last word
tells_for_kind Promise ballot last word = reports_last ballot last word
tells_for_kind Accept ballot last word = tells_word last word
tells_for_kind Accepted ballot last word = tells_word last word

-- "with empty sheets"; "else refusal 9"
unfoldable pub ballot_suits : BallotMessage → Bool
ballot_suits b = eqb b.votes.known 0 && eqb b.votes.willing 0 && tells_for_kind b.kind b.ballot b.last b.word

-- 4, 7, 8, 9 and 28. They "go between any two": there is no 10 to ask. "Refused: 28, a ballot outside 1 to 255"
unfoldable pub about_ballot : BallotMessage → List Question
about_ballot b =
    ask 4 (sizes_in_range b.n b.f)
    ∷ ask 7 (different_controllers b.n b.from b.to)
    ∷ ask 8 (leb 1 b.order)
    ∷ ask 9 (ballot_suits b)
    ∷ ask 28 (is_ballot b.ballot)
    ∷ []
