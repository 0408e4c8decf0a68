-- What is new in a ballot, by the ways of the code; and the rows of an event's ballot.
use Prim.Native.Nat.{ℕ, ◌-◌, ◌≤◌}
use mathlib.Core.Bool.{Bool, true, false, not, ◌&&◌}
use mathlib.Core.List.{List, []}
use mathlib.Core.Path.{◌≡◌, sym, ◌∙◌, ap}
use borrow.Author.Tests.{leb-true}
use lib.Dec.{leb}
use lib.ListN.{get_or}
use Rattle.ground.specs.Lists.{nth-at}
use Rattle.ground.specs.Tests.{and_l, and_r}
use Rattle.model.specs.Ranges.{is_ballot, different_controllers}
use Rattle.model.specs.declared.BallotKind.{BallotKind}
use Rattle.model.specs.declared.BallotEvent.{BallotEvent}
use Rattle.protocol.specs.declared.BallotRow.{BallotRow}
use Rattle.protocol.specs.Ballots.{new_row}
use Rattle.protocol.specs.BallotSteps.{was_sent_in}
use Rattle.bench_state.specs.BallotQuestions.{ballot_number}
use Rattle.trace.specs.Shown.{is_new, new_in, in_ballot, ballot_sent}

module _ (kind : BallotKind) (n b i j : ℕ) (old new : BallotRow) where
  abbrev was : Bool
  was = was_sent_in kind n b i j old

  abbrev is : Bool
  is = was_sent_in kind n b i j new

  pub not-different : different_controllers n i j ≡ false → false ≡ new_in kind n b i j old new
  unfolding new_in
  not-different e = sym (ap (λ (t : Bool). t && is_new was is) e)

  pub not-sent : different_controllers n i j ≡ true → is ≡ false → false ≡ new_in kind n b i j old new
  unfolding new_in
  not-sent d e = sym (ap (λ (t : Bool). t && is_new was is) d ∙ ap (λ (t : Bool). t && not was) e)

  pub is-sent : different_controllers n i j ≡ true → is ≡ true → not was ≡ new_in kind n b i j old new
  unfolding new_in
  is-sent d e = sym (ap (λ (t : Bool). t && is_new was is) d ∙ ap (λ (t : Bool). t && not was) e)

pub ballot-low : (b : ℕ) → is_ballot b ≡ true → 1 ≤ b
unfolding is_ballot
ballot-low b e = leb-true 1 b (and_l (leb 1 b) (leb b 255) e)

pub ballot-high : (b : ℕ) → is_ballot b ≡ true → b ≤ 255
unfolding is_ballot
ballot-high b e = leb-true b 255 (and_r (leb 1 b) (leb b 255) e)

module _ (e : BallotEvent) (n b : ℕ) (old new : List BallotRow) (p : b ≡ ballot_number e) where
  pub in-ballot : is_ballot b ≡ true → in_ballot n b (get_or old (b - 1) (new_row [])) (get_or new (b - 1) (new_row [])) ≡ ballot_sent e n old new
  unfolding ballot_sent
  in-ballot y = rw (← p, y, nth-at (new_row []) old b (ballot-low b y), nth-at (new_row []) new b (ballot-low b y))

  pub no-ballot : is_ballot b ≡ false → [] ≡ ballot_sent e n old new
  unfolding ballot_sent
  no-ballot y = rw (← p, y)
