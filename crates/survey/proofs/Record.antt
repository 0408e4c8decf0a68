-- What an accepted record says of its numbers.
use Prim.Native.Nat.{ℕ, ◌+◌, ◌-◌, ◌≤◌}
use mathlib.Core.Path.{◌≡◌}
use mathlib.Core.Bool.{true}
use borrow.Author.Tests.{leb-true}
use Rattle.ground.specs.Tests.{and_l, and_r}
use Rattle.model.specs.Questions.{accepted}
use Rattle.model.specs.QuestionLaws.{all_yes}
use Rattle.model.specs.Ranges.{sizes_in_range}
use Rattle.generator.specs.File.{most_drawn}
use Rattle.survey.specs.Questions.{numbers_in_range, asked, refusal_of}

pub record Numbers (s k : ℕ) : Type 0 where
  pub some : 1 ≤ k
  pub few : k ≤ 1000
  pub start : 1 ≤ s
  pub last : s + k - 1 ≤ 4294967295

numbers : (s k : ℕ) → numbers_in_range s k ≡ true → Numbers s k
unfolding numbers_in_range
numbers s k e = record {
  some = leb-true _ _ (search (and_l, and_r));
  few = leb-true _ _ (search (and_l, and_r));
  start = leb-true _ _ (search (and_l, and_r));
  last = leb-true _ _ (search (and_l, and_r));
}

pub record Accepted (n f count s k : ℕ) : Type 0 where
  pub sizes : sizes_in_range n f ≡ true
  pub numbers : Numbers s k
  pub drawn : count ≤ most_drawn

pub accepted_record : (n f count s k : ℕ) → refusal_of n f count s k ≡ accepted → Accepted n f count s k
unfolding refusal_of
accepted_record n f count s k e =
    let y = all_yes (asked n f count s k) e in
    record { sizes = y.0; numbers = numbers s k y.1.0; drawn = leb-true count most_drawn y.1.1.0 }
