-- Laws of replies: refused, a buffer of another length, and the file.
use Rattle.std.specs.Prelude.{ℕ, ◌*◌, ◌<◌, ◌≡◌, List, length}
use Rattle.std.proofs.Math.Path.{refl}
use Rattle.std.proofs.Common.{sym, ◌∙◌, arith}
use borrow.Author.Tests.{eq-eqb, ne_eqb}
use Rattle.model.specs.Questions.{accepted, refused, unless, first_no}
use Rattle.model.specs.QuestionLaws.{all_yes, first-accepted, first-refused}
use Rattle.model.specs.RangeLaws.{ranges}
use Rattle.event_record.specs.Events.{event_length}
use Rattle.generator.specs.Claim.{records_in}
use Rattle.generator.proofs.FileLaws.{length_file}
use Rattle.generator.specs.File.{file_of, asked, refusal_of, reply_to, generated}

module _ (n f count start : ℕ) where
  -- n from 2 up
  pub some-controllers : refusal_of n f count start ≡ accepted → 0 < n
  unfolding refusal_of
  some-controllers e = omega (arith, (ranges n f (all_yes (asked n f count start) e).0).some)

  -- as long as the file, by its length
  pub as_long : (l r : ℕ) → l ≡ r → r ≡ event_length * records_in n count → l ≡ length (file_of n f count start)
  as_long l r e m = e ∙ (m ∙ sym (length_file n f count start))

  module _ (out : List ℕ) where
    pub refused-reply : (q : ℕ) → refused q ≡ refusal_of n f count start → (refused q ≡ reply_to n f count start out) × (out ≡ generated n f count start out)
    unfolding refusal_of reply_to generated
    refused-reply q e = rw (first-refused (asked n f count start) _ q (sym e)) (refl, refl)

    module _ (ok : refusal_of n f count start ≡ accepted) where
      pub length-reply : (length out ≡ length (file_of n f count start) → ⊥)
          → (refused 1 ≡ reply_to n f count start out) × (out ≡ generated n f count start out)
      unfolding refusal_of reply_to generated first_no unless
      length-reply h = rw (first-accepted (asked n f count start) _ ok, ne_eqb (length out) (length (file_of n f count start)) h) (refl, refl)

      pub file-reply : length out ≡ length (file_of n f count start)
          → (accepted ≡ reply_to n f count start out) × (file_of n f count start ≡ generated n f count start out)
      unfolding refusal_of reply_to generated first_no unless
      file-reply h = rw (first-accepted (asked n f count start) _ ok, eq-eqb (length out) (length (file_of n f count start)) h) (refl, refl)

      pub written-reply : (after : List ℕ) → length out ≡ length (file_of n f count start) → after ≡ file_of n f count start
          → (accepted ≡ reply_to n f count start out) × (after ≡ generated n f count start out)
      written-reply after h e = let r = file-reply h in (r.0, e ∙ r.1)
