-- No output is longer than the program's buffer; and the output by the reply.
use Rattle.std.specs.Prelude.{ℕ, ◌*◌, ◌≤◌, ◌<◌, ◌≡◌, refl, not, List, ◌++◌, eqb, leb, length, take, drop}
use Rattle.std.proofs.Common.{sym, ◌∙◌, ap, arith, length-take-le, leb-true}
use Rattle.ground.specs.Tests.{and_r, by_cond}
use Rattle.ground.specs.Limit.{limit}
use Rattle.model.specs.Questions.{Reply, accepted, refused}
use Rattle.model.specs.QuestionLaws.{all_yes}
use Rattle.model.specs.RangeLaws.{ranges}
use Rattle.records.specs.Bytes.{byte, number2, number4}
use Rattle.event_record.specs.Events.{event_length}
use Rattle.text.specs.Text.{refusal}
use Rattle.text.specs.Lengths.{refusal-length}
use Rattle.text.specs.Writing.{fitted, fitted_length}
use Rattle.text.specs.WritingLaws.{nothing-fitted, fitted-whole}
use Rattle.generator.specs.File.{file_of, most_drawn, asked, refusal_of, generated}
use Rattle.generator.proofs.FileLaws.{length_file}
use Rattle.generator.proofs.ReplyLaws.{file-reply}
use Rattle.generator.specs.Claim.{records_in}
use Rattle.generator.specs.Output.{file_or_refusal, output_for, output_of, longest_output, AllFit}

-- at most the limit of controllers, and 4,000 drawn events
pub limits : (n f count start : ℕ) → refusal_of n f count start ≡ accepted → (n ≤ limit) × (count ≤ most_drawn)
unfolding refusal_of
limits n f count start e =
    let y = all_yes (asked n f count start) e in
    ((ranges n f y.0).small, leb-true count most_drawn (and_r (not (eqb start 0)) (leb count most_drawn) y.1.0))

for-length : (n f count start : ℕ) → length (output_for n f count start) ≤ longest_output
unfolding output_for
for-length n f count start = at (refusal_of n f count start) refl
  where
    at : (r : Reply) → refusal_of n f count start ≡ r → length (file_or_refusal r (file_of n f count start)) ≤ longest_output
    at accepted e =
        let l : (n ≤ limit) × (count ≤ most_drawn) = limits n f count start e in
        let k : length (file_of n f count start) ≡ event_length * records_in n count = length_file n f count start in
        omega (arith, l.0, l.1)
    at (refused q) e = omega (arith, refusal-length q)

pub all_fit : AllFit
unfolding output_of
all_fit s =
    by_cond (λ (l : List ℕ). length l ≤ longest_output) (eqb (length s) 8) (output_for (byte s 0) (byte s 1) (number2 s 2) (number4 s 4)) (refusal 1)
    (λ _. for-length (byte s 0) (byte s 1) (number2 s 2) (number4 s 4))
    (λ _. omega (arith, refusal-length 1))

-- the output by the reply: a refusal
pub refused-output : (n f count start q : ℕ) → refused q ≡ refusal_of n f count start → output_for n f count start ≡ refusal q
unfolding output_for
refused-output n f count start q e = rw (← e)

-- and the file, which the buffer holds or does not
module _ (n f count start : ℕ) (out : List ℕ) (r : ℕ) (e : accepted ≡ refusal_of n f count start) (l : r ≡ event_length * records_in n count) where
  is_file : output_for n f count start ≡ file_of n f count start
  unfolding output_for
  is_file = rw (← e)

  as_long : length (file_of n f count start) ≡ r
  as_long = length_file n f count start ∙ sym l

  pub short-output : length out < r → (0 ≡ fitted_length (output_for n f count start) out) × (out ≡ fitted (output_for n f count start) out)
  short-output h = rw is_file (nothing-fitted (file_of n f count start) out (rw as_long h))

  pub whole-output : (after : List ℕ) → r ≤ length out → after ≡ generated n f count start (take r out)
      → (r ≡ fitted_length (output_for n f count start) out) × (after ++ drop r out ≡ fitted (output_for n f count start) out)
  whole-output after h g =
      let part : length (take r out) ≡ length (file_of n f count start) = length-take-le r out h ∙ sym as_long in
      let file : after ≡ file_of n f count start = g ∙ sym (file-reply n f count start (take r out) (sym e) part).1 in
      let w = fitted-whole (file_of n f count start) out (omega (arith, as_long)) in
      rw (is_file, file) (sym (w.0 ∙ as_long), ap (λ (k : ℕ). file_of n f count start ++ drop k out) (sym as_long) ∙ sym w.1)
