-- How long the output can be.
use Rattle.std.specs.Prelude.{ℕ, ◌*◌, ◌≤◌, List, ltb, length}
use Rattle.std.proofs.Common.{arith, length-append, ltb-false}
use Rattle.ground.specs.Tests.{by_cond}
use Rattle.text.specs.Text.{lines, refusal}
use Rattle.text.specs.Lengths.{decimal-length, lines-length, refusal-length}
use Rattle.line.specs.declared.Answer.{Answer}
use Rattle.line.specs.declared.Answer.TheVariants.{Accepted, Refused, Served, Nobody}
use Rattle.line_output.specs.Output.{shown, answer_at, act_line, most, output_of}

shown-length : (a : Answer) → length (shown a) ≤ 10
shown-length Accepted = decimal-length _
shown-length Refused = decimal-length _
shown-length (Served k) = decimal-length k
shown-length Nobody = omega arith

act-length : (s : List ℕ) (i : ℕ) → length (act_line s i) ≤ 22
act-length s i = simp length-append (omega (arith, decimal-length i, shown-length (answer_at s i)))

-- 22 bytes a line
pub acts-length : (s : List ℕ) → length (lines (length s) (act_line s)) ≤ length s * 22
acts-length s = lines-length 22 (length s) (act_line s) (act-length s)

-- 90,112 bytes hold the output for any input
pub always_fits : (s : List ℕ) → length (output_of s) ≤ 90112
unfolding output_of
always_fits s =
    by_cond (λ (t : List ℕ). length t ≤ 90112) (ltb most (length s)) (refusal 1) (lines (length s) (act_line s))
    (λ _. omega (arith, refusal-length 1))
    (λ e. omega (arith, acts-length s, ltb-false most (length s) e))
