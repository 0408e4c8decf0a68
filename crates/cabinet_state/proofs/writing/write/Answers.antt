use Prim.Native.Nat.{ℕ}
use mathlib.Core.List.{List}
use mathlib.Core.Path.{ap, ◌∙◌}
use Rattle.cabinet_state.specs.Tables.{tabulate}
use Rattle.cabinet_state.specs.Words.{state_words, check_place, check_to, column_in, with_check, head_of, words_of}
use Rattle.cabinet_state.proofs.writing.write.Goals as goal

pub returns : goal.returns
unfolding words_of
returns c =
    let s = c.args.s in
    c.fill.ensures
    ∙ ap (λ (k : ℕ). tabulate state_words (with_check k (column_in c.head_of-head.result c.ballots_of-ballots.result s.controller.acks.sets))) c.check_of.ensures
    ∙ ap (λ (h : List ℕ). tabulate state_words (with_check (check_to check_place (column_in h c.ballots_of-ballots.result s.controller.acks.sets)) (column_in h c.ballots_of-ballots.result s.controller.acks.sets))) c.head_of-head.ensures
    ∙ ap (λ (h : List ℕ). tabulate state_words (with_check (check_to check_place (column_in (head_of s) h s.controller.acks.sets)) (column_in (head_of s) h s.controller.acks.sets))) c.ballots_of-ballots.ensures
