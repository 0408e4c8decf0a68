use Prim.Native.Nat.{ℕ}
use mathlib.Core.List.{List}
use mathlib.Core.Path.{ap, ◌∙◌}
use Rattle.cabinet_state.specs.States.{same_words}
use Rattle.cabinet_state.specs.Words.{check_place, check_to, column_in, head_of}
use Rattle.cabinet_state.proofs.writing.written_as.Goals as goal

pub returns : goal.returns
returns c =
    let x = c.args in
    let sets = x.cabinet.controller.acks.sets in
    c.same_words.ensures
    ∙ ap (λ (k : ℕ). same_words k (column_in c.head_of-head.result c.ballots_of-ballots.result sets) x.s.now) c.check_of.ensures
    ∙ ap (λ (h : List ℕ). same_words (check_to check_place (column_in h c.ballots_of-ballots.result sets)) (column_in h c.ballots_of-ballots.result sets) x.s.now) c.head_of-head.ensures
    ∙ ap (λ (h : List ℕ). same_words (check_to check_place (column_in (head_of x.cabinet) h sets)) (column_in (head_of x.cabinet) h sets) x.s.now) c.ballots_of-ballots.ensures
