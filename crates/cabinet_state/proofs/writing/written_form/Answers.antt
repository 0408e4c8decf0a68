use mathlib.Core.Path.{ap, ◌∙◌}
use Rattle.cabinet_state.specs.declared.Cabinet.{Cabinet}
use Rattle.cabinet_state.specs.States.{same_words, written_form}
use Rattle.cabinet_state.specs.Words.{check_of, column_of}
use Rattle.cabinet_state.proofs.writing.written_form.Goals as goal

pub returns : goal.returns
unfolding written_form
returns c =
    let l = c.args.s.now in
    c.written_as.ensures ∙ ap (λ (x : Cabinet). same_words (check_of x) (column_of x) l) c.cabinet_of.ensures
