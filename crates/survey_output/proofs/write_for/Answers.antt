-- `survey_output::write_for` meets its contract: a refusal as its line, or the page.
use Rattle.std.proofs.Common.{sym, ◌∙◌, ap}
use Rattle.text.specs.WritingLaws.{same-fitted}
use Rattle.survey.specs.declared.Survey.{Survey}
use Rattle.survey.specs.Page.{page}
use Rattle.survey_output.proofs.Texts.{refused-output, page-output}
use Rattle.survey_output.proofs.write_for.Goals as goal

pub returns-in-Err : goal.returns-in-Err
returns-in-Err c = rw (refused-output _ _ _ _ _ _ c.in-Err.ensures) (cc, cc)

pub survey_of-requires : goal.survey_of-requires
survey_of-requires c = sym c.in-Ok.ensures

pub returns-in-Ok : goal.returns-in-Ok
returns-in-Ok c =
    let k = c.args.k in
    let text = ap (λ (r : Survey). page r k) c.survey_of.ensures ∙ sym (page-output _ _ _ _ _ c.in-Ok.ensures) in
    same-fitted _ text (c.write_page.ensures.value, c.write_page.ensures.out_after)
