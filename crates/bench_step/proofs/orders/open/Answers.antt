use mathlib.Core.Path.{◌≡◌}
use Rattle.std.proofs.lemmas.Result.{err_from_is_err_and}
use Rattle.model.specs.Refusals.{reply_of}
use Rattle.model.specs.declared.Event.TheVariants.{Order}
use Rattle.protocol.specs.Questions.{reply}
use Rattle.bench_step.proofs.StepLaws.{refuses, accepts}
use Rattle.bench_step.proofs.orders.open.Goals.{After-order_question}
use Rattle.bench_step.proofs.orders.open.Goals as goal

asked : (c : After-order_question) → reply_of c.order_question.result ≡ reply c.args.b (Order c.args.order)
unfolding reply
asked c = rw (c.order_question.ensures, c.may_open.ensures)

pub returns-in_err-order_question : goal.returns-in_err-order_question
returns-in_err-order_question c =
    let p = err_from_is_err_and c.from_residual.result c.from_residual.ensures.1 in
    rw (p.1, p.2) (refuses c.args.b (Order c.args.order) _ (asked (goal.at.returns-in_err-order_question c).After-order_question) _ c.in_err-order_question.was)

pub returns : goal.returns
returns c = accepts c.args.b (Order c.args.order) _ (asked (goal.at.returns c).After-order_question) c.in_ok-order_question.was _ c.opened.ensures
