use Rattle.std.proofs.lemmas.Result.{err_from_is_err_and}
use Rattle.model.specs.declared.Event.TheVariants.{Lock}
use Rattle.protocol.specs.Questions.{reply}
use Rattle.protocol.specs.Steps.{perform}
use Rattle.bench_step.proofs.StepLaws.{refuses, accepts}
use Rattle.bench_step.proofs.orders.lock.Goals as goal

pub returns-in_err-lock_question : goal.returns-in_err-lock_question
unfolding reply
returns-in_err-lock_question c =
    let p = err_from_is_err_and c.from_residual.result c.from_residual.ensures.1 in
    rw (p.1, p.2) (refuses c.args.b (Lock c.args.n c.args.f c.args.own) _ (c.lock_question.ensures c.args.own) _ c.in_err-lock_question.was)

pub returns : goal.returns
unfolding reply perform
returns c = accepts c.args.b (Lock c.args.n c.args.f c.args.own) _ (c.lock_question.ensures c.args.own) c.in_ok-lock_question.was _ c.bench_of.ensures
