use Rattle.std.proofs.lemmas.Result.{err_from_is_err_and}
use Rattle.message_record.specs.Messages.{about_message}
use Rattle.model.specs.Questions.{first_no, unless}
use Rattle.message_record.proofs.Asked.{message-stopped, message-past}
use Rattle.message_record.proofs.questions.question.Goals as goal

pub returns-in_err-head_question : goal.returns-in_err-head_question
returns-in_err-head_question c =
    let p = err_from_is_err_and c.from_residual.result c.from_residual.ensures.1 in rw (p.1, p.2) (message-stopped c.args.m _ c.in_err-head_question.ensures)

pub returns-then-not-suits : goal.returns-then-not-suits
unfolding about_message first_no unless
returns-then-not-suits c = message-past c.args.m _ c.in_ok-head_question.ensures (simp (← c.suits.ensures, c.if-not-suits.true))

pub returns-then-not-route : goal.returns-then-not-route
unfolding about_message first_no unless
returns-then-not-route c = message-past c.args.m _ c.in_ok-head_question.ensures (simp (← c.suits.ensures, c.if-not-suits.false, ← c.route.ensures, c.if-not-route.true))

pub returns : goal.returns
unfolding about_message first_no unless
returns c = message-past c.args.m _ c.in_ok-head_question.ensures (simp (← c.suits.ensures, c.if-not-suits.false, ← c.route.ensures, c.if-not-route.false))
