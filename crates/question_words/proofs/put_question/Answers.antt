-- `question_words::put_question` meets its contract: the lines of the text are the words by number.
use Rattle.std.proofs.Common.{◌∙◌, ap}
use Rattle.text.proofs.Wrote.{wrote-text}
use Rattle.words.specs.Words.{belongs, pieces}
use Rattle.question_words.specs.Questions.{question_words}
use Rattle.question_words.proofs.put_question.Goals as goal

pub returns : goal.returns
unfolding question_words pieces belongs
returns c = wrote-text c.bytes.ensures (c.nth_line-words.ensures ∙ ap question_words c.from.ensures)
