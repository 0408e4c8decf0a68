-- The traces worked by hand: each definition that a run and its text go through is opened, and both sides compute to the same.
use mathlib.Core.Path.{refl}
use Rattle.text.specs.Text.{digits, decimal, signed}
use Rattle.words.specs.Words.{belongs, run, pieces, words_of}
use Rattle.question_words.specs.Questions.{question_words}
use Rattle.event_record.specs.Events.{ballot_fields, event_fields, fields_of}
use Rattle.schedule_text.specs.Forms.{row_of, field_of, shown as shown_word, left_out, spaced}
use Rattle.protocol.specs.Computing.{whole_run}
use Rattle.steps_back.specs.Memory.{past_after, set_back, answer, done, next}
use Rattle.bench_summary.specs.Summary.{summary_of}
use Rattle.trace.specs.Lines.{verdict, told_of, line_text, text, when, each}
use Rattle.trace.specs.Shown.{same_row, unchanged, changed_rows, changed, sent_to, sent_of, sent, new_in, sent_from, sent_in, in_ballot, ballot_sent, ballots, word_put, put, given, told, came_of, shown}
use Rattle.trace.specs.Traces.{next_session, shown_of, trace_from}
use Rattle.trace.specs.Examples.{ExamplesHold}

pub examples : ExamplesHold
unfolding question_words belongs run pieces words_of digits decimal signed ballot_fields event_fields fields_of row_of field_of shown_word left_out spaced past_after set_back answer done next summary_of verdict told_of line_text text when each same_row unchanged changed_rows changed sent_to sent_of sent new_in sent_from sent_in in_ballot ballot_sent ballots word_put put given told came_of shown next_session shown_of trace_from whole_run
examples = record { listing_traced = refl; helped_traced = refl; moved_traced = refl; ballot_traced = refl }
