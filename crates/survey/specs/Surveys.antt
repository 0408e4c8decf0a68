-- What is counted of many schedules. Document 02, U13, the figures of its four lines.
use Rattle.std.specs.Prelude.{ℕ, zero, suc, ◌+◌, cond, ltb}
use Rattle.bench_report.specs.declared.MessageCounts.{MessageCounts}
use Rattle.bench_report.specs.declared.Summary.{Summary}
use Rattle.survey.specs.declared.Ending.{Ending}
use Rattle.survey.specs.declared.Ending.TheVariants.{Moved, Stayed, Rest}
use Rattle.survey.specs.declared.Endings.{Endings}
use Rattle.survey.specs.declared.Most.{Most}
use Rattle.survey.specs.declared.Survey.{Survey}
use Rattle.survey.specs.Ended.{ending_of}

-- "schedules in which every controller not stopped ended Move, likewise Stay, and the rest": one more
abbrev pub endings_with : Endings → Ending → Endings
endings_with e Moved = record { moved = e.moved + 1; stayed = e.stayed; rest = e.rest }
endings_with e Stayed = record { moved = e.moved; stayed = e.stayed + 1; rest = e.rest }
endings_with e Rest = record { moved = e.moved; stayed = e.stayed; rest = e.rest + 1 }

-- "telegrams of each kind in all", and "all kinds together"
abbrev pub messages_with : MessageCounts → MessageCounts → MessageCounts
messages_with m sent = record { vote = m.vote + sent.vote; ack = m.ack + sent.ack; help = m.help + sent.help; helped = m.helped + sent.helped }

abbrev pub all_kinds : MessageCounts → ℕ
all_kinds m = m.vote + m.ack + m.help + m.helped

-- "the most of all kinds together in one schedule, and the smallest generator number that reached it": a later number takes the place with more alone
abbrev pub most_with : Most → ℕ → ℕ → Most
most_with m sent g = record {
  sent = cond (ltb m.sent sent) sent m.sent;
  number = cond (ltb m.sent sent) g m.number;
}

-- one schedule more, of generator number g
unfoldable pub with_one : Survey → ℕ → Summary → Survey
with_one r g end = record {
  endings = endings_with r.endings (ending_of end);
  messages = messages_with r.messages end.messages;
  most = most_with r.most (all_kinds end.messages) g;
  sum = r.sum + all_kinds end.messages;
}

-- before the first, which is to have number s
abbrev pub nothing : ℕ → Survey
nothing s = record {
  endings = record { moved = 0; stayed = 0; rest = 0 };
  messages = record { vote = 0; ack = 0; help = 0; helped = 0 };
  most = record { sent = 0; number = s };
  sum = 0;
}

-- "It runs generator numbers s to s + k − 1": what the bench shows at the end of each number's schedule is given
unfoldable pub survey_of : (ℕ → Summary) → ℕ → ℕ → Survey
survey_of ends s zero = nothing s
survey_of ends s (suc k) = with_one (survey_of ends s k) (s + k) (ends (s + k))
