-- The page. Document 02, U13: "prints four lines, numbers parted by a space".
use Rattle.std.specs.Prelude.{ℕ, List, [], ◌∷◌, ◌++◌}
use Rattle.text.specs.Text.{decimal, line}
use Rattle.bench_report.specs.declared.MessageCounts.{MessageCounts}
use Rattle.survey.specs.declared.Endings.{Endings}
use Rattle.survey.specs.declared.Most.{Most}
use Rattle.survey.specs.declared.Survey.{Survey}

-- "schedules in which every controller not stopped ended Move, likewise Stay, and the rest"
abbrev pub endings_line : Endings → List ℕ
endings_line e = line (decimal e.moved ∷ decimal e.stayed ∷ decimal e.rest ∷ [])

-- "telegrams of each kind in all"
abbrev pub messages_line : MessageCounts → List ℕ
messages_line m = line (decimal m.vote ∷ decimal m.ack ∷ decimal m.help ∷ decimal m.helped ∷ [])

-- "the most of all kinds together in one schedule, and the smallest generator number that reached it"
abbrev pub most_line : Most → List ℕ
most_line m = line (decimal m.sent ∷ decimal m.number ∷ [])

-- "for the mean, the sum of all kinds and k, undivided"
abbrev pub mean_line : ℕ → ℕ → List ℕ
mean_line sum k = line (decimal sum ∷ decimal k ∷ [])

unfoldable pub page : Survey → ℕ → List ℕ
page r k = endings_line r.endings ++ (messages_line r.messages ++ (most_line r.most ++ mean_line r.sum k))

-- eleven numbers of at most ten digits, each with a space or the line's end after it
abbrev pub longest_page : ℕ
longest_page = 121
