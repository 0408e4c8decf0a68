-- What the report shows of a bench, in the words of protocol's Display.
use Rattle.std.specs.Prelude.{ℕ, ◌+◌, cond, ltb, ◌≡◌, refl, List, [], map}
use Rattle.ground.specs.Lists.{nth, map_at}
use Rattle.ground.specs.Limit.{limit}
use Rattle.ground.specs.Mask.{has}
use Rattle.ground.specs.Quantify.{count_to}
use Rattle.model.specs.declared.Kind.{Kind}
use Rattle.model.specs.declared.Kind.TheVariants.{Vote, Ack, Help, Helped}
use Rattle.protocol.specs.declared.Condition.{Condition}
use Rattle.protocol.specs.declared.Station.{Station}
use Rattle.protocol.specs.declared.Shared.{Shared}
use Rattle.protocol.specs.declared.Bench.{Bench}
use Rattle.protocol.specs.Ballots.{new_ballots}
use Rattle.protocol.specs.Controllers.{outcome_in}
use Rattle.protocol.specs.Benches.{fresh, fresh_station, station, of_kind}
use Rattle.protocol.specs.Display.{stage_shown, shown_stage, shown_outcome, shown_position, message_count, sent_count, sum_to}
use Rattle.bench_report.specs.declared.Row.{Row}
use Rattle.bench_report.specs.declared.MessageCounts.{MessageCounts}
use Rattle.bench_report.specs.declared.Summary.{Summary}
use Rattle.bench_report.specs.Lines.{blank_row}

-- "stage (8 stopped, 9 standing by), outcome (M, S, -), position"
abbrev pub row_in : Condition → ℕ → Row
row_in condition position = record { stage = stage_shown condition; outcome = outcome_in condition; position = position }

abbrev pub row_of : Station → Row
row_of s = row_in s.controller.condition s.controller.gate.position

-- "T and the telegrams sent in this order, by kind"
abbrev pub message_counts_of : Bench → MessageCounts
message_counts_of b = record { vote = message_count b Vote; ack = message_count b Ack; help = message_count b Help; helped = message_count b Helped }

-- the same of the first i controllers alone
abbrev pub counts_to : Bench → ℕ → MessageCounts
counts_to b i = record { vote = sum_to i (sent_count b Vote); ack = sum_to i (sent_count b Ack); help = sum_to i (sent_count b Help); helped = sum_to i (sent_count b Helped) }

-- and with one more, at index i: beyond the last station nobody has sent anything
abbrev pub sent_at : ℕ → ℕ → Kind → Station → ℕ
sent_at n i kind s = count_to n (has (cond (ltb i limit) (of_kind kind s.sent).to 0))

abbrev pub more_sent : MessageCounts → ℕ → ℕ → Station → MessageCounts
more_sent t n i s = record { vote = t.vote + sent_at n i Vote s; ack = t.ack + sent_at n i Ack s; help = t.help + sent_at n i Help s; helped = t.helped + sent_at n i Helped s }

unfoldable pub summary_of : Bench → Summary
summary_of b = record { n = b.shared.n; rows = map row_of b.stations; messages = message_counts_of b }

-- the bench of these parts, as it is shown: no report shows its ballots
abbrev pub shown_of : Shared → List Station → Bench
shown_of m l = record { shared = m; ballots = new_ballots; stations = l }

-- the row of controller k is what the claim says that its C line shows
pub shows : (b : Bench) (k : ℕ) → nth blank_row (summary_of b).rows k ≡ record { stage = shown_stage b k; outcome = shown_outcome b k; position = shown_position b k }
unfolding summary_of station fresh_station fresh
shows b k = map_at row_of (fresh_station []) refl b.stations k
