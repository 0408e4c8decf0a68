-- Worked by hand: how some benches ended, which records are refused with what, and a report over six schedules, from what they showed to its page.
use Rattle.std.specs.Prelude.{ℕ, ◌-◌, ◌≡◌, refl, Bool, true, ◌&&◌, List, [], ◌∷◌, map, eqb, length, get_or}
use Rattle.ground.specs.Lists.{nth}
use Rattle.ground.specs.Quantify.{all_to, any_to}
use Rattle.model.specs.Questions.{number, unless, first_no}
use Rattle.model.specs.Ranges.{sizes_in_range}
use Rattle.model.specs.declared.Outcome.{Outcome}
use Rattle.model.specs.declared.Outcome.TheVariants.{None, Stay, Move}
use Rattle.text.specs.Text.{digits, decimal}
use Rattle.bench_report.specs.declared.Row.{Row}
use Rattle.bench_report.specs.declared.MessageCounts.{MessageCounts}
use Rattle.bench_report.specs.declared.Summary.{Summary}
use Rattle.bench_report.specs.Listing.{page as as_page}
use Rattle.survey.specs.declared.Ending.TheVariants.{Moved, Stayed, Rest}
use Rattle.survey.specs.Ended.{any_present, all_ended, ending_of}
use Rattle.survey.specs.Surveys.{with_one, survey_of}
use Rattle.survey.specs.Questions.{numbers_in_range, refusal_of}
use Rattle.survey.specs.Page.{page}

-- a C line: stage and outcome
abbrev pub shown : ℕ → Outcome → Row
shown stage outcome = record { stage = stage; outcome = outcome; position = 0 }

abbrev pub sent : ℕ → ℕ → ℕ → ℕ → MessageCounts
sent vote ack help helped = record { vote = vote; ack = ack; help = help; helped = helped }

abbrev pub end_with : MessageCounts → List Row → Summary
end_with m rows = record { n = length rows; rows = rows; messages = m }

abbrev pub end : List Row → Summary
end rows = end_with (sent 0 0 0 0) rows

-- benches, and how they ended
pub endings : map ending_of (
    end (shown 3 Move ∷ shown 3 Move ∷ [])
    -- who is stopped is left out; who stands by is not
    ∷ end (shown 8 None ∷ shown 3 Move ∷ [])
    ∷ end (shown 9 None ∷ shown 3 Move ∷ [])
    ∷ end (shown 9 Move ∷ shown 3 Move ∷ [])
    ∷ end (shown 3 Stay ∷ shown 9 Stay ∷ shown 8 None ∷ [])
    ∷ end (shown 9 None ∷ shown 3 Stay ∷ [])
    -- one that has not ended
    ∷ end (shown 2 None ∷ shown 3 Move ∷ [])
    ∷ end (shown 0 None ∷ shown 3 Move ∷ [])
    -- the last controller counts as the first does
    ∷ end (shown 3 Move ∷ shown 2 None ∷ [])
    ∷ end (shown 3 Stay ∷ shown 9 None ∷ [])
    -- one of each
    ∷ end (shown 3 Move ∷ shown 3 Stay ∷ [])
    ∷ end (shown 3 Stay ∷ shown 3 Move ∷ [])
    -- nobody runs, but one stands by
    ∷ end (shown 9 Move ∷ shown 8 None ∷ [])
    ∷ end (shown 8 None ∷ shown 9 Stay ∷ [])
    -- what is shown of one stopped is not asked (no bench shows an outcome there)
    ∷ end (shown 8 Stay ∷ shown 3 Move ∷ [])
    ∷ end (shown 8 Move ∷ shown 8 Move ∷ [])
    -- nobody left unstopped, and no controller at all
    ∷ end (shown 8 None ∷ shown 8 None ∷ [])
    ∷ end []
    ∷ [])
    ≡ Moved ∷ Moved ∷ Rest ∷ Moved ∷ Stayed ∷ Rest ∷ Rest ∷ Rest ∷ Rest ∷ Rest ∷ Rest ∷ Rest ∷ Moved ∷ Stayed ∷ Moved ∷ Rest ∷ Rest ∷ Rest ∷ []
unfolding ending_of any_present all_ended nth all_to any_to
endings = refl

-- n, f, count, s and k of a record, and the answer: 0, or the refusal
pub record Asked : Type 0 where
  pub n : ℕ
  pub f : ℕ
  pub count : ℕ
  pub s : ℕ
  pub k : ℕ
  pub answer : ℕ

abbrev pub asks : ℕ → ℕ → ℕ → ℕ → ℕ → ℕ → Asked
asks n f count s k answer = record { n = n; f = f; count = count; s = s; k = k; answer = answer }

abbrev pub records : List Asked
records =
    asks 5 2 1000 1 100 0
    ∷ asks 32 31 4000 1 1000 0
    -- 4 before 27 and 23
    ∷ asks 33 1 4001 0 0 4
    ∷ asks 5 5 1000 1 100 4
    ∷ asks 5 0 1000 1 100 4
    ∷ asks 1 1 1000 1 100 4
    -- 27 before 23
    ∷ asks 5 2 4001 1 0 27
    ∷ asks 5 2 4001 1 1001 27
    ∷ asks 5 2 4001 0 1 27
    ∷ asks 5 2 4001 0 2 27
    ∷ asks 5 2 4001 1 1000 23
    -- the last number
    ∷ asks 2 1 0 4294967295 1 0
    ∷ asks 2 1 0 4294967295 2 27
    ∷ asks 2 1 0 4294966296 1000 0
    ∷ asks 2 1 0 4294966297 1000 27
    ∷ []

abbrev pub is_answered : Asked → Bool
is_answered a = eqb (number (refusal_of a.n a.f a.count a.s a.k)) a.answer

abbrev pub all_answered : List Asked → Bool
all_answered [] = true
all_answered (a ∷ rest) = is_answered a && all_answered rest

pub answers : all_answered records ≡ true
unfolding refusal_of numbers_in_range sizes_in_range first_no unless
answers = refl

-- numbers 7 to 12: the most, 9 messages, in 8 and again in 9
abbrev pub ends : ℕ → Summary
ends g = get_or (
    end_with (sent 2 1 0 0) (shown 3 Move ∷ shown 8 None ∷ [])
    ∷ end_with (sent 2 4 2 1) (shown 3 Stay ∷ shown 9 Stay ∷ [])
    ∷ end_with (sent 3 3 2 1) (shown 8 None ∷ shown 8 None ∷ [])
    ∷ end_with (sent 2 2 0 0) (shown 9 None ∷ shown 3 Move ∷ [])
    ∷ end_with (sent 1 0 0 0) (shown 8 None ∷ shown 9 Stay ∷ [])
    ∷ end_with (sent 0 1 0 0) (shown 3 Move ∷ shown 2 None ∷ [])
    ∷ []) (g - 7) (end [])

pub printed : page (survey_of ends 7 6) 6 ≡ as_page (
    "1 2 3" ∷
    "10 11 4 2" ∷
    "9 8" ∷
    "27 6" ∷ [])
unfolding page survey_of with_one ending_of any_present all_ended nth all_to any_to digits decimal
printed = refl
