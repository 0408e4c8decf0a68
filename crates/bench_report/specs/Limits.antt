-- How much the bench program takes, and how much it prints at most.
use Rattle.std.specs.Prelude.{ℕ, ◌+◌, ◌*◌, ◌/◌, Bool, ltb}
use Rattle.ground.specs.Limit.{limit}

-- "Above 40,960 bytes it prints just "- 1"."
abbrev pub longest_schedule : ℕ
longest_schedule = 40960

unfoldable pub is_too_long : ℕ → Bool
is_too_long bytes = ltb longest_schedule bytes

-- an event record has ten bytes
abbrev pub most_answers : ℕ
most_answers = longest_schedule / 10

-- A line has at most: two numbers (10 digits each), a space, the end; C, two numbers, a letter, a signed number (11), four spaces, the end;
-- T, four numbers, four spaces, the end.
abbrev pub answer_width : ℕ
answer_width = 22

abbrev pub controller_width : ℕ
controller_width = 38

abbrev pub message_width : ℕ
message_width = 46

-- the report on m answers and n controllers, and any output
abbrev pub longest_report : ℕ → ℕ → ℕ
longest_report m n = m * answer_width + n * controller_width + message_width

abbrev pub longest_output : ℕ
longest_output = longest_report most_answers limit
