-- What one act gives: the answer, the bench after it, and what becomes of what is remembered. Document 02, U11.
use Rattle.std.specs.Prelude.{◌≡◌, Bool, cond, List, [], ◌∷◌, take, drop}
use Rattle.model.specs.Questions.{number, is_accepted}
use Rattle.model.specs.declared.Act.{Act}
use Rattle.model.specs.declared.Act.TheVariants.{Play, Back}
use Rattle.protocol.specs.declared.Bench.{Bench}
use Rattle.steps_back.specs.Memory.{Remembering, can_be_undone, most_remembered, answer, next}
use Rattle.bench_back.specs.declared.Recall.{Recall}
use Rattle.bench_back.specs.declared.Recall.TheVariants.{Same, More, Fewer, Nothing}
use Rattle.bench_back.specs.declared.Acted.{Acted}

-- a bench that remembers nothing, or the bench before its newest event and older ones
abbrev pub remembering_of : Bench → Bool → Bench → List Bench → Remembering
remembering_of b remembers newest older = record { bench = b; past = cond remembers (newest ∷ older) [] }

-- what becomes of it at an accepted act, and at any
abbrev pub recall_by : Act → Recall
recall_by (Play e) = cond (can_be_undone e) More Nothing
recall_by Back = Fewer

unfoldable pub recall_of : Remembering → Act → Recall
recall_of s a = cond (is_accepted (answer s a)) (recall_by a) Same

abbrev pub acted : Remembering → Act → Acted
acted s a = record { answer = number (answer s a); bench = (next s a).bench; recall = recall_of s a }

-- the benches that are then remembered
abbrev pub recalled : Recall → Remembering → List Bench
recalled Same s = s.past
recalled More s = take most_remembered (s.bench ∷ s.past)
recalled Fewer s = drop 1 s.past
recalled Nothing s = []

abbrev pub Recalls : Type 0
Recalls = (s : Remembering) (a : Act) → (next s a).past ≡ recalled (recall_of s a) s
