-- `generator::put_votes` meets its contract. The invariant: the votes of the first k controllers are written. It rests on `one-vote-more` (FileLaws).
use Rattle.text.specs.Writers.{Wrote}
use Rattle.generator.specs.File.{event_records, votes_to}
use Rattle.generator.proofs.file.put_votes.Given as goal

abbrev pub invariant-loop-k : goal.invariant-loop-k
invariant-loop-k l = Wrote l.initial.w l.w (event_records (votes_to l.k))
