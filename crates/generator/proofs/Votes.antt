-- The loop over votes: none yet, and all of them.
use Prim.Native.Nat.{ℕ, ◌≤◌}
use mathlib.Core.Path.{◌≡◌}
use lib.ListN.{length}
use Rattle.text.specs.Writing.{highest}
use Rattle.text.specs.Writers.{Wrote}
use Rattle.text.specs.declared.writer.Writer.{Writer}
use Rattle.text.proofs.Wrote.{wrote-nothing}
use Rattle.event_record.specs.Events.{records_of}
use Rattle.generator.specs.File.{event_records, votes_to}

pub put_no-votes : (w : Writer) → w.at ≤ highest → length w.out.now ≤ highest → Wrote w w (event_records (votes_to 0))
unfolding votes_to records_of
put_no-votes w h b = wrote-nothing w h b

pub put-votes-to : {a b : Writer} {k n : ℕ} → k ≡ n → Wrote a b (event_records (votes_to k)) → Wrote a b (event_records (votes_to n))
put-votes-to e p = rw e at p
