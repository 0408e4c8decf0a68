-- MESSAGES OF A CLEAN ORDER, beside demand 3 and about every list of events that a new bench is given. Document 02, U10: "Document 01 bounds kinds 1 and 2 by
-- 2fn. For a clean order that has ended everywhere, the figure is to be exactly 2fn, fn of each kind, with no help call and no answer, willing or not. For other
-- orders the bound remains": that is `at-most_2fn` of the claim. `clean_messages` in src/lib.rt has this as its contract; the proof is in proofs/.
use Rattle.std.specs.Prelude.{ℕ, ◌+◌, ◌*◌, ◌≤◌, ◌≡◌, List}
use Rattle.model.specs.declared.Kind.TheVariants.{Vote, Ack, Help, Helped}
use Rattle.model.specs.declared.Event.{Event}
use Rattle.protocol.specs.Display.{message_count}
use Rattle.protocol.specs.Claim.{after, HoldsSome, Clean}

-- "a clean order that has ended everywhere": it is clean at the moment, and every controller holds an outcome
pub record CleanEnd (es : List Event) : Type 0 where
  pub clean : Clean (after es).shared.n (after es).shared.f es
  pub ended : (i : ℕ) → 1 ≤ i → i ≤ (after es).shared.n → HoldsSome es i

-- f times n, of the lock at the moment
abbrev pub fn : List Event → ℕ
fn es = (after es).shared.f * (after es).shared.n

pub record CleanMessages : Type 0 where
  -- "For a clean order that has ended everywhere, the figure is to be exactly 2fn,
  pub exactly_2fn : (es : List Event) → CleanEnd es → message_count (after es) Vote + message_count (after es) Ack ≡ 2 * fn es
  -- fn of each kind,
  pub votes : (es : List Event) → CleanEnd es → message_count (after es) Vote ≡ fn es
  pub acks : (es : List Event) → CleanEnd es → message_count (after es) Ack ≡ fn es
  -- with no help call and no answer, willing or not."
  pub no-help : (es : List Event) → CleanEnd es → message_count (after es) Help ≡ 0
  pub no-helped : (es : List Event) → CleanEnd es → message_count (after es) Helped ≡ 0
