-- What the rest of the bench does to the ballots' invariant: controllers stop, and put words. It speaks of those that run and of words that were put, so
-- it stays, part by part.
use Prim.Native.Nat.{ℕ}
use mathlib.Core.Path.{◌≡◌}
use mathlib.Core.Bool.{Bool, true, cond}
use Rattle.model.specs.Numbers.{word_of}
use Rattle.model.specs.declared.Outcome.{Outcome}
use Rattle.protocol.proofs.paxos.View.{View}
use Rattle.protocol.proofs.paxos.Invariant.{IsPut, Inv}

abbrev pub around : View → (ℕ → Bool) → (ℕ → Outcome) → Bool → Bool → View
around v runs own move stay = record {
  runs = runs;
  own = own;
  highest = v.highest;
  promised_last = v.promised_last;
  last = v.last;
  last_word_of = v.last_word_of;
  promised = v.promised;
  report = v.report;
  received = v.received;
  taken = v.taken;
  top = v.top;
  top_word_of = v.top_word_of;
  word = v.word;
  move = move;
  stay = stay;
}

pub around-inv : (n : ℕ) (v : View) → Inv n v → (runs : ℕ → Bool) (own : ℕ → Outcome) (move stay : Bool)
    → ((j : ℕ) → runs j ≡ true → v.runs j ≡ true)
    → ((j : ℕ) → runs j ≡ true → IsPut (v.own j) → IsPut (own j))
    → ((j : ℕ) (x : Bool) → own j ≡ word_of x → cond x move stay ≡ true)
    → ((x : Bool) → cond x v.move v.stay ≡ true → cond x move stay ≡ true)
    → Inv n (around v runs own move stay)
around-inv n v inv runs own move stay ran kept put more = record {
  members = λ j r. inv.members j (ran j r);
  promises = inv.promises;
  opened = λ b j e. record { by-owner = (inv.opened b j e).by-owner; has_word = λ r. kept _ r ((inv.opened b j e).has_word (ran _ r)) };
  counted = inv.counted;
  tops = inv.tops;
  puts = inv.puts;
  takings = inv.takings;
  own-proposed = put;
  put-proposed = λ b x e. more x (inv.put-proposed b x e);
  no_zero = inv.no_zero;
}
