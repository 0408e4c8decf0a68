-- The ballots of one order as functions of ballot and controller, and the small changes that the rules are made of.
use Prim.Native.Nat.{ℕ}
use mathlib.Core.Bool.{Bool, true, cond}
use lib.Dec.{ltb}
use Rattle.ground.specs.Update.{upd}
use Rattle.model.specs.declared.Outcome.{Outcome}
use Rattle.protocol.proofs.paxos.Updates.{upd2}

pub record View : Type 0 where
  -- of a controller
  pub runs : ℕ → Bool
  pub own : ℕ → Outcome
  pub highest : ℕ → ℕ
  pub promised_last : ℕ → ℕ
  pub last : ℕ → ℕ
  pub last_word_of : ℕ → Outcome
  -- of a ballot and a controller
  pub promised : ℕ → ℕ → Bool
  pub report : ℕ → ℕ → ℕ
  pub received : ℕ → ℕ → Bool
  pub taken : ℕ → ℕ → Bool
  -- of a ballot
  pub top : ℕ → ℕ
  pub top_word_of : ℕ → Outcome
  pub word : ℕ → Outcome
  -- words put in this order
  pub move : Bool
  pub stay : Bool

unfoldable pub promise_v : ℕ → ℕ → View → View
promise_v b i v = record {
  runs = v.runs;
  own = v.own;
  highest = upd v.highest i b;
  promised_last = upd v.promised_last i b;
  last = v.last;
  last_word_of = v.last_word_of;
  promised = upd2 v.promised b i true;
  report = upd2 v.report b i (v.last i);
  received = v.received;
  taken = v.taken;
  top = v.top;
  top_word_of = v.top_word_of;
  word = v.word;
  move = v.move;
  stay = v.stay;
}

unfoldable pub take_v : ℕ → ℕ → View → View
take_v b i v = record {
  runs = v.runs;
  own = v.own;
  highest = upd v.highest i b;
  promised_last = v.promised_last;
  last = upd v.last i b;
  last_word_of = upd v.last_word_of i (v.word b);
  promised = v.promised;
  report = v.report;
  received = v.received;
  taken = upd2 v.taken b i true;
  top = v.top;
  top_word_of = v.top_word_of;
  word = v.word;
  move = v.move;
  stay = v.stay;
}

unfoldable pub count_v : ℕ → ℕ → ℕ → Outcome → View → View
count_v b j l w v = record {
  runs = v.runs;
  own = v.own;
  highest = v.highest;
  promised_last = v.promised_last;
  last = v.last;
  last_word_of = v.last_word_of;
  promised = v.promised;
  report = v.report;
  received = upd2 v.received b j true;
  taken = v.taken;
  top = upd v.top b (cond (ltb (v.top b) l) l (v.top b));
  top_word_of = upd v.top_word_of b (cond (ltb (v.top b) l) w (v.top_word_of b));
  word = v.word;
  move = v.move;
  stay = v.stay;
}

unfoldable pub put_v : ℕ → Outcome → View → View
put_v b w v = record {
  runs = v.runs;
  own = v.own;
  highest = v.highest;
  promised_last = v.promised_last;
  last = v.last;
  last_word_of = v.last_word_of;
  promised = v.promised;
  report = v.report;
  received = v.received;
  taken = v.taken;
  top = v.top;
  top_word_of = v.top_word_of;
  word = upd v.word b w;
  move = v.move;
  stay = v.stay;
}
