-- The state's view; and each small change of one controller and one ballot is the view's change.
use Prim.Native.Nat.{ℕ, ◌≤◌}
use mathlib.Core.Path.{◌≡◌, refl, sym, ◌∙◌, ap}
use mathlib.Core.Bool.{Bool, true, cond}
use mathlib.Core.Logic.{inl, inr}
use native.Mathlib.Omega.{arith}
use lib.ListN.{length}
use lib.Dec.{eqb, ltb}
use Rattle.ground.specs.Limit.{limit}
use Rattle.ground.specs.Tests.{split}
use Rattle.ground.specs.Update.{upd, upd_same, fun_ext}
use Rattle.ground.specs.Lists.{nth, nth-put-at}
use Rattle.ground.specs.Mask.{width, has}
use Rattle.ground.proofs.MaskLaws.{has-insert}
use Rattle.model.specs.declared.Outcome.{Outcome}
use Rattle.protocol.specs.declared.BallotRow.{BallotRow}
use Rattle.protocol.specs.Ballots.{report}
use Rattle.protocol.specs.BallotRules.{promising, reporting, give_promise, accepting, accept, counting, with_word}
use Rattle.protocol.specs.BallotSteps.{row_after}
use Rattle.protocol.proofs.paxos.Updates.{upd2}
use Rattle.protocol.proofs.paxos.View.{View, promise_v, take_v, count_v, put_v}
use Rattle.protocol.proofs.paxos.Parts.{Member, Part, applied, with_tally}

abbrev pub view_of : (ℕ → Member) → (ℕ → BallotRow) → Bool → Bool → View
view_of M R x y = record {
  runs = λ k. (M k).running;
  own = λ k. (M k).own;
  highest = λ k. (M k).acceptor.highest;
  promised_last = λ k. (M k).acceptor.promised;
  last = λ k. (M k).acceptor.last;
  last_word_of = λ k. (M k).acceptor.word;
  promised = λ b k. has (R b).promised_by k;
  report = λ b k. report (R b) k;
  received = λ b k. has (R b).tally.from k;
  taken = λ b k. has (R b).accepted_by k;
  top = λ b. (R b).tally.top;
  top_word_of = λ b. (R b).tally.top_word;
  word = λ b. (R b).tally.word;
  move = x;
  stay = y;
}

-- components of a function changed at one place, which is changed there once more
module _ {A B : Type 0} (F : ℕ → A) (i : ℕ) (a a' : A) where
  same-part : (g : A → B) → g a' ≡ g a → ◌≡◌ {A = ℕ → B} (λ k. g (upd F i a' k)) (λ k. g (upd F i a k))
  unfolding upd
  same-part g e = fun_ext (λ k. g (upd F i a' k)) (λ k. g (upd F i a k)) (λ k. elim (split (eqb k i)) [ inl q ↦ rw q e | inr q ↦ rw q ])

  new-part : (g : A → B) (x : B) → g a' ≡ x → ◌≡◌ {A = ℕ → B} (λ k. g (upd F i a' k)) (upd (λ k. g (upd F i a k)) i x)
  unfolding upd
  new-part g x e = fun_ext (λ k. g (upd F i a' k)) (upd (λ k. g (upd F i a k)) i x) (λ k. elim (split (eqb k i)) [ inl q ↦ rw q e | inr q ↦ rw q ])

  new_cell : (g : A → ℕ → B) (j : ℕ) (x : B) → ((k : ℕ) → g a' k ≡ upd (g a) j x k) → ◌≡◌ {A = ℕ → ℕ → B} (λ c k. g (upd F i a' c) k) (upd2 (λ c k. g (upd F i a c) k) i j x)
  unfolding upd upd2
  new_cell g j x e = λ t c k. at c k t
    where
      at : (c k : ℕ) → g (upd F i a' c) k ≡ upd2 (λ c k. g (upd F i a c) k) i j x c k
      at c k = elim (split (eqb c i)) [ inl q ↦ unfold upd upd2 in (rw q (unfold upd in e k)) | inr q ↦ unfold upd upd2 in (rw q) ]

module _ (M : ℕ → Member) (R : ℕ → BallotRow) (x y : Bool) (b i : ℕ) (low : 1 ≤ i) (high : i ≤ limit) where
  abbrev pub view_at : Part → View
  view_at p = view_of (upd M i p.member) (upd R b p.ballot) x y

  pub at-member : {A : Type 0} (g : Member → A) (p : Part) → g (upd M i p.member i) ≡ g p.member
  at-member g p = ap g (upd_same M i p.member)

  pub at-ballot : {A : Type 0} (g : BallotRow → A) (p : Part) → g (upd R b p.ballot b) ≡ g p.ballot
  at-ballot g p = ap g (upd_same R b p.ballot)

  wide : i ≤ width
  wide = omega arith

  -- it promises
  abbrev pub promised_part : Part → Part
  promised_part p = applied i p (give_promise b p.member.acceptor p.ballot.tally)

  pub promise-view : (p : Part) → limit ≤ length p.ballot.lasts → view_at (promised_part p) ≡ promise_v b i (view_at p)
  unfolding give_promise promising reporting row_after promise_v
  promise-view p room = λ t. record {
    runs = same-part M i p.member (promised_part p).member (λ m. m.running) refl t;
    own = same-part M i p.member (promised_part p).member (λ m. m.own) refl t;
    highest = new-part M i p.member (promised_part p).member (λ m. m.acceptor.highest) b refl t;
    promised_last = new-part M i p.member (promised_part p).member (λ m. m.acceptor.promised) b refl t;
    last = same-part M i p.member (promised_part p).member (λ m. m.acceptor.last) refl t;
    last_word_of = same-part M i p.member (promised_part p).member (λ m. m.acceptor.word) refl t;
    promised = new_cell R b p.ballot (promised_part p).ballot (λ r k. has r.promised_by k) i true (λ k. has-insert p.ballot.promised_by i k low wide) t;
    report = new_cell R b p.ballot (promised_part p).ballot (λ r k. report r k) i (upd M i p.member i).acceptor.last
        (λ k. nth-put-at 0 p.ballot.lasts i p.member.acceptor.last low (omega arith) k ∙ ap (λ (z : ℕ). upd (nth 0 p.ballot.lasts) i z k) (sym (at-member (λ m. m.acceptor.last) p))) t;
    received = same-part R b p.ballot (promised_part p).ballot (λ r. has r.tally.from) refl t;
    taken = same-part R b p.ballot (promised_part p).ballot (λ r. has r.accepted_by) refl t;
    top = same-part R b p.ballot (promised_part p).ballot (λ r. r.tally.top) refl t;
    top_word_of = same-part R b p.ballot (promised_part p).ballot (λ r. r.tally.top_word) refl t;
    word = same-part R b p.ballot (promised_part p).ballot (λ r. r.tally.word) refl t;
    move = x;
    stay = y;
  }

  -- it accepts the ballot's word
  abbrev pub accepted_part : Part → Part
  accepted_part p = applied i p (accept b p.ballot.tally.word p.member.acceptor p.ballot.tally)

  pub take-view : (p : Part) → view_at (accepted_part p) ≡ take_v b i (view_at p)
  unfolding accept accepting row_after take_v
  take-view p = λ t. record {
    runs = same-part M i p.member (accepted_part p).member (λ m. m.running) refl t;
    own = same-part M i p.member (accepted_part p).member (λ m. m.own) refl t;
    highest = new-part M i p.member (accepted_part p).member (λ m. m.acceptor.highest) b refl t;
    promised_last = same-part M i p.member (accepted_part p).member (λ m. m.acceptor.promised) refl t;
    last = new-part M i p.member (accepted_part p).member (λ m. m.acceptor.last) b refl t;
    last_word_of = new-part M i p.member (accepted_part p).member (λ m. m.acceptor.word) (upd R b p.ballot b).tally.word (sym (at-ballot (λ r. r.tally.word) p)) t;
    promised = same-part R b p.ballot (accepted_part p).ballot (λ r. has r.promised_by) refl t;
    report = same-part R b p.ballot (accepted_part p).ballot (λ r k. report r k) refl t;
    received = same-part R b p.ballot (accepted_part p).ballot (λ r. has r.tally.from) refl t;
    taken = new_cell R b p.ballot (accepted_part p).ballot (λ r k. has r.accepted_by k) i true (λ k. has-insert p.ballot.accepted_by i k low wide) t;
    top = same-part R b p.ballot (accepted_part p).ballot (λ r. r.tally.top) refl t;
    top_word_of = same-part R b p.ballot (accepted_part p).ballot (λ r. r.tally.top_word) refl t;
    word = same-part R b p.ballot (accepted_part p).ballot (λ r. r.tally.word) refl t;
    move = x;
    stay = y;
  }

  -- it counts a promise
  abbrev pub counted_part : Part → ℕ → ℕ → Outcome → Part
  counted_part p j l w = with_tally p (counting p.ballot.tally j l w)

  pub count-view : (p : Part) (j l : ℕ) (w : Outcome) → 1 ≤ j → j ≤ width → view_at (counted_part p j l w) ≡ count_v b j l w (view_at p)
  unfolding counting count_v
  count-view p j l w jl jh = λ t. record {
    runs = λ k. (upd M i p.member k).running;
    own = λ k. (upd M i p.member k).own;
    highest = λ k. (upd M i p.member k).acceptor.highest;
    promised_last = λ k. (upd M i p.member k).acceptor.promised;
    last = λ k. (upd M i p.member k).acceptor.last;
    last_word_of = λ k. (upd M i p.member k).acceptor.word;
    promised = same-part R b p.ballot (counted_part p j l w).ballot (λ r. has r.promised_by) refl t;
    report = same-part R b p.ballot (counted_part p j l w).ballot (λ r k. report r k) refl t;
    received = new_cell R b p.ballot (counted_part p j l w).ballot (λ r k. has r.tally.from k) j true (λ k. has-insert p.ballot.tally.from j k jl jh) t;
    taken = same-part R b p.ballot (counted_part p j l w).ballot (λ r. has r.accepted_by) refl t;
    top = new-part R b p.ballot (counted_part p j l w).ballot (λ r. r.tally.top) (cond (ltb (upd R b p.ballot b).tally.top l) l (upd R b p.ballot b).tally.top)
        (sym (ap (λ (z : ℕ). cond (ltb z l) l z) (at-ballot (λ r. r.tally.top) p))) t;
    top_word_of = new-part R b p.ballot (counted_part p j l w).ballot (λ r. r.tally.top_word) (cond (ltb (upd R b p.ballot b).tally.top l) w (upd R b p.ballot b).tally.top_word)
        (sym (at-ballot (λ r. cond (ltb r.tally.top l) w r.tally.top_word) p)) t;
    word = same-part R b p.ballot (counted_part p j l w).ballot (λ r. r.tally.word) refl t;
    move = x;
    stay = y;
  }

  -- it puts a word
  abbrev pub worded_part : Part → Outcome → Part
  worded_part p w = with_tally p (with_word p.ballot.tally w)

  pub put_view : (p : Part) (w : Outcome) → view_at (worded_part p w) ≡ put_v b w (view_at p)
  unfolding with_word put_v
  put_view p w = λ t. record {
    runs = λ k. (upd M i p.member k).running;
    own = λ k. (upd M i p.member k).own;
    highest = λ k. (upd M i p.member k).acceptor.highest;
    promised_last = λ k. (upd M i p.member k).acceptor.promised;
    last = λ k. (upd M i p.member k).acceptor.last;
    last_word_of = λ k. (upd M i p.member k).acceptor.word;
    promised = same-part R b p.ballot (worded_part p w).ballot (λ r. has r.promised_by) refl t;
    report = same-part R b p.ballot (worded_part p w).ballot (λ r k. report r k) refl t;
    received = same-part R b p.ballot (worded_part p w).ballot (λ r. has r.tally.from) refl t;
    taken = same-part R b p.ballot (worded_part p w).ballot (λ r. has r.accepted_by) refl t;
    top = same-part R b p.ballot (worded_part p w).ballot (λ r. r.tally.top) refl t;
    top_word_of = same-part R b p.ballot (worded_part p w).ballot (λ r. r.tally.top_word) refl t;
    word = new-part R b p.ballot (worded_part p w).ballot (λ r. r.tally.word) w refl t;
    move = x;
    stay = y;
  }
