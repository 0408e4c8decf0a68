-- Each rule keeps the invariant: the state with the rule's answer put back at one controller and one ballot. An answer is one small change of the view
-- or two (Simulation), and each keeps it (Changes).
use Prim.Native.Nat.{ℕ, ◌≤◌, ◌*◌}
use mathlib.Core.Path.{◌≡◌, refl, sym, ◌∙◌, ap, subst}
use mathlib.Core.Bool.{Bool, true, false, cond, not}
use mathlib.Core.Logic.{◌⊎◌, inl, inr}
use native.Mathlib.Omega.{arith}
use lib.ListN.{length}
use lib.Dec.{eqb, leb, ltb}
use borrow.Author.Tests.{eqb-true, eqb-false, leb-true, not-true}
use Rattle.ground.specs.Limit.{limit}
use Rattle.ground.specs.Tests.{split, by_cond, and_l, and_r}
use Rattle.ground.specs.Update.{upd, upd_same}
use Rattle.ground.specs.Lists.{nth, nth-put-at}
use Rattle.ground.specs.Mask.{width, has}
use Rattle.ground.proofs.MaskLaws.{insert-own}
use Rattle.ground.specs.Quantify.{count_to}
use Rattle.model.specs.Numbers.{is_none, word_of}
use Rattle.model.specs.declared.Outcome.{Outcome}
use Rattle.protocol.specs.declared.Report.{Report}
use Rattle.protocol.specs.declared.BallotAnswer.{BallotAnswer}
use Rattle.protocol.specs.declared.BallotRow.{BallotRow}
use Rattle.protocol.specs.Ballots.{owner, majority, report}
use Rattle.protocol.specs.BallotRules.{no_promise, unanswered, answers_prepare, give_promise, prepare_arrives, answers_accept, accept_arrives, counts, counting, word_for, with_word, putting, put_word, put_if_majority, promise_arrives, promising, reporting, giving, open_ballot}
use Rattle.protocol.specs.BallotSteps.{row_after}
use Rattle.protocol.proofs.paxos.Invariant.{IsPut, MemberSound, TopSound, Inv}
use Rattle.protocol.proofs.paxos.Changes.{promise-inv, take-inv, count-inv, put_inv}
use Rattle.protocol.proofs.paxos.Parts.{Member, Part, applied, promise-silent}
use Rattle.protocol.proofs.paxos.Simulation.{view_at, at-member, at-ballot, promised_part, counted_part, worded_part, promise-view, take-view, count-view, put_view}

module _ (n : ℕ) (M : ℕ → Member) (R : ℕ → BallotRow) (x y : Bool) (b i : ℕ) (b-low : 1 ≤ b) (low : 1 ≤ i) (high : i ≤ limit) where
  -- the invariant with part p put back
  abbrev pub Good : Part → Type 0
  Good p = Inv n (view_at M R x y b i low high p)

  abbrev pub GoodAfter : Part → BallotAnswer → Type 0
  GoodAfter p z = Good (applied i p z)

  at_m : {A : Type 0} (g : Member → A) (p : Part) → g (upd M i p.member i) ≡ g p.member
  at_m g p = at-member M R x y b i low high g p

  at_r : {A : Type 0} (g : BallotRow → A) (p : Part) → g (upd R b p.ballot b) ≡ g p.ballot
  at_r g p = at-ballot M R x y b i low high g p

  -- nothing answered, nothing changed
  kept_good : (p : Part) → Good p → GoodAfter p (unanswered p.member.acceptor p.ballot.tally)
  unfolding unanswered row_after
  kept_good p g = g

  -- the ballot is being opened by its owner, which has put a word; or it was opened
  abbrev MayPromise : Part → Type 0
  MayPromise p = ((i ≡ owner n b) × IsPut p.member.own) ⊎ (has p.ballot.promised_by (owner n b) ≡ true)

  promise-keeps : (p : Part) → Good p → p.member.running ≡ true → limit ≤ length p.ballot.lasts → leb p.member.acceptor.highest b ≡ true → has p.ballot.promised_by i ≡ false → MayPromise p → Good (promised_part M R x y b i low high p)
  promise-keeps p g r room h new o = subst (Inv n) (sym (promise-view M R x y b i low high p room))
      (promise-inv n (view_at M R x y b i low high p) g b i (at_m (λ m. m.running) p ∙ r)
      (let q : (upd M i p.member i).acceptor.highest ≡ p.member.acceptor.highest = at_m (λ m. m.acceptor.highest) p in let z : p.member.acceptor.highest ≤ b = leb-true _ _ h in omega arith)
      (at_r (λ r. has r.promised_by i) p ∙ new)
      (elim o [ inl q ↦ inl (q.0, ap is_none (at_m (λ m. m.own) p) ∙ q.1) | inr q ↦ inr (at_r (λ r. has r.promised_by (owner n b)) p ∙ q) ]))

  -- one that answers an ask has not promised that ballot: what it promised is not above its last promise
  not_yet : (p : Part) → Good p → p.member.running ≡ true → answers_prepare b p.member.acceptor ≡ true → has p.ballot.promised_by i ≡ false
  not_yet p g r e = elim (split (has p.ballot.promised_by i)) [
    | inl z ↦ absurd (eqb-false _ _ (not-true (eqb p.member.acceptor.promised b) (and_r (leb p.member.acceptor.highest b) (not (eqb p.member.acceptor.promised b)) e)) (same z))
    | inr z ↦ z
  ]
    where
      same : has p.ballot.promised_by i ≡ true → p.member.acceptor.promised ≡ b
      same z =
          let m : MemberSound (λ c k. has (upd R b p.ballot c).promised_by k) (λ c k. has (upd R b p.ballot c).accepted_by k) (λ c. (upd R b p.ballot c).tally.word) i
          (upd M i p.member i).acceptor.highest (upd M i p.member i).acceptor.promised (upd M i p.member i).acceptor.last (upd M i p.member i).acceptor.word = g.members i (at_m (λ m. m.running) p ∙ r) in
          let h : b ≤ (upd M i p.member i).acceptor.promised = m.promised-low b (at_r (λ r. has r.promised_by i) p ∙ z) in
          let l : (upd M i p.member i).acceptor.promised ≤ (upd M i p.member i).acceptor.highest = m.given-low in
          let u : (upd M i p.member i).acceptor.promised ≡ p.member.acceptor.promised = at_m (λ m. m.acceptor.promised) p in
          let v : (upd M i p.member i).acceptor.highest ≡ p.member.acceptor.highest = at_m (λ m. m.acceptor.highest) p in
          let w : p.member.acceptor.highest ≤ b = leb-true _ _ (and_l (leb p.member.acceptor.highest b) (not (eqb p.member.acceptor.promised b)) e) in
          omega arith

  pub prepare-keeps : (p : Part) → Good p → p.member.running ≡ true → limit ≤ length p.ballot.lasts → MayPromise p → GoodAfter p (prepare_arrives b p.member.acceptor p.ballot.tally)
  unfolding prepare_arrives
  prepare-keeps p g r room o = by_cond (GoodAfter p) (answers_prepare b p.member.acceptor) _ _
      (λ e. promise-keeps p g r room (and_l (leb p.member.acceptor.highest b) (not (eqb p.member.acceptor.promised b)) e) (not_yet p g r e) o)
      (λ _. kept_good p g)

  pub accept-keeps : (p : Part) → Good p → p.member.running ≡ true → IsPut p.ballot.tally.word → GoodAfter p (accept_arrives b p.ballot.tally.word p.member.acceptor p.ballot.tally)
  unfolding accept_arrives
  accept-keeps p g r w = by_cond (GoodAfter p) (answers_accept b p.member.acceptor) _ _
      (λ e. subst (Inv n) (sym (take-view M R x y b i low high p))
      (take-inv n (view_at M R x y b i low high p) g b i (at_m (λ m. m.running) p ∙ r)
      (let q : (upd M i p.member i).acceptor.highest ≡ p.member.acceptor.highest = at_m (λ m. m.acceptor.highest) p in
      let z : p.member.acceptor.highest ≤ b = leb-true _ _ (and_l (leb p.member.acceptor.highest b) (not (eqb p.member.acceptor.last b)) e) in omega arith)
      (ap is_none (at_r (λ r. r.tally.word) p) ∙ w)))
      (λ _. kept_good p g)

  -- the word that the owner puts is one, was put to it, and follows what was reported
  module _ (p : Part) (g : Good p) (own : IsPut p.member.own) where
    abbrev word : Outcome
    word = word_for p.ballot.tally p.member.own

    abbrev SoundTop : Type 0
    SoundTop = TopSound (λ k. has (upd R b p.ballot b).tally.from k) (λ c k. has (upd R b p.ballot c).accepted_by k) (λ c. (upd R b p.ballot c).tally.word) b (upd R b p.ballot b).tally.top (upd R b p.ballot b).tally.top_word

    top_sound : (eqb p.ballot.tally.top 0 ≡ false) → SoundTop
    top_sound e = elim (g.tops b) [ inl q ↦ absurd (eqb-false _ _ e (sym (at_r (λ r. r.tally.top) p) ∙ q)) | inr t ↦ t ]

    word_some : IsPut word
    word_some = by_cond (λ (o : Outcome). IsPut o) (eqb p.ballot.tally.top 0) p.member.own p.ballot.tally.top_word
        (λ _. own)
        (λ e. ap is_none (sym (at_r (λ r. r.tally.top_word) p)) ∙ (top_sound e).some)

    word-follows : ((upd R b p.ballot b).tally.top ≡ 0) ⊎ (word ≡ (upd R b p.ballot b).tally.top_word)
    word-follows = by_cond (λ (o : Outcome). ((upd R b p.ballot b).tally.top ≡ 0) ⊎ (o ≡ (upd R b p.ballot b).tally.top_word)) (eqb p.ballot.tally.top 0) p.member.own p.ballot.tally.top_word
        (λ e. inl (at_r (λ r. r.tally.top) p ∙ eqb-true _ _ e))
        (λ _. inr (sym (at_r (λ r. r.tally.top_word) p)))

    word-proposed : (z : Bool) → word ≡ word_of z → cond z x y ≡ true
    word-proposed z = by_cond (λ (o : Outcome). o ≡ word_of z → cond z x y ≡ true) (eqb p.ballot.tally.top 0) p.member.own p.ballot.tally.top_word
        (λ _ e. g.own-proposed i z (at_m (λ m. m.own) p ∙ e))
        (λ q e. let t : SoundTop = top_sound q in g.put-proposed (upd R b p.ballot b).tally.top z (t.at_top ∙ (at_r (λ r. r.tally.top_word) p ∙ e)))

    put_keeps : p.member.running ≡ true → is_none p.ballot.tally.word ≡ true → majority n p.ballot.tally.from ≡ true → GoodAfter p (put_word b word p.member.acceptor p.ballot.tally)
    unfolding put_word putting majority with_word
    put_keeps r blank e = unfold row_after in accept-keeps (worded_part M R x y b i low high p word) (subst (Inv n) (sym (put_view M R x y b i low high p word))
        (put_inv n (view_at M R x y b i low high p) g b word b-low (ap is_none (at_r (λ r. r.tally.word) p) ∙ blank) (at_r (λ r. ltb n (2 * count_to n (has r.tally.from))) p ∙ e) word-follows word-proposed))
        r word_some

  pub majority-keeps : (p : Part) → Good p → p.member.running ≡ true → IsPut p.member.own → is_none p.ballot.tally.word ≡ true → GoodAfter p (put_if_majority n b p.member.own p.member.acceptor p.ballot.tally)
  unfolding put_if_majority
  majority-keeps p g r own blank = by_cond (GoodAfter p) (majority n p.ballot.tally.from) _ _ (λ e. put_keeps p g own r blank e) (λ _. kept_good p g)

  -- a promise from j, which it gave, and what it reports
  pub promise-arrives-keeps : (p : Part) (j l : ℕ) (w : Outcome) → Good p → p.member.running ≡ true → IsPut p.member.own → 1 ≤ j → j ≤ width
      → has p.ballot.promised_by j ≡ true → report p.ballot j ≡ l → (l ≡ 0) ⊎ ((has (upd R b p.ballot l).accepted_by j ≡ true) × ((upd R b p.ballot l).tally.word ≡ w))
      → GoodAfter p (promise_arrives n b j l w p.member.own p.member.acceptor p.ballot.tally)
  unfolding promise_arrives row_after counting
  promise-arrives-keeps p j l w g r own jl jh given same real = by_cond (GoodAfter p) (counts p.ballot.tally j) _ _
      (λ e. let blank : is_none p.ballot.tally.word ≡ true = and_l (is_none p.ballot.tally.word) (not (has p.ballot.tally.from j)) e in
      majority-keeps (counted_part M R x y b i low high p j l w)
      (subst (Inv n) (sym (count-view M R x y b i low high p j l w jl jh))
      (count-inv n (view_at M R x y b i low high p) g b j l w b-low (ap is_none (at_r (λ r. r.tally.word) p) ∙ blank) (at_r (λ r. has r.promised_by j) p ∙ given) (at_r (λ r. report r j) p ∙ same) real))
      r own blank)
      (λ _. kept_good p g)

  -- what its answer leaves is what the two leave one after the other
  two_steps : (p : Part) (z : BallotAnswer) → z.promise ≡ no_promise → applied i p (giving (reporting p.member.acceptor) z) ≡ applied i (promised_part M R x y b i low high p) z
  unfolding giving row_after give_promise reporting
  two_steps p z e = rw (ap (λ (q : Report). q.given) e)

  last-real : (q : Part) (l : ℕ) (w : Outcome) → q.member.acceptor.last ≡ l → q.member.acceptor.word ≡ w
      → ((upd M i q.member i).acceptor.last ≡ 0) ⊎ ((has (upd R b q.ballot (upd M i q.member i).acceptor.last).accepted_by i ≡ true) × ((upd R b q.ballot (upd M i q.member i).acceptor.last).tally.word ≡ (upd M i q.member i).acceptor.word))
      → (l ≡ 0) ⊎ ((has (upd R b q.ballot l).accepted_by i ≡ true) × ((upd R b q.ballot l).tally.word ≡ w))
  last-real q l w e f t = subst (λ (l : ℕ). (l ≡ 0) ⊎ ((has (upd R b q.ballot l).accepted_by i ≡ true) × ((upd R b q.ballot l).tally.word ≡ w))) (at_m (λ m. m.acceptor.last) q ∙ e)
      (subst (λ (w : Outcome). ((upd M i q.member i).acceptor.last ≡ 0) ⊎ ((has (upd R b q.ballot (upd M i q.member i).acceptor.last).accepted_by i ≡ true) × ((upd R b q.ballot (upd M i q.member i).acceptor.last).tally.word ≡ w))) (at_m (λ m. m.acceptor.word) q ∙ f) t)

  -- its own promise arrives: it reports what it has accepted
  own-arrives : (p : Part) → Good (promised_part M R x y b i low high p) → p.member.running ≡ true → limit ≤ length p.ballot.lasts → IsPut p.member.own
      → GoodAfter (promised_part M R x y b i low high p) (promise_arrives n b i p.member.acceptor.last p.member.acceptor.word p.member.own (promising b p.member.acceptor) p.ballot.tally)
  unfolding give_promise reporting row_after promising
  own-arrives p g r room own =
      let q : Part = promised_part M R x y b i low high p in
      let m : MemberSound (λ c k. has (upd R b q.ballot c).promised_by k) (λ c k. has (upd R b q.ballot c).accepted_by k) (λ c. (upd R b q.ballot c).tally.word) i
      (upd M i q.member i).acceptor.highest (upd M i q.member i).acceptor.promised (upd M i q.member i).acceptor.last (upd M i q.member i).acceptor.word = g.members i (at_m (λ m. m.running) q ∙ r) in
      promise-arrives-keeps q i p.member.acceptor.last p.member.acceptor.word g r own low (omega arith)
      (insert-own p.ballot.promised_by i low (omega arith))
      (nth-put-at 0 p.ballot.lasts i p.member.acceptor.last low (omega arith) i ∙ upd_same (nth 0 p.ballot.lasts) i p.member.acceptor.last)
      (last-real q p.member.acceptor.last p.member.acceptor.word refl refl m.last_word)

  -- opened: it promises, and its own promise arrives
  pub open-keeps : (p : Part) → Good p → p.member.running ≡ true → limit ≤ length p.ballot.lasts → leb p.member.acceptor.highest b ≡ true → has p.ballot.promised_by i ≡ false → i ≡ owner n b → IsPut p.member.own
      → GoodAfter p (open_ballot n b i p.member.own p.member.acceptor p.ballot.tally)
  unfolding open_ballot
  open-keeps p g r room h new o own =
      subst Good (sym (two_steps p (promise_arrives n b i p.member.acceptor.last p.member.acceptor.word p.member.own (promising b p.member.acceptor) p.ballot.tally)
      (promise-silent n b p.member.own i p.member.acceptor.last p.member.acceptor.word (promising b p.member.acceptor) p.ballot.tally)))
      (own-arrives p (promise-keeps p g r room h new (inl (o, own))) r room own)
