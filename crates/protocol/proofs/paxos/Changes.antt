-- Each small change keeps the invariant: a promise given, a ballot taken, a promise counted, a word put. The heart: who takes a ballot has promised
-- nothing above it, so what its promises report stays true.
use Prim.Native.Nat.{ℕ, ◌≤◌, ◌<◌}
use mathlib.Core.Path.{◌≡◌, refl, sym, ◌∙◌, ap}
use mathlib.Core.Bool.{Bool, true, false, cond}
use mathlib.Core.Logic.{◌⊎◌, inl, inr}
use native.Mathlib.Omega.{arith}
use native.Mathlib.Decide.{ℕ_discrete}
use lib.Dec.{ltb}
use borrow.Author.Tests.{ne_eqb, ltb-true, ltb-false}
use Rattle.ground.specs.Tests.{split, no_both, by_cond}
use Rattle.ground.specs.Update.{upd, upd_same, upd_other, upd-all}
use Rattle.model.specs.Numbers.{word_of, is_none}
use Rattle.model.specs.declared.Outcome.{Outcome}
use Rattle.protocol.specs.Ballots.{owner}
use Rattle.protocol.proofs.paxos.Meet.{most}
use Rattle.protocol.proofs.paxos.Updates.{upd2, new_or_old, still, kept, placed, other_row}
use Rattle.protocol.proofs.paxos.View.{View, promise_v, take_v, count_v, put_v}
use Rattle.protocol.proofs.paxos.Invariant.{IsPut, MemberSound, PromiseSound, TopSound, PutSound, Opened, Inv}

module _ (n : ℕ) (v : View) (inv : Inv n v) where
  abbrev MemberOk : ℕ → Type 0
  MemberOk j = MemberSound v.promised v.taken v.word j (v.highest j) (v.promised_last j) (v.last j) (v.last_word_of j)

  -- a running controller promises a ballot not below its highest, which it has not promised
  module _ (b i : ℕ) (run : v.runs i ≡ true) (high : v.highest i ≤ b) (new : v.promised b i ≡ false)
      (opened : ((i ≡ owner n b) × IsPut (v.own i)) ⊎ (v.promised b (owner n b) ≡ true)) where
    promise-member : (j : ℕ) → MemberOk j → MemberSound (upd2 v.promised b i true) v.taken v.word j (upd v.highest i b j) (upd v.promised_last i b j) (v.last j) (v.last_word_of j)
    promise-member j m = elim (ℕ_discrete j i) [
      | yes e ↦ rw (e, upd_same v.highest i b, upd_same v.promised_last i b) (let m : MemberOk i = inv.members i run in let h : v.last i ≤ v.highest i = m.last-low in let g : v.promised_last i ≤ v.highest i = m.given-low in record {
        given-low = omega arith;
        last-low = omega arith;
        promised-low = λ c p. elim (new_or_old v.promised b i c i p) [ inl q ↦ (let x : c ≡ b = q.0 in omega arith) | inr q ↦ (let x : c ≤ v.promised_last i = m.promised-low c q in omega arith) ];
        taken-low = m.taken-low;
        last_word = m.last_word;
      })
      | no e ↦ rw (upd_other v.highest i b j (ne_eqb j i e), upd_other v.promised_last i b j (ne_eqb j i e)) (record {
        given-low = m.given-low;
        last-low = m.last-low;
        promised-low = λ c p. elim (new_or_old v.promised b i c j p) [ inl q ↦ absurd (e q.1) | inr q ↦ m.promised-low c q ];
        taken-low = m.taken-low;
        last_word = m.last_word;
      })
    ]

    new-promise : PromiseSound v.taken b i (v.last i)
    new-promise = let m : MemberOk i = inv.members i run in let h : v.last i ≤ v.highest i = m.last-low in record {
      low = omega arith;
      honest = λ c l e. m.taken-low c e;
      real = elim m.last_word [ inl q ↦ inl q | inr q ↦ inr q.0 ];
    }

    -- a promise given before is another's, or of another ballot
    report-kept : (c k : ℕ) → v.promised c k ≡ true → upd2 v.report b i (v.last i) c k ≡ v.report c k
    report-kept c k e = kept v.report b i (v.last i) c k (λ p q. no_both (v.promised c k) e (ap (λ (x : ℕ). v.promised x k) p ∙ (ap (λ (x : ℕ). v.promised b x) q ∙ new)))

    promise-opened : (c k : ℕ) → upd2 v.promised b i true c k ≡ true → Opened (upd2 v.promised b i true c) v.runs v.own (owner n c)
    promise-opened c k e = elim (new_or_old v.promised b i c k e) [
      | inl q ↦ rw q.0 (elim opened [
        | inl o ↦ record { by-owner = ap (upd2 v.promised b i true b) (sym o.0) ∙ placed v.promised b i true; has_word = λ _. ap (λ (x : ℕ). is_none (v.own x)) (sym o.0) ∙ o.1 }
        | inr o ↦ record { by-owner = still v.promised b i b (owner n b) o; has_word = (inv.opened b (owner n b) o).has_word }
      ])
      | inr q ↦ record { by-owner = still v.promised b i c (owner n c) (inv.opened c k q).by-owner; has_word = (inv.opened c k q).has_word }
    ]

    pub promise-inv : Inv n (promise_v b i v)
    unfolding promise_v
    promise-inv = record {
      members = λ j r. promise-member j (inv.members j r);
      promises = λ c k e. elim (new_or_old v.promised b i c k e) [
        | inl q ↦ rw (q.0, q.1, placed v.report b i (v.last i)) new-promise
        | inr q ↦ rw (report-kept c k q) (inv.promises c k q)
      ];
      opened = promise-opened;
      counted = λ c k e. let q : (v.promised c k ≡ true) × (v.report c k ≤ v.top c) = inv.counted c k e in (still v.promised b i c k q.0, rw (report-kept c k q.0) q.1);
      tops = inv.tops;
      puts = inv.puts;
      takings = inv.takings;
      own-proposed = inv.own-proposed;
      put-proposed = inv.put-proposed;
      no_zero = inv.no_zero;
    }

  -- a running controller takes a ballot not below its highest promise, in which a word was put
  module _ (b i : ℕ) (run : v.runs i ≡ true) (high : v.highest i ≤ b) (has_word : IsPut (v.word b)) where
    take-member : (j : ℕ) → MemberOk j → MemberSound v.promised (upd2 v.taken b i true) v.word j (upd v.highest i b j) (v.promised_last j) (upd v.last i b j) (upd v.last_word_of i (v.word b) j)
    take-member j m = elim (ℕ_discrete j i) [
      | yes e ↦ rw (e, upd_same v.highest i b, upd_same v.last i b, upd_same v.last_word_of i (v.word b)) (let m : MemberOk i = inv.members i run in let h : v.last i ≤ v.highest i = m.last-low in let g : v.promised_last i ≤ v.highest i = m.given-low in record {
        given-low = omega arith;
        last-low = omega arith;
        promised-low = m.promised-low;
        taken-low = λ c p. elim (new_or_old v.taken b i c i p) [ inl q ↦ (let x : c ≡ b = q.0 in omega arith) | inr q ↦ (let x : c ≤ v.last i = m.taken-low c q in omega arith) ];
        last_word = inr (placed v.taken b i true, refl);
      })
      | no e ↦ rw (upd_other v.highest i b j (ne_eqb j i e), upd_other v.last i b j (ne_eqb j i e), upd_other v.last_word_of i (v.word b) j (ne_eqb j i e)) (record {
        given-low = m.given-low;
        last-low = m.last-low;
        promised-low = m.promised-low;
        taken-low = λ c p. elim (new_or_old v.taken b i c j p) [ inl q ↦ absurd (e q.1) | inr q ↦ m.taken-low c q ];
        last_word = elim m.last_word [ inl q ↦ inl q | inr q ↦ inr (still v.taken b i (v.last j) j q.0, q.1) ];
      })
    ]

    -- the heart: who takes b has promised nothing above b
    take-promise : (c k : ℕ) → v.promised c k ≡ true → PromiseSound v.taken c k (v.report c k) → PromiseSound (upd2 v.taken b i true) c k (v.report c k)
    take-promise c k e p = record {
      low = p.low;
      honest = λ d l x. elim (new_or_old v.taken b i d k x) [
        | inl q ↦ (let h : c ≤ v.promised_last i = (inv.members i run).promised-low c (ap (v.promised c) (sym q.1) ∙ e) in let g : v.promised_last i ≤ v.highest i = (inv.members i run).given-low in let z : d ≡ b = q.0 in absurd (omega arith))
        | inr q ↦ p.honest d l q
      ];
      real = elim p.real [ inl q ↦ inl q | inr q ↦ inr (still v.taken b i (v.report c k) k q) ];
    }

    pub take-inv : Inv n (take_v b i v)
    unfolding take_v
    take-inv = record {
      members = λ j r. take-member j (inv.members j r);
      promises = λ c k e. take-promise c k e (inv.promises c k e);
      opened = inv.opened;
      counted = inv.counted;
      tops = λ c. elim (inv.tops c) [ inl q ↦ inl q | inr t ↦ inr (record { earlier = t.earlier; who = t.who; counted = t.counted; took = still v.taken b i (v.top c) t.who t.took; at_top = t.at_top; some = t.some }) ];
      puts = inv.puts;
      takings = λ c k e. elim (new_or_old v.taken b i c k e) [ inl q ↦ rw q.0 has_word | inr q ↦ inv.takings c k q ];
      own-proposed = inv.own-proposed;
      put-proposed = inv.put-proposed;
      no_zero = inv.no_zero;
    }

  -- the owner of a ballot without a word counts a promise, with what it reports
  module _ (b j l : ℕ) (w : Outcome) (low : 1 ≤ b) (blank : is_none (v.word b) ≡ true) (given : v.promised b j ≡ true) (same : v.report b j ≡ l) (real : (l ≡ 0) ⊎ ((v.taken l j ≡ true) × (v.word l ≡ w))) where
    new_top : ℕ
    new_top = cond (ltb (v.top b) l) l (v.top b)

    top_grows : (v.top b ≤ new_top) × (l ≤ new_top)
    unfolding new_top
    top_grows = by_cond (λ (x : ℕ). (v.top b ≤ x) × (l ≤ x)) (ltb (v.top b) l) l (v.top b)
        (λ e. let h : v.top b < l = ltb-true _ _ e in (omega arith, omega arith))
        (λ e. let h : l ≤ v.top b = ltb-false _ _ e in (omega arith, omega arith))

    -- a promise that reports ballot b itself is given after the put
    l-earlier : v.word l ≡ w → IsPut w → l < b
    l-earlier e p = let h : v.report b j ≤ b = (inv.promises b j given).low in elim (ℕ_discrete l b) [
      | yes q ↦ absurd (no_both (is_none (v.word b)) blank (ap (λ (x : ℕ). is_none (v.word x)) (sym q) ∙ (ap is_none e ∙ p)))
      | no q ↦ omega arith
    ]

    l-some : v.taken l j ≡ true → v.word l ≡ w → IsPut w
    l-some t e = ap is_none (sym e) ∙ inv.takings l j t

    new-top : (new_top ≡ 0) ⊎ TopSound (upd2 v.received b j true b) v.taken v.word b new_top (cond (ltb (v.top b) l) w (v.top_word_of b))
    unfolding new_top
    new-top = elim (split (ltb (v.top b) l)) [
      | inl e ↦ rw e (elim real [ inl z ↦ inl z | inr q ↦ inr (record { earlier = l-earlier q.1 (l-some q.0 q.1); who = j; counted = placed v.received b j true; took = q.0; at_top = q.1; some = l-some q.0 q.1 }) ])
      | inr e ↦ rw e (elim (inv.tops b) [
        | inl q ↦ inl q
        | inr t ↦ inr (record { earlier = t.earlier; who = t.who; counted = still v.received b j b t.who t.counted; took = t.took; at_top = t.at_top; some = t.some })
      ])
    ]

    count-counted : (c k : ℕ) → upd2 v.received b j true c k ≡ true → (v.promised c k ≡ true) × (v.report c k ≤ upd v.top b new_top c)
    count-counted c k e = elim (new_or_old v.received b j c k e) [
      | inl q ↦ rw (q.0, q.1, upd_same v.top b new_top) (given, let h : l ≤ new_top = top_grows.1 in omega arith)
      | inr q ↦ let o : (v.promised c k ≡ true) × (v.report c k ≤ v.top c) = inv.counted c k q in (
        o.0,
        elim (ℕ_discrete c b) [
          | yes z ↦ rw (z, upd_same v.top b new_top) (let h : v.top b ≤ new_top = top_grows.0 in let h' : v.report b k ≤ v.top b = (rw z at o.1) in omega arith)
          | no z ↦ rw (upd_other v.top b new_top c (ne_eqb c b z)) o.1
        ],
      )
    ]

    count-tops : (c : ℕ) → (upd v.top b new_top c ≡ 0) ⊎ TopSound (upd2 v.received b j true c) v.taken v.word c (upd v.top b new_top c) (upd v.top_word_of b (cond (ltb (v.top b) l) w (v.top_word_of b)) c)
    count-tops c = elim (ℕ_discrete c b) [
      | yes z ↦ rw (z, upd_same v.top b new_top, upd_same v.top_word_of b (cond (ltb (v.top b) l) w (v.top_word_of b))) new-top
      | no z ↦ rw (other_row v.received b j true c z, upd_other v.top b new_top c (ne_eqb c b z), upd_other v.top_word_of b (cond (ltb (v.top b) l) w (v.top_word_of b)) c (ne_eqb c b z)) (inv.tops c)
    ]

    pub count-inv : Inv n (count_v b j l w v)
    unfolding count_v new_top
    count-inv = record {
      members = inv.members;
      promises = inv.promises;
      opened = inv.opened;
      counted = count-counted;
      tops = count-tops;
      puts = λ c p. elim (ℕ_discrete c b) [
        | yes z ↦ absurd (no_both (is_none (v.word b)) blank (ap (λ (x : ℕ). is_none (v.word x)) (sym z) ∙ p))
        | no z ↦ rw (other_row v.received b j true c z, upd_other v.top b new_top c (ne_eqb c b z), upd_other v.top_word_of b (cond (ltb (v.top b) l) w (v.top_word_of b)) c (ne_eqb c b z)) (inv.puts c p)
      ];
      takings = inv.takings;
      own-proposed = inv.own-proposed;
      put-proposed = inv.put-proposed;
      no_zero = inv.no_zero;
    }

  -- the owner puts a word in a ballot that has none, with a majority of promises counted
  module _ (b : ℕ) (w : Outcome) (low : 1 ≤ b) (blank : is_none (v.word b) ≡ true) (quorum : most n (v.received b) ≡ true) (follows : (v.top b ≡ 0) ⊎ (w ≡ v.top_word_of b))
      (proposed : (x : Bool) → w ≡ word_of x → cond x v.move v.stay ≡ true) where
    -- what was put stays
    word_kept : (c : ℕ) → IsPut (v.word c) → upd v.word b w c ≡ v.word c
    word_kept c p = elim (ℕ_discrete c b) [
      | yes z ↦ absurd (no_both (is_none (v.word b)) blank (ap (λ (x : ℕ). is_none (v.word x)) (sym z) ∙ p))
      | no z ↦ upd_other v.word b w c (ne_eqb c b z)
    ]

    put-kept : (c : ℕ) → IsPut (v.word c) → IsPut (upd v.word b w c)
    put-kept c p = ap is_none (word_kept c p) ∙ p

    put-member : (j : ℕ) → MemberOk j → MemberSound v.promised v.taken (upd v.word b w) j (v.highest j) (v.promised_last j) (v.last j) (v.last_word_of j)
    put-member j m = record {
      given-low = m.given-low;
      last-low = m.last-low;
      promised-low = m.promised-low;
      taken-low = m.taken-low;
      last_word = elim m.last_word [ inl q ↦ inl q | inr q ↦ inr (q.0, word_kept (v.last j) (inv.takings (v.last j) j q.0) ∙ q.1) ];
    }

    put-puts : (c : ℕ) → IsPut (upd v.word b w c) → PutSound n (v.received c) (v.top c) (v.top_word_of c) (upd v.word b w c)
    put-puts c p = elim (ℕ_discrete c b) [
      | yes z ↦ rw (z, upd_same v.word b w) (record { quorum = quorum; follows = follows })
      | no z ↦ rw (upd_other v.word b w c (ne_eqb c b z)) (inv.puts c (ap is_none (sym (upd_other v.word b w c (ne_eqb c b z))) ∙ p))
    ]

    pub put_inv : Inv n (put_v b w v)
    unfolding put_v
    put_inv = record {
      members = λ j r. put-member j (inv.members j r);
      promises = inv.promises;
      opened = inv.opened;
      counted = inv.counted;
      tops = λ c. elim (inv.tops c) [ inl q ↦ inl q | inr t ↦ inr (record { earlier = t.earlier; who = t.who; counted = t.counted; took = t.took; at_top = word_kept (v.top c) (ap is_none t.at_top ∙ t.some) ∙ t.at_top; some = t.some }) ];
      puts = put-puts;
      takings = λ c k e. put-kept c (inv.takings c k e);
      own-proposed = inv.own-proposed;
      put-proposed = upd-all (λ (c : ℕ) (o : Outcome). (x : Bool) → o ≡ word_of x → cond x v.move v.stay ≡ true) v.word b w proposed inv.put-proposed;
      no_zero = ap is_none (upd_other v.word b w 0 (ne_eqb 0 b (λ e. omega arith))) ∙ inv.no_zero;
    }
