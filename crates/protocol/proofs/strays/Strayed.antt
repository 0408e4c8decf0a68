-- `Strays`, by the cases of `receive` and of each rule: a message is asked for what the statement says, no rule refuses (view/Refusals), so a refusal is
-- the test's and changes nothing; and what a vote drops is what Dropped says.
use Prim.Native.Nat.{ℕ, suc, ◌≤◌}
use mathlib.Core.Path.{◌≡◌, refl, sym, ◌∙◌, ap, subst}
use mathlib.Core.Bool.{Bool, true, false, not, ◌&&◌, ◌||◌, and-false, true≢false, and-true}
use mathlib.Core.List.{List}
use native.Mathlib.Omega.{arith}
use lib.Dec.{eqb, leb}
use mathlib.Core.Logic.{inl, inr}
use borrow.Author.Tests.{eqb-true, eqb-false, eq-eqb, ne_eqb, not-true}
use Rattle.ground.specs.Limit.{limit}
use Rattle.ground.specs.Tests.{split, no_both, refuted, by_cond, and_l, and_r}
use Rattle.ground.specs.Quantify.{count_to}
use Rattle.ground.specs.Mask.{width, has, insert, within}
use Rattle.ground.proofs.MaskLaws.{has-none, has-insert}
use Rattle.ground.proofs.Inclusion.{within_has}
use Rattle.ground.specs.Lists.{nth}
use Rattle.ground.specs.Update.{upd_other}
use Rattle.votes.specs.VoteSets.{empty, knows, wills, single}
use Rattle.votes.proofs.VoteLaws.{union-knows, union-wills}
use Rattle.votes.specs.Joining.{contradicts, agreed_or}
use Rattle.votes.proofs.JoinLaws.{join-agreed, join-refused}
use Rattle.votes.specs.declared.VoteSet.{VoteSet}
use Rattle.votes.specs.Joining.{Joined}
use Rattle.model.specs.RangeLaws.{ranges, member, is_member}
use Rattle.model.specs.Routes.{route, vote_route}
use Rattle.model.specs.declared.Kind.{Kind}
use Rattle.model.specs.declared.Kind.TheVariants.{Vote, Ack, Help, Helped}
use Rattle.model.specs.declared.Outcome.TheVariants.{None}
use Rattle.model.specs.declared.Message.{Message}
use Rattle.message_record.specs.Messages.{bits_in_range, knows_for_kind, suits}
use Rattle.protocol.specs.declared.Identity.{Identity}
use Rattle.protocol.specs.declared.Acks.{Acks}
use Rattle.protocol.specs.declared.Reception.{Reception}
use Rattle.protocol.specs.declared.Reception.TheVariants.{Taken, PassedOver, Contradicted}
use Rattle.protocol.specs.declared.Controller.{Controller}
use Rattle.protocol.specs.declared.Answer.{Answer}
use Rattle.protocol.specs.Controllers.{runs, phase, has_ack, ack_of, advance, learn, aim, keep_ack, keep_helped, drop_to, drop_contradicting, add_caller, propose}
use Rattle.protocol.specs.Rules.{nothing, reception_number, is_taken, is_contradicted, passing_over, contradicted, becomes, proposing, propose_if_sufficient, vote_rule, ack_arrives, keeps_call, answers_call}
use Rattle.protocol.specs.Calls.{valid_identity, vote, addressed, arrives, contradicts_held, tested, receive}
use Rattle.protocol.specs.Strays.{OneHeld, Comes, untested, MayVote, Strays}
use Rattle.protocol.proofs.view.RuleCases.{vote_cases, ack_cases, helped_cases, help_cases, sufficient_cases}
use Rattle.protocol.proofs.view.Refusals.{arrives_unrefused}
use Rattle.protocol.proofs.view.Held.{found-held, held_found}
use Rattle.protocol.proofs.strays.Dropped.{sets-kept, drops, drop-counted}

-- a message ----------------------------------------------------------------------------

-- the test that a controller makes of it asks just that it comes
abbrev pub asked : Identity → Message → Controller → Bool
asked me m c = valid_identity me && runs c && addressed me m && suits m

pub comes-is : (me : Identity) (m : Message) (c : Controller) → asked me m c ≡ true → Comes me m c
unfolding addressed
comes-is me m c e = record {
  valid = search (and_l, and_r) depth 14;
  running = search (and_l, and_r) depth 14;
  order = eqb-true _ _ (search (and_l, and_r) depth 14);
  n = eqb-true _ _ (search (and_l, and_r) depth 14);
  f = eqb-true _ _ (search (and_l, and_r) depth 14);
  to = eqb-true _ _ (search (and_l, and_r) depth 14);
  from_low = (member me.n m.from (search (and_l, and_r) depth 14)).low;
  from-high = (member me.n m.from (search (and_l, and_r) depth 14)).high;
  travels = search (and_l, and_r) depth 14;
  suited = search (and_l, and_r) depth 14;
}

is-asked : (me : Identity) (m : Message) (c : Controller) → Comes me m c → asked me m c ≡ true
unfolding addressed
is-asked me m c k = rw (k.valid, k.running, k.suited, eq-eqb _ _ k.order, eq-eqb _ _ k.n, eq-eqb _ _ k.f, eq-eqb _ _ k.to, is_member me.n m.from k.from_low k.from-high, k.travels)

not_coming-is : (me : Identity) (m : Message) (c : Controller) → (Comes me m c → ⊥) → receive me m c ≡ passing_over c
unfolding receive
not_coming-is me m c h = rw (refuted (asked me m c) (λ e. h (comes-is me m c e)))

-- a rule that does not take a message passes it over, with nothing changed
record Passed (c : Controller) (a : Answer) : Type 0 where
  is : is_taken a.reception ≡ false → a ≡ passing_over c

was-taken : {X : Type 0} → true ≡ false → X
was-taken e = absurd (true≢false e)

counted-passed : (n f : ℕ) (c c' : Controller) → Passed c (propose_if_sufficient n f (becomes c'))
unfolding becomes proposing
counted-passed n f c c' = sufficient_cases (Passed c) n f (becomes c') (λ q. record { is = was-taken }) (λ q. record { is = was-taken })

arrives-passed : (kind : Kind) (n f j : ℕ) (s : VoteSet) (c : Controller) → Passed c (arrives kind n f j s c)
unfolding arrives
arrives-passed Vote n f j s c = vote_cases (Passed c) s c (λ h. unfold becomes in record { is = was-taken }) (record { is = λ e. refl })
arrives-passed Ack n f j s c = ack_cases (Passed c) n f j s c (λ h. counted-passed n f c _) (λ h. record { is = λ e. refl })
arrives-passed Help n f j s c = help_cases (Passed c) j c (λ p. unfold keeps_call becomes in record { is = was-taken }) (λ p q. unfold answers_call in record { is = was-taken }) (λ q. record { is = λ e. refl })
arrives-passed Helped n f j s c = helped_cases (Passed c) n f j s c (λ p h. counted-passed n f c _) (λ q. record { is = λ e. refl })

passed_is : (me : Identity) (m : Message) (c : Controller) → Comes me m c → is_taken (untested me m c).reception ≡ false → receive me m c ≡ passing_over c
unfolding receive tested
passed_is me m c k t = rw (is-asked me m c k, t) ((arrives-passed m.kind me.n me.f m.from m.votes c).is t)

refused-is : (me : Identity) (m : Message) (c : Controller) → Comes me m c → is_taken (untested me m c).reception ≡ true → OneHeld me.n c m.votes
    → reception_number (receive me m c).reception ≡ 24
unfolding receive tested contradicted
refused-is me m c k t h = rw (is-asked me m c k, t, found-held me.n c m.votes h)

received_is : (me : Identity) (m : Message) (c : Controller) → Comes me m c → (OneHeld me.n c m.votes → ⊥) → receive me m c ≡ untested me m c
unfolding receive tested
received_is me m c k h = rw (is-asked me m c k, refuted (contradicts_held me.n c m.votes) (λ e. h (held_found me.n c m.votes e)), and-false)

-- No rule refuses: a refusal comes of the test alone, and changes nothing.
abbrev Unchanged : Controller → Answer → Type 0
Unchanged c a = reception_number a.reception ≡ 24 → a ≡ contradicted c

record Answered (c : Controller) (a : Answer) : Type 0 where
  is : Unchanged c a

taken_not : {X : Type 0} → ◌≡◌ {A = ℕ} 0 24 → X
taken_not e = absurd (omega arith)

refused_by : (r : Reception) → reception_number r ≡ 24 → is_contradicted r ≡ true
refused_by Taken e = taken_not e
refused_by PassedOver e = taken_not e
refused_by Contradicted e = refl

arrives-answered : (kind : Kind) (n f j : ℕ) (s : VoteSet) (c : Controller) → Answered c (arrives kind n f j s c)
arrives-answered kind n f j s c = record { is = λ e. absurd (no_both (is_contradicted (arrives kind n f j s c).reception) (refused_by (arrives kind n f j s c).reception e) (arrives_unrefused kind n f j s c).is) }

receive-answered : (me : Identity) (m : Message) (c : Controller) → Answered c (receive me m c)
unfolding receive tested
receive-answered me m c = by_cond (Answered c) (asked me m c) _ _
    (λ e. by_cond (Answered c) (is_taken (untested me m c).reception && contradicts_held me.n c m.votes) _ _ (λ q. record { is = λ z. refl }) (λ q. arrives-answered m.kind me.n me.f m.from m.votes c))
    (λ e. unfold passing_over in record { is = taken_not })

-- why a message is refused
record Refusal (me : Identity) (m : Message) (c : Controller) (a : Answer) : Type 0 where
  why : reception_number a.reception ≡ 24 → Comes me m c × (is_taken (untested me m c).reception ≡ true) × OneHeld me.n c m.votes

receive-refusal : (me : Identity) (m : Message) (c : Controller) → Refusal me m c (receive me m c)
unfolding receive tested
receive-refusal me m c = by_cond (Refusal me m c) (asked me m c) _ _
    (λ e. by_cond (Refusal me m c) (is_taken (untested me m c).reception && contradicts_held me.n c m.votes) _ _
    (λ q. record { why = λ z. (comes-is me m c e, and_l (is_taken (untested me m c).reception) _ q, held_found me.n c m.votes (and_r (is_taken (untested me m c).reception) _ q)) })
    (λ q. record { why = λ z. absurd (no_both (is_contradicted (untested me m c).reception) (refused_by (untested me m c).reception z) (arrives_unrefused m.kind me.n me.f m.from m.votes c).is) }))
    (λ e. unfold passing_over in record { why = λ z. taken_not z })

nothing_else : (me : Identity) (m : Message) (c : Controller) → receive me m c ≡ contradicted c
    → ((receive me m c).controller ≡ c) × ((receive me m c).sends ≡ nothing) × ((receive me m c).proposal ≡ None)
unfolding contradicted
nothing_else me m c q = (ap (λ (a : Answer). a.controller) q, ap (λ (a : Answer). a.sends) q, ap (λ (a : Answer). a.proposal) q)

-- the own vote set ---------------------------------------------------------------------------

-- what a vote set says of i
record SameOn (i : ℕ) (c : Controller) (a : Answer) : Type 0 where
  known : knows a.controller.votes i ≡ knows c.votes i
  willing : wills a.controller.votes i ≡ wills c.votes i

-- a vote set that does not know i says nothing of it
or-false : (x y : Bool) → y ≡ false → (x || y) ≡ x
or-false true y e = refl
or-false false y e = e

learn-same : (i : ℕ) (c : Controller) (s : VoteSet) → knows s i ≡ false → wills s i ≡ false → SameOn i c (becomes (learn c s))
unfolding becomes learn
learn-same i c s p q = elim (split (contradicts c.votes s)) [
  | inl e ↦ record { known = ap (λ (j : Joined). knows (agreed_or c.votes j) i) (join-refused c.votes s e); willing = ap (λ (j : Joined). wills (agreed_or c.votes j) i) (join-refused c.votes s e) }
  | inr e ↦ record {
    known = ap (λ (j : Joined). knows (agreed_or c.votes j) i) (join-agreed c.votes s e) ∙ union-knows c.votes s i ∙ or-false (knows c.votes i) (knows s i) p;
    willing = ap (λ (j : Joined). wills (agreed_or c.votes j) i) (join-agreed c.votes s e) ∙ union-wills c.votes s i ∙ or-false (wills c.votes i) (wills s i) q;
  }
]

passed-same : (i : ℕ) (c : Controller) → SameOn i c (passing_over c)
unfolding passing_over
passed-same i c = record { known = refl; willing = refl }

refused-same : (i : ℕ) (c : Controller) → SameOn i c (contradicted c)
unfolding contradicted
refused-same i c = record { known = refl; willing = refl }

puts-same : (n f i : ℕ) (c c' : Controller) → SameOn i c (becomes c') → SameOn i c (propose_if_sufficient n f (becomes c'))
unfolding becomes proposing propose
puts-same n f i c c' h = sufficient_cases (SameOn i c) n f _ (λ q. record { known = h.known; willing = h.willing }) (λ q. h)

pub small_of : (me : Identity) → valid_identity me ≡ true → me.n ≤ limit
unfolding valid_identity
small_of me e = (ranges me.n me.f (search (and_l, and_r))).small

-- a vote message of another, as reading lets it through, does not know this controller
module _ (me : Identity) (m : Message) (c : Controller) (k : Comes me m c) where
  abbrev i : ℕ
  i = me.id

  abbrev s : VoteSet
  s = m.votes

  from_range : (1 ≤ m.from) × (m.from ≤ width)
  from_range = (k.from_low, let y : me.n ≤ limit = small_of me k.valid in omega (arith, k.from-high))

  pub unknown : m.kind ≡ Vote → knows s i ≡ false
  unknown e = ap (λ (x : ℕ). has x i) just ∙ has-insert 0 m.from i from_range.0 from_range.1 ∙ upd_other (has 0) m.from true i (ne_eqb i m.from (λ z. eqb-false m.from i other (sym z))) ∙ has-none i
    where
      just : s.known ≡ insert 0 m.from
      just = eqb-true _ _ (unfold suits knows_for_kind in (rw e at (and_r (bits_in_range m && within m.votes.willing m.votes.known) _ k.suited)))

      other : eqb m.from i ≡ false
      other = not-true _ (unfold route vote_route in (and_l (not (eqb m.from i)) _ (rw e at k.travels)))

  unwilled : m.kind ≡ Vote → wills s i ≡ false
  unwilled e = refuted (wills s i) (λ x. no_both (knows s i) (within_has s.willing s.known (unfold suits in and_r (bits_in_range m) _ (and_l (bits_in_range m && within m.votes.willing m.votes.known) _ k.suited)) i x) (unknown e))

  arrives-same : (kind : Kind) → m.kind ≡ kind → SameOn i c (arrives kind me.n me.f m.from s c)
  unfolding arrives
  arrives-same Vote e = vote_cases (SameOn i c) s c (λ h. learn-same i c s (unknown e) (unwilled e)) (passed-same i c)
  arrives-same Ack e = ack_cases (SameOn i c) me.n me.f m.from s c (λ h. puts-same me.n me.f i c _ (unfold becomes keep_ack in record { known = refl; willing = refl })) (λ h. passed-same i c)
  arrives-same Help e = help_cases (SameOn i c) m.from c (λ p. unfold keeps_call becomes add_caller in record { known = refl; willing = refl }) (λ p q. unfold answers_call add_caller in record { known = refl; willing = refl }) (λ q. passed-same i c)
  arrives-same Helped e = helped_cases (SameOn i c) me.n me.f m.from s c (λ p h. puts-same me.n me.f i c _ (unfold becomes keep_helped in record { known = refl; willing = refl })) (λ q. passed-same i c)

receive-same : (me : Identity) (m : Message) (c : Controller) → SameOn me.id c (receive me m c)
unfolding receive tested
receive-same me m c = by_cond (SameOn me.id c) (asked me m c) _ _
    (λ e. by_cond (SameOn me.id c) (is_taken (untested me m c).reception && contradicts_held me.n c m.votes) _ _ (λ q. refused-same me.id c) (λ q. arrives-same me m c (comes-is me m c e) m.kind refl))
    (λ e. passed-same me.id c)

-- the own vote -----------------------------------------------------------------------------

module _ (me : Identity) (w : Bool) (t : ℕ) (c : Controller) where
  vote-answered : reception_number (vote me w t c).reception ≡ 0
  unfolding vote
  vote-answered = by_cond (λ (a : Answer). reception_number a.reception ≡ 0) (valid_identity me && runs c && eqb (phase c) 0) _ _ (λ e. unfold vote_rule in refl) (λ e. unfold passing_over in refl)

  module _ (ok : MayVote me c) where
    few : me.n ≤ width
    few = let x : me.n ≤ limit = small_of me (and_l (valid_identity me) _ (and_l (valid_identity me && runs c) _ ok)) in omega arith

    acks_are : (vote me w t c).controller.acks ≡ drop_to me.n (single me.id w) c.acks
    unfolding vote vote_rule advance aim learn drop_contradicting
    acks_are = rw ok

    -- to stage 1 or 2
    early-after : leb (phase (vote me w t c).controller) 2 ≡ true
    unfolding vote vote_rule advance aim learn drop_contradicting
    early-after = rw ok (by_cond (λ x. leb x 2 ≡ true) (leb me.id (suc me.f)) 1 2 (λ e. refl) (λ e. refl))

    count-after : c.acks.cnt.0 ≡ count_to me.n (has_ack c) → (vote me w t c).controller.acks.cnt.0 ≡ count_to me.n (has_ack (vote me w t c).controller)
    count-after e = subst (λ (a : Acks). a.cnt.0 ≡ count_to me.n (has a.from)) (sym acks_are) (drop-counted (single me.id w) c.acks me.n me.n (omega arith) few e)

    module _ (j : ℕ) (lo : 1 ≤ j) (hi : j ≤ me.n) where
      has-after : has_ack (vote me w t c).controller j ≡ (has_ack c j && not (contradicts (ack_of c j) (single me.id w)))
      has-after = ap (λ (a : Acks). has a.from j) acks_are ∙ drops (single me.id w) c.acks me.n j lo hi few

      ack-after : ack_of (vote me w t c).controller j ≡ ack_of c j
      ack-after = ap (λ (a : Acks). nth empty a.sets j) acks_are ∙ ap (λ (l : List VoteSet). nth empty l j) (sets-kept (single me.id w) c.acks me.n)

      dropped-is : contradicts (ack_of c j) (single me.id w) ≡ true → has_ack (vote me w t c).controller j ≡ false
      dropped-is e = has-after ∙ rw e (and-false (has_ack c j))

      kept-is : contradicts (ack_of c j) (single me.id w) ≡ false → (has_ack (vote me w t c).controller j ≡ has_ack c j) × (ack_of (vote me w t c).controller j ≡ ack_of c j)
      kept-is e = (has-after ∙ rw e (and-true (has_ack c j)), ack-after)

  -- a call that is passed over counts nothing off
  counted_is : c.acks.cnt.0 ≡ count_to me.n (has_ack c) → (vote me w t c).controller.acks.cnt.0 ≡ count_to me.n (has_ack (vote me w t c).controller)
  counted_is e = elim (split (valid_identity me && runs c && eqb (phase c) 0)) [
    | inl ok ↦ count-after ok e
    | inr no-vote ↦ unfold vote passing_over in rw no-vote e
  ]

-- an acknowledgement that is not held is taken up to stage 2
ack-taken : (n f j : ℕ) (s : VoteSet) (c : Controller) → has_ack c j ≡ false → leb (phase c) 2 ≡ true → is_taken (ack_arrives n f j s c).reception ≡ true
unfolding ack_arrives becomes proposing
ack-taken n f j s c h e = rw (h, e) (sufficient_cases (λ (a : Answer). is_taken a.reception ≡ true) n f (becomes (keep_ack c j s)) (λ q. refl) (λ q. refl))

again-is : (me : Identity) (w : Bool) (t : ℕ) (c : Controller) (m : Message) → MayVote me c → contradicts (ack_of c m.from) (single me.id w) ≡ true
    → m.kind ≡ Ack → Comes me m (vote me w t c).controller → is_taken (untested me m (vote me w t c).controller).reception ≡ true
unfolding arrives
again-is me w t c m ok e k h = rw k (ack-taken me.n me.f m.from m.votes _ (dropped-is me w t c ok m.from h.from_low h.from-high e) (early-after me w t c ok))

pub strays : Strays
strays = record {
  another-order = λ me m c h. not_coming-is me m c (λ k. h k.order);
  another-n = λ me m c h. not_coming-is me m c (λ k. h k.n);
  another-f = λ me m c h. not_coming-is me m c (λ k. h k.f);
  another_receiver = λ me m c h. not_coming-is me m c (λ k. h k.to);
  not_coming = not_coming-is;
  refused = refused-is;
  refused_only = λ me m c. (receive-refusal me m c).why;
  received = received_is;
  passed_over = passed_is;
  unchanged = λ me m c e. nothing_else me m c ((receive-answered me m c).is e);
  own-word = λ me m c. ((receive-same me m c).known, (receive-same me m c).willing);
  voted = vote-answered;
  dropped = λ me w t c j ok lo hi e. dropped-is me w t c ok j lo hi e;
  kept = λ me w t c j ok lo hi e. kept-is me w t c ok j lo hi e;
  counted = counted_is;
  again = again-is;
}
