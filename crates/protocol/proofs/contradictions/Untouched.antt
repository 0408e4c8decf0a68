-- `NoContradiction`: every bench that a list leads to is new, and asks for a lock first, or keeps the invariant, and there the test finds nothing.
use Prim.Native.Nat.{ℕ}
use mathlib.Core.Path.{◌≡◌, refl, sym, ◌∙◌, ap, subst}
use mathlib.Core.Bool.{Bool, true, false, not, ◌&&◌, ◌||◌, cond}
use mathlib.Core.List.{List, [], ◌∷◌}
use native.Mathlib.Omega.{arith}
use lib.Dec.{eqb}
use mathlib.Core.Logic.{inl, inr}
use Rattle.ground.specs.Tests.{split, no_both, or_l, or_r, and_i, eqb_same}
use Rattle.ground.specs.Mask.{has}
use Rattle.ground.proofs.MaskLaws.{none_has}
use Rattle.votes.specs.VoteSets.{empty, single, union, union_all}
use Rattle.votes.specs.Joining.{contradicts, join, join_all, agreed_or}
use Rattle.votes.proofs.JoinLaws.{empty-agrees, join-agreed}
use Rattle.votes.specs.declared.VoteSet.{VoteSet}
use Rattle.votes.specs.Joining.{Joined}
use Rattle.std.specs.Prelude.{Ok}
use Rattle.model.specs.RangeLaws.{ranges}
use Rattle.model.specs.declared.Kind.{Kind}
use Rattle.model.specs.declared.BallotEvent.TheVariants.{Open, Carry}
use Rattle.model.specs.declared.Event.{Event}
use Rattle.model.specs.declared.Event.TheVariants.{Lock, Order, Cast, Deliver, Timeout, Decide, Stop, Save, Restore, OfBallots}
use Rattle.protocol.specs.declared.Answer.{Answer}
use Rattle.protocol.specs.declared.Bench.{Bench}
use Rattle.protocol.specs.Controllers.{has_ack}
use Rattle.protocol.specs.Rules.{ack_join, help_votes}
use Rattle.protocol.specs.Benches.{new_bench, bench_of, station, controller, sent_by}
use Rattle.protocol.specs.Events.{subject, source}
use Rattle.protocol.specs.Questions.{Facts, Reply, accepted, refused, is_accepted, Question, unless, first_no, may_open, may_give, questions_of, facts_of, reply}
use Rattle.protocol.specs.Steps.{answering, effect_of, put_back, perform, step, run}
use Rattle.protocol.specs.Claim.{after}
use Rattle.protocol.specs.NoContradiction.{Agreeing, acks_union, votes_sent, JoinIsUnion, untested_reply, untested_perform, untested_step, untested_run, NoContradiction}
use Rattle.protocol.proofs.view.View.{accepts}
use Rattle.protocol.proofs.view.Kinds.{IsLock, tests-delivery}
use Rattle.protocol.proofs.view.Performed.{rule_answer}
use Rattle.protocol.proofs.view.Simulation.{view, Any, Sound, rule_sim, reply-untested, reply_sim}
use Rattle.protocol.proofs.invariant.Decisions.{Blank}
use Rattle.protocol.proofs.lists.Start.{new-lock, new_refuses, freshes}
use Rattle.protocol.proofs.contradictions.Clear.{all_agree, acks-union, help-union, own-answer-union, own-vote-union, delivered-union}
use Rattle.protocol.proofs.lists.Reach.{Reached, step-reached, reached}

-- a question of that number is answered no
abbrev some_no : ℕ → List Question → Bool
some_no k [] = false
some_no k (q ∷ qs) = (eqb q.number k && not q.yes) || some_no k qs

refused-is : (p k : ℕ) → refused p ≡ refused k → p ≡ k
refused-is p k e = cc

accepted_never : {A : Type 0} (k : ℕ) → accepted ≡ refused k → A
accepted_never k e = let z : ◌≡◌ {A = ℕ} 0 1 = cc in absurd (omega arith)

refused-asked : (k : ℕ) (qs : List Question) → first_no qs ≡ refused k → some_no k qs ≡ true
unfolding first_no unless
refused-asked k [] e = accepted_never k e
refused-asked k (q ∷ qs) e = elim (split q.yes) [
  | inl y ↦ or_r (eqb q.number k && not q.yes) (some_no k qs) (refused-asked k qs (rw y at e))
  | inr y ↦ or_l (eqb q.number k && not q.yes) (some_no k qs) (and_i (eqb q.number k) (not q.yes) (rw (refused-is q.number k (rw y at e)) (eqb_same k)) (rw y))
]

-- without the test no question has the number 24
not-asked : (v : Facts) (e : Event) → v.agrees ≡ true → some_no 24 (questions_of v e) ≡ false
not-asked v (Lock n f own) h = refl
not-asked v (Order o) h = refl
not-asked v (Cast i w t) h = refl
not-asked v (Deliver i j k) h = rw h
not-asked v (Timeout i) h = refl
not-asked v (Decide i w) h = refl
not-asked v (Stop i) h = refl
not-asked v (Save i) h = refl
not-asked v (OfBallots (Open i b)) h = refl
not-asked v (OfBallots (Carry i j k b)) h = refl
not-asked v (Restore i) h = refl

-- a new bench: question 5 comes first
new-answers : (e : Event) → reply new_bench e ≡ untested_reply new_bench e
new-answers e = elim (tests-delivery new_bench e) [ inl d ↦ subst (λ x. reply new_bench x ≡ untested_reply new_bench x) (sym d.is) (unfold reply first_no unless bench_of in refl) | inr h ↦ h ]

answers_at : (b : Bench) (e : Event) → Reached b → reply b e ≡ untested_reply b e
answers_at b e (inl z) = subst (λ (x : Bench). reply x e ≡ untested_reply x e) (sym z) (new-answers e)
answers_at b e (inr a) = reply-untested b (a) e

abbrev untested : Bench → Event → Facts
untested b e = facts_of b.shared b.ballots e (station b (subject e)) (sent_by b (source e)) (may_open b.shared) (may_give b.shared b.ballots) true

never-at : (b : Bench) (e : Event) → Reached b → reply b e ≡ refused 24 → ⊥
never-at b e r h = no_both (some_no 24 (questions_of (untested b e) e)) (refused-asked 24 (questions_of (untested b e) e) (sym (answers_at b e r) ∙ h)) (not-asked (untested b e) e refl)

-- an accepted event does what the rules of document 01 say
performs : (b : Bench) → Sound b → (e : Event) → accepts b.shared.n b.shared.f (view b) e ≡ true → perform b e ≡ untested_perform b e
performs b ok (Lock n f own) q = refl
performs b ok (Order o) q = refl
performs b ok (Cast i w t) q = unfold perform effect_of in ap (λ (a : Answer). put_back b i (answering b.shared (station b i) a)) (rule_sim b ok (Cast i w t) q ∙ (unfold rule_answer view in refl))
performs b ok (Deliver i j k) q = unfold perform effect_of in ap (λ (a : Answer). put_back b j (answering b.shared (station b j) a)) (rule_sim b ok (Deliver i j k) q ∙ (unfold rule_answer view in refl))
performs b ok (Timeout i) q = refl
performs b ok (Decide i w) q = refl
performs b ok (Stop i) q = refl
performs b ok (Save i) q = refl
performs b ok (OfBallots e) q = refl
performs b ok (Restore i) q = refl

steps : (b : Bench) (e : Event) → Reached b → step b e ≡ untested_step b e
unfolding step untested_step
steps b e (inl z) = subst (λ (x : Bench). cond (is_accepted (reply x e)) (perform x e) x ≡ cond (is_accepted (untested_reply x e)) (untested_perform x e) x) (sym z) (new e)
  where
    new : (e : Event) → cond (is_accepted (reply new_bench e)) (perform new_bench e) new_bench ≡ cond (is_accepted (untested_reply new_bench e)) (untested_perform new_bench e) new_bench
    new e = rw (sym (new-answers e)) (elim (split (is_accepted (reply new_bench e))) [
      | inl q ↦ let l : IsLock e = new-lock e q in subst (λ x. cond (is_accepted (reply new_bench x)) (perform new_bench x) new_bench ≡ cond (is_accepted (reply new_bench x)) (untested_perform new_bench x) new_bench) (sym l.is) refl
      | inr q ↦ rw q
    ])
steps b e (inr a) = rw (sym (answers_at b e (inr a))) (elim (split (is_accepted (reply b e))) [
  | inl q ↦ rw q (performs b (a) e (sym (reply_sim b (a) e) ∙ q))
  | inr q ↦ rw q
])

runs : (es : List Event) (b : Bench) → Reached b → run b es ≡ untested_run b es
unfolding run untested_run
runs [] b r = refl
runs (e ∷ es) b r = runs es (step b e) (step-reached b e r) ∙ ap (λ (x : Bench). untested_run x es) (steps b e r)

-- a new bench holds nothing
new-agrees : (i : ℕ) → Agreeing (controller new_bench i)
new-agrees i = record {
  own-answers = ap (λ (s : VoteSet). contradicts s (controller new_bench i).helped.votes) none.votes ∙ empty-agrees (controller new_bench i).helped.votes;
  own-ack = λ j e. nobody j e;
  answers-ack = λ j e. nobody j e;
  acks = λ j k e e'. nobody j e;
}
  where
    none : Blank (controller new_bench i)
    none = (freshes false 0 0 false i).ctl

    nobody : {X : Type 0} (j : ℕ) → has_ack (controller new_bench i) j ≡ true → X
    nobody j e = none_has j (ap (λ (m : ℕ). has m j) (sym none.acks-none) ∙ e)

held_at : (b : Bench) (i : ℕ) → Reached b → Agreeing (controller b i)
held_at b i (inl z) = subst (λ (x : Bench). Agreeing (controller x i)) (sym z) (new-agrees i)
held_at b i (inr a) = unfold view in all_agree Any Any tt b.shared.n b.shared.f (ranges b.shared.n b.shared.f a.sized).small (view b) a.inv a.ranged i

-- the joins of a bench
record JoinsAt (b : Bench) (i : ℕ) : Type 0 where
  acks : ack_join b.shared.n (controller b i) ≡ Ok (acks_union b.shared.n (controller b i))
  help : help_votes b.shared.n (controller b i) ≡ union (acks_union b.shared.n (controller b i)) (controller b i).votes
  answer : JoinIsUnion (controller b i).helped.votes (help_votes b.shared.n (controller b i))

-- a new bench has no lock, and no acknowledgements: its n is 0
new_joins : (i : ℕ) → JoinsAt new_bench i
unfolding ack_join help_votes join_all union_all
new_joins i = record {
  acks = unfold bench_of in refl;
  help = unfold bench_of in alone;
  answer = subst (λ (s : VoteSet). JoinIsUnion s (help_votes new_bench.shared.n (controller new_bench i))) (sym none.helped) (join-agreed empty _ (empty-agrees _));
}
  where
    none : Blank (controller new_bench i)
    none = (freshes false 0 0 false i).ctl

    alone : agreed_or (controller new_bench i).votes (join empty (controller new_bench i).votes) ≡ union empty (controller new_bench i).votes
    alone = ap (λ (j : Joined). agreed_or (controller new_bench i).votes j) (join-agreed empty (controller new_bench i).votes (empty-agrees (controller new_bench i).votes))

joins_at : (b : Bench) (i : ℕ) → Reached b → JoinsAt b i
joins_at b i (inl z) = subst (λ (x : Bench). JoinsAt x i) (sym z) (new_joins i)
joins_at b i (inr a) = unfold view in record {
  acks = acks-union Any Any tt b.shared.n b.shared.f (ranges b.shared.n b.shared.f a.sized).small (view b) a.inv a.ranged i;
  help = help-union Any Any tt b.shared.n b.shared.f (ranges b.shared.n b.shared.f a.sized).small (view b) a.inv a.ranged i;
  answer = own-answer-union Any Any tt b.shared.n b.shared.f (ranges b.shared.n b.shared.f a.sized).small (view b) a.inv a.ranged i;
}

own-vote-at : (b : Bench) (i : ℕ) (w : Bool) (t : ℕ) → Reached b → reply b (Cast i w t) ≡ accepted → JoinIsUnion (controller b i).votes (single i w)
own-vote-at b i w t (inl z) q = absurd (new_refuses (Cast i w t) refl (ap (λ (x : Bench). is_accepted (reply x (Cast i w t))) (sym z) ∙ ap is_accepted q))
own-vote-at b i w t (inr a) q = unfold view in own-vote-union Any Any tt b.shared.n b.shared.f (ranges b.shared.n b.shared.f a.sized).small (view b) a.inv a.ranged i w t
    (sym (reply_sim b (a) (Cast i w t)) ∙ ap (λ (r : Reply). is_accepted r) q)

delivered-at : (b : Bench) (i j : ℕ) (kind : Kind) → Reached b → reply b (Deliver i j kind) ≡ accepted
    → JoinIsUnion (controller b j).votes (votes_sent b kind i) × JoinIsUnion (controller b j).helped.votes (votes_sent b kind i)
delivered-at b i j kind (inl z) q = absurd (new_refuses (Deliver i j kind) refl (ap (λ (x : Bench). is_accepted (reply x (Deliver i j kind))) (sym z) ∙ ap is_accepted q))
delivered-at b i j kind (inr a) q = unfold view in delivered-union Any Any tt b.shared.n b.shared.f (ranges b.shared.n b.shared.f a.sized).small (view b) a.inv a.ranged i j kind
    (sym (reply_sim b (a) (Deliver i j kind)) ∙ ap (λ (r : Reply). is_accepted r) q)

pub no_contradiction : NoContradiction
no_contradiction = record {
  held = λ es i. held_at (after es) i (reached es);
  acks-joined = λ es i. (joins_at (after es) i (reached es)).acks;
  help-votes = λ es i. (joins_at (after es) i (reached es)).help;
  own-answer = λ es i. (joins_at (after es) i (reached es)).answer;
  own-vote = λ es i w t. own-vote-at (after es) i w t (reached es);
  delivered = λ es i j kind. delivered-at (after es) i j kind (reached es);
  never_24 = λ es e. never-at (after es) e (reached es);
  answers = λ es e. answers_at (after es) e (reached es);
  benches = λ es. runs es new_bench (inl refl);
}
