-- From what stays in range (Ranges) and the invariant, over every list (lists/Reach), to the statement: the questions of a record, one by one.
use Prim.Native.Nat.{ℕ, zero, suc, ◌≤◌, ◌<◌, ◌^◌}
use mathlib.Core.Path.{◌≡◌, refl, sym, ◌∙◌, ap, subst}
use mathlib.Core.Bool.{true, false, not, ◌&&◌, false≢true}
use mathlib.Core.List.{List, [], ◌∷◌}
use native.Mathlib.Omega.{arith}
use lib.Pow.{pow_pos}
use lib.ListN.{length}
use lib.Dec.{eqb}
use mathlib.Core.Logic.{inl, inr}
use borrow.Author.Tests.{le-leb, eq-eqb}
use Rattle.ground.specs.Tests.{no_both, and_l, and_i}
use Rattle.ground.specs.Mask.{has}
use Rattle.ground.proofs.MaskLaws.{has-none, none_has}
use Rattle.ground.proofs.Inclusion.{has_within}
use Rattle.ground.specs.Limit.{limit}
use Rattle.votes.specs.VoteSets.{empty}
use Rattle.votes.specs.Contradictions.{WellFormed}
use Rattle.votes.specs.declared.VoteSet.{VoteSet}
use Rattle.model.specs.QuestionLaws.{yes-all}
use Rattle.model.specs.Ranges.{is_controller, position_in_range}
use Rattle.model.specs.RangeLaws.{ranges, is_member}
use Rattle.model.specs.Routes.{route, vote_route, ack_route, help_route}
use Rattle.model.specs.declared.Kind.{Kind}
use Rattle.model.specs.declared.Kind.TheVariants.{Vote, Ack, Help, Helped}
use Rattle.model.specs.declared.Checkpoint.{Checkpoint}
use Rattle.model.specs.declared.Telegram.TheVariants.{Plain, OfBallot}
use Rattle.model.specs.declared.Event.{Event}
use Rattle.model.specs.declared.Event.TheVariants.{Cast}
use Rattle.records.specs.Codec.{Codec, own_form, record_length, bytes_of, write_reply, writes}
use Rattle.message_record.specs.Messages.{bits_in_range, knows_for_kind, suits, about_message}
use Rattle.message_record.specs.Telegrams.{telegrams}
use Rattle.message_record.proofs.RoundTrips.{own-passes, message-back, telegram-passes, ballot-back}
use Rattle.checkpoint_record.specs.Checkpoints.{about_checkpoint, checkpoints}
use Rattle.checkpoint_record.proofs.RoundTrips.{promises as checkpoint-promises}
use Rattle.protocol.specs.declared.Sent.{Sent}
use Rattle.protocol.specs.declared.Bench.{Bench}
use Rattle.protocol.specs.Controllers.{ack_of}
use Rattle.protocol.specs.Benches.{bench_of, new_bench, station, controller, sent_by, of_kind}
use Rattle.protocol.specs.Questions.{accepted, unless, first_no}
use Rattle.protocol.specs.Steps.{step, run}
use Rattle.protocol.specs.Claim.{after}
use Rattle.protocol.specs.Display.{WasSent}
use Rattle.protocol.specs.Reach.{HeldWithin, message_at, IsSaved, AsRead, AllRead, Reach, ballot_at}
use Rattle.protocol.proofs.view.View.{View, accepts, ask_l, ask_r}
use Rattle.protocol.proofs.view.Performed.{step_v}
use Rattle.protocol.proofs.view.Simulation.{view, Sound, Any, Steps, step_steps, step_sim}
use Rattle.protocol.proofs.invariant.Invariant.{HeldAck}
use Rattle.protocol.proofs.invariant.Decisions.{Blank}
use Rattle.protocol.proofs.lists.Start.{never-saved, fresh_in, freshes}
use Rattle.protocol.proofs.counting.Counted.{unsent-kind}
use Rattle.protocol.proofs.ranges.BallotsBack.{ballot-passes}
use Rattle.protocol.proofs.lists.Reach.{Reached, JustLocked, new-step, step-reached, reached}
use Rattle.protocol.proofs.contradictions.Clear.{within_of, suits-sent}
use Rattle.protocol.proofs.ranges.Ranges.{Given, SentIn, SavedIn, AllIn, step_in}

-- in range, of every bench that a list leads to, where each accepted event of the list brings what is in range
module _ (G H : ℕ → Type 0) (g0 : G 0) (h0 : H 0) where
  abbrev In : Bench → Type 0
  In b = AllIn G H g0 b.shared.n b.shared.f (view b)

  abbrev AllGiven : List Event → Type 0
  AllGiven [] = Unit {0}
  AllGiven (e ∷ es) = ((n f : ℕ) (v : View) → accepts n f v e ≡ true → Given G H g0 e) × AllGiven es

  sound_in : (b : Bench) (e : Event) → ((n f : ℕ) (v : View) → accepts n f v e ≡ true → Given G H g0 e) → Sound b → In b → In (step b e)
  sound_in b e g a h =
      let s : Steps b (a) (step b e) = step_steps b (a) e in
      let i : AllIn G H g0 b.shared.n b.shared.f (step_v b.shared.n b.shared.f (view b) e) = step_in G H g0 b.shared.n b.shared.f (ranges b.shared.n b.shared.f a.sized).small (view b) e a.inv (g b.shared.n b.shared.f (view b)) h in
      subst (λ (x : ℕ). AllIn G H g0 x (step b e).shared.f (view (step b e))) (sym s.same-n)
      (subst (λ (x : ℕ). AllIn G H g0 b.shared.n x (view (step b e))) (sym s.same-f) (subst (AllIn G H g0 b.shared.n b.shared.f) (sym (step_sim b (a) e)) i))

  locked_in : (b : Bench) → JustLocked b → In b
  locked_in b l = subst In (sym l.is) (unfold bench_of in fresh_in G H g0 h0 true l.n l.f l.own)

  new_in : In new_bench
  new_in = unfold bench_of in fresh_in G H g0 h0 false 0 0 false

  step-all_in : (b : Bench) (e : Event) → ((n f : ℕ) (v : View) → accepts n f v e ≡ true → Given G H g0 e) → Reached b → In b → In (step b e)
  step-all_in b e g (inr a) h = sound_in b e g a h
  step-all_in b e g (inl z) h = subst (λ (x : Bench). In (step x e)) (sym z) (elim (new-step e) [ inl y ↦ subst In (sym y) new_in | inr l ↦ locked_in (step new_bench e) l ])

  run_in : (es : List Event) (b : Bench) → AllGiven es → Reached b → In b → In (run b es)
  unfolding run
  run_in [] b g r h = h
  run_in (e ∷ es) b g r h = run_in es (step b e) g.1 (step-reached b e r) (step-all_in b e g.0 r h)

  given_in : (es : List Event) → AllGiven es → In (after es)
  given_in es g = run_in es new_bench g (inl refl) new_in

-- positions, of every list: question 11
abbrev Positioned : ℕ → Type 0
Positioned p = position_in_range p ≡ true

positioned_0 : Positioned 0
unfolding position_in_range
positioned_0 = refl

asked_11 : (e : Event) (n f : ℕ) (v : View) → accepts n f v e ≡ true → Given Positioned Any positioned_0 e
unfolding accepts first_no
asked_11 e n f v q = record { target = λ i w t z. let a : accepts n f v (Cast i w t) ≡ true = rw z at q in search (ask_l, ask_r) depth 14; number = λ o z. tt }

all_asked : (es : List Event) → AllGiven Positioned Any positioned_0 tt es
all_asked [] = tt
all_asked (e ∷ es) = (asked_11 e, all_asked es)

abbrev Ranged : Bench → Type 0
Ranged b = In Positioned Any positioned_0 tt b

all_in : (es : List Event) → Ranged (after es)
all_in es = given_in Positioned Any positioned_0 tt es (all_asked es)

-- four bytes, of a list as reading lets it through
abbrev Short : ℕ → Type 0
Short x = x < 2 ^ 32

short_0 : Short 0
short_0 = pow_pos 32

as_read : (e : Event) → AsRead e → (n f : ℕ) (v : View) → accepts n f v e ≡ true → Given Short Short short_0 e
as_read e r n f v q = record { target = λ i w t z. subst AsRead z r; number = λ o z. subst AsRead z r }

all_read : (es : List Event) → AllRead es → AllGiven Short Short short_0 short_0 es
all_read [] r = tt
all_read (e ∷ es) r = (as_read e r.0, all_read es r.1)

all_short : (es : List Event) → AllRead es → In Short Short short_0 short_0 (after es)
all_short es r = given_in Short Short short_0 short_0 es (all_read es r)

-- vote sets
empty-is : (s : VoteSet) → s ≡ empty → WellFormed s
empty-is s e = subst WellFormed (sym e) (has_within 0 0 (λ k x. x))

held-within : (b : Bench) (i : ℕ) → Reached b → Ranged b → HeldWithin (controller b i)
held-within b i (inr a) h = record {
  own = within_of _ (unfold view in (a.inv.ctls i).votes_ok.within);
  acks = λ j e. unfold view in (let t : HeldAck b.shared.n b.shared.f (view b).state.sent i (ack_of (controller b i) j) j = (unfold view in (a.inv.ctls i).acks_ok j e) in
      subst WellFormed (sym t.copy) (within_of _ ((a.inv.lines j).ack_ok t.acked).within));
  answers = within_of _ (unfold view in (a.inv.ctls i).helped_ok.within);
  help = within_of _ (unfold view in (h.ctls i).help);
}
held-within b i (inl z) h = subst (λ (x : Bench). HeldWithin (controller x i)) (sym z) (record {
  own = empty-is _ new.votes;
  acks = λ j e. none_has j (ap (λ (m : ℕ). has m j) (sym new.acks-none) ∙ e);
  answers = empty-is _ new.helped;
  help = within_of _ (unfold view bench_of in ((new_in Positioned Any positioned_0 tt).ctls i).help);
})
  where
    new : Blank (controller new_bench i)
    new = (freshes false 0 0 false i).ctl

-- a number in a set is at least 1
some_number : (m k : ℕ) → has m k ≡ true → 1 ≤ k
some_number m zero e = absurd (false≢true (unfold has in e))
some_number m (suc k) e = omega arith

-- what the questions about a message need, of the sender i with what it has sent
module _ (b : Bench) (a : Sound b) (h : Ranged b) (i : ℕ) where
  abbrev n : ℕ
  n = b.shared.n

  abbrev f : ℕ
  f = b.shared.f

  abbrev l : Sent
  l = sent_by b i

  line : SentIn Positioned Any positioned_0 n f b.shared.order i l
  line = unfold view in h.lines i

  few : n ≤ limit
  few = (ranges n f a.sized).small

  voted : (kind : Kind) (j : ℕ) → has (of_kind kind l).to j ≡ true → 1 ≤ i
  unfolding view
  voted Vote j e = some_number l.vote.votes.known i ((a.inv.lines i).vote-to j e).0
  voted Ack j e = some_number l.ack.votes.known i ((a.inv.lines i).ack-to j e).0
  voted Help j e = some_number l.helped.votes.known i ((a.inv.lines i).help-to j e)
  voted Helped j e = some_number l.helped.votes.known i ((a.inv.lines i).helped-to j e)

  differs : (kind : Kind) (j : ℕ) → route f kind i j ≡ true → not (eqb i j) ≡ true
  unfolding route vote_route ack_route help_route
  differs Vote j r = and_l (not (eqb i j)) _ r
  differs Ack j r = and_l (not (eqb i j)) _ r
  differs Help j r = and_l (not (eqb i j)) _ r
  differs Helped j r = and_l (not (eqb i j)) _ r

  fits : (kind : Kind) (j : ℕ) → 1 ≤ i → i ≤ n → has (of_kind kind l).to j ≡ true → suits (message_at b kind i j) ≡ true
  unfolding view suits bits_in_range knows_for_kind
  fits kind j lo hi e = suits-sent Positioned Any positioned_0 n f few (view b) a.inv h kind i j lo hi e

  passes : (kind : Kind) (j : ℕ) → has (of_kind kind l).to j ≡ true → first_no (about_message (message_at b kind i j)) ≡ accepted
  unfolding about_message
  passes kind j e =
      let t : (1 ≤ b.shared.order) × (i ≤ n) × (j ≤ n) × (route f kind i j ≡ true) = line.to kind j e in
      let lo : 1 ≤ i = voted kind j e in
      yes-all (about_message (message_at b kind i j)) (
        a.sized,
        (
          and_i (is_controller n i && is_controller n j) (not (eqb i j)) (and_i (is_controller n i) (is_controller n j) (is_member n i lo t.1) (is_member n j (some_number _ j e) t.2)) (differs kind j t.3),
          (le-leb 1 _ t.0, (fits kind j lo t.1 e, (t.3, tt))),
        ),
      )

new-unsent : (kind : Kind) (i j : ℕ) → has (of_kind kind (sent_by new_bench i)).to j ≡ false
new-unsent kind i j = ap (λ (x : Sent). has (of_kind kind x).to j) (freshes false 0 0 false i).sent ∙ ap (λ (m : ℕ). has m j) (unsent-kind kind) ∙ has-none j

message-passes : (b : Bench) (kind : Kind) (i j : ℕ) → Reached b → Ranged b → WasSent b kind i j → first_no (about_message (message_at b kind i j)) ≡ accepted
message-passes b kind i j (inr a) h e = passes b a h i kind j e
message-passes b kind i j (inl z) h e = absurd (no_both _ (ap (λ (x : Bench). has (of_kind kind (sent_by x i)).to j) (sym z) ∙ e) (new-unsent kind i j))

checkpoint-passes : (b : Bench) (i : ℕ) (p : Checkpoint) → Reached b → Ranged b → IsSaved b i p → first_no (about_checkpoint p) ≡ accepted
checkpoint-passes b i p (inl z) h e = never-saved (station new_bench i).saved p (freshes false 0 0 false i).saved (ap (λ (x : Bench). (station x i).saved) (sym z) ∙ e)
checkpoint-passes b i p (inr a) h e =
    let s : SavedIn Positioned Any positioned_0 b.shared.n b.shared.f i p = (unfold view in h.saved i p e) in
    unfold about_checkpoint in yes-all (about_checkpoint p) (
      rw (s.n-is, s.f-is) a.sized,
      (rw (s.n-is, s.id) s.one_of, (le-leb 1 _ s.order, (s.position, tt))),
    )

-- what passes is written
written_out : {S A : Type 0} (k : Codec S A) (a : A) (out : List ℕ) → length out ≡ record_length k a → first_no ((own_form k a).asked a) ≡ accepted → writes k out a ≡ bytes_of k a
unfolding writes write_reply first_no unless
written_out k a out h p = rw (eq-eqb _ _ h, p)

own-checkpoint : (b : Bench) (i : ℕ) (p : Checkpoint) → Reached b → Ranged b → IsSaved b i p → p.id ≡ i
own-checkpoint b i p (inl z) h e = never-saved (station new_bench i).saved p (freshes false 0 0 false i).saved (ap (λ (x : Bench). (station x i).saved) (sym z) ∙ e)
own-checkpoint b i p (inr a) h e = let s : SavedIn Positioned Any positioned_0 b.shared.n b.shared.f i p = (unfold view in h.saved i p e) in s.id

pub reach : Reach
reach = record {
  stages = λ es i. unfold view in ((all_in es).ctls i).low;
  positions = λ es i. unfold view in ((all_in es).ctls i).gate.position;
  vote-sets = λ es i. held-within (after es) i (reached es) (all_in es);
  messages_pass = λ es kind i j e. message-passes (after es) kind i j (reached es) (all_in es) e;
  ballots_pass = λ es kind i j b e. ballot-passes (after es) kind i j b (reached es) e;
  checkpoints_pass = λ es i p e. checkpoint-passes (after es) i p (reached es) (all_in es) e;
  checkpoints-own = λ es i p e. own-checkpoint (after es) i p (reached es) (all_in es) e;
  messages-written = λ es kind i j out h e. written_out telegrams (Plain (message_at (after es) kind i j)) out h (own-passes (message_at (after es) kind i j) (message-passes (after es) kind i j (reached es) (all_in es) e));
  ballots-written = λ es kind i j b out h e. written_out telegrams (OfBallot (ballot_at (after es) kind i j b)) out h (telegram-passes (OfBallot (ballot_at (after es) kind i j b)) (ballot-passes (after es) kind i j b (reached es) e));
  checkpoints-written = λ es i p out h e. written_out checkpoints p out h (checkpoint-passes (after es) i p (reached es) (all_in es) e);
  messages-back = λ es kind i j r e. message-back (message_at (after es) kind i j) (unfold view in (all_short es r).order) (message-passes (after es) kind i j (reached es) (all_in es) e);
  checkpoints-back = λ es i p r e. let s : SavedIn Short Short short_0 (after es).shared.n (after es).shared.f i p = (unfold view in (all_short es r).saved i p e) in
      checkpoint-promises.reads-back p (s.order_in, (s.position, tt)) (checkpoint-passes (after es) i p (reached es) (all_in es) e);
  ballots-back = λ es kind i j b r e. ballot-back (ballot_at (after es) kind i j b) (unfold view in (all_short es r).order) (ballot-passes (after es) kind i j b (reached es) e);
}
