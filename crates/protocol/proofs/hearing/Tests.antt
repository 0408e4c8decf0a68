-- The premises as tests that compute, over the bench of a moment and its log; each test says the same as its premise, test by test.
use Prim.Native.Nat.{ℕ, ◌≤◌}
use mathlib.Core.Path.{◌≡◌, refl, sym, ◌∙◌, ap, subst}
use mathlib.Core.Bool.{Bool, true, false, not, ◌&&◌, ◌||◌, false≢true}
use mathlib.Core.List.{List, [], ◌∷◌}
use lib.Dec.{eqb, leb}
use mathlib.Core.Logic.{inl, inr}
use borrow.Author.Tests.{not-true, leb-true, le-leb, eqb-true, eq-eqb}
use Rattle.ground.specs.Tests.{and_l, and_r, or-e, or_l, or_r, eqb_same}
use Rattle.ground.specs.Quantify.{all_to, all-at, all_of}
use Rattle.ground.specs.Mask.{has}
use Rattle.model.specs.Ranges.{is_controller}
use Rattle.model.specs.RangeLaws.{member, Member}
use Rattle.model.specs.Numbers.{is_none, kind_number}
use Rattle.model.specs.QuestionLaws.{AllYes, all_yes}
use Rattle.model.specs.declared.Kind.{Kind}
use Rattle.model.specs.declared.Kind.TheVariants.{Vote, Ack, Help, Helped}
use Rattle.model.specs.declared.Event.{Event}
use Rattle.model.specs.declared.Event.TheVariants.{Lock, Order, Cast, Deliver, Timeout, Decide, Stop, Save, Restore, OfBallots}
use Rattle.records.specs.Codes.{kind_of}
use Rattle.records.specs.CodeLaws.{kind-of-number}
use Rattle.message_record.specs.Messages.{about_message}
use Rattle.protocol.specs.declared.Bench.{Bench}
use Rattle.protocol.specs.Controllers.{runs}
use Rattle.protocol.specs.Benches.{controller, sent_by, of_kind}
use Rattle.protocol.specs.Display.{shown_stage, WasSent}
use Rattle.protocol.specs.Claim.{after}
use Rattle.protocol.specs.Reach.{message_at}
use Rattle.protocol.specs.Termination.{RunsAt, down, WasGiven, Premise, few-down, at-stage_3, delivered, answered, Meets}
use Rattle.protocol.proofs.clean.Log.{In}
use Rattle.protocol.proofs.lists.Moments.{log_at, in_order, in-log}
use Rattle.protocol.proofs.ranges.Reached.{reach}

-- is an event this delivery; is it an answer of the arbiter to i
abbrev is_delivery : ℕ → ℕ → Kind → Event → Bool
is_delivery i j kind (Lock a c own) = false
is_delivery i j kind (Order o) = false
is_delivery i j kind (Cast k w t) = false
is_delivery i j kind (Deliver a b k) = eqb i a && eqb j b && eqb (kind_number kind) (kind_number k)
is_delivery i j kind (Timeout k) = false
is_delivery i j kind (Decide k w) = false
is_delivery i j kind (Stop k) = false
is_delivery i j kind (Save k) = false
is_delivery i j kind (OfBallots e) = false
is_delivery i j kind (Restore k) = false

abbrev is_answer : ℕ → Event → Bool
is_answer i (Lock a c own) = false
is_answer i (Order o) = false
is_answer i (Cast k w t) = false
is_answer i (Deliver a b k) = false
is_answer i (Timeout k) = false
is_answer i (Decide k w) = eqb i k
is_answer i (Stop k) = false
is_answer i (Save k) = false
is_answer i (OfBallots e) = false
is_answer i (Restore k) = false

unfoldable pub any_in : (Event → Bool) → List Event → Bool
any_in t [] = false
any_in t (e ∷ log) = t e || any_in t log

any_in_lem : (t : Event → Bool) (e : Event) (log : List Event) → t e ≡ true → In e log → any_in t log ≡ true
unfolding any_in
any_in_lem t e [] h m = absurd m
any_in_lem t e (x ∷ log) h (inl q) = or_l (t x) (any_in t log) (rw q at h)
any_in_lem t e (x ∷ log) h (inr m) = or_r (t x) (any_in t log) (any_in_lem t e log h m)

record FoundIn (t : Event → Bool) (log : List Event) : Type 0 where
  event : Event
  passes : t event ≡ true
  entry : In event log

found_in : (t : Event → Bool) (log : List Event) → any_in t log ≡ true → FoundIn t log
unfolding any_in
found_in t [] e = absurd (false≢true e)
found_in t (x ∷ log) e = elim (or-e (t x) (any_in t log) e) [
  | inl h ↦ record { event = x; passes = h; entry = inl refl }
  | inr h ↦ let r : FoundIn t log = found_in t log h in record { event = r.event; passes = r.passes; entry = inr r.entry }
]

same_kind : (k k' : Kind) → eqb (kind_number k) (kind_number k') ≡ true → k ≡ k'
same_kind k k' e = sym (kind-of-number k) ∙ ap kind_of (eqb-true _ _ e) ∙ kind-of-number k'

the-delivery : (i j : ℕ) (kind : Kind) (e : Event) → is_delivery i j kind e ≡ true → e ≡ Deliver i j kind
the-delivery i j kind (Lock a c own) h = absurd (false≢true h)
the-delivery i j kind (Order o) h = absurd (false≢true h)
the-delivery i j kind (Cast k w t) h = absurd (false≢true h)
the-delivery i j kind (Deliver a b k) h =
    let p : i ≡ a = eqb-true i a (and_l (eqb i a) (eqb j b) (and_l (eqb i a && eqb j b) _ h)) in
    let q : j ≡ b = eqb-true j b (and_r (eqb i a) (eqb j b) (and_l (eqb i a && eqb j b) _ h)) in
    let r : kind ≡ k = same_kind kind k (and_r (eqb i a && eqb j b) _ h) in
    rw (p, q, r)
the-delivery i j kind (Timeout k) h = absurd (false≢true h)
the-delivery i j kind (Decide k w) h = absurd (false≢true h)
the-delivery i j kind (Stop k) h = absurd (false≢true h)
the-delivery i j kind (Save k) h = absurd (false≢true h)
the-delivery i j kind (OfBallots e) h = absurd (false≢true h)
the-delivery i j kind (Restore k) h = absurd (false≢true h)

record AnswerTo (i : ℕ) (e : Event) : Type 0 where
  move : Bool
  is : e ≡ Decide i move

the-answer : (i : ℕ) (e : Event) → is_answer i e ≡ true → AnswerTo i e
the-answer i (Lock a c own) h = absurd (false≢true h)
the-answer i (Order o) h = absurd (false≢true h)
the-answer i (Cast k w t) h = absurd (false≢true h)
the-answer i (Deliver a b k) h = absurd (false≢true h)
the-answer i (Timeout k) h = absurd (false≢true h)
the-answer i (Decide k w) h = record { move = w; is = ap (λ (x : ℕ). Decide x w) (sym (eqb-true i k h)) }
the-answer i (Stop k) h = absurd (false≢true h)
the-answer i (Save k) h = absurd (false≢true h)
the-answer i (OfBallots e) h = absurd (false≢true h)
the-answer i (Restore k) h = absurd (false≢true h)

-- a test of each kind
abbrev all_kinds : (Kind → Bool) → Bool
all_kinds t = t Vote && t Ack && t Help && t Helped

kinds-at : (t : Kind → Bool) → all_kinds t ≡ true → (k : Kind) → t k ≡ true
kinds-at t e Vote = and_l (t Vote) (t Ack) (and_l (t Vote && t Ack) (t Help) (and_l (t Vote && t Ack && t Help) (t Helped) e))
kinds-at t e Ack = and_r (t Vote) (t Ack) (and_l (t Vote && t Ack) (t Help) (and_l (t Vote && t Ack && t Help) (t Helped) e))
kinds-at t e Help = and_r (t Vote && t Ack) (t Help) (and_l (t Vote && t Ack && t Help) (t Helped) e)
kinds-at t e Helped = and_r (t Vote && t Ack && t Help) (t Helped) e

kinds-of : (t : Kind → Bool) → ((k : Kind) → t k ≡ true) → all_kinds t ≡ true
kinds-of t h = rw (h Vote, h Ack, h Help, h Helped)

-- "if a then b"
unfoldable pub implies : Bool → Bool → Bool
implies a b = not a || b

implied : (a b : Bool) → implies a b ≡ true → a ≡ true → b ≡ true
unfolding implies
implied true b e p = e
implied false b e p = absurd (false≢true p)

implies-of : (a b : Bool) → (a ≡ true → b ≡ true) → implies a b ≡ true
unfolding implies
implies-of true b h = h refl
implies-of false b h = refl

-- the four tests
unfoldable pub passes : Premise → Bench → List Event → Bool
passes few-down b log = leb (down b) b.shared.f
passes at-stage_3 b log = all_to b.shared.n (λ i. implies (runs (controller b i)) (eqb (shown_stage b i) 3))
passes delivered b log = all_to b.shared.n (λ i. all_to b.shared.n (λ j. implies (runs (controller b j))
    (all_kinds (λ kind. implies (has (of_kind kind (sent_by b i)).to j) (any_in (is_delivery i j kind) log)))))
passes answered b log = all_to b.shared.n (λ i. implies (runs (controller b i)) (implies (not (is_none (controller b i).proposal)) (any_in (is_answer i) log)))

-- a message sent has a sender among the controllers
sender : (es : List Event) (kind : Kind) (i j : ℕ) → WasSent (after es) kind i j → is_controller (after es).shared.n i ≡ true
unfolding about_message
sender es kind i j e = and_l _ _ (and_l _ _ asked.1.0)
  where
    asked : AllYes (about_message (message_at (after es) kind i j))
    asked = all_yes (about_message (message_at (after es) kind i j)) (reach.messages_pass es kind i j e)

module _ (es : List Event) where
  abbrev b : Bench
  b = after es

  abbrev n : ℕ
  n = b.shared.n

  runs-at : (i : ℕ) → 1 ≤ i → i ≤ n → runs (controller b i) ≡ true → RunsAt es i
  runs-at i lo hi r = record { low = lo; high = hi; running = r }

  -- a premise met passes
  pub met-passes : (p : Premise) → Meets p es → passes p b (log_at es) ≡ true
  unfolding passes
  met-passes few-down h = le-leb _ _ h
  met-passes at-stage_3 h = all_of n _ (λ i lo hi. implies-of _ _ (λ r. eq-eqb _ _ (h i (runs-at i lo hi r))))
  met-passes delivered h = all_of n _ (λ i lo hi. all_of n _ (λ j lo' hi'. implies-of _ _ (λ r. kinds-of _ (λ kind. implies-of _ _ (λ s.
      any_in_lem (is_delivery i j kind) (Deliver i j kind) (log_at es) (rw (eqb_same i, eqb_same j, eqb_same (kind_number kind))) (in-log es (Deliver i j kind) refl (h kind i j s (runs-at j lo' hi' r))))))))
  met-passes answered h = all_of n _ (λ i lo hi. implies-of _ _ (λ r. implies-of _ _ (λ p. let g : WasGiven es i = h i (runs-at i lo hi r) (not-true _ p) in
      any_in_lem (is_answer i) (Decide i g.move) (log_at es) (eqb_same i) (in-log es (Decide i g.move) refl g.event))))

  -- one that passes is met
  pub passes-met : (p : Premise) → passes p b (log_at es) ≡ true → Meets p es
  unfolding passes
  passes-met few-down e = leb-true _ _ e
  passes-met at-stage_3 e = λ i r. eqb-true _ _ (implied _ _ (all-at n _ e i r.low r.high) r.running)
  passes-met delivered e = λ kind i j s r.
      let c : Member n i = member n i (sender es kind i j s) in
      let x : any_in (is_delivery i j kind) (log_at es) ≡ true = implied _ _ (kinds-at (λ k. implies (has (of_kind k (sent_by b i)).to j) (any_in (is_delivery i j k) (log_at es))) (implied _ _ (all-at n _ (all-at n _ e i c.low c.high) j r.low r.high) r.running) kind) s in
      let g : FoundIn (is_delivery i j kind) (log_at es) = found_in (is_delivery i j kind) (log_at es) x in
      in_order es (Deliver i j kind) (subst (λ (y : Event). In y (log_at es)) (the-delivery i j kind g.event g.passes) g.entry)
  passes-met answered e = λ i r p.
      let x : any_in (is_answer i) (log_at es) ≡ true = implied _ _ (implied _ _ (all-at n _ e i r.low r.high) r.running) (ap not p) in
      let g : FoundIn (is_answer i) (log_at es) = found_in (is_answer i) (log_at es) x in
      let a : AnswerTo i g.event = the-answer i g.event g.passes in
      record { move = a.move; event = in_order es (Decide i a.move) (subst (λ (y : Event). In y (log_at es)) a.is g.entry) }
