-- Demand 3, U5, U7, U9 and U10, read over the events left: the bench at a moment is the one after them (Moments), of which protocol's theorems speak.
use Prim.Native.Nat.{ℕ, ◌+◌, ◌*◌, ◌≤◌}
use mathlib.Core.Path.{◌≡◌, refl, sym, ◌∙◌, ap, subst}
use mathlib.Core.Bool.{Bool, true, false}
use mathlib.Core.List.{List, [], ◌∷◌, ◌++◌, append_assoc}
use native.Mathlib.Omega.{arith}
use mathlib.Core.Logic.{inl, inr}
use Rattle.ground.specs.Tests.{split}
use Rattle.model.specs.QuestionLaws.{is-accepted}
use Rattle.model.specs.Questions.{refused, number, is_accepted, ask, unless, first_no}
use Rattle.model.specs.declared.Kind.TheVariants.{Vote, Ack, Help, Helped}
use Rattle.model.specs.declared.Outcome.{Outcome}
use Rattle.model.specs.declared.Outcome.TheVariants.{Stay, Move}
use Rattle.model.specs.declared.Event.{Event}
use Rattle.model.specs.declared.Event.TheVariants.{Timeout, Restore}
use Rattle.protocol.specs.declared.Bench.{Bench}
use Rattle.protocol.specs.Display.{shown_outcome, shown_position, message_count}
use Rattle.protocol.specs.Claim.{after, SameOrder, IsSecondTimeout, Clean, AllWilling, OneUnwilling, WillingVote, Demand3}
use Rattle.protocol.specs.Claim as events
use Rattle.protocol.specs.Termination.{Premise, Meets, RunsAt, Termination}
use Rattle.protocol.specs.CleanMessages.{CleanMessages}
use Rattle.protocol.specs.Counts.{open_gates_of}
use Rattle.protocol.specs.OpenCount.{OpenCount, full_count}
use Rattle.protocol.specs.NoContradiction.{NoContradiction}
use Rattle.steps_back.specs.Memory.{Remembering, is_some, answer, left}
use Rattle.steps_back.specs.Claim.{at, bench, Accepted, Holds, HoldsSome, Kept, Moves, StepsBack}
use Rattle.model.specs.declared.Act.{Act}
use Rattle.model.specs.declared.Act.TheVariants.{Play, Back}
use Rattle.steps_back.proofs.Theorem.{left-taken, left-refused, at-refused}
use Rattle.steps_back.proofs.Moments.{as-left, moments, answers, untouched, plain, undoes, tried, tried-left, one_more, none-at-lock, one_fewer, no-lock_yet, something, nothing}

-- what holds of the bench after the events left holds of the bench
here : (P : Bench → Type 0) (acts : List Act) → P (after (left acts)) → P (bench acts)
here P acts = subst P (sym (as-left acts))

there : (P : Bench → Type 0) (acts : List Act) → P (bench acts) → P (after (left acts))
there P acts = subst P (as-left acts)

-- an outcome that is held
over : (acts : List Act) (i : ℕ) (x : Outcome) → Holds acts i x → events.Holds (left acts) i x
over acts i x h = record { shows = there (λ (b : Bench). shown_outcome b i ≡ x) acts h.shows; some = h.some }

back : (acts : List Act) (es : List Event) (i : ℕ) (x : Outcome) → left acts ≡ es → events.Holds es i x → Holds acts i x
back acts es i x e h = record { shows = ap (λ (b : Bench). shown_outcome b i) (as-left acts ∙ ap after e) ∙ h.shows; some = h.some }

-- a step back is answered 5, 26 or nothing
back_never_24 : (locked some : Bool) → first_no (ask 5 locked ∷ ask 26 some ∷ []) ≡ refused 24 → ⊥
unfolding first_no unless
back_never_24 true true r = let z : ◌≡◌ {A = ℕ} 0 24 = ap number r in omega arith
back_never_24 true false r = let z : ◌≡◌ {A = ℕ} 26 24 = ap number r in omega arith
back_never_24 false some r = let z : ◌≡◌ {A = ℕ} 5 24 = ap number r in omega arith

-- a gate moves only at an accepted event, and so at an event that is left
moved : (acts : List Act) (e : Event) (k : ℕ) → Moves acts e k → Accepted acts (Play e)
moved acts e k m = elim (split (is_accepted (answer (at acts) (Play e)))) [
  | inl t ↦ is-accepted (answer (at acts) (Play e)) t
  | inr q ↦ absurd (m (ap (λ (s : Remembering). shown_position s.bench k) (at-refused acts (Play e) q)))
]

moves-over : (acts : List Act) (e : Event) (k : ℕ) → Moves acts e k → events.Moves (left acts) e k
moves-over acts e k m p = m (
    ap (λ (b : Bench). shown_position b k) (as-left (acts ++ (Play e ∷ [])) ∙ ap after (left-taken acts (Play e) (moved acts e k m)))
    ∙ p ∙ ap (λ (b : Bench). shown_position b k) (sym (as-left acts)))

reply-over : (acts : List Act) (e : Event) → Accepted acts (Play e) → events.Accepted (left acts) e
reply-over acts e ok = sym (answers acts e) ∙ ok

module _ (d : Demand3) (t : Termination) (u : CleanMessages) (c : NoContradiction) (o : OpenCount) where
  agreement : (earlier later : List Act) (more : List Event) (i j : ℕ) (x y : Outcome) → Kept earlier later more → SameOrder (left earlier) more
      → Holds earlier i x → Holds later j y → x ≡ y
  agreement earlier later more i j x y k same h h' =
      d.agreement (left earlier) more i j x y same (over earlier i x h) (subst (λ (es : List Event). events.Holds es j y) k (over later j y h'))

  validity : (acts : List Act) (i : ℕ) → Holds acts i Move → (k : ℕ) → 1 ≤ k → k ≤ (bench acts).shared.n → WillingVote (left acts) k
  validity acts i h k low high = d.validity (left acts) i (over acts i Move h) k low (there (λ (b : Bench). k ≤ b.shared.n) acts high)

  moves-once : (acts : List Act) (e : Event) (later : List Act) (e' : Event) (more : List Event) (k : ℕ) → Kept (acts ++ (Play e ∷ [])) later more
      → SameOrder (left (acts ++ (Play e ∷ []))) (more ++ (e' ∷ [])) → Moves acts e k → Moves later e' k → ⊥
  moves-once acts e later e' more k kept same m m' =
      let now : left (acts ++ (Play e ∷ [])) ≡ left acts ++ (e ∷ []) = left-taken acts (Play e) (moved acts e k m) in
      let then : left later ≡ left acts ++ (e ∷ more) = kept ∙ ap (λ (es : List Event). es ++ more) now ∙ append_assoc (left acts) (e ∷ []) more in
      d.moves-once (left acts) e more e' k (subst (λ (es : List Event). SameOrder es (more ++ (e' ∷ []))) now same) (moves-over acts e k m)
      (subst (λ (es : List Event). events.Moves es e' k) then (moves-over later e' k m'))

  still : (acts : List Act) (i k : ℕ) → Moves acts (Restore i) k → ⊥
  still acts i k m = d.still-at-restore (left acts) i k (moves-over acts (Restore i) k m)

  module _ (acts : List Act) (i : ℕ) (ok : Accepted acts (Play (Timeout i))) (second : IsSecondTimeout (bench acts).shared.n (bench acts).shared.f (left acts) i)
      (clean : Clean (bench acts).shared.n (bench acts).shared.f (left acts ++ (Timeout i ∷ []))) where
    second' : IsSecondTimeout (after (left acts)).shared.n (after (left acts)).shared.f (left acts) i
    second' = there (λ (b : Bench). IsSecondTimeout b.shared.n b.shared.f (left acts) i) acts second

    clean' : Clean (after (left acts)).shared.n (after (left acts)).shared.f (left acts ++ (Timeout i ∷ []))
    clean' = there (λ (b : Bench). Clean b.shared.n b.shared.f (left acts ++ (Timeout i ∷ []))) acts clean

    clean-move : AllWilling (left acts) → Holds (acts ++ (Play (Timeout i) ∷ [])) i Move
    clean-move w = back (acts ++ (Play (Timeout i) ∷ [])) (left acts ++ (Timeout i ∷ [])) i Move (left-taken acts (Play (Timeout i)) ok)
        (d.clean-move (left acts) i (reply-over acts (Timeout i) ok) second' clean' w)

    clean-stay : OneUnwilling (left acts) → Holds (acts ++ (Play (Timeout i) ∷ [])) i Stay
    clean-stay w = back (acts ++ (Play (Timeout i) ∷ [])) (left acts ++ (Timeout i ∷ [])) i Stay (left-taken acts (Play (Timeout i)) ok)
        (d.clean-stay (left acts) i (reply-over acts (Timeout i) ok) second' clean' w)

  hears : (acts : List Act) → ((p : Premise) → Meets p (left acts)) → (i : ℕ) → RunsAt (left acts) i → HoldsSome acts i
  hears acts m i r = let h : events.HoldsSome (left acts) i = t.hears (left acts) m i r in
      record { outcome = h.outcome; holds = back acts (left acts) i h.outcome refl h.holds }

  never_24 : (acts : List Act) (a : Act) → answer (at acts) a ≡ refused 24 → ⊥
  never_24 acts (Play e) r = c.never_24 (left acts) e (sym (answers acts e) ∙ r)
  never_24 acts Back r = back_never_24 (bench acts).shared.locked (is_some (at acts).past) (unfold answer in r)

  pub all : StepsBack
  all = record {
    stays = λ acts e ok. left-taken acts (Play e) ok;
    passed = λ acts a q r. left-refused acts a (ap is_accepted r);
    as-left = as-left;
    moments = moments;
    answers = answers;
    untouched = untouched;
    plain = plain;
    undoes = undoes;
    tried = tried;
    tried-left = tried-left;
    one_more = one_more;
    none-at-lock = none-at-lock;
    one_fewer = one_fewer;
    no-lock_yet = no-lock_yet;
    something = something;
    nothing = nothing;
    agreement = agreement;
    validity = validity;
    moves-once = moves-once;
    still-at-restore = still;
    clean-move = clean-move;
    clean-stay = clean-stay;
    at-most_2fn = λ acts. here (λ (b : Bench). message_count b Vote + message_count b Ack ≤ 2 * (b.shared.f * b.shared.n)) acts (d.at-most_2fn (left acts));
    hears = hears;
    exactly_2fn = λ acts e. here (λ (b : Bench). message_count b Vote + message_count b Ack ≡ 2 * (b.shared.f * b.shared.n)) acts (u.exactly_2fn (left acts) e);
    votes = λ acts e. here (λ (b : Bench). message_count b Vote ≡ b.shared.f * b.shared.n) acts (u.votes (left acts) e);
    acks = λ acts e. here (λ (b : Bench). message_count b Ack ≡ b.shared.f * b.shared.n) acts (u.acks (left acts) e);
    no-help = λ acts e. here (λ (b : Bench). message_count b Help ≡ 0) acts (u.no-help (left acts) e);
    no-helped = λ acts e. here (λ (b : Bench). message_count b Helped ≡ 0) acts (u.no-helped (left acts) e);
    never_24 = never_24;
    counted = λ acts. here (λ (b : Bench). open_gates_of b.shared ≡ full_count b) acts (o.counted (left acts));
  }
