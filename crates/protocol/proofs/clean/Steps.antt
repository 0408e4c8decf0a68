-- The clean order as the statement has it gives the stepwise form that the proof uses: through the log, "before the order's first accepted bell" and
-- "before the first of its second bells" become: at each timeout the votes are in, and at each second timeout the acknowledgements are in.
use Prim.Native.Nat.{ℕ, suc}
use mathlib.Core.Path.{◌≡◌, refl, sym, ◌∙◌, ap, subst}
use mathlib.Core.List.{List, [], ◌∷◌, ◌++◌}
use native.Mathlib.Decide.{dec_le, ℕ_discrete}
use mathlib.Core.Logic.{◌⊎◌, inl, inr}
use Rattle.model.specs.declared.Event.{Event}
use Rattle.model.specs.declared.Event.TheVariants.{Lock, Order, Cast, Deliver, Timeout, Decide, Stop, Save, Restore, OfBallots}
use Rattle.protocol.specs.Claim.{IsSecondTimeout, CastBy}
use Rattle.protocol.specs.Claim as claim
use Rattle.protocol.proofs.clean.Log.{NotTimeout, In, Voted, VotesIn, AcksIn, Second, CleanStep, Clean}
use Rattle.protocol.proofs.lists.Moments.{log_at, same_head, same_tail, nil_split, Placed, placed, in_order, Stands, stands, in-log}

record IsTimeout (e : Event) : Type 0 where
  at : ℕ
  is : e ≡ Timeout at

which : (e : Event) → NotTimeout e ⊎ IsTimeout e
which (Lock a c own) = inl tt
which (Order o) = inl tt
which (Cast i w t) = inl tt
which (Deliver i j k) = inl tt
which (Timeout i) = inr (record { at = i; is = refl })
which (Decide i w) = inl tt
which (Stop i) = inl tt
which (Save i) = inl tt
which (OfBallots e) = inl tt
which (Restore i) = inl tt

pub inject : (i k : ℕ) → Timeout i ≡ Timeout k → i ≡ k
inject i k p = cc

-- a log is newest first: in log ≡ later ++ (e ∷ earlier) the events of earlier came before e
abbrev NoTimeout : List Event → Type 0
NoTimeout log = (i : ℕ) → In (Timeout i) log → ⊥

in_dec : (j : ℕ) (l : List Event) → In (Timeout j) l ⊎ (In (Timeout j) l → ⊥)
in_dec j [] = inr (λ m. m)
in_dec j (e ∷ l) = elim (in_dec j l) [
  | inl m ↦ inl (inr m)
  | inr no-l ↦ elim (which e) [
    | inl nb ↦ inr (λ m. elim m [ inl q ↦ subst NotTimeout (sym q) nb | inr k ↦ no-l k ])
    | inr b ↦ elim (ℕ_discrete j b.at) [
      | yes q ↦ inl (inl (ap Timeout q ∙ sym b.is))
      | no q ↦ inr (λ m. elim m [ inl p ↦ q (inject j b.at (p ∙ b.is)) | inr k ↦ no-l k ])
    ]
  ]
]

record First (l : List Event) : Type 0 where
  at : ℕ
  earlier : List Event
  later : List Event
  parts : l ≡ later ++ (Timeout at ∷ earlier)
  none_before : NoTimeout earlier

first-timeout : (l : List Event) → NoTimeout l ⊎ First l
first-timeout [] = inl (λ i m. m)
first-timeout (e ∷ l) = elim (first-timeout l) [
  | inr r ↦ inr (record { at = r.at; earlier = r.earlier; later = e ∷ r.later; parts = ap (λ (x : List Event). e ∷ x) r.parts; none_before = r.none_before })
  | inl nb ↦ elim (which e) [
    | inr b ↦ inr (record { at = b.at; earlier = l; later = []; parts = ap (λ (x : Event). x ∷ l) b.is; none_before = nb })
    | inl q ↦ inl (λ i m. elim m [ inl p ↦ subst NotTimeout (sym p) q | inr k ↦ nb i k ])
  ]
]

in-later : (x e : Event) (later earlier : List Event) → In x earlier → In x (later ++ (e ∷ earlier))
in-later x e [] earlier m = inr m
in-later x e (y ∷ later) earlier m = inr (in-later x e later earlier m)

module _ (n f : ℕ) where
  -- no timeout of these is a second one
  abbrev NoSecond : List Event → Type 0
  NoSecond log = (i : ℕ) (earlier later : List Event) → log ≡ later ++ (Timeout i ∷ earlier) → Second n f i earlier → ⊥

  -- the statement's clean order, of a log
  pub record CleanOrder (log : List Event) : Type 0 where
    stops : (i : ℕ) → In (Stop i) log → ⊥
    pub votes : (i : ℕ) (earlier later : List Event) → log ≡ later ++ (Timeout i ∷ earlier) → NoTimeout earlier → VotesIn n f earlier
    pub acks : (i : ℕ) (earlier later : List Event) → log ≡ later ++ (Timeout i ∷ earlier) → Second n f i earlier → NoSecond earlier → AcksIn n f earlier

  second_dec : (j : ℕ) (l : List Event) → Second n f j l ⊎ (Second n f j l → ⊥)
  second_dec j l = elim (dec_le (suc (suc f)) j) [
    | yes h ↦ inl (inl h)
    | no h ↦ elim (in_dec j l) [ inl m ↦ inl (inr m) | inr q ↦ inr (λ s. elim s [ inl x ↦ h x | inr m ↦ q m ]) ]
  ]

  record FirstSecond (l : List Event) : Type 0 where
    at : ℕ
    earlier : List Event
    later : List Event
    parts : l ≡ later ++ (Timeout at ∷ earlier)
    sec : Second n f at earlier
    none_before : NoSecond earlier

  first-second : (l : List Event) → NoSecond l ⊎ FirstSecond l
  first-second [] = inl (λ i earlier later p s. nil_split (Timeout i) earlier later p)
  first-second (e ∷ l) = elim (first-second l) [
    | inr r ↦ inr (record { at = r.at; earlier = r.earlier; later = e ∷ r.later; parts = ap (λ (x : List Event). e ∷ x) r.parts; sec = r.sec; none_before = r.none_before })
    | inl ns ↦ elim (which e) [
      | inl q ↦ inl (λ i earlier later p s. calm q ns i earlier later p s)
      | inr b ↦ elim (second_dec b.at l) [
        | inl s ↦ inr (record { at = b.at; earlier = l; later = []; parts = ap (λ (x : Event). x ∷ l) b.is; sec = s; none_before = ns })
        | inr no-s ↦ inl (λ i earlier later p s. times-out b no-s ns i earlier later p s)
      ]
    ]
  ]
    where
      calm : NotTimeout e → NoSecond l → (i : ℕ) (earlier later : List Event) → (e ∷ l) ≡ later ++ (Timeout i ∷ earlier) → Second n f i earlier → ⊥
      calm q ns i earlier [] p s = subst NotTimeout (same_head e (Timeout i) l earlier p) q
      calm q ns i earlier (y ∷ later) p s = ns i earlier later (same_tail e y l _ p) s

      times-out : (b : IsTimeout e) → (Second n f b.at l → ⊥) → NoSecond l → (i : ℕ) (earlier later : List Event) → (e ∷ l) ≡ later ++ (Timeout i ∷ earlier) → Second n f i earlier → ⊥
      times-out b no-s ns i earlier [] p s =
          let z : Timeout i ≡ Timeout b.at = sym (same_head e (Timeout i) l earlier p) ∙ b.is in
          let k : i ≡ b.at = inject i b.at z in
          no-s (subst (λ (x : ℕ). Second n f x l) k (subst (Second n f i) (sym (same_tail e (Timeout i) l earlier p)) s))
      times-out b no-s ns i earlier (y ∷ later) p s = ns i earlier later (same_tail e y l _ p) s

  pub votes-more : (l earlier later : List Event) (e : Event) → l ≡ later ++ (e ∷ earlier) → VotesIn n f earlier → VotesIn n f l
  votes-more l earlier later e p v = subst (VotesIn n f) (sym p) (record {
    votes = λ k a b. let x : Voted n f earlier k = v.votes k a b in record { willing = x.willing; target = x.target; entry = in-later _ e later earlier x.entry };
    sent = λ i j a b c d r. in-later _ e later earlier (v.sent i j a b c d r);
  })

  pub acks-more : (l earlier later : List Event) (e : Event) → l ≡ later ++ (e ∷ earlier) → AcksIn n f earlier → AcksIn n f l
  acks-more l earlier later e p v = subst (AcksIn n f) (sym p) (record { sent = λ i j a b c d r. in-later _ e later earlier (v.sent i j a b c d r) })

  rest-clean : (e : Event) (log : List Event) → CleanOrder (e ∷ log) → CleanOrder log
  rest-clean e log c = record {
    stops = λ i m. c.stops i (inr m);
    votes = λ i earlier later p. c.votes i earlier (e ∷ later) (ap (λ (x : List Event). e ∷ x) p);
    acks = λ i earlier later p. c.acks i earlier (e ∷ later) (ap (λ (x : List Event). e ∷ x) p);
  }

  timeout-votes : (i : ℕ) (log : List Event) → CleanOrder (Timeout i ∷ log) → VotesIn n f log
  timeout-votes i log c = elim (first-timeout log) [
    | inl nb ↦ c.votes i log [] refl nb
    | inr r ↦ votes-more log r.earlier r.later (Timeout r.at) r.parts ((rest-clean (Timeout i) log c).votes r.at r.earlier r.later r.parts r.none_before)
  ]

  timeout-acks : (i : ℕ) (log : List Event) → CleanOrder (Timeout i ∷ log) → Second n f i log → AcksIn n f log
  timeout-acks i log c s = elim (first-second log) [
    | inl ns ↦ c.acks i log [] refl s ns
    | inr r ↦ acks-more log r.earlier r.later (Timeout r.at) r.parts ((rest-clean (Timeout i) log c).acks r.at r.earlier r.later r.parts r.sec r.none_before)
  ]

  one-step : (e : Event) (log : List Event) → CleanOrder (e ∷ log) → CleanStep n f e log
  one-step e log c = record {
    timeouts = λ i z. let d : CleanOrder (Timeout i ∷ log) = subst (λ x. CleanOrder (x ∷ log)) z c in (timeout-votes i log d, timeout-acks i log d);
    stops = λ i z. c.stops i (inl (sym z));
  }

  pub clean_by_steps : (log : List Event) → CleanOrder log → Clean n f log
  clean_by_steps [] c = tt
  clean_by_steps (e ∷ log) c = (clean_by_steps log (rest-clean e log c), one-step e log c)

  -- the statement's records, of the log at a moment
  votes-log : (es : List Event) → claim.VotesIn n f es → VotesIn n f (log_at es)
  votes-log es v = record {
    votes = λ k a b. let c : CastBy n f es k = v.cast k a b in record { willing = c.willing; target = c.target; entry = in-log es _ refl c.vote };
    sent = λ i j a b c d r. in-log es _ refl (v.delivered i j a b c d r);
  }

  acks-log : (es : List Event) → claim.AcksIn n f es → AcksIn n f (log_at es)
  acks-log es v = record { sent = λ i j a b c d r. in-log es _ refl (v.delivered i j a b c d r) }

  pub second_is : (es : List Event) (i : ℕ) → IsSecondTimeout n f es i → Second n f i (log_at es)
  second_is es i (inl h) = inl h
  second_is es i (inr t) = inr (in-log es (Timeout i) refl t)

  pub log-second : (es : List Event) (i : ℕ) → Second n f i (log_at es) → IsSecondTimeout n f es i
  log-second es i (inl h) = inl h
  log-second es i (inr m) = inr (in_order es (Timeout i) m)

  pub clean-log : (es : List Event) → claim.Clean n f es → CleanOrder (log_at es)
  clean-log es c = record {
    stops = λ i m. c.no_stop i (in_order es (Stop i) m);
    votes = λ i earlier later p nb. let t : Placed es (Timeout i) earlier = placed es (Timeout i) earlier later p in
        subst (VotesIn n f) t.was (votes-log t.event.before (c.votes-first i t.event (λ j u. nb j (subst (In (Timeout j)) t.was (in-log t.event.before (Timeout j) refl u)))));
    acks = λ i earlier later p s ns. let t : Placed es (Timeout i) earlier = placed es (Timeout i) earlier later p in
        subst (AcksIn n f) t.was (acks-log t.event.before (c.acks-first i t.event (log-second t.event.before i (subst (Second n f i) (sym t.was) s))
        (λ j u v. let k : Stands t.event.before (Timeout j) u.before = stands t.event.before (Timeout j) refl u in
        ns j (log_at u.before) k.later (sym t.was ∙ k.is) (second_is u.before j v))));
  }
