-- `KeptCheckpoints`: of the events that are accepted a save alone changes a checkpoint, and its own controller's. By what each event does to the view
-- (view/Performed), then along the list.
use Prim.Native.Nat.{ℕ}
use mathlib.Core.Path.{◌≡◌, refl, sym, ◌∙◌, ap, subst}
use mathlib.Core.Bool.{true, false, ◌&&◌}
use mathlib.Core.List.{List, [], ◌∷◌, ◌++◌}
use mathlib.Core.Logic.{inl, inr}
use lib.Dec.{eqb}
use borrow.Author.Tests.{ne_eqb}
use Rattle.ground.specs.Tests.{no_both, split, or_no_l, or_no_r, eqb_same}
use Rattle.ground.specs.Update.{upd_same, upd_other}
use Rattle.model.specs.declared.Event.{Event}
use Rattle.model.specs.declared.Event.TheVariants.{Save}
use Rattle.protocol.specs.declared.Bench.{Bench}
use Rattle.protocol.specs.Benches.{new_bench}
use Rattle.protocol.specs.Questions.{is_accepted, reply}
use Rattle.protocol.specs.Steps.{renewed, step, run}
use Rattle.protocol.specs.Claim.{after}
use Rattle.protocol.specs.KeptCheckpoints.{saves_at, saves_any, checkpoint_in, as_shown, KeptCheckpoints}
use Rattle.protocol.proofs.view.View.{View, ballots_v, opened_v}
use Rattle.protocol.proofs.view.Performed.{commit_v, chosen, saved_v, perform_v, by-effect}
use Rattle.protocol.proofs.view.Simulation.{view, Sound, step-performs}
use Rattle.protocol.proofs.lists.Moments.{accepted-is, run-append, run-one, run-cons, refused-step}
use Rattle.protocol.proofs.lists.Start.{freshes, new_refuses}
use Rattle.protocol.proofs.lists.Reach.{Reached, new-step, step-reached, reached}
use Rattle.std.specs.Prelude.{Some}

module _ (b : Bench) (a : Sound b) where
  abbrev n : ℕ
  n = b.shared.n

  abbrev f : ℕ
  f = b.shared.f

  as-view : (e : Event) (i : ℕ) → is_accepted (reply b e) ≡ true → checkpoint_in (step b e) i ≡ (perform_v n f (view b) e).saved i
  as-view e i q = unfold view in ap (λ (v : View). v.saved i) (step-performs b a e q)

  kept_by : (e : Event) (i : ℕ) → is_accepted (reply b e) ≡ true → saves_at i b e ≡ false → (perform_v n f (view b) e).saved i ≡ checkpoint_in b i
  unfolding commit_v view
  kept_by e i q s = by-effect n f (view b) (λ e v. is_accepted (reply b e) ≡ true → saves_at i b e ≡ false → v.saved i ≡ checkpoint_in b i)
      (λ a c own q s. refl) (λ o q s. unfold opened_v renewed in refl) (λ e c q s. refl) (λ j w q s. unfold chosen in refl)
      (λ j q s. unfold saved_v in upd_other (view b).saved j _ i (ne_eqb i j (λ z. no_both _ (saved j q z) s))) (λ e q s. unfold ballots_v in refl) e q s
    where
      saved : (j : ℕ) → is_accepted (reply b (Save j)) ≡ true → i ≡ j → (eqb j i && is_accepted (reply b (Save j))) ≡ true
      saved j q z = rw (z, q) (ap (λ t. t && true) (eqb_same j))

  -- a save makes what is shown
  made : (i : ℕ) → is_accepted (reply b (Save i)) ≡ true → checkpoint_in (step b (Save i)) i ≡ Some (as_shown b i)
  made i q = as-view (Save i) i q ∙ (unfold perform_v saved_v view in upd_same (view b).saved i _)

-- another event leaves the checkpoint
step_kept : (b : Bench) (e : Event) (i : ℕ) → Reached b → saves_at i b e ≡ false → checkpoint_in (step b e) i ≡ checkpoint_in b i
step_kept b e i (inl z) s = subst (λ (x : Bench). checkpoint_in (step x e) i ≡ checkpoint_in x i) (sym z) (elim (new-step e) [
  | inl y ↦ ap (λ (x : Bench). checkpoint_in x i) y
  | inr l ↦ ap (λ (x : Bench). checkpoint_in x i) l.is ∙ (freshes true l.n l.f l.own i).saved ∙ sym (freshes false 0 0 false i).saved
])
step_kept b e i (inr a) s = elim (split (is_accepted (reply b e))) [
  | inl q ↦ as-view b a e i q ∙ kept_by b a e i q s
  | inr q ↦ ap (λ (x : Bench). checkpoint_in x i) (refused-step b e q)
]

run-kept : (es : List Event) (b : Bench) (i : ℕ) → Reached b → saves_any i b es ≡ false → checkpoint_in (run b es) i ≡ checkpoint_in b i
unfolding run saves_any
run-kept [] b i r s = refl
run-kept (e ∷ es) b i r s = run-kept es (step b e) i (step-reached b e r) (or_no_r (saves_at i b e) _ s) ∙ step_kept b e i r (or_no_l (saves_at i b e) _ s)

-- an accepted save is made with a lock
made_at : (b : Bench) (i : ℕ) → Reached b → is_accepted (reply b (Save i)) ≡ true → checkpoint_in (step b (Save i)) i ≡ Some (as_shown b i)
made_at b i (inl z) q = absurd (new_refuses (Save i) refl (ap (λ (x : Bench). is_accepted (reply x (Save i))) (sym z) ∙ q))
made_at b i (inr a) q = made b a i q

pub kept-checkpoints : KeptCheckpoints
kept-checkpoints = record {
  newest = λ es more i q s.
      let b : Bench = after es in
      let now : after (es ++ (Save i ∷ [])) ≡ step b (Save i) = run-append es (Save i ∷ []) new_bench ∙ run-one (Save i) b in
      ap (λ (x : Bench). checkpoint_in x i) (run-append es (Save i ∷ more) new_bench ∙ run-cons (Save i) more b)
      ∙ run-kept more (step b (Save i)) i (step-reached b (Save i) (reached es)) (ap (λ (x : Bench). saves_any i x more) (sym now) ∙ s)
      ∙ made_at b i (reached es) (accepted-is _ q);
  none = λ es i s. run-kept es new_bench i (inl refl) s ∙ (freshes false 0 0 false i).saved;
}
