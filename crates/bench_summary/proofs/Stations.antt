-- Beyond the last of the bench's stations stands one that has sent nothing.
use Prim.Native.Nat.{ℕ, suc, ◌≤◌, ◌<◌}
use mathlib.Core.Bool.{cond}
use mathlib.Core.List.{List, []}
use mathlib.Core.Logic.{inl, inr}
use mathlib.Core.Path.{◌≡◌, refl, sym, ◌∙◌, ap}
use lib.Dec.{ltb}
use borrow.Author.Tests.{ltb-true, ltb-false}
use lib.ListN.{length, get_or, get_or-eq_default}
use Rattle.ground.specs.Limit.{limit}
use Rattle.ground.specs.Tests.{split}
use Rattle.ground.specs.Lists.{nth}
use Rattle.model.specs.declared.Kind.{Kind}
use Rattle.model.specs.declared.Kind.TheVariants.{Vote, Ack, Help, Helped}
use Rattle.protocol.specs.declared.Station.{Station}
use Rattle.protocol.specs.Benches.{fresh_station, unsent_all, of_kind}

nothing-sent : (kind : Kind) → 0 ≡ (of_kind kind (fresh_station []).sent).to
unfolding fresh_station unsent_all
nothing-sent Vote = refl
nothing-sent Ack = refl
nothing-sent Help = refl
nothing-sent Helped = refl

module _ (l : List Station) (i : ℕ) (h : length l ≤ i) where
  past : nth (fresh_station []) l (suc i) ≡ fresh_station []
  unfolding nth
  past = get_or-eq_default l (fresh_station []) h

  sent-past : (kind : Kind) → 0 ≡ (of_kind kind (nth (fresh_station []) l (suc i)).sent).to
  sent-past kind = nothing-sent kind ∙ ap (λ (s : Station). (of_kind kind s.sent).to) (sym past)

-- what the code reads at an index, or finds past the last station, is what the definitions read
pub sent-at : (l : List Station) (kind : Kind) (i at : ℕ) → length l ≡ limit → (i < limit → at ≡ i)
    → cond (ltb i limit) (of_kind kind (get_or l at (fresh_station [])).sent).to 0 ≡ (of_kind kind (nth (fresh_station []) l (suc i)).sent).to
unfolding nth
sent-at l kind i at h e = elim (split (ltb i limit)) [
  | inl y ↦ rw (y, e (ltb-true i limit y))
  | inr n ↦ rw n (sent-past l i (rw h (ltb-false i limit n)) kind)
]
