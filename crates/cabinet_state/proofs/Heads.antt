-- A head, and what is kept of ballots, by their parts.
use Prim.Native.Nat.{ℕ}
use mathlib.Core.Path.{◌≡◌}
use Rattle.cabinet_state.specs.declared.Cabinet.{Cabinet}
use Rattle.cabinet_state.specs.Words.{head_from, ballots_from}

pub same_head : (s : Cabinet) {n f id own tag phase o cnt help waiting proposal n' f' id' own' tag' phase' o' cnt' help' waiting' proposal' : ℕ}
    → n ≡ n' → f ≡ f' → id ≡ id' → own ≡ own' → tag ≡ tag' → phase ≡ phase' → o ≡ o' → cnt ≡ cnt' → help ≡ help' → waiting ≡ waiting' → proposal ≡ proposal'
    → head_from n f id own tag phase o cnt help waiting proposal s ≡ head_from n' f' id' own' tag' phase' o' cnt' help' waiting' proposal' s
same_head s e0 e1 e2 e3 e4 e5 e6 e7 e8 e9 e10 = cc

pub same-ballots : {a b c d e f g h i j k l m a' b' c' d' e' f' g' h' i' j' k' l' m' : ℕ}
    → a ≡ a' → b ≡ b' → c ≡ c' → d ≡ d' → e ≡ e' → f ≡ f' → g ≡ g' → h ≡ h' → i ≡ i' → j ≡ j' → k ≡ k' → l ≡ l' → m ≡ m'
    → ballots_from a b c d e f g h i j k l m ≡ ballots_from a' b' c' d' e' f' g' h' i' j' k' l' m'
same-ballots e0 e1 e2 e3 e4 e5 e6 e7 e8 e9 e10 e11 e12 = cc
