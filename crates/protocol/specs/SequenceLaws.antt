-- Laws of the sequence of messages: how many members a set has, which is the k-th, and the k-th message of one list after another; and whatever
-- equals the definition's k-th message is what is promised of it.
use Rattle.std.specs.Prelude.{ℕ, zero, suc, ◌+◌, ◌-◌, ◌≤◌, ◌<◌, ◌≡◌, refl, Bool, true, false, cond, ◌⊎◌, take, drop, get_or, slice_get, Option, Some, None, option_map, option_to_list}
use Rattle.std.proofs.Common.{◌∙◌, ap, inl, inr, length-append}
use mathlib.Core.List.{List, [], ◌∷◌, ◌++◌, map}
use native.Mathlib.Omega.{arith}
use Rattle.std.proofs.Math.Decide.{dec_le, ℕ_discrete}
use Rattle.std.proofs.Math.ListN.{length, get_or-append}
use Rattle.std.proofs.Math.Seq.{get_or-append_seam}
use Rattle.ground.specs.Tests.{split}
use Rattle.ground.specs.Quantify.{count_to}
use Rattle.ground.specs.Mask.{has}
use Rattle.model.specs.declared.Message.{Message}
use Rattle.protocol.specs.declared.Identity.{Identity}
use Rattle.protocol.specs.declared.Sends.{Sends}
use Rattle.model.specs.declared.BallotMessage.{BallotMessage}
use Rattle.protocol.specs.declared.BallotAnswer.{BallotAnswer}
use Rattle.protocol.specs.Sequence.{members, messages_of, to_send_number, NthMessageOf}
use Rattle.protocol.specs.BallotCalls.{ballot_messages, NthBallotMessageOf}
use Rattle.std.proofs.lemmas.Option.{slice_get-map, slice_get-get_or, slice_get_past}

-- as many members as the set has of 1 to m
pub members-size : (m set : ℕ) → length (members m set) ≡ count_to m (has set)
unfolding members count_to
members-size zero set = refl
members-size (suc m) set = length-append (members m set) (cond (has set (suc m)) (suc m ∷ []) []) ∙ one (split (has set (suc m))) (members-size m set)
  where
    one : (has set (suc m) ≡ true) ⊎ (has set (suc m) ≡ false) → length (members m set) ≡ count_to m (has set)
        → length (members m set) + length (cond (has set (suc m)) (suc m ∷ []) []) ≡ cond (has set (suc m)) 1 0 + count_to m (has set)
    one (inl e) h = rw e (omega arith)
    one (inr e) h = rw e (omega arith)

count-up : (a b : ℕ) (p : ℕ → Bool) → a ≤ b → count_to a p ≤ count_to b p
unfolding count_to
count-up a zero p h = let z : a ≡ 0 = omega arith in rw z (omega arith)
count-up a (suc b) p h = elim (ℕ_discrete a (suc b)) [
  | yes q ↦ rw q (omega arith)
  | no q ↦ omega (arith, count-up a b p (omega arith))
]

-- the k-th member, from 0 on, is the first number up to which there are more than k
pub member-at : (n set k at : ℕ) → suc at ≤ n → count_to at (has set) ≤ k → k < count_to (suc at) (has set) → get_or (members n set) k 0 ≡ suc at
unfolding members
member-at zero set k at h low high = absurd (omega arith)
member-at (suc n) set k at h low high = elim (dec_le (suc at) n) [
  | yes q ↦ let up : count_to (suc at) (has set) ≤ count_to n (has set) = count-up (suc at) n (has set) q in
      let size : length (members n set) ≡ count_to n (has set) = members-size n set in
      get_or-append (members n set) (cond (has set (suc n)) (suc n ∷ []) []) 0 k (omega arith) ∙ member-at n set k at q low high
  | no q ↦ let e : at ≡ n = omega arith in rw e (last (split (has set (suc n))) (rw e at low) (rw e at high))
]
  where
    last : (has set (suc n) ≡ true) ⊎ (has set (suc n) ≡ false) → count_to n (has set) ≤ k → k < count_to (suc n) (has set)
        → get_or (members n set ++ cond (has set (suc n)) (suc n ∷ []) []) k 0 ≡ suc n
    last (inl e) lo hi = unfold count_to in
        let hi' : k < 1 + count_to n (has set) = (rw e at hi) in
        let size : length (members n set) ≡ count_to n (has set) = members-size n set in
        let k-is : k ≡ length (members n set) = omega arith in
        rw (e, k-is) (get_or-append_seam (members n set) (suc n) [] 0)
    last (inr e) lo hi = unfold count_to in let hi' : k < 0 + count_to n (has set) = (rw e at hi) in absurd (omega arith)

-- the k-th of two lists, one after the other
pub nth_in : {A : Type 0} (xs ys : List A) (k : ℕ) → k < length xs → slice_get (xs ++ ys) k ≡ slice_get xs k
nth_in [] ys k h = absurd (omega arith)
nth_in (x ∷ xs) ys zero h = refl
nth_in (x ∷ xs) ys (suc k) h = nth_in xs ys k (omega arith)

pub nth_past : {A : Type 0} (xs ys : List A) (k : ℕ) → length xs ≤ k → slice_get (xs ++ ys) k ≡ slice_get ys (k - length xs)
nth_past [] ys k h = ap (slice_get ys) (omega arith)
nth_past (x ∷ xs) ys zero h = absurd (omega arith)
nth_past (x ∷ xs) ys (suc k) h = nth_past xs ys k (omega arith) ∙ ap (slice_get ys) (omega arith)

-- the k-th of a list of messages to members; past the last there is none
pub nth-map : {A : Type 0} (g : ℕ → A) (xs : List ℕ) (k : ℕ) → k < length xs → slice_get (map g xs) k ≡ Some (g (get_or xs k 0))
nth-map g xs k h = slice_get-map g xs k ∙ ap (option_map g) (slice_get-get_or xs k 0 h)

pub nth_end : {A : Type 0} (g : ℕ → A) (xs : List ℕ) (k : ℕ) → length xs ≤ k → slice_get (map g xs) k ≡ None
nth_end g xs k h = slice_get-map g xs k ∙ ap (option_map g) (slice_get_past xs k h)

number_of : (r : Option Message) → to_send_number r ≡ 0
number_of None = refl
number_of (Some m) = refl

-- as values, it is one or none
values_of : {A : Type 0} (xs : List A) (k : ℕ) → option_to_list (slice_get xs k) ≡ take 1 (drop k xs)
values_of [] zero = refl
values_of [] (suc k) = refl
values_of (x ∷ xs) zero = refl
values_of (x ∷ xs) (suc k) = values_of xs k

pub nth-message-of : (me : Identity) (sends : Sends) (k : ℕ) (r : Option Message) → r ≡ slice_get (messages_of me sends) k → NthMessageOf me sends k r
nth-message-of me sends k r e = rw e (record { answer = refl; number = number_of (slice_get (messages_of me sends) k); values = values_of (messages_of me sends) k })

pub nth-ballot-message-of : (me : Identity) (b : ℕ) (x : BallotAnswer) (k : ℕ) (r : Option BallotMessage) → r ≡ slice_get (ballot_messages me b x) k → NthBallotMessageOf me b x k r
nth-ballot-message-of me b x k r e = rw e (record { answer = refl; values = values_of (ballot_messages me b x) k })
