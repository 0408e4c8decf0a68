-- Laws of a sheet in pieces: the lockages of two pieces are those of the first and then those of the second.
use Prim.Native.Nat.{ℕ, zero, suc, ◌+◌, ◌*◌, ◌%◌, ◌≤◌, ◌<◌}
use Rattle.std.specs.Prelude.{◌≡◌, Err, Bool, true, false, cond, ◌&&◌, List, [], ◌∷◌, ◌++◌, leb, length}
use Rattle.std.proofs.Math.Path.{refl}
use Rattle.std.proofs.Common.{sym, ◌∙◌, ap, append_assoc, append-nil, add-suc, add-zero, arith, length-append, get_or-append-add}
use Rattle.std.proofs.lemmas.Bool.{lt-leb}
use Rattle.std.proofs.Math.ListN.{get_or-append}
use Rattle.model.specs.Questions.{accepted, first_no, unless}
use Rattle.records.specs.Bytes.{byte}
use Rattle.tariff.specs.declared.Shares.{Shares}
use Rattle.dues.specs.declared.Lockage.{Lockage}
use Rattle.dues.specs.Sheet.{lockage_at, lockages_to, count, lockages, every, listed, in_range, whole, questions, totals, answered, dues_for}
use Rattle.dues.specs.Pieces.{piece_length, nothing_kept, kept_of, long_dues, last_answer, joined, EachWhole, InPieces}

every_both : (p : Lockage → Bool) (xs ys : List Lockage) → every p (xs ++ ys) ≡ (every p xs && every p ys)
unfolding every
every_both p [] ys = refl
every_both p (x ∷ xs) ys = rw (every_both p xs ys) (grouped (p x) (every p xs) (every p ys))
  where
    grouped : (a b c : Bool) → (a && (b && c)) ≡ ((a && b) && c)
    grouped true b c = refl
    grouped false b c = refl

module _ (a b : List ℕ) where
  byte-first : (i : ℕ) → i < length a → byte (a ++ b) i ≡ byte a i
  byte-first i h = get_or-append a b 0 i h

  byte-second : (i j : ℕ) → j ≡ length a + i → byte (a ++ b) j ≡ byte b i
  byte-second i j e = ap (λ (k : ℕ). byte (a ++ b) k) e ∙ get_or-append-add a b i 0

  -- a lockage within the first piece, and one of the second
  at_first : (at : ℕ) → at + 4 ≤ length a → lockage_at (a ++ b) at ≡ lockage_at a at
  unfolding lockage_at
  at_first at h =
      rw (byte-first at (omega arith), byte-first (at + 1) (omega arith), byte-first (at + 2) (omega arith), byte-first (at + 3) (omega arith))

  at_second : (at j : ℕ) → j ≡ length a + at → lockage_at (a ++ b) j ≡ lockage_at b at
  unfolding lockage_at
  at_second at j e =
      rw (byte-second at j e, byte-second (at + 1) (j + 1) (omega arith), byte-second (at + 2) (j + 2) (omega arith), byte-second (at + 3) (j + 3) (omega arith))

  firsts : (k : ℕ) → k * 4 ≤ length a → lockages_to (a ++ b) k ≡ lockages_to a k
  unfolding lockages_to
  firsts zero h = refl
  firsts (suc k) h = rw (firsts k (omega arith), at_first (k * 4) (omega arith))

  seconds : (m k : ℕ) → length a ≡ m * 4 → lockages_to (a ++ b) (m + k) ≡ lockages_to a m ++ lockages_to b k
  unfolding lockages_to
  seconds m zero e = rw (add-zero, append-nil) (firsts m (omega arith))
  seconds m (suc k) e = rw (add-suc, seconds m k e, at_second (k * 4) ((m + k) * 4) (omega arith), append_assoc)

  module _ (w : length a % 4 ≡ 0) where
    count_both : count (a ++ b) ≡ count a + count b
    count_both = rw (length-append a b) (omega arith)

    lockages_both : lockages (a ++ b) ≡ lockages a ++ lockages b
    lockages_both = rw count_both (seconds (count a) (count b) (omega arith))

    listed_both : every listed (lockages (a ++ b)) ≡ (every listed (lockages a) && every listed (lockages b))
    listed_both = rw lockages_both (every_both listed (lockages a) (lockages b))

    whole_both : whole (a ++ b) ≡ whole b
    whole_both =
        let e : length (a ++ b) % 4 ≡ length b % 4 = rw (length-append a b) (omega arith) in
        rw e

-- the three questions of a sheet with more than 1,000 lockages
three : (w l rest : Bool) (t : Shares) → cond w (cond l (Err 22) (Err 3)) (Err 1) ≡ answered (unless 1 w (unless 3 l (unless 22 (false && rest) accepted))) t
unfolding unless
three true true rest t = refl
three true false rest t = refl
three false l rest t = refl

-- Of the bytes before, which are whole lockages and more than 1,000, it is known whether all are listed.
record Known (before : List ℕ) (all : Bool) : Type 0 where
  pieces : length before % 4 ≡ 0
  many : 1000 < count before
  answer : all ≡ every listed (lockages before)

known-first : (s : List ℕ) → length s ≡ piece_length → Known s (every listed (lockages s))
known-first s h = record { pieces = rw h; many = rw h (omega arith); answer = refl }

module _ (before s : List ℕ) (all : Bool) (k : Known before all) where
  known_next : length s ≡ piece_length → Known (before ++ s) (all && every listed (lockages s))
  known_next h = record {
    pieces = rw (length-append before s) (omega (arith, k.pieces));
    many = rw (count_both before s k.pieces) (omega (arith, k.many));
    answer = rw k.answer (sym (listed_both before s k.pieces));
  }

  too_many : leb (count (before ++ s)) 1000 ≡ false
  too_many = lt-leb (count (before ++ s)) 1000 (rw (count_both before s k.pieces) (omega (arith, k.many)))

  known-last : long_dues all s ≡ dues_for (before ++ s)
  unfolding long_dues dues_for questions first_no
  known-last =
      rw (whole_both before s k.pieces, listed_both before s k.pieces, ← k.answer, too_many)
      (three (whole s) (all && every listed (lockages s)) (every in_range (lockages (before ++ s))) (totals (lockages (before ++ s))))

-- after some pieces, more of them, and the last
after-some : (pieces : List (List ℕ)) (before last : List ℕ) (all : Bool) → Known before all → EachWhole pieces
    → last_answer (kept_of (record { some = true; listed = all }) pieces) last ≡ dues_for (before ++ (joined pieces ++ last))
unfolding kept_of joined last_answer
after-some [] before last all k w = known-last before last all k
after-some (s ∷ pieces) before last all k w =
    after-some pieces (before ++ s) last (all && every listed (lockages s)) (known_next before s all k w.0) w.1
    ∙ ap dues_for (append_assoc before s (joined pieces ++ last) ∙ ap (λ (x : List ℕ). before ++ x) (sym (append_assoc s (joined pieces) last)))

answer_in : (pieces : List (List ℕ)) (last : List ℕ) → EachWhole pieces → last_answer (kept_of nothing_kept pieces) last ≡ dues_for (joined pieces ++ last)
unfolding kept_of joined last_answer
answer_in [] last w = refl
answer_in (s ∷ pieces) last w =
    after-some pieces s last (every listed (lockages s)) (known-first s w.0) w.1
    ∙ ap dues_for (sym (append_assoc s (joined pieces) last))

pub in_pieces : InPieces
in_pieces = record { answer = answer_in }
