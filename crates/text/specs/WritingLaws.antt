-- Laws of writers: nothing written, one byte, one text after another, lines; and a text that fits its buffer or does not.
use Rattle.std.specs.Prelude.{ℕ, suc, ◌+◌, ◌≤◌, ◌<◌, min, true, false, ◌⊎◌, ◌≡◌, refl, leb, set, take, replicate}
use mathlib.Core.List.{List, [], ◌∷◌, ◌++◌}
use Rattle.std.proofs.Common.{inl, inr, sym, ◌∙◌, ap, zero-add, add-zero, add-suc, suc-add, add-one, arith, length-append, length-drop, length-take-le}
use borrow.Author.Tests.{le-leb, lt-leb, leb-true, leb-false}
use Rattle.std.proofs.Math.ListN.{length, drop}
use Rattle.std.proofs.lemmas.List.{length-replicate}
use Rattle.std.proofs.lemmas.List.Edits.{sets, sets-eq}
use Rattle.std.proofs.Math.Seq.{set_out, length-sets, take-append_seam}
use Rattle.ground.specs.Tests.{by_cond, split}
use Rattle.text.specs.Text.{lines}
use Rattle.text.specs.Writing.{Put, fitted, fitted_length, line_to, Rendered, highest}

sets_then : (s t l : List ℕ) (i : ℕ) → sets (sets l i s) (i + length s) t ≡ sets l i (s ++ t)
sets_then [] t l i = rw add-zero
sets_then (a ∷ s) t l i = rw (add-suc, ← suc-add) (sets_then s t (set l i a) (suc i))

-- past the buffer's end nothing is stored
sets-past : (t l : List ℕ) (i : ℕ) → length l ≤ i → sets l i t ≡ l
sets-past [] l i h = refl
sets-past (a ∷ t) l i h = rw (set_out l i a h) (sets-past t l (suc i) (omega arith))

-- one text after another, the second from the index that the first writer answered
sets-next : (s t l : List ℕ) (i j : ℕ) → j ≡ min (i + length s) highest → length l ≤ highest → sets (sets l i s) j t ≡ sets l i (s ++ t)
sets-next s t l i j e h = go (split (leb (i + length s) highest))
  where
    go : (leb (i + length s) highest ≡ true) ⊎ (leb (i + length s) highest ≡ false) → sets (sets l i s) j t ≡ sets l i (s ++ t)
    go (inl y) =
        let k : i + length s ≤ highest = leb-true _ _ y in
        let f : j ≡ i + length s = omega arith in
        rw f (sets_then s t l i)
    go (inr n) =
        let k : highest < i + length s = leb-false _ _ n in
        let m : length (sets l i s) ≤ j = rw (length-sets l i s) (omega arith) in
        let m' : length (sets l i s) ≤ i + length s = rw (length-sets l i s) (omega arith) in
        sets-past t (sets l i s) j m ∙ sym (sets-past t (sets l i s) (i + length s) m') ∙ sets_then s t l i

module _ {l m : List ℕ} {i j : ℕ} where
  pub put-length : {s : List ℕ} → Put l m i j s → length m ≡ length l
  put-length {s} p = ap length p.bytes ∙ length-sets l i s

  -- the text in other words
  pub put-text : {s t : List ℕ} → Put l m i j s → s ≡ t → Put l m i j t
  put-text p e = rw e at p

  pub put_then : {n : List ℕ} {k : ℕ} {s t : List ℕ} → Put l m i j s → Put m n j k t → Put l n i k (s ++ t)
  put_then {n} {k} {s} {t} p q = record {
    bytes = q.bytes ∙ ap (λ (x : List ℕ). sets x j t) p.bytes ∙ sets-next s t l i j p.place p.buffer;
    place = rw (length-append s t) (omega (arith, p.place, q.place));
    buffer = p.buffer;
  }

-- a byte, and one past the buffer's end
pub put_one : (l : List ℕ) (i a : ℕ) → i < length l → length l ≤ highest → Put l (set l i a) i (i + 1) (a ∷ [])
put_one l i a h b = record { bytes = refl; place = omega arith; buffer = b }

pub put-past : (l : List ℕ) (i j a : ℕ) → length l ≤ i → j ≡ min (i + 1) highest → length l ≤ highest → Put l l i j (a ∷ [])
put-past l i j a h e b = record { bytes = sym (set_out l i a h); place = e; buffer = b }

-- nothing
pub put-nothing : (l : List ℕ) (i : ℕ) → i ≤ highest → length l ≤ highest → Put l l i i []
put-nothing l i h b = record { bytes = refl; place = omega arith; buffer = b }

-- lines: none of them, and one more
pub put-none : (l : List ℕ) (i : ℕ) (at : ℕ → List ℕ) → i ≤ highest → length l ≤ highest → Put l l i i (lines 0 at)
unfolding lines
put-none l i at h b = put-nothing l i h b

pub put-line : {l m n : List ℕ} {i j k : ℕ} (h : ℕ) (at : ℕ → List ℕ) → Put l m i j (lines h at) → Put m n j k (at h) → Put l n i k (lines (h + 1) at)
unfolding lines
put-line h at p q = rw add-one (put_then p q)

-- so many of them
pub put-lines : {l m : List ℕ} {i j : ℕ} {h n : ℕ} (at : ℕ → List ℕ) → h ≡ n → Put l m i j (lines h at) → Put l m i j (lines n at)
put-lines at e p = rw e at p

-- a text in a buffer of no bytes: the answer is its length
pub measured : {l m : List ℕ} {r : ℕ} {text : List ℕ} → length text ≤ highest → Put l m 0 r text → r ≡ length text
measured {l} {m} {r} {text} h p = let e : 0 + length text ≡ length text = zero-add (length text) in omega (arith, p.place)

-- a text at the front of a buffer that holds it
front : (t l : List ℕ) → length t ≤ length l → sets l 0 t ≡ t ++ drop (length t) l
front t l h = let e : 0 + length t ≤ length l = omega arith in sets-eq t l 0 e ∙ rw zero-add

-- the empty text changes no buffer
pub fitted-nothing : (out : List ℕ) → (0 ≡ fitted_length [] out) × (out ≡ fitted [] out)
unfolding fitted fitted_length
fitted-nothing out = rw (le-leb 0 (length out) (omega arith)) (refl, refl)

-- what was written of a text was written of an equal one
pub same-fitted : {x y after : List ℕ} {r : ℕ} (out : List ℕ) → x ≡ y → (r ≡ fitted_length x out) × (after ≡ fitted x out) → (r ≡ fitted_length y out) × (after ≡ fitted y out)
same-fitted out e w = (w.0 ∙ ap (λ (z : List ℕ). fitted_length z out) e, w.1 ∙ ap (λ (z : List ℕ). fitted z out) e)

module _ (text out : List ℕ) where
  pub nothing-fitted : length out < length text → (0 ≡ fitted_length text out) × (out ≡ fitted text out)
  unfolding fitted fitted_length
  nothing-fitted h = rw (lt-leb (length text) (length out) h) (refl, refl)

  pub all-fitted : {after : List ℕ} {r : ℕ} → length text ≤ length out → Put out after 0 r text → (r ≡ fitted_length text out) × (after ≡ fitted text out)
  unfolding fitted fitted_length
  all-fitted h p = let e = measured (omega (arith, p.buffer)) p in rw (le-leb (length text) (length out) h) (e, p.bytes ∙ front text out h)

  -- what is written lies within the buffer
  fits : fitted_length text out ≤ length out
  unfolding fitted_length
  fits = by_cond (λ (n : ℕ). n ≤ length out) (leb (length text) (length out)) (length text) 0 (λ h. leb-true _ _ h) (λ _. omega arith)

  within-buffer : (r : ℕ) (after : List ℕ) → r ≡ fitted_length text out → length after ≡ length out → r ≤ length after
  within-buffer r after e l = omega (arith, fits)

  same_length : length (fitted text out) ≡ length out
  unfolding fitted
  same_length =
      by_cond (λ (l : List ℕ). length l ≡ length out) (leb (length text) (length out)) (text ++ drop (length text) out) out
      (λ h. let k : length text ≤ length out = leb-true _ _ h in simp (length-append, length-drop) (omega arith))
      (λ _. refl)

  pub rendered : {after : List ℕ} {r : ℕ} → (r ≡ fitted_length text out) × (after ≡ fitted text out) → Rendered text out after r
  rendered {after} {r} w =
      let k : r ≤ length after = within-buffer r after w.0 (ap length w.1 ∙ same_length) in
      (w.0, w.1, k, sym (length-take-le r after k))

  -- a buffer that is long enough gets the text
  pub fitted-whole : length text ≤ length out → (fitted_length text out ≡ length text) × (fitted text out ≡ text ++ drop (length text) out)
  unfolding fitted fitted_length
  fitted-whole h = rw (le-leb (length text) (length out) h) (refl, refl)

-- a text that was put at the front of a long enough buffer, read back
pub read-front : {l m : List ℕ} {r : ℕ} {text : List ℕ} → length text ≤ length l → Put l m 0 r text → (r ≡ length text) × (take r m ≡ text)
read-front {l} {m} {r} {text} h p =
    let e : r ≡ length text = measured (omega (arith, p.buffer)) p in
    (e, rw (e, p.bytes, front text l h) (take-append_seam text (drop (length text) l)))

-- the same of an array of its own: a line that is made there is the text that was put
pub line-put : (text : List ℕ) {line : List ℕ} {end : ℕ} → length text ≤ 22 → Put (replicate 22 0) line 0 end text → line_to line end ≡ text
unfolding line_to
line-put text {line} {end} h p =
    let l : length (replicate {A = ℕ} 22 0) ≡ 22 = length-replicate {A = ℕ} 22 0 in
    let w = read-front (omega (arith, l)) p in
    rw (le-leb end 22 (omega (arith, w.0))) w.1

-- the same of the buffer and the place under other names
pub put-moved : {l l' m m' : List ℕ} {i i' j : ℕ} {t : List ℕ} → l ≡ l' → m ≡ m' → i ≡ i' → Put l m i j t → Put l' m' i' j t
put-moved e f g p = rw (e, f, g) at p
