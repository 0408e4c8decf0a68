-- Laws of lines and words: a run goes on or stops; pieces and words one after the other, as they are met along a text.
use Prim.Native.Nat.{ℕ, zero, suc, ◌+◌, ◌-◌, ◌≤◌, ◌<◌}
use Rattle.std.specs.Prelude.{◌≡◌, Bool, true, false, not, ◌&&◌, eqb, take, get_or, bytes_eq}
use Rattle.std.proofs.Math.Path.{refl, sym, ap}
use Rattle.std.proofs.Common.{◌∙◌, add-zero, add-one, eq-eqb, ne_eqb, drop_of_length-le, length-drop, take_all, drop-cons, get_or-drop}
use mathlib.Core.List.{List, [], ◌∷◌}
use Rattle.std.proofs.Math.Logic.{inl, inr}
use native.Mathlib.Omega.{arith}
use Rattle.std.proofs.Math.Decide.{dec_lt}
use Rattle.std.proofs.Math.ListN.{length, drop}
use Rattle.std.proofs.Math.Seq.{drop-drop, drop-length}
use Rattle.ground.specs.Tests.{split}
use Rattle.words.specs.Words.{belongs, run, pieces, not_empty, words_of, end_of_run, part, span_at, Next, past, nth_span, nth_word}
use Rattle.words.specs.declared.Class.{Class}
use Rattle.words.specs.declared.Class.TheVariants.{Gap, Word}
use Rattle.words.specs.declared.Span.{Span}

module _ (c : Class) where
  pub run-yes : (b : ℕ) (s : List ℕ) → belongs c b ≡ true → run c (b ∷ s) ≡ suc (run c s)
  unfolding run
  run-yes b s t = rw t

  pub run_no : (b : ℕ) (s : List ℕ) → belongs c b ≡ false → run c (b ∷ s) ≡ 0
  unfolding run
  run_no b s t = rw t

  pub run_short : (s : List ℕ) → run c s ≤ length s
  unfolding run
  run_short [] = omega arith
  run_short (b ∷ s) = elim (split (belongs c b)) [
    | inl t ↦ let h : run c s ≤ length s = run_short s in rw t (omega arith)
    | inr f ↦ rw f (omega arith)
  ]

  -- along a text: one byte more of the class, another byte, the text's end
  pub goes_on : (s : List ℕ) (i : ℕ) → i < length s → belongs c (get_or s i 0) ≡ true → end_of_run c s i ≡ end_of_run c s (i + 1)
  goes_on s i h t = rw (drop-cons s i 0 h, run-yes (get_or s i 0) (drop (suc i) s) t, add-one i) (omega arith)

  pub stops : (s : List ℕ) (i : ℕ) → i < length s → belongs c (get_or s i 0) ≡ false → end_of_run c s i ≡ i
  stops s i h f = rw (drop-cons s i 0 h, run_no (get_or s i 0) (drop (suc i) s) f) (add-zero i)

  pub ends : (s : List ℕ) (i : ℕ) → length s ≤ i → end_of_run c s i ≡ i
  unfolding run
  ends s i h = rw (drop_of_length-le s h) (add-zero i)

  -- the pieces of a text: it is all one, or one ends at a byte of another class
  pub all_one : (s : List ℕ) → run c s ≡ length s → pieces c s ≡ s ∷ []
  unfolding run pieces
  all_one [] h = refl
  all_one (b ∷ s) h = elim (split (belongs c b)) [
    | inl t ↦ let e : suc (run c s) ≡ suc (length s) = rw t at h in rw (t, all_one s (omega arith))
    | inr f ↦ let e : 0 ≡ suc (length s) = rw f at h in absurd (omega arith)
  ]

  pub one_then : (s : List ℕ) → run c s < length s → pieces c s ≡ take (run c s) s ∷ pieces c (drop (suc (run c s)) s)
  unfolding run pieces
  one_then [] h = absurd (omega arith)
  one_then (b ∷ s) h = elim (split (belongs c b)) [
    | inl t ↦ let e : suc (run c s) < suc (length s) = rw t at h in rw (t, one_then s (omega arith))
    | inr f ↦ rw f
  ]

-- a byte is of a word or stands between words
other : (b : ℕ) → belongs Word b ≡ not (belongs Gap b)
unfolding belongs
other b = refl

gap_no-word : (b : ℕ) → belongs Gap b ≡ true → belongs Word b ≡ false
gap_no-word b t = other b ∙ rw t

no_gap-word : (b : ℕ) → belongs Gap b ≡ false → belongs Word b ≡ true
no_gap-word b f = other b ∙ rw f

pub gap-passed : (b : ℕ) (s : List ℕ) → belongs Gap b ≡ true → words_of (b ∷ s) ≡ words_of s
unfolding words_of pieces
gap-passed b s t = rw (gap_no-word b t)

gaps-passed : (s : List ℕ) → words_of (drop (run Gap s) s) ≡ words_of s
unfolding run
gaps-passed [] = refl
gaps-passed (b ∷ s) = elim (split (belongs Gap b)) [
  | inl t ↦ rw t (gaps-passed s ∙ sym (gap-passed b s t))
  | inr f ↦ rw f
]

-- after the gap there is a word, or the text's end
gap_then : (s : List ℕ) → run Word (drop (run Gap s) s) ≡ 0 → drop (run Gap s) s ≡ []
unfolding run
gap_then [] h = refl
gap_then (b ∷ s) h = elim (split (belongs Gap b)) [
  | inl t ↦ let h' : run Word (drop (run Gap s) s) ≡ 0 = rw t at h in rw t (gap_then s h')
  | inr f ↦
      let h' : run Word (b ∷ s) ≡ 0 = rw f at h in
      let e : run Word (b ∷ s) ≡ suc (run Word s) = run-yes Word b s (no_gap-word b f) in
      absurd (omega arith)
]

no_words : words_of [] ≡ []
unfolding words_of pieces
no_words = refl

kept : (s : List ℕ) (ps : List (List ℕ)) → 0 < length s → not_empty (s ∷ ps) ≡ s ∷ not_empty ps
kept [] ps h = absurd (omega arith)
kept (b ∷ s) ps h = refl

take-some : (k : ℕ) (s : List ℕ) → 0 < k → k ≤ length s → 0 < length (take k s)
take-some zero s h l = absurd (omega arith)
take-some (suc k) [] h l = absurd (omega arith)
take-some (suc k) (b ∷ s) h l = omega arith

-- the byte after a run is of another class
run-ended : (c : Class) (s : List ℕ) → run c s < length s → belongs c (get_or s (run c s) 0) ≡ false
unfolding run
run-ended c [] h = absurd (omega arith)
run-ended c (b ∷ s) h = elim (split (belongs c b)) [
  | inl t ↦ let e : suc (run c s) < suc (length s) = rw t at h in rw t (run-ended c s (omega arith))
  | inr f ↦ rw f f
]

word_no_gap : (b : ℕ) → belongs Word b ≡ false → belongs Gap b ≡ true
word_no_gap b f = flip (belongs Gap b) (sym (other b) ∙ f)
  where
    flip : (t : Bool) → not t ≡ false → t ≡ true
    flip true e = refl
    flip false e = sym e

first_word : (t : List ℕ) → 0 < run Word t → words_of t ≡ take (run Word t) t ∷ words_of (drop (run Word t) t)
unfolding words_of
first_word t h = elim (dec_lt (run Word t) (length t)) [
  | yes l ↦
      let k : ℕ = run Word t in
      ap not_empty (one_then Word t l)
      ∙ kept (take k t) (pieces Word (drop (suc k) t)) (take-some k t h (omega arith))
      ∙ ap (λ (ws : List (List ℕ)). take k t ∷ ws)
      (sym (ap words_of (drop-cons t k 0 l) ∙ gap-passed (get_or t k 0) (drop (suc k) t) (word_no_gap (get_or t k 0) (run-ended Word t l))))
  | no n ↦
      let e : run Word t ≡ length t = omega (arith, run_short Word t) in
      ap not_empty (all_one Word t e) ∙ kept t [] (omega arith)
      ∙ rw (e, take_all (length t) t (omega arith), drop-length t) (ap (λ (ws : List (List ℕ)). t ∷ ws) (sym no_words))
]

-- along a text: no word from a place on, or one and those after it
module _ (s : List ℕ) (at : ℕ) where
  from : ℕ
  from = end_of_run Gap s at

  same-words : words_of (drop from s) ≡ words_of (drop at s)
  unfolding from
  same-words = ap words_of (sym (drop-drop (run Gap (drop at s)) at s)) ∙ gaps-passed (drop at s)

  pub none_left : (span_at s at).from ≡ (span_at s at).to → words_of (drop at s) ≡ []
  unfolding span_at
  none_left e =
      let z : run Word (drop (end_of_run Gap s at) s) ≡ 0 = omega arith in
      let d : drop (end_of_run Gap s at) s ≡ drop (run Gap (drop at s)) (drop at s) = sym (drop-drop (run Gap (drop at s)) at s) in
      let g : drop (run Gap (drop at s)) (drop at s) ≡ [] = gap_then (drop at s) (rw d at z) in
      sym (gaps-passed (drop at s)) ∙ ap words_of g ∙ no_words

  pub one_more : (span_at s at).from < (span_at s at).to → words_of (drop at s) ≡ part s (span_at s at) ∷ words_of (drop (span_at s at).to s)
  unfolding span_at from
  one_more h =
      let k : ℕ = run Word (drop (end_of_run Gap s at) s) in
      let l : end_of_run Gap s at + k - end_of_run Gap s at ≡ k = omega arith in
      let p : 0 < k = omega arith in
      sym same-words ∙ first_word (drop (end_of_run Gap s at) s) p
      ∙ rw (l, drop-drop (run Word (drop (end_of_run Gap s at) s)) (end_of_run Gap s at) s)

  -- where there is no word from a place on, there is none after the gap
  none-past : (span_at s at).from ≡ (span_at s at).to → words_of (drop (span_at s at).to s) ≡ []
  unfolding span_at from
  none-past e = ap (λ (k : ℕ). words_of (drop k s)) (sym e) ∙ same-words ∙ none_left e

-- the words after the first k
pub after_none : (k : ℕ) (ws : List (List ℕ)) → drop k ws ≡ [] → drop (suc k) ws ≡ []
after_none zero [] e = refl
after_none zero (w ∷ ws) e = let z : ◌≡◌ {A = ℕ} (suc (length ws)) 0 = ap length e in absurd (omega arith)
after_none (suc k) [] e = refl
after_none (suc k) (w ∷ ws) e = after_none k ws e

pub after_one : (k : ℕ) (w : List ℕ) (ws vs : List (List ℕ)) → drop k ws ≡ w ∷ vs → drop (suc k) ws ≡ vs
after_one zero w [] vs e = let z : ◌≡◌ {A = ℕ} 0 (suc (length vs)) = ap length e in absurd (omega arith)
after_one zero w (u ∷ us) vs e = ap (λ (l : List (List ℕ)). drop 1 l) e
after_one (suc k) w [] vs e = let z : ◌≡◌ {A = ℕ} 0 (suc (length vs)) = ap length e in absurd (omega arith)
after_one (suc k) w (u ∷ us) vs e = after_one k w us vs e

span_goes-up : (s : List ℕ) (at : ℕ) → (span_at s at).from ≤ (span_at s at).to
unfolding span_at
span_goes-up s at = omega arith

words-past : (s : List ℕ) (k : ℕ) → words_of (drop (past s k) s) ≡ drop k (words_of s)
unfolding past
words-past s zero = refl
words-past s (suc k) = elim (dec_lt (nth_span s k).from (nth_span s k).to) [
  | yes h ↦ sym (after_one k (part s (nth_span s k)) (words_of s) (words_of (drop (nth_span s k).to s)) (sym (words-past s k) ∙ one_more s (past s k) h))
  | no n ↦
      let e : (nth_span s k).from ≡ (nth_span s k).to = omega (arith, span_goes-up s (past s k)) in
      none-past s (past s k) e ∙ sym (after_none k (words_of s) (sym (words-past s k) ∙ none_left s (past s k) e))
]

pub part_none : (s : List ℕ) (r : Span) → r.from ≡ r.to → part s r ≡ []
part_none s r e = let z : r.to - r.from ≡ 0 = omega arith in rw z

-- the k-th word stands where it is said to
pub nth-part : (s : List ℕ) (k : ℕ) → part s (nth_span s k) ≡ nth_word s k
nth-part s k =
    let first : get_or (words_of (drop (past s k) s)) 0 [] ≡ nth_word s k = ap (λ (ws : List (List ℕ)). get_or ws 0 []) (words-past s k) ∙ get_or-drop k (words_of s) 0 [] ∙ ap (λ (j : ℕ). get_or (words_of s) j []) (add-zero k) in
    elim (dec_lt (nth_span s k).from (nth_span s k).to) [
      | yes h ↦ sym (ap (λ (ws : List (List ℕ)). get_or ws 0 []) (one_more s (past s k) h)) ∙ first
      | no n ↦
          let e : (nth_span s k).from ≡ (nth_span s k).to = omega (arith, span_goes-up s (past s k)) in
          part_none s (nth_span s k) e ∙ sym (ap (λ (ws : List (List ℕ)). get_or ws 0 []) (none_left s (past s k) e)) ∙ first
    ]

-- two texts: of different lengths, and byte by byte
pub other_length : (s t : List ℕ) → (length s ≡ length t → ⊥) → bytes_eq s t ≡ false
other_length [] [] n = absurd (n refl)
other_length [] (y ∷ t) n = refl
other_length (x ∷ s) [] n = refl
other_length (x ∷ s) (y ∷ t) n = rest (eqb x y) (other_length s t (λ e. n (ap suc e)))
  where
    rest : (b : Bool) → bytes_eq s t ≡ false → (b && bytes_eq s t) ≡ false
    rest true f = f
    rest false f = refl

pub same_byte : (s t : List ℕ) (i : ℕ) → i < length s → i < length t → get_or s i 0 ≡ get_or t i 0 → bytes_eq (drop i s) (drop i t) ≡ bytes_eq (drop (i + 1) s) (drop (i + 1) t)
same_byte s t i h k e = rw (drop-cons s i 0 h, drop-cons t i 0 k, eq-eqb (get_or s i 0) (get_or t i 0) e, add-one i)

pub other_byte : (s t : List ℕ) (i : ℕ) → i < length s → i < length t → (get_or s i 0 ≡ get_or t i 0 → ⊥) → bytes_eq (drop i s) (drop i t) ≡ false
other_byte s t i h k n = rw (drop-cons s i 0 h, drop-cons t i 0 k, ne_eqb (get_or s i 0) (get_or t i 0) n)

pub both_end : (s t : List ℕ) (i : ℕ) → length s ≤ i → length t ≤ i → bytes_eq (drop i s) (drop i t) ≡ true
both_end s t i h k = rw (drop_of_length-le s h, drop_of_length-le t k)

-- what a call of `next_word` says of the words
module _ (s : List ℕ) (at : ℕ) {r : Span} (n : Next s at r) where
  pub no-next : r.from ≡ r.to → words_of (drop at s) ≡ []
  no-next e = none_left s at (ap (λ (x : Span). x.from) (sym n.is) ∙ e ∙ ap (λ (x : Span). x.to) n.is)

  pub next : (r.from ≡ r.to → ⊥) → words_of (drop at s) ≡ part s r ∷ words_of (drop r.to s)
  next d =
      let a : r.from ≡ (span_at s at).from = ap (λ (x : Span). x.from) n.is in
      let b : r.to ≡ (span_at s at).to = ap (λ (x : Span). x.to) n.is in
      let h : (span_at s at).from < (span_at s at).to = omega (arith, n.middle) in
      one_more s at h ∙ ap (λ (x : Span). part s x ∷ words_of (drop x.to s)) (sym n.is)

pub none-at-end : (s : List ℕ) (at : ℕ) → length s ≤ at → words_of (drop at s) ≡ []
none-at-end s at h = ap words_of (drop_of_length-le s h) ∙ no_words

pub past_more : (s : List ℕ) (k : ℕ) → (span_at s (past s k)).to ≡ past s (k + 1)
unfolding past
past_more s k = rw add-one

pub past-none : (s : List ℕ) → 0 ≡ past s 0
unfolding past
past-none s = refl

-- a text is all of it from a place on
pub rest-is : (s : List ℕ) (at : ℕ) → take (length s - at) (drop at s) ≡ drop at s
rest-is s at = take_all (length s - at) (drop at s) (simp length-drop (omega arith))
