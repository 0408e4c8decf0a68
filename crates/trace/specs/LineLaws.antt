-- Laws of lines as text: one after another, one alone, and lines for each of some numbers.
use Rattle.std.specs.Prelude.{ℕ, suc, ◌+◌, ◌≤◌, ◌<◌, Bool, true, false, cond, not, List, [], ◌∷◌, ◌++◌, ◌≡◌, refl, length}
use Rattle.std.proofs.Common.{append_assoc, append-nil, sym, ◌∙◌, ap, add-one, le-leb}
use Rattle.text.specs.Writing.{Put, highest}
use Rattle.text.specs.WritingLaws.{put-nothing, put_then, put-text}
use Rattle.text.specs.Text.{ascii}
use Rattle.model.specs.declared.Event.{Event}
use Rattle.bench_report.specs.Lines.{controller_line}
use Rattle.bench_report.specs.declared.Row.{Row}
use Rattle.std.proofs.lemmas.Bool.{lt-leb}
use Rattle.trace.specs.Lines.{Line, Shows, Sent, Puts, told_of, line_text, text, when, each}
use Rattle.trace.specs.Shown.{same_row, unchanged}

pub text-append : (a b : List Line) → text (a ++ b) ≡ text a ++ text b
unfolding text
text-append [] b = refl
text-append (l ∷ a) b = ap (λ (t : List ℕ). line_text l ++ t) (text-append a b) ∙ sym (append_assoc (line_text l) (text a) (text b))

pub text-one : (l : Line) → text (l ∷ []) ≡ line_text l
unfolding text
text-one l = append-nil (line_text l)

-- a line, if a test says so
pub text-when : (t : Bool) (l : Line) → text (when t l) ≡ cond t (line_text l) []
unfolding when text
text-when true l = append-nil (line_text l)
text-when false l = refl

-- none of the lines, and those for one number more
pub put_no-lines : (l : List ℕ) (i : ℕ) (g : ℕ → List Line) → i ≤ highest → length l ≤ highest → Put l l i i (text (each 0 g))
unfolding each text
put_no-lines l i g h b = put-nothing l i h b

pub put-more : {l m n : List ℕ} {i j k : ℕ} (h : ℕ) (g : ℕ → List Line) → Put l m i j (text (each h g)) → Put m n j k (text (g (suc h))) → Put l n i k (text (each (h + 1) g))
unfolding each
put-more h g p q = put-text (put_then p q) (rw add-one (sym (text-append (each h g) (g (suc h)))))

-- as many as there are
pub put_all : {l m : List ℕ} {i j : ℕ} {h n : ℕ} (g : ℕ → List Line) → h ≡ n → Put l m i j (text (each h g)) → Put l m i j (text (each n g))
put_all g e p = put-text p (ap (λ (x : ℕ). text (each x g)) e)

-- two lists of lines, one after the other
pub put_both : {l m n : List ℕ} {i j k : ℕ} (a b : List Line) → Put l m i j (text a) → Put m n j k (text b) → Put l n i k (text (a ++ b))
put_both a b p q = put-text (put_then p q) (sym (text-append a b))

-- a telegram or a word that is told, if a test says so
pub put-sent : {l m : List ℕ} {i j : ℕ} (t u : Bool) (d e : Event) → t ≡ u → d ≡ e → Put l m i j (cond t (ascii "sent" ++ told_of d) []) → Put l m i j (text (when u (Sent e)))
unfolding line_text
put-sent t u d e p q w = put-text w (rw (p, q) (sym (text-when u (Sent e))))

pub put_word : {l m : List ℕ} {i j : ℕ} (t u : Bool) (d e : Event) → t ≡ u → d ≡ e → Put l m i j (cond t (ascii "put" ++ told_of d) []) → Put l m i j (text (when u (Puts e)))
unfolding line_text
put_word t u d e p q w = put-text w (rw (p, q) (sym (text-when u (Puts e))))

-- a C line: the same as before; another; the first
module _ (n k : ℕ) (old new : Row) where
  pub row_same : k ≤ n → same_row old new ≡ true → [] ≡ text (when (not (unchanged n k old new)) (Shows k new))
  unfolding unchanged when text
  row_same h e = rw (le-leb k n h, e)

  pub row_other : k ≤ n → same_row old new ≡ false → controller_line k new ≡ text (when (not (unchanged n k old new)) (Shows k new))
  unfolding unchanged when text line_text
  row_other h e = rw (le-leb k n h, e) (sym (append-nil (controller_line k new)))

  pub row_first : n < k → controller_line k new ≡ text (when (not (unchanged n k old new)) (Shows k new))
  unfolding unchanged when text line_text
  row_first h = rw (lt-leb k n h) (sym (append-nil (controller_line k new)))
