-- Laws of reading and writing along a text: a line word by word, a text line by line, a schedule record by record.
use Rattle.std.specs.Prelude.{ℕ, suc, ◌+◌, ◌-◌, ◌≤◌, ◌<◌, ◌≡◌, refl, Option, Some, None, Ok, Err, List, [], ◌∷◌, ◌++◌, length, drop}
use Rattle.std.proofs.Common.{sym, ◌∙◌, append_assoc, append-nil, arith, le-leb, length-drop, drop_of_length-le, drop-drop}
use Rattle.std.proofs.Math.Path.{ap}
use Rattle.std.proofs.Math.Numerals.{add-one}
use Rattle.std.proofs.Math.ListN.{take}
use Rattle.text.specs.Writing.{Put}
use Rattle.words.specs.LineLaws.{lines_from, no_lines, line_then}
use Rattle.model.specs.declared.Act.{Act}
use Rattle.event_record.specs.Events.{fields_of}
use Rattle.event_record.specs.declared.Fields.{Fields}
use Rattle.event_record.specs.Events.{ReadEvent}
use Rattle.std.specs.Prelude.{Ok, Err}
use Rattle.schedule_reader.specs.Pieces.{piece_at, record_at}
use Rattle.schedule_text.specs.Forms.{with_field, value_in, line_of}
use Rattle.schedule_text.specs.Texts.{slot_at, LineRead, unexpected, ended, read_words, Turn, made, refused, after, onward, bytes_of_read, read_lines, read_text, written, write_records, count, write_text}
use Rattle.schedule_text.specs.Turning.{Turns, LineAt}
use Rattle.schedule_text.specs.declared.Slot.{Slot}
use Rattle.schedule_text.specs.declared.Unexpected.{Unexpected}
use Rattle.schedule_text.specs.declared.TurnError.TheVariants.{Refused}

-- a line, at word i: it ends, the word is not expected, or it is taken
module _ (i : ℕ) (x : Fields) {s : Slot} (at : s ≡ slot_at i x) {ws : List (List ℕ)} where
  pub ended_here : ws ≡ [] → ended s i x ≡ read_words i x ws
  unfolding read_words
  ended_here e = rw (e, ← at)

  pub not_expected : {w : List ℕ} {us : List (List ℕ)} → ws ≡ w ∷ us → None ≡ value_in s w → unexpected i ≡ read_words i x ws
  unfolding read_words
  not_expected e n = rw (e, ← at, ← n)

  pub word-taken : {w : List ℕ} {us : List (List ℕ)} (v : ℕ) → ws ≡ w ∷ us → Some v ≡ value_in s w → read_words i x ws ≡ read_words (i + 1) (with_field s v x) us
  unfolding read_words
  word-taken v e n = rw (e, ← at, ← n, add-one)

-- bytes before a result
pub after_none : (r : Turn) → after [] r ≡ r
after_none (made t) = refl
after_none (refused k q) = refl

pub after-after : (s t : List ℕ) (r : Turn) → after s (after t r) ≡ after (s ++ t) r
after-after s t (made u) = ap made (sym (append_assoc s t u))
after-after s t (refused k q) = refl

pub after-all : (s : List ℕ) → after s (made []) ≡ made s
after-all s = ap made (append-nil s)

-- a text, line by line
module _ (t : List ℕ) (at : ℕ) (h : at ≤ length t) {read : LineRead} {end : ℕ} (met : LineAt t at read end) (k : ℕ) (w : List ℕ) where
  lines-met : read_lines k (lines_from t at) ≡ onward read k (read_lines (k + 1) (lines_from t (end + 1)))
  unfolding read_lines
  lines-met =
      let e : lines_from t at ≡ take (end - at) (drop at t) ∷ lines_from t (end + 1) =
      line_then t at h ∙ ap (λ (j : ℕ). take (j - at) (drop at t) ∷ lines_from t (j + 1)) (sym met.ends) in
      ap (read_lines k) e ∙ rw (← met.line, add-one k)

  pub line_refused : (u : Unexpected) → read ≡ Err u → after w (read_lines k (lines_from t at)) ≡ refused k u.0
  line_refused u e = ap (after w) (lines-met ∙ ap (λ (r : LineRead). onward r k (read_lines (k + 1) (lines_from t (end + 1)))) e)

  pub line_read : (found : Option Fields) → read ≡ Ok found → after w (read_lines k (lines_from t at)) ≡ after (w ++ bytes_of_read (Ok found)) (read_lines (k + 1) (lines_from t (end + 1)))
  line_read found e =
      let rest : Turn = read_lines (k + 1) (lines_from t (end + 1)) in
      ap (after w) (lines-met ∙ ap (λ (r : LineRead). onward r k rest) e ∙ expected found) ∙ after-after w (bytes_of_read (Ok found)) rest
    where
      expected : (f : Option Fields) → onward (Ok f) k (read_lines (k + 1) (lines_from t (end + 1))) ≡ after (bytes_of_read (Ok f)) (read_lines (k + 1) (lines_from t (end + 1)))
      expected None = sym (after_none (read_lines (k + 1) (lines_from t (end + 1))))
      expected (Some x) = refl

pub text-begun : (t : List ℕ) → after [] (read_lines 1 (lines_from t 0)) ≡ read_text t
unfolding read_text
text-begun t = after_none (read_lines 1 (lines_from t 0)) ∙ rw (le-leb 0 (length t) (omega arith))

pub text-ended : (t : List ℕ) (at k : ℕ) (w : List ℕ) → length t < at → after w (read_lines k (lines_from t at)) ≡ made w
unfolding read_lines
text-ended t at k w h = ap (λ (ls : List (List ℕ)). after w (read_lines k ls)) (no_lines t at h) ∙ after-all w

-- a schedule, from a place on
abbrev pub records_from : ℕ → List ℕ → ℕ → Turn
records_from k s at = write_records k (count (drop at s)) (drop at s)

count_less : (s : List ℕ) (at : ℕ) → at < length s → count (drop at s) ≡ suc (count (drop (at + 10) s))
count_less s at h = rw (length-drop at s, length-drop (at + 10) s) (omega arith)

record_then : (k : ℕ) (s : List ℕ) (at : ℕ) → at < length s → records_from k s at ≡ written (record_at s at) k (records_from (k + 1) s (at + 10))
unfolding write_records piece_at
record_then k s at h = rw (count_less s at h, drop-drop 10 at s, add-one k)

module _ (k : ℕ) (s : List ℕ) (at : ℕ) (h : at < length s) (w : List ℕ) where
  pub record-refused : (q : ℕ) → record_at s at ≡ Err q → after w (records_from k s at) ≡ refused k q
  record-refused q e = ap (after w) (record_then k s at h ∙ ap (λ (r : ReadEvent). written r k (records_from (k + 1) s (at + 10))) e)

  pub record-read : (act : Act) → record_at s at ≡ Ok act → after w (records_from k s at) ≡ after (w ++ line_of (fields_of act)) (records_from (k + 1) s (at + 10))
  record-read act e =
      ap (after w) (record_then k s at h ∙ ap (λ (r : ReadEvent). written r k (records_from (k + 1) s (at + 10))) e)
      ∙ after-after w (line_of (fields_of act)) (records_from (k + 1) s (at + 10))

pub records-begun : (s : List ℕ) → after [] (records_from 0 s 0) ≡ write_text s
unfolding write_text
records-begun s = after_none (records_from 0 s 0)

pub records-ended : (k : ℕ) (s : List ℕ) (at : ℕ) (w : List ℕ) → length s ≤ at → after w (records_from k s at) ≡ made w
unfolding write_records
records-ended k s at w h = rw (drop_of_length-le s h) (after-all w)

-- what was put, or refused, of a result
pub turns-done : (x : Turn) (t b a : List ℕ) (n : ℕ) → made t ≡ x → Put b a 0 n t → Turns x b a (Ok n)
turns-done x t b a n e p = rw (← e) (n, refl, p)

pub turns-refused : (x : Turn) (k q : ℕ) (b a : List ℕ) → refused k q ≡ x → Turns x b a (Err (Refused k q))
turns-refused x k q b a e = rw (← e) refl
