-- Both ways: record by record, the text of a schedule is read as the schedule; and what a refusal says.
use Prim.Native.Nat.{ℕ, zero, suc, ◌+◌, ◌-◌, ◌*◌, ◌≤◌, ◌<◌}
use mathlib.Core.Path.{◌≡◌, refl, sym, ◌∙◌, ap}
use mathlib.Core.List.{List, [], ◌∷◌, ◌++◌}
use native.Mathlib.Omega.{arith}
use lib.ListN.{take, drop, get_or, length-drop, take-append-drop}
use lib.Seq.{drop-drop}
use Rattle.std.specs.Prelude.{Some, None, Ok, Err}
use Rattle.words.specs.Words.{run, pieces, lines_of, uncommented, words_of}
use Rattle.model.specs.declared.Act.{Act}
use Rattle.records.specs.Bytes.{AllBytes}
use Rattle.event_record.specs.Events.{fields_of, read_event, record_bytes}
use Rattle.event_record.specs.declared.Fields.{Fields}
use Rattle.event_record.specs.Events.{ReadEvent}
use Rattle.std.specs.Prelude.{Ok, Err}
use Rattle.event_record.proofs.RoundTrips.{promises}
use Rattle.schedule_reader.specs.Pieces.{piece_at, record_at}
use Rattle.schedule_text.specs.Forms.{row_of, slot_in, line_of}
use Rattle.schedule_text.specs.Texts.{LineRead, unexpected, ended, read_words, read_line, Turn, made, refused, after, onward, read_lines, read_text, written, write_records, count, write_text}
use Rattle.schedule_text.specs.BothWays.{BothWays}
use Rattle.schedule_text.proofs.Shows.{shows, line-back}
use Rattle.schedule_text.proofs.Held.{held, bytes-taken, bytes_left}

same-made : {s t : List ℕ} → made s ≡ made t → s ≡ t
same-made e = cc

not_made : {k q : ℕ} {t : List ℕ} → refused k q ≡ made t → ⊥
not_made e = let z : ◌≡◌ {A = ℕ} 0 1 = cc in omega arith

-- an empty text is one blank line
nothing : (k : ℕ) → read_lines k (lines_of []) ≡ made []
unfolding read_lines read_line read_words ended slot_in row_of words_of pieces run
nothing k = refl

empty : (s : List ℕ) → 0 ≡ count s → s ≡ []
empty [] e = refl
empty (b ∷ s) e = absurd (omega arith)

fewer : (n : ℕ) (s : List ℕ) → suc n ≡ count s → n ≡ count (drop 10 s)
fewer n s e = rw (length-drop 10 s) (omega arith)

-- what a written line of a made text was
split-made : (x : List ℕ) (r : Turn) (t : List ℕ) → after x r ≡ made t → (u : List ℕ) × (r ≡ made u) × (t ≡ x ++ u)
split-made x (made u) t e = (u, refl, sym (same-made e))
split-made x (refused k q) t e = absurd (not_made e)

one-read : (r : ReadEvent) (k : ℕ) (rest : Turn) (t : List ℕ) → written r k rest ≡ made t → (act : Act) × (r ≡ Ok act) × (after (line_of (fields_of act)) rest ≡ made t)
one-read (Ok act) k rest t e = (act, refl, e)
one-read (Err q) k rest t e = absurd (not_made e)

back : (n k j : ℕ) (s t : List ℕ) → n ≡ count s → AllBytes s → write_records k n s ≡ made t → read_lines j (lines_of t) ≡ made s
unfolding write_records
back zero k j s t c all e = ap (λ (u : List ℕ). read_lines j (lines_of u)) (sym (same-made e)) ∙ nothing j ∙ ap made (sym (empty s c))
back (suc n) k j s t c all e =
    let r = one-read (read_event (take 10 s)) k (write_records (suc k) n (drop 10 s)) t e in
    let x = fields_of r.0 in
    let m = split-made (line_of x) (write_records (suc k) n (drop 10 s)) t r.2 in
    let p : AllBytes (take 10 s) = bytes-taken 10 s all in
    let ih : read_lines (suc j) (lines_of m.0) ≡ made (drop 10 s) = back n (suc k) (suc j) (drop 10 s) m.0 (fewer n s c) (bytes_left 10 s all) m.1 in
    let bytes : record_bytes x ≡ take 10 s = promises.writes-back (take 10 s) r.0 p r.1 in
    ap (λ (u : List ℕ). read_lines j (lines_of u)) m.2
    ∙ line-back x (shows r.0 (held (take 10 s) r.0 p r.1)) j m.0
    ∙ ap (after (record_bytes x)) ih
    ∙ ap (λ (u : List ℕ). made (u ++ drop 10 s)) bytes
    ∙ ap made (take-append-drop 10 s)

-- the record that a refusal names
same-refusal : {k q j p : ℕ} → refused k q ≡ refused j p → (k ≡ j) × (q ≡ p)
same-refusal {k} {q} {j} {p} e = let a : k ≡ j = cc in let b : q ≡ p = cc in (a, b)

made-not : {k q : ℕ} {t : List ℕ} → made t ≡ refused k q → ⊥
made-not e = not_made (sym e)

rest-refused : (x : List ℕ) (r : Turn) (k q : ℕ) → after x r ≡ refused k q → r ≡ refused k q
rest-refused x (made u) k q e = absurd (made-not e)
rest-refused x (refused j p) k q e = e

abbrev RecordRefused : ℕ → ℕ → List ℕ → ℕ → ℕ → Type 0
RecordRefused k n s i q = (k ≤ i) × (i < k + n) × (read_event (take 10 (drop ((i - k) * 10) s)) ≡ Err q)

record-refused : (n k : ℕ) (s : List ℕ) (i q : ℕ) → write_records k n s ≡ refused i q → RecordRefused k n s i q
unfolding write_records
record-refused zero k s i q e = absurd (made-not e)
record-refused (suc n) k s i q e = by_record (λ f. record-refused n (suc k) (drop 10 s) i q f) (read_event (take 10 s)) refl
  where
    by_record : (write_records (suc k) n (drop 10 s) ≡ refused i q → RecordRefused (suc k) n (drop 10 s) i q) → (r : ReadEvent) → read_event (take 10 s) ≡ r → RecordRefused k (suc n) s i q
    by_record later (Err p) f =
        let g : refused k p ≡ refused i q = sym (ap (λ (r : ReadEvent). written r k (write_records (suc k) n (drop 10 s))) f) ∙ e in
        let h = same-refusal g in
        let z : (i - k) * 10 ≡ 0 = omega (arith, h.0) in
        (omega (arith, h.0), omega (arith, h.0), rw z (f ∙ ap Err h.1))
    by_record later (Ok act) f =
        let g : after (line_of (fields_of act)) (write_records (suc k) n (drop 10 s)) ≡ refused i q = sym (ap (λ (r : ReadEvent). written r k (write_records (suc k) n (drop 10 s))) f) ∙ e in
        let ih = later (rest-refused (line_of (fields_of act)) (write_records (suc k) n (drop 10 s)) i q g) in
        let m : 10 + (i - suc k) * 10 ≡ (i - k) * 10 = omega (arith, ih.0) in
        let d : drop ((i - suc k) * 10) (drop 10 s) ≡ drop ((i - k) * 10) s = drop-drop ((i - suc k) * 10) 10 s ∙ ap (λ (j : ℕ). drop j s) m in
        (omega (arith, ih.0), omega (arith, ih.1), ap (λ (u : List ℕ). read_event (take 10 u)) (sym d) ∙ ih.2)

-- the line that a refusal names
abbrev LineRefused : ℕ → List (List ℕ) → ℕ → ℕ → Type 0
LineRefused k ls j i = (k ≤ j) × (read_line (uncommented (get_or ls (j - k) [])) ≡ unexpected i)

line_refused : (k : ℕ) (ls : List (List ℕ)) (j i : ℕ) → read_lines k ls ≡ refused j i → LineRefused k ls j i
unfolding read_lines
line_refused k [] j i e = absurd (made-not e)
line_refused k (l ∷ ls) j i e = by-line (λ f. line_refused (suc k) ls j i f) (read_line (uncommented l)) refl
  where
    later : LineRefused (suc k) ls j i → LineRefused k (l ∷ ls) j i
    later ih =
        let m : j - k ≡ suc (j - suc k) = omega (arith, ih.0) in
        (omega (arith, ih.0), rw m ih.1)

    by-line : (read_lines (suc k) ls ≡ refused j i → LineRefused (suc k) ls j i) → (r : LineRead) → read_line (uncommented l) ≡ r → LineRefused k (l ∷ ls) j i
    by-line rest (Ok None) f = later (rest (sym (ap (λ (r : LineRead). onward r k (read_lines (suc k) ls)) f) ∙ e))
    by-line rest (Ok (Some x)) f = later (rest (rest-refused (record_bytes x) (read_lines (suc k) ls) j i (sym (ap (λ (r : LineRead). onward r k (read_lines (suc k) ls)) f) ∙ e)))
    by-line rest (Err u) f =
        let g : refused k u.0 ≡ refused j i = sym (ap (λ (r : LineRead). onward r k (read_lines (suc k) ls)) f) ∙ e in
        let h = same-refusal g in
        let z : j - k ≡ 0 = omega (arith, h.0) in
        (omega (arith, h.0), rw z (f ∙ ap unexpected h.1))

-- a line of no form is refused, if none before it is
not_unexpected : {q : ℕ} → Ok None ≡ unexpected q → ⊥
not_unexpected e = let z : ◌≡◌ {A = ℕ} 0 1 = cc in omega arith

not-read : {x : Fields} {q : ℕ} → Ok (Some x) ≡ unexpected q → ⊥
not-read e = let z : ◌≡◌ {A = ℕ} 0 1 = cc in omega arith

no_words : read_line (uncommented []) ≡ Ok None
unfolding run pieces words_of read_line read_words row_of slot_in ended
no_words = refl

abbrev FirstRefused : ℕ → List (List ℕ) → ℕ → Type 0
FirstRefused k ls j = (m i : ℕ) × (read_lines k ls ≡ refused (k + m) i) × (m ≤ j)

first-refused : (k : ℕ) (ls : List (List ℕ)) (j q : ℕ) → read_line (uncommented (get_or ls j [])) ≡ unexpected q → FirstRefused k ls j
unfolding read_lines
first-refused k [] j q e = absurd (not_unexpected (sym no_words ∙ e))
first-refused k (l ∷ ls) zero q e = (0, q, ap (λ (r : LineRead). onward r k (read_lines (suc k) ls)) e ∙ ap (λ (n : ℕ). refused n q) (omega arith), omega arith)
first-refused k (l ∷ ls) (suc j) q e = by-line (first-refused (suc k) ls j q e) (read_line (uncommented l)) refl
  where
    here : (p : ℕ) → read_line (uncommented l) ≡ unexpected p → FirstRefused k (l ∷ ls) (suc j)
    here p f = (0, p, ap (λ (r : LineRead). onward r k (read_lines (suc k) ls)) f ∙ ap (λ (n : ℕ). refused n p) (omega arith), omega arith)

    by-line : FirstRefused (suc k) ls j → (r : LineRead) → read_line (uncommented l) ≡ r → FirstRefused k (l ∷ ls) (suc j)
    by-line ih (Err u) f = here u.0 f
    by-line ih (Ok None) f =
        (suc ih.0, ih.1, ap (λ (r : LineRead). onward r k (read_lines (suc k) ls)) f ∙ ih.2 ∙ ap (λ (n : ℕ). refused n ih.1) (omega arith), omega (arith, ih.3))
    by-line ih (Ok (Some x)) f =
        (suc ih.0, ih.1, ap (λ (r : LineRead). onward r k (read_lines (suc k) ls)) f ∙ ap (after (record_bytes x)) ih.2 ∙ ap (λ (n : ℕ). refused n ih.1) (omega arith), omega (arith, ih.3))

refused_record : (s : List ℕ) (k q : ℕ) → write_text s ≡ refused k q → (k < count s) × (record_at s (k * 10) ≡ Err q)
unfolding write_text piece_at
refused_record s k q e =
    let w = record-refused (count s) 0 s k q e in
    let z : k - 0 ≡ k = omega arith in
    (omega (arith, w.1), ap (λ (j : ℕ). read_event (take 10 (drop (j * 10) s))) (sym z) ∙ w.2)

refused-line : (t : List ℕ) (k i : ℕ) → read_text t ≡ refused (suc k) i → read_line (uncommented (get_or (lines_of t) k [])) ≡ unexpected i
unfolding read_text
refused-line t k i e =
    let w = line_refused 1 (lines_of t) (suc k) i e in
    let z : suc k - 1 ≡ k = omega arith in
    ap (λ (j : ℕ). read_line (uncommented (get_or (lines_of t) j []))) (sym z) ∙ w.1

first-line : (t : List ℕ) (j q : ℕ) → read_line (uncommented (get_or (lines_of t) j [])) ≡ unexpected q → (k i : ℕ) × (read_text t ≡ refused (suc k) i) × (k ≤ j)
unfolding read_text
first-line t j q e =
    let w = first-refused 1 (lines_of t) j q e in
    (w.0, w.1, w.2 ∙ ap (λ (n : ℕ). refused n w.1) (omega arith), w.3)

no_line : (t : List ℕ) (i : ℕ) → read_text t ≡ refused 0 i → ⊥
unfolding read_text
no_line t i e = let w = line_refused 1 (lines_of t) 0 i e in omega (arith, w.0)

whole : (s t : List ℕ) → AllBytes s → write_text s ≡ made t → read_text t ≡ made s
unfolding write_text read_text
whole s t all e = back (count s) 0 1 s t refl all e

pub both_ways : BothWays
both_ways = record { back = whole; refused_record = refused_record; refused-line = refused-line; first-line = first-line; no_line = no_line }
