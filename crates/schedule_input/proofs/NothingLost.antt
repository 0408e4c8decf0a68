-- What is taken as a text has no record that reads: every record has a control byte.
use Prim.Native.Nat.{ℕ, zero, suc, ◌≤◌, ◌<◌}
use mathlib.Core.Path.{◌≡◌, refl, sym, ◌∙◌, ap}
use mathlib.Core.Bool.{Bool, true, false, not}
use mathlib.Core.List.{List, [], ◌∷◌}
use mathlib.Core.Logic.{inl, inr}
use native.Mathlib.Omega.{arith}
use borrow.Author.Tests.{le-leb, le-ltb}
use lib.ListN.{length, take, drop}
use Rattle.ground.specs.Tests.{split, no_both, and_r, or-e, or_l, or_r}
use Rattle.model.specs.declared.Act.{Act}
use Rattle.model.specs.declared.Act.TheVariants.{Play, Back}
use Rattle.model.specs.declared.Event.{Event}
use Rattle.model.specs.declared.Event.TheVariants.{Lock, Order, Cast, Deliver, Timeout, Decide, Stop, Save, Restore, OfBallots}
use Rattle.model.specs.declared.BallotEvent.{BallotEvent}
use Rattle.model.specs.declared.BallotEvent.TheVariants.{Open, Carry}
use Rattle.records.specs.Bytes.{AllBytes}
use Rattle.event_record.specs.Events.{ballot_fields, event_fields, fields_of, event_bytes, records_of}
use Rattle.event_record.specs.Events.{ReadEvent}
use Rattle.std.specs.Prelude.{Ok, Err}
use Rattle.event_record.proofs.RoundTrips.{promises}
use Rattle.schedule_reader.specs.Pieces.{piece_at, record_at}
use Rattle.schedule_text.proofs.Held.{bytes-taken, bytes_left}
use Rattle.schedule_text.proofs.RoundTrips.{both_ways}
use Rattle.bench_report.specs.Limits.{longest_schedule}
use Rattle.words.specs.Words.{run, pieces, words_of}
use Rattle.schedule_text.specs.Forms.{row_of, slot_in}
use Rattle.schedule_text.specs.Texts.{ended, read_words, read_line, read_lines, read_text, Turn, made, refused, write_text}
use Rattle.schedule_text.specs.TextLaws.{record-refused, records-begun}
use Rattle.schedule_input.specs.Input.{marked, is_control, has_control, is_text, records_in, longest_text, either_form, records_output, text_or, text_output}
use Rattle.schedule_input.specs.InputLaws.{of-text, of-records}
use Rattle.schedule_input.specs.Room.{few-lines}
use Rattle.schedule_input.proofs.WrittenText.{text_of}
use Rattle.schedule_input.specs.NothingLost.{NothingLost}

-- kinds 0 to 8 are control bytes; a step back has no field but 0, and the opening of a ballot has b = 0
of-ballot : (e : BallotEvent) → has_control (event_bytes (Play (OfBallots e))) ≡ true
unfolding has_control is_control fields_of event_fields ballot_fields
of-ballot (Open id ballot) = or_r (is_control id) true refl
of-ballot (Carry from to kind ballot) = refl

of-event : (e : Event) → has_control (event_bytes (Play e)) ≡ true
unfolding has_control is_control fields_of event_fields
of-event (Lock n f own) = refl
of-event (Order number) = refl
of-event (Cast id willing target) = refl
of-event (Deliver from to kind) = refl
of-event (Timeout id) = refl
of-event (Decide id move) = refl
of-event (Stop id) = refl
of-event (Save id) = refl
of-event (Restore id) = refl
of-event (OfBallots e) = of-ballot e

of_act : (act : Act) → has_control (event_bytes act) ≡ true
unfolding has_control is_control fields_of
of_act (Play e) = of-event e
of_act Back = refl

in-front : (k : ℕ) (s : List ℕ) → has_control (take k s) ≡ true → has_control s ≡ true
unfolding has_control
in-front zero s t = absurd (no_both false t refl)
in-front (suc k) [] t = t
in-front (suc k) (b ∷ s) t = elim (or-e (is_control b) (has_control (take k s)) t) [
  | inl h ↦ or_l (is_control b) (has_control s) h
  | inr r ↦ or_r (is_control b) (has_control s) (in-front k s r)
]

in_rest : (k : ℕ) (s : List ℕ) → has_control (drop k s) ≡ true → has_control s ≡ true
unfolding has_control
in_rest zero s t = t
in_rest (suc k) [] t = t
in_rest (suc k) (b ∷ s) t = or_r (is_control b) (has_control s) (in_rest k s t)

not-true : (b : Bool) → not b ≡ true → b ≡ false
not-true true e = sym e
not-true false e = refl

none_reads : (s : List ℕ) (at : ℕ) (act : Act) → AllBytes s → is_text s ≡ true → record_at s at ≡ Ok act → ⊥
unfolding is_text piece_at
none_reads s at act all t e =
    let bytes : event_bytes act ≡ take 10 (drop at s) = promises.writes-back (take 10 (drop at s)) act (bytes-taken 10 (drop at s) (bytes_left at s all)) e in
    let c : has_control s ≡ true = in_rest at s (in-front 10 (drop at s) (rw (← bytes) (of_act act))) in
    no_both (has_control s) c (not-true (has_control s) (and_r (not (marked s)) (not (has_control s)) t))

no_text : (act : Act) (acts : List Act) (k : ℕ) → is_text (take (suc k) (records_of (act ∷ acts))) ≡ false
unfolding is_text records_of
no_text act acts zero = refl
no_text act acts (suc k) = refl

back : (s t : List ℕ) → AllBytes s → write_text s ≡ made t → records_in t ≡ made s
back s t all e = sym (of-text t (text_of s t e)) ∙ both_ways.back s t all e

-- a schedule that is written is no text, unless it is empty
refused-not : {k q : ℕ} {t : List ℕ} → refused k q ≡ made t → ⊥
refused-not e = let z : ◌≡◌ {A = ℕ} 0 1 = cc in omega arith

first_reads : (s t : List ℕ) → AllBytes s → 0 < length s → write_text s ≡ made t → is_text s ≡ true → (r : ReadEvent) → record_at s 0 ≡ r → ⊥
first_reads s t all h e x (Ok act) f = none_reads s 0 act all x f
first_reads s t all h e x (Err q) f = refused-not (sym (record-refused 0 s 0 h [] q f) ∙ records-begun s ∙ e)

no_lines : made [] ≡ records_in []
unfolding records_in is_text has_control run pieces words_of row_of slot_in ended read_words read_line read_lines read_text
no_lines = refl

its-records : (s t : List ℕ) → AllBytes s → write_text s ≡ made t → made s ≡ records_in s
its-records [] t all e = no_lines
its-records (b ∷ s) t all e = elim (split (is_text (b ∷ s))) [
  | inl x ↦ absurd (first_reads (b ∷ s) t all (omega arith) e x (record_at (b ∷ s) 0) refl)
  | inr f ↦ of-records (b ∷ s) f
]

short : (of : List ℕ → List ℕ) (s r : List ℕ) → length s ≤ longest_text → length r ≤ longest_schedule → made r ≡ records_in s → either_form of s ≡ of r
unfolding either_form
short of s r h l e = rw (le-ltb longest_text (length s) h, ← e, le-leb (length r) longest_schedule l)

turned : (s t : List ℕ) → AllBytes s → length s ≤ longest_schedule → write_text s ≡ made t → (text_output s ≡ t) × (records_output t ≡ s)
turned s t all l e =
    let f : length (text_or (write_text s)) ≤ 327680 = few-lines s l in
    let g : length (text_or (write_text s)) ≡ length t = ap (λ (x : Turn). length (text_or x)) e in (
      short (λ r. text_or (write_text r)) s s (omega arith) l (its-records s t all e) ∙ ap text_or e,
      short (λ r. r) t s (omega arith) l (sym (back s t all e)),
    )

pub nothing_lost : NothingLost
nothing_lost = record { none_reads = none_reads; no_text = no_text; back = back; turned = turned }
