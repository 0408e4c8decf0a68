-- The fields of what was read from bytes are those bytes: each field is held by its own.
use Prim.Native.Nat.{ℕ, ◌+◌, ◌*◌, ◌^◌, ◌<◌}
use mathlib.Core.Path.{◌≡◌, refl, sym, ◌∙◌, ap}
use mathlib.Core.List.{List}
use native.Mathlib.Omega.{arith}
use native.Mathlib.Decide.{dec_lt}
use lib.ListN.{length, take, drop, get_or, get_or-eq_default, length-take}
use lib.Seq.{get_or-take, get_or-drop}
use Rattle.model.specs.Questions.{Reply, accepted, refused, first_no}
use Rattle.model.specs.QuestionLaws.{all_yes}
use Rattle.model.specs.declared.Act.{Act}
use Rattle.records.specs.Bytes.{byte, number4, AllBytes}
use Rattle.records.specs.Codec.{fields_by, value_by, form_questions, returned, reads}
use Rattle.event_record.specs.Events.{numbers_in, fields_of, event_form, events, read_event}
use Rattle.std.specs.Prelude.{Ok}
use Rattle.event_record.proofs.RoundTrips.{lawful}
use Rattle.schedule_text.proofs.Shows.{Held}

pub bytes-taken : (n : ℕ) (s : List ℕ) → AllBytes s → AllBytes (take n s)
bytes-taken n s all at = elim (dec_lt at n) [
  | yes h ↦ let e : byte (take n s) at ≡ byte s at = get_or-take n s at 0 h in let b = all at in omega arith
  | no h ↦
      let l : length (take n s) ≡ _ = length-take n s in
      let e : byte (take n s) at ≡ 0 = get_or-eq_default (take n s) 0 (omega arith) in
      omega arith
]

pub bytes_left : (n : ℕ) (s : List ℕ) → AllBytes s → AllBytes (drop n s)
bytes_left n s all at = let e : byte (drop n s) at ≡ byte s (n + at) = get_or-drop n s at 0 in let b = all (n + at) in omega arith

was_read : (r : Reply) (a act : Act) → returned events r a ≡ Ok act → (r ≡ accepted) × (a ≡ act)
was_read accepted a act e = let f : a ≡ act = cc in (refl, f)
was_read (refused q) a act e = let z : ◌≡◌ {A = ℕ} 0 1 = cc in absurd (omega arith)

same_numbers : (p : List ℕ) (act : Act) → read_event p ≡ Ok act → numbers_in (fields_of act) ≡ fields_by event_form p
unfolding reads
same_numbers p act e =
    let w = was_read (first_no (form_questions event_form p)) (value_by event_form p) act e in
    let yes = all_yes (form_questions event_form p) w.0 in
    ap (λ (a : Act). numbers_in (fields_of a)) (sym w.1) ∙ lawful.fields-of-value tt (fields_by event_form p) refl yes.1.1.0

four_bytes : (a b c d : ℕ) → a < 256 → b < 256 → c < 256 → d < 256 → (a * 256 + b) * 65536 + (c * 256 + d) < 2 ^ 32
four_bytes a b c d p q r s = omega arith

pub held : (p : List ℕ) (act : Act) → AllBytes p → read_event p ≡ Ok act → Held (fields_of act)
held p act all e =
    let n : numbers_in (fields_of act) ≡ fields_by event_form p = same_numbers p act e in
    let a : (fields_of act).a ≡ byte p 3 = ap (λ (v : List ℕ). get_or v 1 0) n in
    let b : (fields_of act).b ≡ byte p 4 = ap (λ (v : List ℕ). get_or v 2 0) n in
    let c : (fields_of act).c ≡ byte p 5 = ap (λ (v : List ℕ). get_or v 3 0) n in
    let v : (fields_of act).value ≡ number4 p 6 = ap (λ (v : List ℕ). get_or v 4 0) n in
    let f = four_bytes (byte p 6) (byte p 7) (byte p 8) (byte p 9) (all 6) (all 7) (all 8) (all 9) in
    record { a = rw a (all 3); b = rw b (all 4); c = rw c (all 5); value = rw v f }
