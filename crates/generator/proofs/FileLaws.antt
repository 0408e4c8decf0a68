-- Laws of files: records one after another, their lengths, and what is read at a place.
use Rattle.std.specs.Prelude.{ℕ, zero, suc, ◌+◌, ◌*◌, ◌^◌, ◌<◌, ◌≡◌, refl, true, false, List, [], ◌∷◌, ◌++◌, length, get_or}
use Rattle.std.proofs.Common.{sym, ◌∙◌, ap, append_assoc, append-nil, add-one, arith, length-append}
use Rattle.model.specs.Questions.{first_no}
use Rattle.model.specs.declared.Act.TheVariants.{Play}
use Rattle.model.specs.declared.Event.{Event}
use Rattle.model.specs.declared.Event.TheVariants.{Lock, Order, Cast}
use Rattle.records.specs.Promises.{Promises}
use Rattle.event_record.specs.Events.{event_fields, fields_of, events, event_length, event_bytes, read_event, records_of}
use Rattle.std.specs.Prelude.{Ok}
use Rattle.schedule_reader.specs.Pieces.{piece_at, record_at}
use Rattle.xorshift.specs.Claim.{Draws}
use Rattle.generator.specs.Drawing.{drawn_event}
use Rattle.generator.specs.DrawingLaws.{drawn-value, drawn-state}
use Rattle.generator.specs.File.{event_records, votes_to, drawn_from, events_of, file_of}
use Rattle.generator.specs.Claim.{records_in, state_after, Files}

records-append : (es es' : List Event) → event_records (es ++ es') ≡ event_records es ++ event_records es'
unfolding records_of
records-append [] es' = refl
records-append (e ∷ es) es' = ap (λ (l : List ℕ). event_bytes (Play e) ++ l) (records-append es es') ∙ sym (append_assoc (event_bytes (Play e)) (event_records es) (event_records es'))

-- one vote more
pub one-vote-more : (k : ℕ) → event_records (votes_to k) ++ event_bytes (Play (Cast (k + 1) true 0)) ≡ event_records (votes_to (k + 1))
unfolding votes_to records_of
one-vote-more k =
    rw add-one
    (ap (λ (l : List ℕ). event_records (votes_to k) ++ l) (sym (append-nil (event_bytes (Play (Cast (suc k) true 0))))) ∙ sym (records-append (votes_to k) (Cast (suc k) true 0 ∷ [])))

-- lengths
length-votes : (k : ℕ) → length (votes_to k) ≡ k
unfolding votes_to
length-votes zero = refl
length-votes (suc k) =
    let e : length (votes_to k) ≡ k = length-votes k in
    length-append (votes_to k) (Cast (suc k) true 0 ∷ []) ∙ omega arith

length-drawn : (n count s : ℕ) → length (drawn_from n count s) ≡ count
unfolding drawn_from
length-drawn n zero s = refl
length-drawn n (suc count) s = let e : length (drawn_from n count (drawn_event n s).state) ≡ count = length-drawn n count (drawn_event n s).state in omega arith

length-events : (n f count start : ℕ) → length (events_of n f count start) ≡ records_in n count
unfolding events_of
length-events n f count start =
    let v : length (votes_to n) ≡ n = length-votes n in
    let d : length (drawn_from n count start) ≡ count = length-drawn n count start in
    let a : length (votes_to n ++ drawn_from n count start) ≡ length (votes_to n) + length (drawn_from n count start) = length-append (votes_to n) (drawn_from n count start) in
    omega arith

length-records : (es : List Event) → length (event_records es) ≡ event_length * length es
unfolding records_of
length-records [] = refl
length-records (e ∷ es) =
    let r : length (event_records es) ≡ event_length * length es = length-records es in
    length-append (event_bytes (Play e)) (event_records es) ∙ omega arith

pub length_file : (n f count start : ℕ) → length (file_of n f count start) ≡ event_length * records_in n count
length_file n f count start = length-records (events_of n f count start) ∙ ap (λ (k : ℕ). event_length * k) (length-events n f count start)

-- values that four bytes hold
abbrev Small : List Event → Type 0
Small [] = Unit
Small (e ∷ es) = ((event_fields e).value < 2 ^ 32) × Small es

small-append : (es es' : List Event) → Small es → Small es' → Small (es ++ es')
small-append [] es' a b = b
small-append (e ∷ es) es' a b = (a.0, small-append es es' a.1 b)

small-votes : (k : ℕ) → Small (votes_to k)
unfolding votes_to event_fields
small-votes zero = tt
small-votes (suc k) = small-append (votes_to k) (Cast (suc k) true 0 ∷ []) (small-votes k) (omega arith, tt)

small-drawn : (n count s : ℕ) → Small (drawn_from n count s)
unfolding drawn_from
small-drawn n zero s = tt
small-drawn n (suc count) s =
    let e : (event_fields (drawn_event n s).event).value ≡ 0 = drawn-value n s in
    (omega arith, small-drawn n count (drawn_event n s).state)

small-events : (n f count start : ℕ) → Small (events_of n f count start)
unfolding events_of event_fields
small-events n f count start = (omega arith, (omega arith, small-append (votes_to n) (drawn_from n count start) (small-votes n) (small-drawn n count start)))

-- record k of records is that of event k
piece-first : (e : Event) (rest : List ℕ) → piece_at (event_bytes (Play e) ++ rest) 0 ≡ event_bytes (Play e)
unfolding piece_at
piece-first e rest = refl

piece-next : (e : Event) (rest : List ℕ) (at : ℕ) → piece_at (event_bytes (Play e) ++ rest) (event_length + at) ≡ piece_at rest at
unfolding piece_at
piece-next e rest at = let place : event_length + at ≡ suc (suc (suc (suc (suc (suc (suc (suc (suc (suc at))))))))) = omega arith in rw place

records-read : Promises events → (d : Event) (es : List Event) → Small es → (k : ℕ) → k < length es → record_at (event_records es) (event_length * k) ≡ Ok (Play (get_or es k d))
unfolding records_of fields_of first_no
records-read p d [] s k h = absurd (omega arith)
records-read p d (e ∷ es) s zero h = ap read_event (piece-first e (event_records es)) ∙ p.reads-back (Play e) (s.0, tt) refl
records-read p d (e ∷ es) s (suc k) h =
    let place : event_length * suc k ≡ event_length + event_length * k = omega arith in
    ap (record_at (event_bytes (Play e) ++ event_records es)) place
    ∙ (ap read_event (piece-next e (event_records es) (event_length * k)) ∙ records-read p d es s.1 k (omega arith))

-- the whole file, from its parts
pub file-parts : (n f count start : ℕ)
    → event_bytes (Play (Lock n f false)) ++ (event_bytes (Play (Order 1)) ++ (event_records (votes_to n) ++ event_records (drawn_from n count start))) ≡ file_of n f count start
unfolding events_of records_of
file-parts n f count start = ap (λ (l : List ℕ). event_bytes (Play (Lock n f false)) ++ (event_bytes (Play (Order 1)) ++ l)) (sym (records-append (votes_to n) (drawn_from n count start)))

-- states
states : Draws → (n k s : ℕ) → 0 < s → s < 2 ^ 32 → 0 < state_after n k s
states d n zero s p h = p
states d n (suc k) s p h =
    let e : (0 < (drawn_event n s).state) × ((drawn_event n s).state < 2 ^ 32) = drawn-state d n s p h in states d n k (drawn_event n s).state e.0 e.1

pub files-kept : Promises events → Draws → Files
files-kept p d = record {
  reads = λ n f count start k h.
      let l : length (events_of n f count start) ≡ records_in n count = length-events n f count start in
      records-read p (Lock n f false) (events_of n f count start) (small-events n f count start) k (omega arith);
  long = length_file;
  never-zero = states d;
}
