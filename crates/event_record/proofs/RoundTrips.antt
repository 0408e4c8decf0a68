-- Event records, both ways round: the description is lawful. By the kind: what is unused is 0, and flags and kinds are what their numbers stand for.
use Prim.Native.Nat.{ℕ, zero, suc, ◌<◌}
use mathlib.Core.Path.{◌≡◌, refl, sym, ◌∙◌, ap}
use mathlib.Core.Bool.{Bool, true, ◌&&◌}
use mathlib.Core.List.{List}
use mathlib.Core.Logic.{inl, inr}
use native.Mathlib.Omega.{arith}
use lib.ListN.{get_or, length}
use borrow.Author.Tests.{eqb-true}
use Rattle.ground.specs.Tests.{split, and_l, and_r, no_both}
use Rattle.model.specs.declared.Act.{Act}
use Rattle.model.specs.declared.Act.TheVariants.{Play, Back}
use Rattle.model.specs.declared.Event.{Event}
use Rattle.model.specs.declared.Event.TheVariants.{Lock, Order, Cast, Deliver, Timeout, Decide, Stop, Save, Restore, OfBallots}
use Rattle.model.specs.declared.BallotEvent.TheVariants.{Open, Carry}
use Rattle.records.proofs.ByteLaws.{spread}
use Rattle.records.specs.Codes.{is_kind, is_flag, flag_of, flag_number, unused}
use Rattle.records.specs.CodeLaws.{kind-listed, kind-of-number, number-of-kind, ballot-kind-listed, ballot-kind-of-number, number-of-ballot-kind, kinds-apart, flag-listed, flag-of-number, number-of_flag}
use Rattle.records.proofs.CodecLaws.{Lawful, promises-kept}
use Rattle.records.specs.Promises.{Promises}
use Rattle.records.specs.Rows.{row_of}
use Rattle.event_record.specs.Events.{fields, fields_in, numbers_in, ballot_fields, event_fields, fields_of, delivery_listed, delivery_of, rows, row_for, events}
use Rattle.event_record.specs.declared.Fields.{Fields}
use Rattle.event_record.proofs.Rows.{no_row}

-- every event is in the table: as itself, and listed
event_found : (e : Event) → (row_for (event_fields e)).value ≡ Play e
unfolding row_for row_of rows event_fields ballot_fields
event_found (Lock n f own) = ap (λ (b : Bool). Play (Lock n f b)) (flag-of-number own)
event_found (Order o) = refl
event_found (Cast id w t) = ap (λ (b : Bool). Play (Cast id b t)) (flag-of-number w)
event_found (Deliver i j k) = rw (kind-listed k, kind-of-number k)
event_found (Timeout id) = refl
event_found (Decide id m) = rw (flag-of-number m)
event_found (Stop id) = refl
event_found (Save id) = refl
event_found (Restore id) = refl
event_found (OfBallots (Open id b)) = refl
event_found (OfBallots (Carry i j k b)) = rw (kinds-apart k, ballot-kind-of-number k)

event-listed : (e : Event) → (row_for (event_fields e)).listed ≡ true
unfolding row_for row_of rows event_fields ballot_fields
event-listed (Lock n f own) = rw (flag-listed own)
event-listed (Order o) = refl
event-listed (Cast id w t) = rw (flag-listed w)
event-listed (Deliver i j k) = rw (kind-listed k)
event-listed (Timeout id) = refl
event-listed (Decide id m) = rw (flag-listed m)
event-listed (Stop id) = refl
event-listed (Save id) = refl
event-listed (Restore id) = refl
event-listed (OfBallots (Open id b)) = refl
event-listed (OfBallots (Carry i j k b)) = rw (kinds-apart k, ballot-kind-listed k)

-- and so is every act
act_found : (act : Act) → (row_for (fields_of act)).value ≡ act
unfolding row_for row_of rows fields_of
act_found (Play e) = event_found e
act_found Back = refl

act-listed : (act : Act) → (row_for (fields_of act)).listed ≡ true
unfolding row_for row_of rows fields_of
act-listed (Play e) = event-listed e
act-listed Back = refl

-- fields that are unused are 0
both : (x y : ℕ) → (unused x && unused y) ≡ true → (x ≡ 0) × (y ≡ 0)
both x y t = (eqb-true x 0 (and_l (unused x) (unused y) t), eqb-true y 0 (and_r (unused x) (unused y) t))

all_three : (x y z : ℕ) → (unused x && unused y && unused z) ≡ true → (x ≡ 0) × ((y ≡ 0) × (z ≡ 0))
all_three x y z t =
    let e : (x ≡ 0) × (y ≡ 0) = both x y (and_l (unused x && unused y) (unused z) t) in
    (e.0, (e.1, eqb-true z 0 (and_r (unused x && unused y) (unused z) t)))

all-four : (x y z w : ℕ) → (unused x && unused y && unused z && unused w) ≡ true → (x ≡ 0) × ((y ≡ 0) × ((z ≡ 0) × (w ≡ 0)))
all-four x y z w t =
    let e : (x ≡ 0) × ((y ≡ 0) × (z ≡ 0)) = all_three x y z (and_l (unused x && unused y && unused z) (unused w) t) in
    (e.0, (e.1.0, (e.1.1, eqb-true w 0 (and_r (unused x && unused y && unused z) (unused w) t))))

flag_then : (x y : ℕ) → (is_flag x && unused y) ≡ true → (flag_number (flag_of x) ≡ x) × (y ≡ 0)
flag_then x y t = (number-of_flag x (and_l (is_flag x) (unused y) t), eqb-true y 0 (and_r (is_flag x) (unused y) t))

flag_both : (x y z : ℕ) → (is_flag x && unused y && unused z) ≡ true → (flag_number (flag_of x) ≡ x) × ((y ≡ 0) × (z ≡ 0))
flag_both x y z t =
    let e : (flag_number (flag_of x) ≡ x) × (y ≡ 0) = flag_then x y (and_l (is_flag x && unused y) (unused z) t) in
    (e.0, (e.1, eqb-true z 0 (and_r (is_flag x && unused y) (unused z) t)))

-- a delivery: of a plain telegram, or of one of a ballot
delivered : (a b c v : ℕ) → delivery_listed c v ≡ true → event_fields (delivery_of a b c v) ≡ fields 3 a b c v
unfolding event_fields ballot_fields
delivered a b c v t = elim (split (is_kind c)) [
  | inl y ↦ let z : v ≡ 0 = eqb-true v 0 (rw y at t) in rw (y, number-of-kind c y, z)
  | inr n ↦ rw (n, number-of-ballot-kind c (rw n at t))
]

unlisted : (x : Fields) → 10 < x.kind → (row_for x).listed ≡ true → ⊥
unlisted x h t = no_both (row_for x).listed t (rw (no_row x h))

-- the table gives back the fields that it was asked for
same-fields : (k a b c v : ℕ) → (row_for (fields k a b c v)).listed ≡ true → fields_of (row_for (fields k a b c v)).value ≡ fields k a b c v
unfolding row_for row_of rows event_fields fields_of ballot_fields
same-fields zero a b c v t = let e : (flag_number (flag_of c) ≡ c) × (v ≡ 0) = flag_then c v t in rw (e.0, e.1)
same-fields (suc zero) a b c v t = let e : (a ≡ 0) × ((b ≡ 0) × (c ≡ 0)) = all_three a b c t in rw (e.0, e.1.0, e.1.1)
same-fields (suc (suc zero)) a b c v t = let e : (flag_number (flag_of b) ≡ b) × (c ≡ 0) = flag_then b c t in rw (e.0, e.1)
same-fields (suc (suc (suc zero))) a b c v t = delivered a b c v t
same-fields (suc (suc (suc (suc zero)))) a b c v t = let e : (b ≡ 0) × ((c ≡ 0) × (v ≡ 0)) = all_three b c v t in rw (e.0, e.1.0, e.1.1)
same-fields (suc (suc (suc (suc (suc zero))))) a b c v t =
    let e : (flag_number (flag_of b) ≡ b) × ((c ≡ 0) × (v ≡ 0)) = flag_both b c v t in rw (e.0, e.1.0, e.1.1)
same-fields (suc (suc (suc (suc (suc (suc zero)))))) a b c v t =
    let e : (b ≡ 0) × ((c ≡ 0) × (v ≡ 0)) = all_three b c v t in rw (e.0, e.1.0, e.1.1)
same-fields (suc (suc (suc (suc (suc (suc (suc zero))))))) a b c v t =
    let e : (b ≡ 0) × ((c ≡ 0) × (v ≡ 0)) = all_three b c v t in rw (e.0, e.1.0, e.1.1)
same-fields (suc (suc (suc (suc (suc (suc (suc (suc zero)))))))) a b c v t =
    let e : (b ≡ 0) × ((c ≡ 0) × (v ≡ 0)) = all_three b c v t in rw (e.0, e.1.0, e.1.1)
same-fields (suc (suc (suc (suc (suc (suc (suc (suc (suc zero))))))))) a b c v t =
    let e : (a ≡ 0) × ((b ≡ 0) × ((c ≡ 0) × (v ≡ 0))) = all-four a b c v t in rw (e.0, e.1.0, e.1.1.0, e.1.1.1)
same-fields (suc (suc (suc (suc (suc (suc (suc (suc (suc (suc zero)))))))))) a b c v t = let e : (b ≡ 0) × (c ≡ 0) = both b c t in rw (e.0, e.1)
same-fields (suc (suc (suc (suc (suc (suc (suc (suc (suc (suc (suc k))))))))))) a b c v t =
    absurd (unlisted (fields (suc (suc (suc (suc (suc (suc (suc (suc (suc (suc (suc k))))))))))) a b c v) (omega arith) t)

fields-of-value : (v : List ℕ) → length v ≡ 5 → (row_for (fields_in v)).listed ≡ true → numbers_in (fields_of (row_for (fields_in v)).value) ≡ v
unfolding fields_in
fields-of-value v h t =
    ap numbers_in (same-fields (get_or v 0 0) (get_or v 1 0) (get_or v 2 0) (get_or v 3 0) (get_or v 4 0) t) ∙ sym (spread 5 v h)

value-of-fields : (act : Act) → (row_for (fields_in (numbers_in (fields_of act)))).value ≡ act
unfolding fields_in
value-of-fields act = act_found act

all_listed : (act : Act) → (row_for (fields_in (numbers_in (fields_of act)))).listed ≡ true
unfolding fields_in
all_listed act = act-listed act

pub lawful : Lawful events
lawful = record {
  mark_fits = λ k. omega arith;
  value-of-fields = λ e all. value-of-fields e;
  fields-of-value = λ k. fields-of-value;
  all_listed = λ e all. all_listed e;
  fit = λ e h all. (tt, (tt, (tt, (tt, (h.0, tt)))));
  told-apart = λ k e. refl;
  own = λ k v l all. refl;
}

pub promises : Promises events
promises = promises-kept events lawful
