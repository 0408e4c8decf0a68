-- What the calls that look at a cabinet come to, case by case.
use Prim.Native.Nat.{ℕ, ◌<◌, ◌≤◌}
use mathlib.Core.Path.{◌≡◌, refl, sym, ap, ◌∙◌}
use mathlib.Core.List.{List}
use lib.ListN.{length}
use borrow.Author.Tests.{eq-eqb, ne_eqb, le-leb, lt-leb}
use Rattle.model.specs.Questions.{number}
use Rattle.model.specs.declared.Checkpoint.{Checkpoint}
use Rattle.model.specs.declared.Telegram.{Telegram}
use Rattle.records.specs.Codec.{write_reply, writes}
use Rattle.checkpoint_record.specs.Checkpoints.{checkpoints}
use Rattle.message_record.specs.Telegrams.{telegrams}
use Rattle.protocol.specs.Calls.{save}
use Rattle.cabinet_state.specs.declared.Cabinet.{Cabinet}
use Rattle.cabinet_state.specs.Words.{cabinet_of}
use Rattle.cabinet_state.specs.States.{state_refusal, leave_number, leave_words}
use Rattle.cabinet_turns.specs.Shown.{shown}
use Rattle.cabinet.specs.Calls.{card_reply, card_after, card_number, card_bytes, nth_telegram, sent_number, sent_bytes, sent_length, length_number, shown_number, shown_words}
use Rattle.std.specs.Prelude.{Option, Some, None}

-- leaving the same cabinet
pub same_left : (l m : List ℕ) (r q q' : ℕ) (s s' : Cabinet) → q ≡ q' → s ≡ s' → (r ≡ leave_number l q) × (m ≡ leave_words l q s) → (r ≡ leave_number l q') × (m ≡ leave_words l q' s')
same_left l m r q q' s s' e x (a, b) = (a ∙ ap (leave_number l) e, b ∙ ap (λ (k : ℕ). leave_words l k s) e ∙ ap (leave_words l q') x)

-- a card
pub saved-none : (out : List ℕ) (saved : Option Checkpoint) → saved ≡ None → (15 ≡ card_reply out saved) × (out ≡ card_after out saved)
unfolding card_reply card_after
saved-none out saved e = rw e (refl, refl)

pub saved-some : (out after : List ℕ) (r : ℕ) (saved : Option Checkpoint) (p : Checkpoint) → saved ≡ Some p → (r ≡ number (write_reply checkpoints out p)) × (after ≡ writes checkpoints out p)
    → (r ≡ card_reply out saved) × (after ≡ card_after out saved)
unfolding card_reply card_after
saved-some out after r saved p e x = rw e x

pub card-none : (out : List ℕ) (s : Cabinet) → s.me.order < 1 → (14 ≡ card_number out s) × (out ≡ card_bytes out s)
unfolding card_number card_bytes
card-none out s h = let e = lt-leb 1 s.me.order h in (rw e, rw e)

pub card-some : (out after : List ℕ) (r : ℕ) (s : Cabinet) (saved : Option Checkpoint) → 1 ≤ s.me.order → saved ≡ save s.me s.controller
    → (r ≡ card_reply out saved) × (after ≡ card_after out saved) → (r ≡ card_number out s) × (after ≡ card_bytes out s)
unfolding card_number card_bytes
card-some out after r s saved h e (a, b) = let y = le-leb 1 s.me.order h in (rw y (a ∙ ap (card_reply out) e), rw y (b ∙ ap (card_after out) e))

-- a telegram
pub sent-none : (out : List ℕ) (t : Option Telegram) → t ≡ None → (17 ≡ sent_number out t) × (out ≡ sent_bytes out t)
unfolding sent_number sent_bytes
sent-none out t e = rw e (refl, refl)

pub sent-some : (out after : List ℕ) (r : ℕ) (t : Option Telegram) (x : Telegram) → t ≡ Some x → (r ≡ number (write_reply telegrams out x)) × (after ≡ writes telegrams out x)
    → (r ≡ sent_number out t) × (after ≡ sent_bytes out t)
unfolding sent_number sent_bytes
sent-some out after r t x e y = rw e y

pub same_sent : (out after : List ℕ) (r : ℕ) (t t' : Option Telegram) → t ≡ t' → (r ≡ sent_number out t) × (after ≡ sent_bytes out t) → (r ≡ sent_number out t') × (after ≡ sent_bytes out t')
same_sent out after r t t' e (a, b) = (a ∙ ap (sent_number out) e, b ∙ ap (sent_bytes out) e)

pub no_length : (l : List ℕ) (k w : ℕ) → w ≡ state_refusal l → (w ≡ 0 → ⊥) → 0 ≡ length_number k l
unfolding length_number
no_length l k w e h = rw (ne_eqb (state_refusal l) 0 (λ z. h (e ∙ z)))

pub a-length : (l : List ℕ) (k w r : ℕ) (s : Cabinet) (t : Option Telegram) → w ≡ state_refusal l → w ≡ 0 → s ≡ cabinet_of l → t ≡ nth_telegram k s → r ≡ sent_length t → r ≡ length_number k l
unfolding length_number
a-length l k w r s t e z x y q = rw (eq-eqb (state_refusal l) 0 (sym e ∙ z)) (q ∙ ap sent_length (y ∙ ap (nth_telegram k) x))

-- what a display shows
pub not-seven : (out : List ℕ) (s : Cabinet) → (length out ≡ 7 → ⊥) → (1 ≡ shown_number out s) × (out ≡ shown_words out s)
unfolding shown_number shown_words
not-seven out s h = let e = ne_eqb (length out) 7 h in (rw e, rw e)

pub shown-seven : (out after words : List ℕ) (s : Cabinet) → length out ≡ 7 → words ≡ shown s → after ≡ words → (0 ≡ shown_number out s) × (after ≡ shown_words out s)
unfolding shown_number shown_words
shown-seven out after words s h e w = let y = eq-eqb (length out) 7 h in (rw y, rw y (w ∙ e))
