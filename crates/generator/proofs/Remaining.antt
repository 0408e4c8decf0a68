-- The loop over drawn events: what is written, and the records that remain, are the whole.
use Prim.Native.Nat.{ℕ, zero, suc, ◌-◌, ◌≤◌, ◌<◌}
use mathlib.Core.Path.{◌≡◌, refl, sym, ◌∙◌, ap}
use mathlib.Core.List.{List, [], ◌++◌, append_assoc, append-nil}
use native.Mathlib.Omega.{arith}
use lib.ListN.{length}
use Rattle.model.specs.declared.Act.TheVariants.{Play}
use Rattle.event_record.specs.Events.{event_bytes, records_of}
use Rattle.text.specs.Writing.{highest}
use Rattle.text.specs.Writers.{Wrote}
use Rattle.text.specs.declared.writer.Writer.{Writer}
use Rattle.text.proofs.Wrote.{wrote_then, wrote-text, wrote-nothing}
use Rattle.generator.specs.declared.Drawn.{Drawn}
use Rattle.generator.specs.Drawing.{drawn_event}
use Rattle.generator.specs.File.{event_records, drawn_from}

pub record Remaining (before after : Writer) (rest whole : List ℕ) : Type 0 where
  pub front : List ℕ
  pub wrote : Wrote before after front
  pub join : front ++ rest ≡ whole

pub none_yet : (w : Writer) (whole : List ℕ) → w.at ≤ highest → length w.out.now ≤ highest → Remaining w w whole whole
none_yet w whole h b = record { front = []; wrote = wrote-nothing w h b; join = refl }

left_less : (n left s : ℕ) → 0 < left → event_records (drawn_from n left s) ≡ event_bytes (Play (drawn_event n s).event) ++ event_records (drawn_from n (left - 1) (drawn_event n s).state)
unfolding drawn_from records_of
left_less n zero s h = absurd (omega arith)
left_less n (suc left) s h = let e : suc left - 1 ≡ left = omega arith in rw e

pub one_more : {a b c : Writer} {whole : List ℕ} (n left s : ℕ) (d : Drawn) → 0 < left → d ≡ drawn_event n s
    → Remaining a b (event_records (drawn_from n left s)) whole → Wrote b c (event_bytes (Play d.event))
    → Remaining a c (event_records (drawn_from n (left - 1) d.state)) whole
one_more {whole = whole} n left s d h e r p =
    let q : event_bytes (Play d.event) ++ event_records (drawn_from n (left - 1) d.state) ≡ event_records (drawn_from n left s) = rw e (sym (left_less n left s h)) in
    record {
      front = r.front ++ event_bytes (Play d.event);
      wrote = wrote_then r.wrote p;
      join = append_assoc r.front (event_bytes (Play d.event)) (event_records (drawn_from n (left - 1) d.state)) ∙ (ap (λ (x : List ℕ). r.front ++ x) q ∙ r.join);
    }

pub none_left : {a b : Writer} {whole : List ℕ} (n left s : ℕ) → left ≤ 0 → Remaining a b (event_records (drawn_from n left s)) whole → Wrote a b whole
unfolding drawn_from records_of
none_left n zero s h r = wrote-text r.wrote (sym (append-nil r.front) ∙ r.join)
none_left n (suc left) s h r = absurd (omega arith)
