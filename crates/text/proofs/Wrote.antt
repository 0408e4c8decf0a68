-- Texts by a writer, one after another; none; lines.
use Rattle.std.specs.Prelude.{ℕ, ◌+◌, ◌≤◌, ◌≡◌, refl, List, [], ◌++◌, length}
use Rattle.std.proofs.Common.{◌∙◌}
use Rattle.text.specs.Text.{lines}
use Rattle.text.specs.Writing.{highest}
use Rattle.text.specs.WritingLaws.{put-text, put_then, put-nothing, put-none, put-line, put-lines}
use Rattle.text.specs.Writers.{Wrote}
use Rattle.text.specs.declared.writer.Writer.{Writer}

module _ {a b : Writer} where
  module _ {s t : List ℕ} where
    pub wrote_then : {c : Writer} → Wrote a b s → Wrote b c t → Wrote a c (s ++ t)
    wrote_then p q = record { same_buffer = q.same_buffer ∙ p.same_buffer; put = put_then p.put q.put }

    -- the text in other words
    pub wrote-text : Wrote a b s → s ≡ t → Wrote a b t
    wrote-text p e = record { same_buffer = p.same_buffer; put = put-text p.put e }

  -- lines: one more, and so many of them
  pub wrote-line : {c : Writer} (h : ℕ) (at : ℕ → List ℕ) → Wrote a b (lines h at) → Wrote b c (at h) → Wrote a c (lines (h + 1) at)
  wrote-line h at p q = record { same_buffer = q.same_buffer ∙ p.same_buffer; put = put-line h at p.put q.put }

  pub wrote-lines : {h n : ℕ} (at : ℕ → List ℕ) → h ≡ n → Wrote a b (lines h at) → Wrote a b (lines n at)
  wrote-lines at e p = record { same_buffer = p.same_buffer; put = put-lines at e p.put }

-- nothing, and no lines
module _ (w : Writer) where
  pub wrote-nothing : w.at ≤ highest → length w.out.now ≤ highest → Wrote w w []
  wrote-nothing h b = record { same_buffer = refl; put = put-nothing _ _ h b }

  pub wrote-none : (at : ℕ → List ℕ) → w.at ≤ highest → length w.out.now ≤ highest → Wrote w w (lines 0 at)
  wrote-none at h b = record { same_buffer = refl; put = put-none _ _ at h b }
