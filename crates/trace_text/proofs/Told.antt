-- Lines by a writer: none of them, those for one number more, as many as there are; one list of lines after another; a line that is told if a test says so.
use Rattle.std.specs.Prelude.{ℕ, suc, ◌+◌, ◌≤◌, Bool, cond, List, [], ◌++◌, ◌≡◌, length}
use Rattle.std.proofs.Common.{◌∙◌}
use Rattle.text.specs.Text.{ascii}
use Rattle.text.specs.Writing.{highest}
use Rattle.text.specs.Writers.{Wrote}
use Rattle.text.specs.declared.writer.Writer.{Writer}
use Rattle.text.proofs.Wrote.{wrote-nothing}
use Rattle.model.specs.declared.Event.{Event}
use Rattle.trace.specs.Lines.{Line, Sent, Puts, told_of, text, when, each}
use Rattle.trace.specs.LineLaws.{put-more, put_all, put_both, put-sent, put_word}

pub wrote_no-lines : (w : Writer) (g : ℕ → List Line) → w.at ≤ highest → length w.out.now ≤ highest → Wrote w w (text (each 0 g))
unfolding each text
wrote_no-lines w g h b = wrote-nothing w h b

module _ {a b : Writer} where
  pub wrote-more : {c : Writer} (h : ℕ) (g : ℕ → List Line) → Wrote a b (text (each h g)) → Wrote b c (text (g (suc h))) → Wrote a c (text (each (h + 1) g))
  wrote-more h g p q = record { same_buffer = q.same_buffer ∙ p.same_buffer; put = put-more h g p.put q.put }

  pub wrote_all : {h n : ℕ} (g : ℕ → List Line) → h ≡ n → Wrote a b (text (each h g)) → Wrote a b (text (each n g))
  wrote_all g e p = record { same_buffer = p.same_buffer; put = put_all g e p.put }

  pub wrote_both : {c : Writer} (s t : List Line) → Wrote a b (text s) → Wrote b c (text t) → Wrote a c (text (s ++ t))
  wrote_both s t p q = record { same_buffer = q.same_buffer ∙ p.same_buffer; put = put_both s t p.put q.put }

  module _ (t u : Bool) (d e : Event) (p : t ≡ u) (q : d ≡ e) where
    pub wrote-sent : Wrote a b (cond t (ascii "sent" ++ told_of d) []) → Wrote a b (text (when u (Sent e)))
    wrote-sent w = record { same_buffer = w.same_buffer; put = put-sent t u d e p q w.put }

    pub wrote_word : Wrote a b (cond t (ascii "put" ++ told_of d) []) → Wrote a b (text (when u (Puts e)))
    wrote_word w = record { same_buffer = w.same_buffer; put = put_word t u d e p q w.put }
