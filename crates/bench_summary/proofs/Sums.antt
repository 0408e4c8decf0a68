-- A sum over the first controllers, and one more; the same of the messages of all kinds.
use Prim.Native.Nat.{ℕ, suc, ◌+◌}
use mathlib.Core.Path.{◌≡◌, refl, ◌∙◌, ap}
use native.Mathlib.Nat.{add_comm}
use native.Mathlib.Numerals.{add-one}
use Rattle.model.specs.declared.Kind.{Kind}
use Rattle.model.specs.declared.Kind.TheVariants.{Vote, Ack, Help, Helped}
use Rattle.protocol.specs.declared.Bench.{Bench}
use Rattle.protocol.specs.declared.Station.{Station}
use Rattle.protocol.specs.Display.{sum_to, sent_count}
use Rattle.bench_report.specs.declared.MessageCounts.{MessageCounts}
use Rattle.bench_summary.specs.Summary.{counts_to, sent_at, more_sent}

more-sum : (g : ℕ → ℕ) (i total r : ℕ) → total ≡ sum_to i g → r ≡ g (suc i) → total + r ≡ sum_to (i + 1) g
unfolding sum_to
more-sum g i total r e q = add_comm total r ∙ rw (add-one, e, q)

pub no-messages : (b : Bench) → ◌≡◌ {A = MessageCounts} (record { vote = 0; ack = 0; help = 0; helped = 0 }) (counts_to b 0)
unfolding sum_to
no-messages b = refl

pub more-messages : (b : Bench) (n i : ℕ) (t r : MessageCounts) (s : Station) → t ≡ counts_to b i → r ≡ more_sent t n i s
    → ((kind : Kind) → sent_at n i kind s ≡ sent_count b kind (suc i)) → r ≡ counts_to b (i + 1)
more-messages b n i t r s e q h =
    let vote = more-sum (sent_count b Vote) i t.vote (sent_at n i Vote s) (ap (λ (x : MessageCounts). x.vote) e) (h Vote) in
    let ack = more-sum (sent_count b Ack) i t.ack (sent_at n i Ack s) (ap (λ (x : MessageCounts). x.ack) e) (h Ack) in
    let help = more-sum (sent_count b Help) i t.help (sent_at n i Help s) (ap (λ (x : MessageCounts). x.help) e) (h Help) in
    let helped = more-sum (sent_count b Helped) i t.helped (sent_at n i Helped s) (ap (λ (x : MessageCounts). x.helped) e) (h Helped) in
    q ∙ (λ k. record { vote = vote k; ack = ack k; help = help k; helped = helped k })
