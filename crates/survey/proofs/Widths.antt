-- No page is longer than its eleven numbers can be.
use Prim.Native.Nat.{ℕ, ◌≤◌}
use mathlib.Core.List.{◌++◌}
use native.Mathlib.Omega.{arith}
use lib.ListN.{length, length-append}
use Rattle.text.specs.Lengths.{decimal-length}
use Rattle.bench_report.specs.declared.MessageCounts.{MessageCounts}
use Rattle.survey.specs.declared.Endings.{Endings}
use Rattle.survey.specs.declared.Survey.{Survey}
use Rattle.survey.specs.Page.{endings_line, messages_line, most_line, mean_line, page, longest_page}

endings-length : (e : Endings) → length (endings_line e) ≤ 33
endings-length e = simp length-append (omega (arith, decimal-length e.moved, decimal-length e.stayed, decimal-length e.rest))

messages-length : (m : MessageCounts) → length (messages_line m) ≤ 44
messages-length m =
    simp length-append (omega (arith, decimal-length m.vote, decimal-length m.ack, decimal-length m.help, decimal-length m.helped))

two-length : (a b : ℕ) → length (mean_line a b) ≤ 22
two-length a b = simp length-append (omega (arith, decimal-length a, decimal-length b))

pub page-length : (r : Survey) (k : ℕ) → length (page r k) ≤ longest_page
unfolding page
page-length r k =
    let a : length (endings_line r.endings) ≤ 33 = endings-length r.endings in
    let b : length (messages_line r.messages) ≤ 44 = messages-length r.messages in
    let c : length (most_line r.most) ≤ 22 = two-length r.most.sent r.most.number in
    let d : length (mean_line r.sum k) ≤ 22 = two-length r.sum k in
    rw (
      length-append (endings_line r.endings) (messages_line r.messages ++ (most_line r.most ++ mean_line r.sum k)),
      length-append (messages_line r.messages) (most_line r.most ++ mean_line r.sum k),
      length-append (most_line r.most) (mean_line r.sum k),
    ) (omega arith)
