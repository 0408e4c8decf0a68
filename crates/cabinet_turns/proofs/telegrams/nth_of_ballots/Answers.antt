-- What was sent in ballots is four lists, one behind the other. The k-th stands in the first that is long enough: within it by `here`, behind the lists before by `past`.
use mathlib.Core.Path.{◌∙◌}
use mathlib.Core.List.{◌++◌}
use Rattle.cabinet_turns.proofs.Nth.{here, past}
use Rattle.cabinet_turns.specs.Telegrams.{promise_sent, acceptance_sent, asks_sent, puts_sent, ballots_sent}
use Rattle.cabinet_turns.proofs.telegrams.nth_of_ballots.Goals as goal

pub returns-then-k-promises : goal.returns-then-k-promises
unfolding ballots_sent
returns-then-k-promises c =
    let start = c.args in
    let p = promise_sent start.me start.x in
    let a = acceptance_sent start.me start.x in
    let q = asks_sent start.me start.x in
    let u = puts_sent start.me start.x in
    c.nth_promise.ensures ∙ here p (a ++ (q ++ u)) start.k _ c.count_promise-promises.ensures c.if-k-promises.true

pub returns-then-past_promise-acceptances : goal.returns-then-past_promise-acceptances
unfolding ballots_sent
returns-then-past_promise-acceptances c =
    let start = c.args in
    let p = promise_sent start.me start.x in
    let a = acceptance_sent start.me start.x in
    let q = asks_sent start.me start.x in
    let u = puts_sent start.me start.x in
    c.nth_acceptance.ensures ∙ here a (q ++ u) _ _ c.count_acceptance-acceptances.ensures c.if-past_promise-acceptances.true
    ∙ past p (a ++ (q ++ u)) start.k _ c.count_promise-promises.ensures c.if-k-promises.false

pub returns-then-past_acceptance-asks : goal.returns-then-past_acceptance-asks
unfolding ballots_sent
returns-then-past_acceptance-asks c =
    let start = c.args in
    let p = promise_sent start.me start.x in
    let a = acceptance_sent start.me start.x in
    let q = asks_sent start.me start.x in
    let u = puts_sent start.me start.x in
    c.nth_ask.ensures ∙ here q u _ _ c.count_asks-asks.ensures c.if-past_acceptance-asks.true
    ∙ past a (q ++ u) _ _ c.count_acceptance-acceptances.ensures c.if-past_promise-acceptances.false
    ∙ past p (a ++ (q ++ u)) start.k _ c.count_promise-promises.ensures c.if-k-promises.false

pub returns : goal.returns
unfolding ballots_sent
returns c =
    let start = c.args in
    let p = promise_sent start.me start.x in
    let a = acceptance_sent start.me start.x in
    let q = asks_sent start.me start.x in
    let u = puts_sent start.me start.x in
    c.nth_put.ensures ∙ past q u _ _ c.count_asks-asks.ensures c.if-past_acceptance-asks.false
    ∙ past a (q ++ u) _ _ c.count_acceptance-acceptances.ensures c.if-past_promise-acceptances.false
    ∙ past p (a ++ (q ++ u)) start.k _ c.count_promise-promises.ensures c.if-k-promises.false
