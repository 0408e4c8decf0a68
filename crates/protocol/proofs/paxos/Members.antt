-- What the rules of document 01 do to a controller, as far as ballots look at it: a word put stays while it runs, and the arbiter hears of each. By the
-- cases of each rule (view/RuleCases).
use Prim.Native.Nat.{ℕ}
use mathlib.Core.Path.{◌≡◌, refl, sym, ◌∙◌, ap}
use mathlib.Core.Bool.{Bool, true, false, not, ◌&&◌}
use mathlib.Core.Logic.{◌⊎◌, inl, inr}
use Rattle.ground.specs.Tests.{no_both, by_cond}
use Rattle.votes.specs.Joining.{unanimous_in}
use Rattle.votes.specs.declared.VoteSet.{VoteSet}
use Rattle.votes.specs.Joining.{Joined}
use Rattle.model.specs.Ranges.{is_backup}
use Rattle.model.specs.Numbers.{word_of, is_none}
use Rattle.model.specs.declared.Kind.{Kind}
use Rattle.model.specs.declared.Outcome.{Outcome}
use Rattle.protocol.specs.declared.Condition.{Condition}
use Rattle.protocol.specs.declared.Controller.{Controller}
use Rattle.protocol.specs.declared.Answer.{Answer}
use Rattle.protocol.specs.Controllers.{is_running, runs, cleared, has_ack, advance, learn, aim, keep_ack, keep_helped, freeze, add_caller, await, propose, conclude}
use Rattle.protocol.specs.Rules.{passing_over, becomes, proposing, verdict, vote_rule, count_own, first_timeout, ack_join, propose_if_sufficient, answers_join, frozen, ready, calls_help, second_timeout, answers_call}
use Rattle.protocol.specs.Calls.{arrives}
use Rattle.protocol.proofs.view.Performed.{timeout_rule}
use Rattle.protocol.proofs.view.RuleCases.{sufficient_cases, second_cases, timeout_cases, arrives_cases}
use Rattle.protocol.proofs.invariant.Words.{none-word, some_word}
use Rattle.protocol.proofs.paxos.Invariant.{IsPut}

pub record Steady (c : Controller) (a : Answer) : Type 0 where
  pub stays : runs a.controller ≡ true → IsPut c.proposal → IsPut a.controller.proposal
  pub put : (w : Bool) → a.controller.proposal ≡ word_of w → (c.proposal ≡ word_of w) ⊎ (a.proposal ≡ word_of w)

pub becomes_steady : (c c' : Controller) → c'.proposal ≡ c.proposal → Steady c (becomes c')
unfolding becomes
becomes_steady c c' h = record { stays = λ _ e. ap is_none h ∙ e; put = λ w e. inl (sym h ∙ e) }

pub passed_steady : (c : Controller) → Steady c (passing_over c)
unfolding passing_over
passed_steady c = record { stays = λ _ e. e; put = λ w e. inl e }

module _ (n f : ℕ) (c : Controller) where
  verdict-put : (j : Joined) → IsPut (verdict n j)
  unfolding verdict
  verdict-put j = some_word (unanimous_in n j)

  puts_steady : (a : Answer) (o : Outcome) → IsPut o → Steady c (proposing a o)
  unfolding proposing propose
  puts_steady a o p = record { stays = λ _ _. p; put = λ w e. inr e }

  settle_steady : (a : Answer) → Steady c a → Steady c (propose_if_sufficient n f a)
  settle_steady a h = sufficient_cases (Steady c) n f a (λ q. puts_steady a (verdict n (answers_join n a.controller)) (verdict-put _)) (λ q. h)

  pub vote_steady : (i : ℕ) (w : Bool) (t : ℕ) → Steady c (vote_rule n f i w t c)
  unfolding vote_rule advance aim learn
  vote_steady i w t = record { stays = λ _ e. e; put = λ w e. inl e }

  own-counted : (i : ℕ) → (count_own f i c).proposal ≡ c.proposal
  unfolding count_own keep_ack
  own-counted i = by_cond (λ (x : Controller). x.proposal ≡ c.proposal) (is_backup f i && not (has_ack c i)) (keep_ack c i c.votes) c (λ e. refl) (λ e. refl)

  first_steady : (i : ℕ) → Steady c (first_timeout n f i c)
  unfolding first_timeout advance
  first_steady i = record { stays = λ _ e. ap is_none (own-counted i) ∙ e; put = λ w e. inl (sym (own-counted i) ∙ e) }

  second_steady : (i : ℕ) → Steady c (second_timeout n f i c)
  second_steady i = second_cases (Steady c) n f i c
      (λ d. unfold ready conclude frozen freeze advance in record { stays = λ _ e. e; put = λ w e. inl e })
      (λ e. puts_steady _ (verdict n (ack_join n c)) (verdict-put _))
      (λ e. settle_steady _ (unfold calls_help keep_helped await frozen freeze advance in record { stays = λ _ e. e; put = λ w e. inl e }))

  pub timeout_steady : (i : ℕ) → Steady c (timeout_rule n f i c)
  timeout_steady i = timeout_cases (Steady c) n f i c (λ _. first_steady i) (λ _. second_steady i)

  pub arrives_steady : (kind : Kind) (i : ℕ) (s : VoteSet) → Steady c (arrives kind n f i s c)
  arrives_steady kind i s = arrives_cases (Steady c) n f kind i s c (λ c' q. becomes_steady c c' q.proposal) settle_steady
      (λ z p q. unfold answers_call add_caller in record { stays = λ _ e. e; put = λ w e. inl e }) (passed_steady c)

  pub decide_steady : (o : Outcome) → Steady c (becomes (conclude c o))
  decide_steady o = becomes_steady c (conclude c o) (unfold conclude in refl)

pub cleared_steady : (k : Condition) (c : Controller) → is_running k ≡ false → Steady c (becomes (cleared k c))
unfolding becomes cleared
cleared_steady k c z = record { stays = λ r _. absurd (no_both (is_running k) r z); put = λ w e. none-word w e }

pub cleared-idle : (k : Condition) (c : Controller) → is_running k ≡ false → runs (becomes (cleared k c)).controller ≡ true → ⊥
unfolding becomes cleared
cleared-idle k c z r = no_both (is_running k) r z
