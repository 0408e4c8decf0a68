-- A message keeps the invariant: one that is taken contradicts no vote set held, since it passed the test, so with it all that is held tells one word of
-- each controller (Telling). By the cases of each rule.
use Prim.Native.Nat.{ℕ, ◌≤◌}
use mathlib.Core.Path.{◌≡◌, refl, ◌∙◌, ap}
use mathlib.Core.Bool.{true, false, ◌&&◌}
use lib.Dec.{leb}
use mathlib.Core.Logic.{inl, inr}
use borrow.Author.Tests.{leb-true, leb-false}
use Rattle.ground.specs.Limit.{limit}
use Rattle.ground.specs.Tests.{split, no_both, refuted, by_cond, and_l, and_r}
use Rattle.ground.specs.Mask.{within}
use Rattle.ground.proofs.Inclusion.{within_has}
use Rattle.votes.specs.VoteSets.{knows, wills}
use Rattle.votes.proofs.VoteLaws.{union-knows}
use Rattle.votes.specs.Joining.{contradicts, join, agreed_or}
use Rattle.votes.specs.declared.VoteSet.{VoteSet}
use Rattle.model.specs.declared.Kind.{Kind}
use Rattle.model.specs.declared.Kind.TheVariants.{Vote, Ack, Help, Helped}
use Rattle.model.specs.declared.Message.{Message}
use Rattle.message_record.specs.Messages.{bits_in_range, suits}
use Rattle.protocol.specs.declared.Identity.{Identity}
use Rattle.protocol.specs.declared.Controller.{Controller}
use Rattle.protocol.specs.declared.Answer.{Answer}
use Rattle.protocol.specs.Controllers.{phase, has_ack, ack_of, learn}
use Rattle.protocol.specs.Rules.{is_taken, passing_over, contradicted, becomes, proposing, propose_if_sufficient, keeps_call, answers_call}
use Rattle.protocol.specs.Calls.{arrives, contradicts_held, tested, receive}
use Rattle.protocol.specs.Strays.{own, answers, ack, Comes, untested}
use Rattle.protocol.proofs.view.RuleCases.{vote_cases, ack_cases, helped_cases, help_cases, sufficient_cases}
use Rattle.protocol.proofs.view.Held.{found-held}
use Rattle.protocol.proofs.strays.Strayed.{asked, comes-is, small_of, unknown}
use Rattle.protocol.proofs.alone.Telling.{told_or, or-tells, Extended, extended}
use Rattle.protocol.proofs.alone.Sound.{Sound, Leaves, passed_leaves, put-sound, called-sound, kept-sound, joined-sound}

-- a vote set that passes the test contradicts none held
pub record Free (n : ℕ) (c : Controller) (s : VoteSet) : Type 0 where
  pub with-own : contradicts c.votes s ≡ false
  pub with-answers : contradicts c.helped.votes s ≡ false
  with-acks : (j : ℕ) → 1 ≤ j → j ≤ n → has_ack c j ≡ true → contradicts (ack_of c j) s ≡ false

pub free_of : (n : ℕ) (c : Controller) (s : VoteSet) → contradicts_held n c s ≡ false → Free n c s
free_of n c s e = record {
  with-own = refuted (contradicts c.votes s) (λ p. no_both (contradicts_held n c s) (found-held n c s (own p)) e);
  with-answers = refuted (contradicts c.helped.votes s) (λ p. no_both (contradicts_held n c s) (found-held n c s (answers p)) e);
  with-acks = λ j lo hi h. refuted (contradicts (ack_of c j) s) (λ p. no_both (contradicts_held n c s) (found-held n c s (ack j lo hi h p)) e);
}

module _ (me : Identity) (m : Message) (c : Controller) (k : Comes me m c) (o : Sound me.n me.id c) where
  abbrev n : ℕ
  n = me.n

  abbrev i : ℕ
  i = me.id

  abbrev s : VoteSet
  s = m.votes

  small : n ≤ limit
  small = small_of me k.valid

  formed : (j : ℕ) → wills s j ≡ true → knows s j ≡ true
  formed = within_has s.willing s.known (unfold suits in and_r (bits_in_range m) _ (and_l (bits_in_range m && within m.votes.willing m.votes.known) _ k.suited))

  told : contradicts_held n c s ≡ false → Extended c.votes c.helped.votes c.acks s
  told e = let r : Free n c s = free_of n c s e in
      extended n o.word c.votes c.helped.votes c.acks o.held o.counted.ack_senders s formed r.with-own r.with-answers
      (λ j h. r.with-acks j (o.counted.ack_senders j h).0 (o.counted.ack_senders j h).1 h)

  learned-sound : m.kind ≡ Vote → contradicts_held n c s ≡ false → Sound n i (learn c s)
  unfolding learn
  learned-sound kind e = let x : Extended c.votes c.helped.votes c.acks s = told e in record {
    word = x.word;
    held = record { own-tells = or-tells x.word c.votes c.votes s x.held.own-tells x.new; answers_tell = x.held.answers_tell; acks_tell = x.held.acks_tell };
    counted = o.counted;
    phased = record { no-answers = o.phased.no-answers; no_join = o.phased.no_join; idle = o.phased.idle; unvoted = λ z. still x z };
  }
    where
      still : (x : Extended c.votes c.helped.votes c.acks s) → phase c ≡ 0 → knows (agreed_or c.votes (join c.votes s)) i ≡ false
      still x z = ap (λ (t : VoteSet). knows t i) (told_or x.word c.votes c.votes s x.held.own-tells x.new) ∙ union-knows c.votes s i ∙ rw (o.phased.unvoted z, unknown me m c k kind)

  -- what a rule's answer owes: if it is taken, and the test finds nothing
  record Owed (a : Answer) : Type 0 where
    is : (is_taken a.reception && contradicts_held n c s) ≡ false → Leaves n i a

  passed_owed : Owed (passing_over c)
  passed_owed = record { is = λ e. passed_leaves n i c o }

  -- a vote set is taken, and counting may put a word
  taken_owed : (c' : Controller) → (contradicts_held n c s ≡ false → Sound n i c') → Owed (propose_if_sufficient n me.f (becomes c'))
  taken_owed c' h = sufficient_cases Owed n me.f (becomes c')
      (λ q. unfold proposing becomes in record { is = λ e. record { sound = put-sound n i c' _ (h e) } }) (λ q. unfold becomes in record { is = λ e. record { sound = h e } })

  arrives_owed : (kind : Kind) → m.kind ≡ kind → Owed (arrives kind n me.f m.from s c)
  unfolding arrives
  arrives_owed Vote z = vote_cases Owed s c (λ h. unfold becomes in record { is = λ e. record { sound = learned-sound z e } }) passed_owed
  arrives_owed Ack z = ack_cases Owed n me.f m.from s c
      (λ h. taken_owed _ (λ e. let x : Extended c.votes c.helped.votes c.acks s = told e in kept-sound n i c small m.from s k.from_low k.from-high x.word x.held x.new o.counted o.phased h)) (λ h. passed_owed)
  arrives_owed Help z = help_cases Owed m.from c (λ p. unfold keeps_call becomes in record { is = λ e. record { sound = called-sound n i c m.from o } })
      (λ p q. unfold answers_call in record { is = λ e. record { sound = called-sound n i c m.from o } }) (λ q. passed_owed)
  arrives_owed Helped z = helped_cases Owed n me.f m.from s c
      (λ h w. taken_owed _ (λ e. let x : Extended c.votes c.helped.votes c.acks s = told e in
      joined-sound n i c small m.from s k.from_low k.from-high x.word x.held x.new o.counted o.phased h (late w))) (λ q. passed_owed)
    where
      late : c.help.waiting ≡ true → 3 ≤ phase c
      late w = elim (split (leb (phase c) 2)) [
        | inl e ↦ absurd (no_both c.help.waiting w (o.phased.idle (leb-true _ _ e)))
        | inr e ↦ leb-false _ _ e
      ]

refused_leaves : (n i : ℕ) (c : Controller) → Sound n i c → Leaves n i (contradicted c)
unfolding contradicted
refused_leaves n i c o = record { sound = o }

pub receive_leaves : (me : Identity) (m : Message) (c : Controller) → Sound me.n me.id c → Leaves me.n me.id (receive me m c)
unfolding receive tested
receive_leaves me m c o = by_cond (Leaves me.n me.id) (asked me m c) _ _
    (λ k. by_cond (Leaves me.n me.id) (is_taken (untested me m c).reception && contradicts_held me.n c m.votes) _ _
    (λ q. refused_leaves me.n me.id c o) (λ q. (arrives_owed me m c (comes-is me m c k) o m.kind refl).is q))
    (λ k. passed_leaves me.n me.id c o)
