-- No rule looks at the gate: two controllers that differ in their gates alone go on to differ in their gates alone.
use Prim.Native.Nat.{ℕ}
use mathlib.Core.Path.{◌≡◌, refl, sym, ap, ◌∙◌}
use mathlib.Core.Bool.{Bool, true, false, cond, not, ◌&&◌, ◌||◌}
use mathlib.Core.List.{List, [], ◌∷◌}
use lib.Dec.{eqb, leb, ltb}
use Rattle.votes.specs.declared.VoteSet.{VoteSet}
use Rattle.model.specs.Ranges.{is_backup}
use Rattle.model.specs.declared.Kind.{Kind}
use Rattle.model.specs.declared.Kind.TheVariants.{Vote, Ack, Help, Helped}
use Rattle.model.specs.declared.Message.{Message}
use Rattle.model.specs.declared.Checkpoint.{Checkpoint}
use Rattle.message_record.specs.Messages.{suits}
use Rattle.protocol.specs.declared.Identity.{Identity}
use Rattle.protocol.specs.declared.Gate.{Gate}
use Rattle.protocol.specs.declared.Answer.{Answer}
use Rattle.protocol.specs.declared.Reception.{Reception}
use Rattle.protocol.specs.declared.Controller.{Controller}
use Rattle.protocol.specs.Controllers.{runs, is_stopped, does_stand_by, phase, has_ack, has_helped, has_called, cleared, advance, learn, aim, keep_ack, keep_helped, freeze, add_caller, await, propose, conclude, drop_contradicting}
use Rattle.protocol.specs.Rules.{is_taken, passing_over, contradicted, becomes, proposing, vote_rule, vote_arrives, count_own, first_timeout, ack_join, backups_complete, second_knows, decides, sufficient, answers_join, propose_if_sufficient, help_votes, frozen, ready, calls_help, second_timeout, ack_arrives, helped_arrives, keeps_call, answers_call, help_arrives}
use Rattle.protocol.specs.Calls.{valid_identity, vote, addressed, arrives, contradicts_held, tested, receive, timeout, awaits_decision, decide, stop, restore, renew}
use Rattle.cabinet_alone.specs.CabinetAlone.{bare}
use Rattle.protocol.specs.Alone.{Call, voting, receiving, timing-out, deciding, stopping, restoring, renewing, in_order, called, called_all}

-- a controller with another gate
abbrev with-gate : Gate → Controller → Controller
with-gate g c = record { condition = c.condition; votes = c.votes; acks = c.acks; helped = c.helped; help = c.help; proposal = c.proposal; gate = g }

abbrev left : Answer → Controller
left a = bare a.controller

by_cond : (t : Bool) (x x' y y' : Answer) → left x ≡ left x' → left y ≡ left y' → left (cond t x y) ≡ left (cond t x' y')
by_cond true x x' y y' p q = p
by_cond false x x' y y' p q = q

told : (t : Bool) (x x' y y' : Answer) → x.reception ≡ x'.reception → y.reception ≡ y'.reception → (cond t x y).reception ≡ (cond t x' y').reception
told true x x' y y' p q = p
told false x x' y y' p q = q

forward : (t : Bool) (x x' y y' : Controller) → bare (advance x 2) ≡ bare (advance x' 2) → bare (advance y 2) ≡ bare (advance y' 2) → bare (advance (cond t x y) 2) ≡ bare (advance (cond t x' y') 2)
forward true x x' y y' p q = p
forward false x x' y y' p q = q

either : (t : Bool) (x x' y y' : Controller) → bare x ≡ bare x' → bare y ≡ bare y' → bare (cond t x y) ≡ bare (cond t x' y')
either true x x' y y' p q = p
either false x x' y y' p q = q

module _ (g : Gate) (c : Controller) where
  abbrev d : Controller
  d = with-gate g c

  arrived : (kind : Kind) (n f from : ℕ) (s : VoteSet) → left (arrives kind n f from s d) ≡ left (arrives kind n f from s c)
  unfolding arrives vote_arrives ack_arrives helped_arrives help_arrives keeps_call answers_call becomes passing_over learn propose_if_sufficient proposing propose sufficient answers_join ack_join keep_ack keep_helped add_caller
  arrived Vote n f from s = by_cond (leb (phase c) 1) _ _ _ _ refl refl
  arrived Ack n f from s = by_cond (not (has_ack c from) && (leb (phase c) 2 || c.help.waiting)) _ _ _ _ (by_cond (sufficient n f (keep_ack c from s)) _ _ _ _ refl refl) refl
  arrived Help n f from s = by_cond (has_called c from) _ _ _ _ refl (by_cond (leb (phase c) 2) _ _ _ _ refl refl)
  arrived Helped n f from s = by_cond (not (has_helped c from) && c.help.waiting) _ _ _ _ (by_cond (sufficient n f (keep_helped c from s)) _ _ _ _ refl refl) refl

  heard : (kind : Kind) (n f from : ℕ) (s : VoteSet) → (arrives kind n f from s d).reception ≡ (arrives kind n f from s c).reception
  unfolding arrives vote_arrives ack_arrives helped_arrives help_arrives keeps_call answers_call becomes passing_over learn propose_if_sufficient proposing propose sufficient answers_join ack_join keep_ack keep_helped add_caller
  heard Vote n f from s = told (leb (phase c) 1) _ _ _ _ refl refl
  heard Ack n f from s = told (not (has_ack c from) && (leb (phase c) 2 || c.help.waiting)) _ _ _ _ (told (sufficient n f (keep_ack c from s)) _ _ _ _ refl refl) refl
  heard Help n f from s = told (has_called c from) _ _ _ _ refl (told (leb (phase c) 2) _ _ _ _ refl refl)
  heard Helped n f from s = told (not (has_helped c from) && c.help.waiting) _ _ _ _ (told (sufficient n f (keep_helped c from s)) _ _ _ _ refl refl) refl

  was-tested : (n : ℕ) (s : VoteSet) (a b : Answer) → a.reception ≡ b.reception → left a ≡ left b → left (tested n s d a) ≡ left (tested n s c b)
  unfolding tested contradicted contradicts_held
  was-tested n s a b e p = ap (λ (r : Reception). left (cond (is_taken r && contradicts_held n c s) (contradicted d) a)) e ∙ by_cond (is_taken b.reception && contradicts_held n c s) _ _ _ _ refl p

  received : (me : Identity) (m : Message) → left (receive me m d) ≡ left (receive me m c)
  unfolding receive passing_over
  received me m = by_cond (valid_identity me && runs c && addressed me m && suits m) _ _ _ _
      (was-tested me.n m.votes _ _ (heard m.kind me.n me.f m.from m.votes) (arrived m.kind me.n me.f m.from m.votes)) refl

  voted : (me : Identity) (w : Bool) (t : ℕ) → left (vote me w t d) ≡ left (vote me w t c)
  unfolding vote vote_rule drop_contradicting learn aim advance passing_over
  voted me w t = by_cond (valid_identity me && runs c && eqb (phase c) 0) _ _ _ _ refl refl

  first : (n f i : ℕ) → left (first_timeout n f i d) ≡ left (first_timeout n f i c)
  unfolding first_timeout count_own keep_ack advance
  first n f i = forward (is_backup f i && not (has_ack c i)) _ _ _ _ refl refl

  second : (n f i : ℕ) → left (second_timeout n f i d) ≡ left (second_timeout n f i c)
  unfolding second_timeout decides backups_complete second_knows ready help_votes ack_join frozen freeze advance conclude proposing propose calls_help keep_helped await propose_if_sufficient sufficient answers_join
  second n f i = by_cond (decides n f i c) _ _ _ _ refl (by_cond (ltb 0 c.acks.cnt.0) _ _ _ _ refl (by_cond (sufficient n f (calls_help n f i (help_votes n c) (frozen n c)).controller) _ _ _ _ refl refl))

  timed-out : (me : Identity) → left (timeout me d) ≡ left (timeout me c)
  unfolding timeout passing_over
  timed-out me = by_cond (valid_identity me && runs c && eqb (phase c) 1) _ _ _ _ (first me.n me.f me.id)
      (by_cond (valid_identity me && runs c && eqb (phase c) 2) _ _ _ _ (second me.n me.f me.id) refl)

  decided : (w : Bool) → left (decide w d) ≡ left (decide w c)
  unfolding decide awaits_decision becomes conclude passing_over
  decided w = by_cond (awaits_decision c) _ _ _ _ refl refl

  stopped : left (stop d) ≡ left (stop c)
  unfolding stop becomes cleared passing_over
  stopped = by_cond (runs c || does_stand_by c) _ _ _ _ refl refl

  restored : (me : Identity) (p : Checkpoint) → left (restore me p d) ≡ left (restore me p c)
  unfolding restore becomes cleared passing_over
  restored me p = by_cond (is_stopped c.condition) _ _ _ _ refl refl

  renewed : left (becomes (renew d)) ≡ left (becomes (renew c))
  unfolding renew becomes cleared
  renewed = either (is_stopped c.condition) _ _ _ _ refl refl

  -- what it answers to a message
  answered_alike : (me : Identity) (m : Message) → (receive me m d).reception ≡ (receive me m c).reception
  unfolding receive tested contradicted contradicts_held passing_over
  answered_alike me m =
      let e = heard m.kind me.n me.f m.from m.votes in
      told (valid_identity me && runs c && addressed me m && suits m) _ _ _ _
      (ap (λ (r : Reception). (cond (is_taken r && contradicts_held me.n c m.votes) (contradicted d) (arrives m.kind me.n me.f m.from m.votes d)).reception) e
      ∙ told (is_taken (arrives m.kind me.n me.f m.from m.votes c).reception && contradicts_held me.n c m.votes) _ _ _ _ refl e)
      refl

-- so of any two that differ in their gates alone
across : {A : Type 0} (F : Controller → A) → ((g : Gate) (c : Controller) → F (with-gate g c) ≡ F c) → (c d : Controller) → bare c ≡ bare d → F c ≡ F d
across F h c d e = sym (h (record { target = 0; position = 0 }) c) ∙ ap F e ∙ h (record { target = 0; position = 0 }) d

pub same_reception : (me : Identity) (m : Message) (c d : Controller) → bare c ≡ bare d → (receive me m c).reception ≡ (receive me m d).reception
same_reception me m = across (λ (x : Controller). (receive me m x).reception) (λ g x. answered_alike g x me m)

module _ (me : Identity) where
  -- .. and after any calls
  pub gates-alone : (ks : List Call) (o : ℕ) (c d : Controller) → bare c ≡ bare d
      → bare (called_all me (record { order = o; controller = c }) ks).controller ≡ bare (called_all me (record { order = o; controller = d }) ks).controller
  unfolding called_all called
  gates-alone [] o c d e = e
  gates-alone (voting w t ∷ ks) o c d e = gates-alone ks o _ _ (across (λ x. left (vote (in_order me o) w t x)) (λ g x. voted g x (in_order me o) w t) c d e)
  gates-alone (receiving m ∷ ks) o c d e = gates-alone ks o _ _ (across (λ x. left (receive (in_order me o) m x)) (λ g x. received g x (in_order me o) m) c d e)
  gates-alone (timing-out ∷ ks) o c d e = gates-alone ks o _ _ (across (λ x. left (timeout (in_order me o) x)) (λ g x. timed-out g x (in_order me o)) c d e)
  gates-alone (deciding w ∷ ks) o c d e = gates-alone ks o _ _ (across (λ x. left (decide w x)) (λ g x. decided g x w) c d e)
  gates-alone (stopping ∷ ks) o c d e = gates-alone ks o _ _ (across (λ x. left (stop x)) (λ g x. stopped g x) c d e)
  gates-alone (restoring p ∷ ks) o c d e = gates-alone ks o _ _ (across (λ x. left (restore (in_order me o) p x)) (λ g x. restored g x (in_order me o) p) c d e)
  gates-alone (renewing k ∷ ks) o c d e = gates-alone ks k _ _ (across (λ x. left (becomes (renew x))) (λ g x. renewed g x) c d e)

  -- the order goes by the calls alone
  pub orders-alone : (ks : List Call) (o : ℕ) (c d : Controller) → (called_all me (record { order = o; controller = c }) ks).order ≡ (called_all me (record { order = o; controller = d }) ks).order
  unfolding called_all called
  orders-alone [] o c d = refl
  orders-alone (voting w t ∷ ks) o c d = orders-alone ks o _ _
  orders-alone (receiving m ∷ ks) o c d = orders-alone ks o _ _
  orders-alone (timing-out ∷ ks) o c d = orders-alone ks o _ _
  orders-alone (deciding w ∷ ks) o c d = orders-alone ks o _ _
  orders-alone (stopping ∷ ks) o c d = orders-alone ks o _ _
  orders-alone (restoring p ∷ ks) o c d = orders-alone ks o _ _
  orders-alone (renewing k ∷ ks) o c d = orders-alone ks k _ _
