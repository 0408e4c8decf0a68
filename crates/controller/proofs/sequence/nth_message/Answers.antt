-- The list is four lists, one after the other: each test finds whether the k-th is in the next of them, and else what is left of k past it.
use Prim.Native.Nat.{ℕ, ◌-◌, ◌≤◌, ◌<◌}
use mathlib.Core.Path.{◌≡◌, sym, ◌∙◌, ap}
use mathlib.Core.List.{List, ◌++◌}
use native.Mathlib.Omega.{arith}
use lib.ListN.{length}
use Rattle.model.specs.declared.Message.{Message}
use Rattle.model.specs.declared.Kind.TheVariants.{Vote, Ack, Help, Helped}
use Rattle.protocol.specs.declared.Identity.{Identity}
use Rattle.protocol.specs.declared.Sends.{Sends}
use Rattle.protocol.specs.Sequence.{messages_of_kind, messages_of}
use Rattle.protocol.specs.SequenceLaws.{nth-message-of}
use Rattle.std.specs.Prelude.{slice_get}
use Rattle.controller.proofs.OneByOne.{here, past}
use Rattle.controller.proofs.sequence.nth_message.Goals as goal

module _ (me : Identity) (s : Sends) where
  abbrev votes : List Message
  votes = messages_of_kind me Vote s.vote

  abbrev acks : List Message
  acks = messages_of_kind me Ack s.ack

  abbrev calls : List Message
  calls = messages_of_kind me Help s.help

  abbrev answers : List Message
  answers = messages_of_kind me Helped s.helped

  in-votes : (k v : ℕ) → v ≡ length votes → k < v → slice_get votes k ≡ slice_get (messages_of me s) k
  unfolding messages_of
  in-votes k v e h = here votes (acks ++ (calls ++ answers)) k v e h

  past-votes : (k v : ℕ) → v ≡ length votes → v ≤ k → slice_get (acks ++ (calls ++ answers)) (k - v) ≡ slice_get (messages_of me s) k
  unfolding messages_of
  past-votes k v e h = past votes (acks ++ (calls ++ answers)) k v e h

pub returns-then-k-votes : goal.returns-then-k-votes
returns-then-k-votes c =
    let start = c.args in
    nth-message-of _ _ _ _ (c.nth_of_kind.ensures ∙ in-votes start.me start.sends start.k _ c.count_of-votes.ensures c.if-k-votes.true)

pub returns-then-after_votes-acks : goal.returns-then-after_votes-acks
returns-then-after_votes-acks c =
    let start = c.args in
    nth-message-of _ _ _ _ (c.nth_of_kind-then-after_votes-acks.ensures
    ∙ here (acks start.me start.sends) (calls start.me start.sends ++ answers start.me start.sends) _ _ c.count_of-acks.ensures c.if-after_votes-acks.true
    ∙ past-votes start.me start.sends start.k _ c.count_of-votes.ensures c.if-k-votes.false)

pub returns-then-after_acks-helps : goal.returns-then-after_acks-helps
returns-then-after_acks-helps c =
    let start = c.args in
    nth-message-of _ _ _ _ (c.nth_of_kind-then-after_acks-helps.ensures
    ∙ here (calls start.me start.sends) (answers start.me start.sends) _ _ c.count_of-helps.ensures c.if-after_acks-helps.true
    ∙ past (acks start.me start.sends) (calls start.me start.sends ++ answers start.me start.sends) _ _ c.count_of-acks.ensures c.if-after_votes-acks.false
    ∙ past-votes start.me start.sends start.k _ c.count_of-votes.ensures c.if-k-votes.false)

pub returns : goal.returns
returns c =
    let start = c.args in
    nth-message-of _ _ _ _ (c.nth_of_kind-2.ensures
    ∙ past (calls start.me start.sends) (answers start.me start.sends) _ _ c.count_of-helps.ensures c.if-after_acks-helps.false
    ∙ past (acks start.me start.sends) (calls start.me start.sends ++ answers start.me start.sends) _ _ c.count_of-acks.ensures c.if-after_votes-acks.false
    ∙ past-votes start.me start.sends start.k _ c.count_of-votes.ensures c.if-k-votes.false)
