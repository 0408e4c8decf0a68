-- Laws of the telegrams that were sent, by their number: the k-th of one list after another, and as a telegram.
use Prim.Native.Nat.{ℕ, ◌+◌, ◌-◌, ◌≤◌, ◌<◌}
use mathlib.Core.Path.{◌≡◌, sym, ◌∙◌, ap}
use mathlib.Core.Bool.{◌&&◌}
use mathlib.Core.List.{List, ◌++◌, map}
use native.Mathlib.Omega.{arith}
use lib.Dec.{eqb}
use borrow.Author.Tests.{eq-eqb}
use lib.ListN.{length, length-append, length-map}
use Rattle.ground.specs.Quantify.{count_to}
use Rattle.ground.specs.Mask.{has}
use Rattle.model.specs.declared.Kind.{Kind}
use Rattle.model.specs.declared.Kind.TheVariants.{Vote, Ack, Help, Helped}
use Rattle.model.specs.declared.Message.{Message}
use Rattle.model.specs.declared.BallotMessage.{BallotMessage}
use Rattle.model.specs.declared.Telegram.TheVariants.{Plain, OfBallot}
use Rattle.protocol.specs.declared.Identity.{Identity}
use Rattle.protocol.specs.declared.Outgoing.{Outgoing}
use Rattle.protocol.specs.declared.Sends.{Sends}
use Rattle.protocol.specs.declared.Sent.{Sent}
use Rattle.cabinet_state.specs.declared.Cabinet.{Cabinet}
use Rattle.protocol.specs.Sequence.{members, message_to, messages_of_kind, messages_of}
use Rattle.protocol.specs.SequenceLaws.{members-size, nth_in, nth_past}
use Rattle.cabinet_turns.specs.Telegrams.{sends_of, ballots_sent, telegrams_sent}
use Rattle.std.specs.Prelude.{Option, Some, slice_get, option_map}
use Rattle.std.proofs.lemmas.Option.{slice_get-map}

-- of two lists, in the first, of which there are p, and past it
pub here : {A : Type 0} (xs ys : List A) (k p : ℕ) → p ≡ length xs → k < p → slice_get xs k ≡ slice_get (xs ++ ys) k
here xs ys k p e h = sym (nth_in xs ys k (omega arith))

pub past : {A : Type 0} (xs ys : List A) (k p : ℕ) → p ≡ length xs → p ≤ k → slice_get ys (k - p) ≡ slice_get (xs ++ ys) k
past xs ys k p e h = ap (λ (x : ℕ). slice_get ys (k - x)) e ∙ sym (nth_past xs ys k (omega arith))

-- as telegrams: those of kinds 1 to 4, of which there are p, and past them those of ballots
pub plain-sent : (s : Cabinet) (k p : ℕ) (z : Sends) (r : Option Message) → z ≡ sends_of s.sent → r ≡ slice_get (messages_of s.me z) k
    → p ≡ length (messages_of s.me (sends_of s.sent)) → k < p → option_map Plain r ≡ slice_get (telegrams_sent s) k
unfolding telegrams_sent
plain-sent s k p z r y q e h =
    let ms = messages_of s.me (sends_of s.sent) in
    ap (option_map Plain) (q ∙ ap (λ (x : Sends). slice_get (messages_of s.me x) k) y) ∙ sym (slice_get-map Plain ms k)
    ∙ here (map Plain ms) (map OfBallot (ballots_sent s.me s.ballots)) k p (e ∙ sym (length-map ms Plain)) h

pub ballot-sent : (s : Cabinet) (k p j : ℕ) (r : Option BallotMessage) → r ≡ slice_get (ballots_sent s.me s.ballots) j
    → p ≡ length (messages_of s.me (sends_of s.sent)) → p ≤ k → j ≡ k - p → option_map OfBallot r ≡ slice_get (telegrams_sent s) k
unfolding telegrams_sent
ballot-sent s k p j r q e h y =
    let ms = messages_of s.me (sends_of s.sent) in
    let bs = ballots_sent s.me s.ballots in
    ap (option_map OfBallot) (q ∙ ap (slice_get bs) y) ∙ sym (slice_get-map OfBallot bs (k - p))
    ∙ past (map Plain ms) (map OfBallot bs) k p (e ∙ sym (length-map ms Plain)) h

-- how many there are of kinds 1 to 4
pub size_of : (me : Identity) (kind : Kind) (o : Outgoing) → length (messages_of_kind me kind (Some o)) ≡ count_to me.n (has o.to)
unfolding messages_of_kind
size_of me kind o = length-map (members me.n o.to) (message_to me kind o.votes) ∙ members-size me.n o.to

pub size-all : (me : Identity) (s : Sent)
    → length (messages_of me (sends_of s)) ≡ count_to me.n (has s.vote.to) + count_to me.n (has s.ack.to) + count_to me.n (has s.help.to) + count_to me.n (has s.helped.to)
unfolding messages_of sends_of
size-all me s =
    let v = messages_of_kind me Vote (Some s.vote) in
    let a = messages_of_kind me Ack (Some s.ack) in
    let h = messages_of_kind me Help (Some s.help) in
    let r = messages_of_kind me Helped (Some s.helped) in
    let e₁ = length-append v (a ++ (h ++ r)) in
    let e₂ = length-append a (h ++ r) in
    let e₃ = length-append h r in
    let q₁ = size_of me Vote s.vote in
    let q₂ = size_of me Ack s.ack in
    let q₃ = size_of me Help s.help in
    let q₄ = size_of me Helped s.helped in
    omega (arith, e₁, e₂, e₃, q₁, q₂, q₃, q₄)

-- the last of three tests, after the other two
pub third : (a b c d e f : ℕ) → a ≡ b → c ≡ d → eqb e f ≡ (eqb a b && eqb c d && eqb e f)
third a b c d e f p q = rw (eq-eqb a b p, eq-eqb c d q)
