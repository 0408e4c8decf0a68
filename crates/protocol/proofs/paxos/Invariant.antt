-- The invariant of the ballots of one order, without history, in parts, each over what it looks at. Definitions alone: that the rules keep them is shown
-- in Changes and Kept.
use Prim.Native.Nat.{ℕ, ◌≤◌, ◌<◌}
use mathlib.Core.Path.{◌≡◌}
use mathlib.Core.Bool.{Bool, true, false, cond}
use mathlib.Core.Logic.{◌⊎◌}
use Rattle.model.specs.Numbers.{word_of, is_none}
use Rattle.model.specs.declared.Outcome.{Outcome}
use Rattle.protocol.specs.Ballots.{owner}
use Rattle.protocol.proofs.paxos.Meet.{most}
use Rattle.protocol.proofs.paxos.View.{View}

-- a ballot's word was put: it has one
abbrev pub IsPut : Outcome → Type 0
IsPut w = is_none w ≡ false

-- The parts, each over what it looks at: a change that leaves these alone leaves the part as it is. Functions are of ballot and controller.
-- a running controller: what it has promised and accepted is not above its numbers, and it holds the word of the ballot last taken
pub record MemberSound (promised taken : ℕ → ℕ → Bool) (word : ℕ → Outcome) (j highest given last : ℕ) (held : Outcome) : Type 0 where
  pub given-low : given ≤ highest
  pub last-low : last ≤ highest
  pub promised-low : (b : ℕ) → promised b j ≡ true → b ≤ given
  pub taken-low : (b : ℕ) → taken b j ≡ true → b ≤ last
  pub last_word : (last ≡ 0) ⊎ ((taken last j ≡ true) × (word last ≡ held))

-- a promise of ballot b: who gave it takes nothing between the ballot that it reports and b, before or after
pub record PromiseSound (taken : ℕ → ℕ → Bool) (b j report : ℕ) : Type 0 where
  pub low : report ≤ b
  pub honest : (c : ℕ) → c < b → taken c j ≡ true → c ≤ report
  pub real : (report ≡ 0) ⊎ (taken report j ≡ true)

-- the highest ballot reported to ballot b's owner is an earlier one that one of those counted took, with its word
pub record TopSound (received : ℕ → Bool) (taken : ℕ → ℕ → Bool) (word : ℕ → Outcome) (b top : ℕ) (reported : Outcome) : Type 0 where
  pub earlier : top < b
  pub who : ℕ
  pub counted : received who ≡ true
  pub took : taken top who ≡ true
  pub at_top : word top ≡ reported
  pub some : IsPut reported

-- a word put: a majority's promises were counted, and it is the word of the highest ballot that they report, if they report any
pub record PutSound (n : ℕ) (received : ℕ → Bool) (top : ℕ) (reported put : Outcome) : Type 0 where
  pub quorum : most n received ≡ true
  pub follows : (top ≡ 0) ⊎ (put ≡ reported)

-- a ballot that anybody promised was opened: its owner promised it, and has put a word as long as it runs
pub record Opened (promised : ℕ → Bool) (runs : ℕ → Bool) (own : ℕ → Outcome) (i : ℕ) : Type 0 where
  pub by-owner : promised i ≡ true
  pub has_word : runs i ≡ true → IsPut (own i)

pub record Inv (n : ℕ) (v : View) : Type 0 where
  pub members : (j : ℕ) → v.runs j ≡ true → MemberSound v.promised v.taken v.word j (v.highest j) (v.promised_last j) (v.last j) (v.last_word_of j)
  pub promises : (b j : ℕ) → v.promised b j ≡ true → PromiseSound v.taken b j (v.report b j)
  pub opened : (b j : ℕ) → v.promised b j ≡ true → Opened (v.promised b) v.runs v.own (owner n b)
  pub counted : (b j : ℕ) → v.received b j ≡ true → (v.promised b j ≡ true) × (v.report b j ≤ v.top b)
  pub tops : (b : ℕ) → (v.top b ≡ 0) ⊎ TopSound (v.received b) v.taken v.word b (v.top b) (v.top_word_of b)
  pub puts : (b : ℕ) → IsPut (v.word b) → PutSound n (v.received b) (v.top b) (v.top_word_of b) (v.word b)
  pub takings : (b j : ℕ) → v.taken b j ≡ true → IsPut (v.word b)
  pub own-proposed : (j : ℕ) (x : Bool) → v.own j ≡ word_of x → cond x v.move v.stay ≡ true
  pub put-proposed : (b : ℕ) (x : Bool) → v.word b ≡ word_of x → cond x v.move v.stay ≡ true
  pub no_zero : is_none (v.word 0) ≡ true
