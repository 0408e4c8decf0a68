-- What is asked of a message (document 01: a telegram of kinds 1 to 4), read or to be written.
use Rattle.std.specs.Prelude.{ℕ, Bool, ◌&&◌, List, [], ◌∷◌, eqb, leb}
use Rattle.ground.specs.Mask.{has, insert, none_above, within}
use Rattle.model.specs.Questions.{Question, ask}
use Rattle.model.specs.Ranges.{sizes_in_range, different_controllers}
use Rattle.model.specs.Routes.{route}
use Rattle.model.specs.declared.Kind.{Kind}
use Rattle.model.specs.declared.Kind.TheVariants.{Vote, Ack, Help, Helped}
use Rattle.model.specs.declared.Message.{Message}

-- 4, 7 and 8, which are asked of every telegram
abbrev pub about_head : ℕ → ℕ → ℕ → ℕ → ℕ → List Question
about_head n f from to order = ask 4 (sizes_in_range n f) ∷ ask 7 (different_controllers n from to) ∷ ask 8 (leb 1 order) ∷ []

-- 9: "Does the sheet suit the kind?"
-- "No bit above n"
unfoldable pub bits_in_range : Message → Bool
bits_in_range m = none_above m.n m.votes.known && none_above m.n m.votes.willing

-- "willing within known"
abbrev pub willing_known : Message → Bool
willing_known m = within m.votes.willing m.votes.known

-- "a vote knows just its sender; a help call knows nobody; kinds 2 and 4 know at least their sender"
unfoldable pub knows_for_kind : Kind → ℕ → ℕ → Bool
knows_for_kind Vote from known = eqb known (insert 0 from)
knows_for_kind Ack from known = has known from
knows_for_kind Help from known = eqb known 0
knows_for_kind Helped from known = has known from

unfoldable pub suits : Message → Bool
suits m = bits_in_range m && willing_known m && knows_for_kind m.kind m.from m.votes.known

-- 4, 7, 8, 9 and 10
unfoldable pub about_message : Message → List Question
about_message m =
    ask 4 (sizes_in_range m.n m.f)
    ∷ ask 7 (different_controllers m.n m.from m.to)
    ∷ ask 8 (leb 1 m.order)
    ∷ ask 9 (suits m)
    ∷ ask 10 (route m.f m.kind m.from m.to)
    ∷ []
