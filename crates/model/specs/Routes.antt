-- Who sends what to whom. Document 01, "A controller's rules"; question 10, "May the kind travel so, by the rules above?"
use Rattle.std.specs.Prelude.{ℕ, Bool, not, ◌&&◌, ◌||◌, eqb, ltb}
use Rattle.ground.specs.Mask.{has, collect}
use Rattle.model.specs.Ranges.{is_backup, is_second_backup}
use Rattle.model.specs.declared.Kind.{Kind}
use Rattle.model.specs.declared.Kind.TheVariants.{Vote, Ack, Help, Helped}

-- "It sends a vote telegram to every other controller of 1 to f; a holder also sends one to f + 1."
unfoldable pub vote_route : ℕ → ℕ → ℕ → Bool
vote_route f from to = not (eqb from to) && (is_backup f to || (is_backup f from && is_second_backup f to))

-- "A holder sends it to all others .. Controller f + 1 sends it to the holders only"
unfoldable pub ack_route : ℕ → ℕ → ℕ → Bool
ack_route f from to = not (eqb from to) && (is_backup f from || (is_second_backup f from && is_backup f to))

-- help calls go "to all others of f + 1 to n", and only such a controller waits; answers go back
unfoldable pub help_route : ℕ → ℕ → ℕ → Bool
help_route f from to = not (eqb from to) && (ltb f from && ltb f to)

unfoldable pub route : ℕ → Kind → ℕ → ℕ → Bool
route f Vote from to = vote_route f from to
route f Ack from to = ack_route f from to
route f Help from to = help_route f from to
route f Helped from to = help_route f from to

-- all to whom a kind may travel from a controller
unfoldable pub recipients : ℕ → ℕ → Kind → ℕ → ℕ
recipients n f kind from = collect n (route f kind from)

-- what the routes of one sender have in common: it sends to all others of a set
unfoldable pub others_of : ℕ → ℕ → ℕ → Bool
others_of set from to = not (eqb from to) && has set to
