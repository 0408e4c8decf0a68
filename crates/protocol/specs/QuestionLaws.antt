-- 24 is "last of all questions" (document 02, U7): a delivery that is refused before is refused alike whatever 24 is answered, and otherwise 24 decides.
use Rattle.std.specs.Prelude.{ℕ, ◌≡◌, refl, Bool, true, false, cond}
use Rattle.model.specs.declared.Kind.{Kind}
use Rattle.model.specs.declared.Event.TheVariants.{Deliver}
use Rattle.protocol.specs.declared.Sent.{Sent}
use Rattle.protocol.specs.declared.Station.{Station}
use Rattle.protocol.specs.declared.Ballots.{Ballots}
use Rattle.protocol.specs.declared.Shared.{Shared}
use Rattle.protocol.specs.Questions.{Reply, accepted, is_accepted, unless, first_no, questions_of, facts_of}

abbrev delivery : Bool → Bool → Bool → Bool → Bool → Bool → Bool → Reply
delivery a b c d x g t = unless 5 a (unless 7 b (unless 10 c (unless 14 d (unless 15 x (unless 17 g (unless 24 t accepted))))))

by_cases : (a b c d x g t : Bool) → delivery a b c d x g t ≡ cond (is_accepted (delivery a b c d x g true)) (unless 24 t accepted) (delivery a b c d x g true)
unfolding unless
by_cases false b c d x g t = refl
by_cases true false c d x g t = refl
by_cases true true false d x g t = refl
by_cases true true true false x g t = refl
by_cases true true true true false g t = refl
by_cases true true true true true false t = refl
by_cases true true true true true true t = refl

-- the reply to a delivery, with this answer to 24
abbrev reply_with : Shared → Ballots → (Bool → Bool) → ℕ → ℕ → Kind → Station → Sent → Bool → Bool → Reply
reply_with m bs give i j kind s sent may agrees = first_no (questions_of (facts_of m bs (Deliver i j kind) s sent may give agrees) (Deliver i j kind))

pub asked-last : (m : Shared) (bs : Ballots) (give : Bool → Bool) (i j : ℕ) (kind : Kind) (s : Station) (sent : Sent) (may agrees : Bool)
    → reply_with m bs give i j kind s sent may agrees
    ≡ cond (is_accepted (reply_with m bs give i j kind s sent may true)) (unless 24 agrees accepted) (reply_with m bs give i j kind s sent may true)
unfolding first_no
asked-last m bs give i j kind s sent may agrees = by_cases _ _ _ _ _ _ agrees
