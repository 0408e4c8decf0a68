-- Laws of drawn events: their values are 0, and the state after one is a later draw.
use Rattle.std.specs.Prelude.{ℕ, ◌%◌, ◌^◌, ◌<◌, ◌≡◌, refl, eqb, ltb, cond}
use Rattle.ground.specs.Tests.{by_cond}
use Rattle.event_record.specs.Events.{event_fields}
use Rattle.model.specs.declared.Event.{Event}
use Rattle.model.specs.declared.Event.TheVariants.{Stop, Save, Restore}
use Rattle.xorshift.specs.Xorshift.{draw}
use Rattle.xorshift.specs.Claim.{Draws}
use Rattle.generator.specs.declared.Drawn.{Drawn}
use Rattle.generator.specs.Drawing.{delivery, timeout, decision, interruption, interrupted, chosen, drawn_event}

-- by cases on what is chosen
by-chosen : (P : Drawn → Type 0) (n s : ℕ) → P (delivery n s) → P (timeout n s) → P (decision n s) → P (interrupted n (draw s)) → P (chosen n s)
unfolding chosen
by-chosen P n s a b c d =
    by_cond P (ltb (s % 10) 6) (delivery n s) (cond (ltb (s % 10) 8) (timeout n s) (cond (ltb (s % 10) 9) (decision n s) (interrupted n (draw s)))) (λ _. a)
    (λ _. by_cond P (ltb (s % 10) 8) (timeout n s) (cond (ltb (s % 10) 9) (decision n s) (interrupted n (draw s))) (λ _. b)
    (λ _. by_cond P (ltb (s % 10) 9) (decision n s) (interrupted n (draw s)) (λ _. c) (λ _. d)))

-- what a drawn event writes as value
interruption-value : (s id : ℕ) → (event_fields (interruption s id)).value ≡ 0
unfolding interruption event_fields
interruption-value s id =
    by_cond (λ (e : Event). (event_fields e).value ≡ 0) (eqb (s % 3) 0) (Stop id) (cond (eqb (s % 3) 1) (Save id) (Restore id)) (λ _. refl)
    (λ _. by_cond (λ (e : Event). (event_fields e).value ≡ 0) (eqb (s % 3) 1) (Save id) (Restore id) (λ _. refl) (λ _. refl))

pub drawn-value : (n s : ℕ) → (event_fields (drawn_event n s).event).value ≡ 0
unfolding drawn_event delivery timeout decision interrupted event_fields
drawn-value n s =
    by-chosen (λ (d : Drawn). (event_fields d.event).value ≡ 0) n (draw s) refl refl refl (interruption-value (draw (draw s)) _)

-- the state after an event, from a state that is not 0
pub drawn-state : Draws → (n s : ℕ) → 0 < s → s < 2 ^ 32 → (0 < (drawn_event n s).state) × ((drawn_event n s).state < 2 ^ 32)
unfolding drawn_event delivery timeout decision interrupted
drawn-state d n s p h =
    by-chosen (λ (x : Drawn). (0 < x.state) × (x.state < 2 ^ 32)) n (draw s)
    (d.never-zero 4 s p h) (d.never-zero 2 s p h) (d.never-zero 3 s p h) (d.never-zero 3 s p h)
