-- Drawn events. Document 02, U6. A draw is the new state of the generator, so s stands both for the last draw and for the state.
use Rattle.std.specs.Prelude.{ℕ, ◌+◌, ◌%◌, Bool, cond, eqb, ltb}
use Rattle.model.specs.declared.Event.{Event}
use Rattle.model.specs.declared.Event.TheVariants.{Deliver, Timeout, Decide, Stop, Save, Restore}
use Rattle.model.specs.declared.Kind.{Kind}
use Rattle.records.specs.Codes.{kind_of, flag_of}
use Rattle.xorshift.specs.Xorshift.{draw}
use Rattle.generator.specs.declared.Drawn.{Drawn}

-- an event, and the state after it
abbrev pub drawn : Event → ℕ → Drawn
drawn e s = record { event = e; state = s }

-- "controllers 1 + draw mod n, telegram kind 1 + draw mod 4, word draw mod 2"
abbrev pub controller_of : ℕ → ℕ → ℕ
controller_of n s = 1 + s % n

abbrev pub message_kind_of : ℕ → Kind
message_kind_of s = kind_of (1 + s % 4)

abbrev pub is_move_of : ℕ → Bool
is_move_of s = flag_of (s % 2)

-- "Then the used fields in the order a, b, c, each from a draw": the last draw before them is s
unfoldable pub delivery : ℕ → ℕ → Drawn
delivery n s =
    let a : ℕ = draw s in
    let b : ℕ = draw a in
    let c : ℕ = draw b in
    drawn (Deliver (controller_of n a) (controller_of n b) (message_kind_of c)) c

unfoldable pub timeout : ℕ → ℕ → Drawn
timeout n s = let a : ℕ = draw s in drawn (Timeout (controller_of n a)) a

unfoldable pub decision : ℕ → ℕ → Drawn
decision n s =
    let a : ℕ = draw s in
    let b : ℕ = draw a in
    drawn (Decide (controller_of n a) (is_move_of b)) b

-- "stop, save or restore by a further draw mod 3 of 0, 1, 2": that draw is s
unfoldable pub interruption : ℕ → ℕ → Event
interruption s id = cond (eqb (s % 3) 0) (Stop id) (cond (eqb (s % 3) 1) (Save id) (Restore id))

unfoldable pub interrupted : ℕ → ℕ → Drawn
interrupted n s = let a : ℕ = draw s in drawn (interruption s (controller_of n a)) a

-- "Per event a draw mod 10 chooses: 0 to 5 deliver; 6, 7 bell; 8 arbiter; 9 stop, save or restore": that draw is s
unfoldable pub chosen : ℕ → ℕ → Drawn
chosen n s =
    cond (ltb (s % 10) 6) (delivery n s)
    (cond (ltb (s % 10) 8) (timeout n s)
    (cond (ltb (s % 10) 9) (decision n s)
    (interrupted n (draw s))))

unfoldable pub drawn_event : ℕ → ℕ → Drawn
drawn_event n s = chosen n (draw s)
