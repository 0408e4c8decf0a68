-- The line of an act: one table of forms, by which lines are read and written. A line has a first word for the kind (`Verb`) and then, by the kind, up to four
-- places (`Slot`); each shows one field of the act's record, as a number or as one of some names.
use Rattle.std.specs.Prelude.{ℕ, ◌-◌, ◌^◌, Bool, true, false, cond, Option, None, List, [], ◌∷◌, ◌++◌, eqb, leb, get_or}
use Rattle.text.specs.Text.{ascii, decimal, signed}
use Rattle.words.specs.Words.{nth_word}
use Rattle.words.specs.Numbers.{number_in, signed_in, name_in}
use Rattle.event_record.specs.Events.{fields}
use Rattle.event_record.specs.declared.Fields.{Fields}
use Rattle.schedule_text.specs.declared.Slot.{Slot}
use Rattle.schedule_text.specs.declared.Slot.TheVariants.{Verb, A, B, Number, Target, Willing, Word, Telegram, Own, End}
use Rattle.schedule_text.specs.declared.Row.{Row}

-- the documents' words, in the sequence of their numbers: the kinds of event from 0 on, and those of telegram from 1 on; b of a vote and of the arbiter's word;
-- c of a lock whose controllers are their own arbiter
abbrev pub verbs : List ℕ
verbs = ascii "lock order vote deliver bell arbiter stop save restore back ballot"

abbrev pub telegrams : List ℕ
telegrams = ascii "vote acknowledgement help-call help-answer ask promise put taken"

abbrev pub willings : List ℕ
willings = ascii "unwilling willing"

abbrev pub decisions : List ℕ
decisions = ascii "stay move"

abbrev pub own : List ℕ
own = ascii "own-arbiter"

abbrev pub row : Slot → Slot → Slot → Slot → Row
row p q r s = record { first = p; second = q; third = r; fourth = s }

-- what follows `deliver`: telegrams of ballots, kinds 5 to 8, name the ballot first
abbrev pub delivery : ℕ → Row
delivery c = cond (leb c 4) (row Telegram A B End) (row Telegram Number A B)

-- the forms, by kind from 0 on
abbrev pub rows : ℕ → List Row
rows c =
    row A B Own End
    ∷ row Number End End End
    ∷ row A Willing Target End
    ∷ delivery c
    ∷ row A End End End
    ∷ row A Word End End
    ∷ row A End End End
    ∷ row A End End End
    ∷ row A End End End
    ∷ row End End End End
    ∷ row A Number End End
    ∷ []

unfoldable pub row_of : ℕ → ℕ → Row
row_of kind c = get_or (rows c) kind (row End End End End)

-- what may stand as word i of a line, i from 0 on
unfoldable pub slot_in : Row → ℕ → Slot
slot_in r i =
    cond (eqb i 0) Verb (cond (eqb i 1) r.first (cond (eqb i 2) r.second (cond (eqb i 3) r.third (cond (eqb i 4) r.fourth End))))

-- the field that a place shows
unfoldable pub field_of : Slot → Fields → ℕ
field_of Verb x = x.kind
field_of A x = x.a
field_of B x = x.b
field_of Number x = x.value
field_of Target x = x.value
field_of Willing x = x.b
field_of Word x = x.b
field_of Telegram x = x.c
field_of Own x = x.c
field_of End x = 0

unfoldable pub with_field : Slot → ℕ → Fields → Fields
with_field Verb v x = fields v x.a x.b x.c x.value
with_field A v x = fields x.kind v x.b x.c x.value
with_field B v x = fields x.kind x.a v x.c x.value
with_field Number v x = fields x.kind x.a x.b x.c v
with_field Target v x = fields x.kind x.a x.b x.c v
with_field Willing v x = fields x.kind x.a v x.c x.value
with_field Word v x = fields x.kind x.a v x.c x.value
with_field Telegram v x = fields x.kind x.a x.b v x.value
with_field Own v x = fields x.kind x.a x.b v x.value
with_field End v x = x

-- the highest number that its bytes hold
unfoldable pub room : Slot → ℕ
room Number = 2 ^ 32 - 1
room Target = 2 ^ 32 - 1
room Verb = 255
room A = 255
room B = 255
room Willing = 255
room Word = 255
room Telegram = 255
room Own = 255
room End = 255

-- what a word stands for there
unfoldable pub value_in : Slot → List ℕ → Option ℕ
value_in Verb w = name_in 0 verbs w
value_in A w = number_in 255 w
value_in B w = number_in 255 w
value_in Number w = number_in (2 ^ 32 - 1) w
value_in Target w = signed_in w
value_in Willing w = name_in 0 willings w
value_in Word w = name_in 0 decisions w
value_in Telegram w = name_in 1 telegrams w
value_in Own w = name_in 1 own w
value_in End w = None

-- and the word for a number
unfoldable pub shown : Slot → ℕ → List ℕ
shown Verb v = nth_word verbs v
shown A v = decimal v
shown B v = decimal v
shown Number v = decimal v
shown Target v = signed v
shown Willing v = nth_word willings v
shown Word v = nth_word decisions v
shown Telegram v = nth_word telegrams (v - 1)
shown Own v = nth_word own (v - 1)
shown End v = []

-- nothing is written past the end, nor of a lock with an arbiter
unfoldable pub left_out : Slot → ℕ → Bool
left_out End c = true
left_out Own c = eqb c 0
left_out Verb c = false
left_out A c = false
left_out B c = false
left_out Number c = false
left_out Target c = false
left_out Willing c = false
left_out Word c = false
left_out Telegram c = false

unfoldable pub spaced : Slot → Fields → List ℕ
spaced s x = cond (left_out s x.c) [] (ascii " " ++ shown s (field_of s x))

-- the line of a record: its first word, and what follows
abbrev pub rest_of : Fields → List ℕ
rest_of x =
    let r = row_of x.kind x.c in
    spaced r.first x ++ (spaced r.second x ++ (spaced r.third x ++ (spaced r.fourth x ++ ascii "\n")))

unfoldable pub line_of : Fields → List ℕ
line_of x = shown Verb x.kind ++ rest_of x
