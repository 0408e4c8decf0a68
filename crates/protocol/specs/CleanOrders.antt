-- A clean order from its votes to its end, for every n and f. That it is clean and ends everywhere is proved (NotHollow), and the table of trials runs it.
-- Its parts are written newest first, each put after the log of what came before; `clean_order` is the whole as a new bench is given it.
use Rattle.std.specs.Prelude.{ℕ, zero, suc, Bool, cond, false, List, [], ◌∷◌, reverse}
use Rattle.model.specs.Routes.{route}
use Rattle.model.specs.declared.Kind.{Kind}
use Rattle.model.specs.declared.Kind.TheVariants.{Vote, Ack}
use Rattle.model.specs.declared.Event.{Event}
use Rattle.model.specs.declared.Event.TheVariants.{Lock, Order, Cast, Deliver, Timeout}

-- controllers 1 to m vote as w says
unfoldable pub casts : (ℕ → Bool) → ℕ → List Event
casts w zero = []
casts w (suc m) = Cast (suc m) (w (suc m)) 0 ∷ casts w m

-- controllers 1 to m have a timeout
unfoldable pub timeouts : ℕ → List Event → List Event
timeouts zero log = log
timeouts (suc m) log = Timeout (suc m) ∷ timeouts m log

module _ (n f : ℕ) where
  -- every message of a kind is delivered: of sender i to 1..m; of the senders 1..m to all
  unfoldable pub deliveries_of : Kind → ℕ → ℕ → List Event → List Event
  deliveries_of kind i zero log = log
  deliveries_of kind i (suc j) log = cond (route f kind i (suc j)) (Deliver i (suc j) kind ∷ deliveries_of kind i j log) (deliveries_of kind i j log)

  unfoldable pub deliveries : Kind → ℕ → List Event → List Event
  deliveries kind zero log = log
  deliveries kind (suc i) log = deliveries_of kind (suc i) n (deliveries kind i log)

  -- all vote, and every vote message is delivered; 1 to f + 1 have their first timeout, and every acknowledgement is delivered; all have their second timeout
  unfoldable pub all_voted : (ℕ → Bool) → List Event
  all_voted w = deliveries Vote n (casts w n)

  unfoldable pub all_acked : (ℕ → Bool) → List Event
  all_acked w = deliveries Ack n (timeouts (suc f) (all_voted w))

  unfoldable pub all_ended : (ℕ → Bool) → List Event
  all_ended w = timeouts n (all_acked w)

  -- as a new bench is given it: the lock, the first order, and then the log, oldest first
  abbrev pub from_lock : List Event → List Event
  from_lock log = Lock n f false ∷ Order 1 ∷ reverse log

  unfoldable pub clean_order : (ℕ → Bool) → List Event
  clean_order w = from_lock (all_ended w)
