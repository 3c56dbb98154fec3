-- What a subscribe that is not refused needs: room for a new consumer, and for its place in a ring.
use Rattle.std.specs.Prelude.{ℕ, ◌≤◌, ◌<◌, ◌≡◌, false, List, length}
use Rattle.rules.specs.Table.{member}
use Rattle.rules.specs.State.{Pair, by_id, by_pair, dispatcher}
use Rattle.rules.specs.Valid.{Ascending}
use Rattle.layout.specs.Layout.{decode}
use Rattle.layout.specs.Canon.{CanonStore}
use Rattle.store.specs.Find.{slot}

-- a consumer can be put in
pub record Seats (e : ℕ) (ws : List ℕ) (id : ℕ) : Type 0 where
  pub canon : CanonStore e ws
  pub ascending : Ascending (decode ws).consumers
  pub room : length (decode ws).consumers ≤ slot by_id id (decode ws).consumers → length (decode ws).consumers < 32

-- a consumer can join the ring of a pair
pub record Joins (e : ℕ) (ws : List ℕ) (id : ℕ) (p : Pair) : Type 0 where
  pub canon : CanonStore e ws
  pub dispatcher_room : length (decode ws).dispatchers ≤ slot by_pair p (decode ws).dispatchers → length (decode ws).dispatchers < 8
  pub ring_room : member id (dispatcher (decode ws) p).attached ≡ false → length (dispatcher (decode ws) p).attached < 32
