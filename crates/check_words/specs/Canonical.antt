-- Lists of a store whose elements are any words: when they are spelt as they should be.
use Rattle.std.specs.Prelude.{ℕ, ◌+◌, ◌-◌, ◌*◌, Bool, ◌&&◌, List, leb, get_or, drop}
use Rattle.words.specs.Words.{blank}
use Rattle.layout.specs.Offsets.{ring_in, outside_in, queue_in, flight_in}
use Rattle.check_rows.specs.Below.{each_below}

-- a list, its count first: its count is at most `most`, and the slots past it, of `width` words each, are 0
unfoldable pub list_canonical : List ℕ → ℕ → ℕ → Bool
list_canonical ws most width =
    leb (get_or ws 0 0) most && blank ((most - get_or ws 0 0) * width) (drop (1 + get_or ws 0 0 * width) ws)

-- a table: a list whose slots up to the count are right
unfoldable pub table_canonical : List ℕ → ℕ → ℕ → (ℕ → Bool) → Bool
table_canonical ws most width right = list_canonical ws most width && each_below right (get_or ws 0 0)

-- a dispatcher's ring, outside ids, queue and entries in flight
unfoldable pub lists_canonical : List ℕ → ℕ → Bool
lists_canonical ws e =
    list_canonical (drop ring_in ws) 32 1
    && (list_canonical (drop outside_in ws) 64 2
    && (list_canonical (drop queue_in ws) e 1 && list_canonical (drop (flight_in e) ws) e 2))
