-- A dispatcher tested over words, part by part, and the room that its words take.
use Rattle.std.specs.Prelude.{ℕ, ◌+◌, ◌≤◌, ◌≡◌, Bool, ◌&&◌, ◌||◌, List, map, eqb, leb, ltb, length, get_or}
use Rattle.rules.specs.Permits.{least_total, most_total}
use Rattle.rules.specs.Table.{all, distinct}
use Rattle.rules.specs.State.{Dispatcher, State, same_pair}
use Rattle.rules.specs.Valid.{is_byte, valid_dispatcher}
use Rattle.layout.specs.Offsets.{dispatcher_words, ring_in, outside_in, queue_in, flight_in, marks_in, mark_in}
use Rattle.check_rows.specs.Rows.{rows_distinct}
use Rattle.check_rows.specs.declared.PairRows.{PairRows}
use Rattle.check_state.specs.Places.{places_right}
use Rattle.check_state.specs.Marks.{marks_right, outside_right}

-- the words of a dispatcher at an offset lie in the store, and its counts within their lists' room
pub record DispatcherRoom (e : ℕ) (ws : List ℕ) (at : ℕ) : Type 0 where
  pub E_most : e ≤ 4096
  pub room : at + dispatcher_words e ≤ length ws
  pub ring_count : get_or ws (at + ring_in) 0 ≤ 32
  pub outside_count : get_or ws (at + outside_in) 0 ≤ 64
  pub queue_count : get_or ws (at + queue_in) 0 ≤ e
  pub flight_count : get_or ws (at + flight_in e) 0 ≤ e

-- rows that are a ledger of the same store
pub record LedgerIn (e : ℕ) (ws : List ℕ) (r : PairRows) : Type 0 where
  pub same_store : r.rows.store.now ≡ ws
  pub width : r.rows.width ≡ 4
  pub few : r.rows.count ≤ e

-- its head: topic and subscription are bytes, the total is in range, cursor and mark-delete are not past the entries
unfoldable pub head_right : List ℕ → ℕ → ℕ → Bool
head_right ws at entries =
    is_byte (get_or ws at 0)
    && (is_byte (get_or ws (at + 1) 0)
    && (leb least_total (get_or ws (at + 5) 0)
    && (leb (get_or ws (at + 5) 0) most_total
    && (leb (get_or ws (at + 3) 0) entries && leb (get_or ws (at + 4) 0) entries))))

-- whether next is below the length of a ring, or 0 where that is 0
unfoldable pub next_right : ℕ → ℕ → Bool
next_right next n = ltb next n || (eqb n 0 && eqb next 0)

-- its ring: distinct ids, and next
unfoldable pub ring_right : List ℕ → ℕ → Bool
ring_right ws at =
    rows_distinct ws (at + (ring_in + 1)) 1 (get_or ws (at + ring_in) 0) && next_right (get_or ws (at + 2) 0) (get_or ws (at + ring_in) 0)

-- what does not look into the ledger
unfoldable pub front_right : List ℕ → ℕ → ℕ → ℕ → Bool
front_right ws e at entries = head_right ws at entries && (ring_right ws at && places_right ws e at)

-- what does: marks and outside ids
unfoldable pub rest_right : List ℕ → ℕ → ℕ → ℕ → ℕ → Bool
rest_right ws e at ledger entries =
    marks_right ws ledger entries (at + mark_in e 0) (get_or ws (at + marks_in e) 0) && outside_right ws at ledger entries

-- the dispatchers of a state: pairs distinct, each valid
abbrev pub dispatchers_right : State → Bool
dispatchers_right s =
    distinct same_pair (map (λ (d : Dispatcher). d.pair) s.dispatchers) && all (valid_dispatcher s) s.dispatchers
