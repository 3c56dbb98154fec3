-- Where the table of dispatchers stands in a store, and the lists of each.
use Rattle.std.specs.Prelude.{ℕ, ◌+◌}
use Rattle.layout.specs.Offsets.{dispatcher_count_at, dispatcher_at, dispatcher_words, ring_in, outside_in, outside_id_in}
use Rattle.layout.specs.Offsets.{queue_in, flight_in, held_in, marks_in, mark_in}
use Rattle.store.specs.declared.counted.Counted.{Counted}

-- the dispatchers
abbrev pub dispatcher_list : ℕ → Counted
dispatcher_list e = record { count_at = dispatcher_count_at e; first = dispatcher_at e 0; width = dispatcher_words e }

-- the ids of a ring
abbrev pub ring_list : ℕ → ℕ → Counted
ring_list e d = record { count_at = dispatcher_at e d + ring_in; first = dispatcher_at e d + (ring_in + 1); width = 1 }

-- the queue
abbrev pub queue_list : ℕ → ℕ → Counted
queue_list e d = record { count_at = dispatcher_at e d + queue_in; first = dispatcher_at e d + (queue_in + 1); width = 1 }

-- what is in flight
abbrev pub flight_list : ℕ → ℕ → Counted
flight_list e d = record { count_at = dispatcher_at e d + flight_in e; first = dispatcher_at e d + held_in e 0; width = 2 }

-- the outside ids
abbrev pub outside_list : ℕ → ℕ → Counted
outside_list e d = record { count_at = dispatcher_at e d + outside_in; first = dispatcher_at e d + outside_id_in 0; width = 2 }

-- the marks
abbrev pub mark_list : ℕ → ℕ → Counted
mark_list e d = record { count_at = dispatcher_at e d + marks_in e; first = dispatcher_at e d + mark_in e 0; width = 6 }
