-- How the four numbers of a dispatcher move, as equations on the whole record.
use Rattle.std.specs.Prelude.{ℕ, ◌-◌}
use Rattle.head.specs.declared.Head as numbers

-- a turn of push: next and cursor as given, the cost off the total; mark-delete stays
unfoldable pub dispatched : numbers.Head → ℕ → ℕ → ℕ → numbers.Head
dispatched h next cursor cost =
    record {
      next = next;
      cursor = cursor;
      mark_delete = h.mark_delete;
      total_available_permits = h.total_available_permits - cost;
    }

-- the end of an ack: mark-delete as given; the others stay
unfoldable pub advanced : numbers.Head → ℕ → numbers.Head
advanced h mark_delete =
    record {
      next = h.next;
      cursor = h.cursor;
      mark_delete = mark_delete;
      total_available_permits = h.total_available_permits;
    }
