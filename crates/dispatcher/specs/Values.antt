-- A dispatcher's mark and its four numbers as code has them, by value.
use Rattle.rules.specs.State.{Mark, Dispatcher}
use Rattle.rules.specs.Dispatcher.{of_parts}
use Rattle.dispatcher.specs.declared.marks.Mark as declared
use Rattle.head.specs.declared.Head as numbers

-- the mark that the code's record stands for
unfoldable pub mark_of : declared.Mark → Mark
mark_of m = record { acked = record { complete = m.complete; unacked = m.unacked }; redelivery_count = m.redelivery_count }

-- the four numbers of a dispatcher
unfoldable pub head_of : Dispatcher → numbers.Head
head_of d =
    record {
      next = d.next;
      cursor = d.cursor;
      mark_delete = d.mark_delete;
      total_available_permits = d.total_available_permits;
    }

-- a dispatcher with other four numbers
unfoldable pub with_head : Dispatcher → numbers.Head → Dispatcher
with_head d h =
    of_parts d.pair d.attached h.next h.cursor h.mark_delete h.total_available_permits d.redelivery d.in_flight
    d.marks d.outside
