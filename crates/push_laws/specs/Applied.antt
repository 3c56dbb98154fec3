-- What steps and numbers come to in a state: the records, the entries in flight, and the state with all of it applied.
use Rattle.std.specs.Prelude.{ℕ, cond, List, [], ◌∷◌, ◌++◌, get_or, drop}
use Rattle.bits.specs.Bits.{bits_empty, word_count}
use Rattle.bits.specs.Four.{words}
use Rattle.rules.specs.State.{Consumer, Held, Dispatcher, State, new_mark, with_consumers, put_dispatcher}
use Rattle.rules.specs.Ledger.{message_at}
use Rattle.rules.specs.Dispatcher.{of_parts}
use Rattle.rules.specs.Commands.{with_permits}
use Rattle.rules.specs.Outcome.{Dispatch}
use Rattle.layout.specs.Fields.{consumer_nth}
use Rattle.push_laws.specs.Local.{Fixed, Local, Step}

-- consumers with other permits, by slot
unfoldable pub with_each : List Consumer → List ℕ → List Consumer
with_each [] permits = []
with_each (c ∷ l) permits = with_permits c (get_or permits 0 0) ∷ with_each l (drop 1 permits)

-- the record of a step, to the consumer with an id
unfoldable pub record_to : ℕ → Fixed → Step → Dispatch
record_to id f x =
    let m = message_at f.ledger x.position in
    let mark = get_or f.marks x.position new_mark in
    record {
      consumer = id;
      message = m;
      ack_set_words = cond (bits_empty (words mark.acked.unacked)) 0 (word_count m.batch_size);
      ack_set = mark.acked.unacked;
      redelivery_count = mark.redelivery_count;
      cost = x.price;
      permits = x.permits;
    }

-- the record of a step
unfoldable pub record_of : State → Fixed → Step → Dispatch
record_of s f x = record_to (consumer_nth s x.consumer).id f x

-- the entry of a step, held by its consumer
unfoldable pub held_of : State → Step → Held
held_of s x = record { holder = (consumer_nth s x.consumer).id; position = x.position }

-- a dispatcher with the numbers of its service, and entries put in flight
unfoldable pub applied_dispatcher : Dispatcher → Local → List Held → Dispatcher
applied_dispatcher d l added =
    of_parts d.pair d.attached l.next l.cursor d.mark_delete l.total (drop l.taken d.redelivery) (d.in_flight ++ added)
    d.marks d.outside

-- a state with a dispatcher's service applied so far
unfoldable pub applied : State → Dispatcher → Local → List Held → State
applied s d l added = put_dispatcher (with_consumers s (with_each s.consumers l.permits)) (applied_dispatcher d l added)
