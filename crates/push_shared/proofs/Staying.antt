-- What a store still says while only what dispatcher d has in flight changes: the same consumers and topics, and the same
-- ring, queue, ledger and marks for its turns.
use mathlib.Core.Path.{◌≡◌, sym, ap, ap₂, ◌∙◌}
use mathlib.Core.List.{List}
use Prim.Native.Nat.{ℕ}
use lib.ListN.{length, get_or}
use Rattle.rules.specs.State.{StoredMessage, Topic, Consumer, Held, Dispatcher, State, topic_of, ledger_of, with_dispatchers}
use Rattle.rules.specs.Dispatcher.{with_places}
use Rattle.layout.specs.Layout.{decode}
use Rattle.layout.specs.Whole.{ShapedDispatcher}
use Rattle.layout.specs.Fields.{zero_topic, zero_consumer, topic_nth, dispatcher_nth, set_dispatcher}
use Rattle.layout.specs.Placed.{DispatcherIn}
use Rattle.layout.proofs.Store.{canon_entries}
use Rattle.layout.proofs.Placed.{shaped_set_dispatcher}
use Rattle.operation_laws.proofs.Frame.{decode_after}
use Rattle.operation_laws.proofs.Moved.{Moved}
use Rattle.push_laws.specs.Local.{Fixed, Step, fixed_of}
use Rattle.push_laws.specs.Applied.{record_to, record_of, held_of}
use Rattle.push_turn.specs.Turns.{ServedHere, ledger_under}
use Rattle.push_turn.specs.declared.service.Served as places

module _ {e d : ℕ} {ws us : List ℕ} (flight : List Held) (h : DispatcherIn e ws d)
    (m : Moved e d ws us (with_places (dispatcher_nth (decode ws) d) (dispatcher_nth (decode ws) d).redelivery flight)) where
  abbrev x : Dispatcher
  x = dispatcher_nth (decode ws) d

  abbrev y : Dispatcher
  y = with_places x x.redelivery flight

  -- the state
  state_now : decode us ≡ set_dispatcher (decode ws) d y
  state_now =
      let fits : ShapedDispatcher (decode ws).entries y = rw (canon_entries h.canon, ← m.now) m.here.lists_fit in
      decode_after ws (set_dispatcher (decode ws) d y) (shaped_set_dispatcher (decode ws) h.canon.shaped d y fits) m.words

  -- the consumers
  pub consumers_now : (decode us).consumers ≡ (decode ws).consumers
  unfolding set_dispatcher with_dispatchers
  consumers_now = ap (λ (s : State). s.consumers) state_now

  -- the topics
  topics_now : (decode us).topics ≡ (decode ws).topics
  unfolding set_dispatcher with_dispatchers
  topics_now = ap (λ (s : State). s.topics) state_now

  -- what its turns read
  pub fixed_now : fixed_of (decode us) (dispatcher_nth (decode us) d) ≡ fixed_of (decode ws) x
  unfolding fixed_of set_dispatcher with_dispatchers with_places ledger_of topic_of
  fixed_now = ap₂ {A = State} {B = Dispatcher} {C = Fixed} fixed_of state_now m.now

  -- the records and the holds of steps
  pub record_now : (f : Fixed) (z : Step) → record_of (decode us) f z ≡ record_of (decode ws) f z
  unfolding record_of
  record_now f z = ap (λ (l : List Consumer). record_to (get_or l z.consumer zero_consumer).id f z) consumers_now

  pub held_now : (z : Step) → held_of (decode us) z ≡ held_of (decode ws) z
  unfolding held_of
  held_now z = ap (λ (l : List Consumer). record { holder = (get_or l z.consumer zero_consumer).id; position = z.position }) consumers_now

  -- the ledger
  ledger_now : ledger_under (decode us) d ≡ ledger_under (decode ws) d
  unfolding set_dispatcher with_dispatchers with_places ledger_of topic_of
  ledger_now = ap₂ {A = State} {B = Dispatcher} {C = List StoredMessage} (λ s z. ledger_of s z.pair.topic) state_now m.now

-- the dispatcher can be served on
pub serving_now : {p : places.Served} {ws us : List ℕ} (flight : List Held) → ServedHere p ws
    → Moved p.e p.d ws us (with_places (dispatcher_nth (decode ws) p.d) (dispatcher_nth (decode ws) p.d).redelivery flight) → ServedHere p us
unfolding with_places
serving_now {p} {ws} {us} flight v m =
    let x = dispatcher_nth (decode ws) p.d in
    let ledger_same = ledger_now flight v.here m in
    let topics_same = topics_now flight v.here m in
    let marks_same : (dispatcher_nth (decode us) p.d).marks ≡ x.marks = ap (λ (z : Dispatcher). z.marks) m.now in
    let queue_same : (dispatcher_nth (decode us) p.d).redelivery ≡ x.redelivery = ap (λ (z : Dispatcher). z.redelivery) m.now in
    let cursor_same : (dispatcher_nth (decode us) p.d).cursor ≡ x.cursor = ap (λ (z : Dispatcher). z.cursor) m.now in
    let topic_same : topic_nth (decode us) p.t ≡ topic_nth (decode ws) p.t = ap (λ (l : List Topic). get_or l p.t zero_topic) topics_same in
    record {
      here = m.here;
      ledger_length = v.ledger_length ∙ sym (ap length ledger_same);
      topic_here =
          λ a.
          let b = v.topic_here a in
          record {
            canon = m.here.canon;
            there = rw topics_same b.there;
            few = b.few;
            inside = b.inside;
            messages_fit = rw topic_same b.messages_fit;
          };
      ledger_here = λ a. ap (λ (z : Topic). z.messages) topic_same ∙ v.ledger_here a ∙ sym ledger_same;
      one_mark_each = rw marks_same v.one_mark_each;
      batches = rw ledger_same v.batches;
      queue_in_ledger = rw queue_same v.queue_in_ledger;
      cursor_in_ledger = rw cursor_same v.cursor_in_ledger;
    }
