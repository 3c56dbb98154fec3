-- A shared consumer put in the state, then in its ring.
use mathlib.Core.Path.{◌≡◌, refl, sym, subst}
use mathlib.Core.Bool.{false}
use mathlib.Core.List.{List}
use Prim.Native.Nat.{ℕ, ◌≤◌, ◌<◌}
use lib.Dec.{ltb}
use lib.ListN.{length}
use borrow.Author.Tests.{ltb-true, ltb-false}
use Rattle.rules.specs.Table.{member}
use Rattle.rules.specs.State.{Pair, Consumer, State, by_id, by_pair, topic_of, ledger_of, dispatcher, dispatcher_of, with_consumers, with_dispatchers, put_consumer, put_dispatcher}
use Rattle.rules.specs.Commands.{joined}
use Rattle.rules.proofs.Table.{by_test}
use Rattle.layout.specs.Layout.{decode, put}
use Rattle.layout.specs.Whole.{Shaped, ShapedConsumer}
use Rattle.layout.proofs.Placed.{shaped_set_consumer}
use Rattle.layout.proofs.Store.{canon_entries}
use Rattle.store.specs.Find.{slot}
use Rattle.store.proofs.Finding.{slot_le}
use Rattle.operation_laws.specs.Place.{by_above}
use Rattle.operation_laws.proofs.Frame.{put_consumer_new, then_write, canon_after, decode_after}
use Rattle.subscribe.specs.Seats.{Seats, Joins}
use Rattle.subscribe.proofs.Seating.{seated_again, shaped_among}

module _ {e : ℕ} {ws : List ℕ} (c : Consumer) (h : Seats e ws c.id) (k : ShapedConsumer c) where
  -- the state with the consumer is shaped
  shaped_seated : Shaped (put_consumer (decode ws) c)
  shaped_seated =
      let j = slot by_id c.id (decode ws).consumers in
      by_test (ltb j (length (decode ws).consumers))
      (λ t. subst Shaped (seated_again (decode ws) j c h.ascending refl (ltb-true j (length (decode ws).consumers) t))
      (shaped_set_consumer (decode ws) h.canon.shaped j c k))
      (λ t. let m = ltb-false j (length (decode ws).consumers) t in
      subst Shaped (sym (put_consumer_new (decode ws) j c.id refl c m refl))
      (shaped_among (slot by_above c.id (decode ws).consumers) h.canon (slot_le by_above c.id (decode ws).consumers) (h.room m) c k))

  module _ {us : List ℕ} (p : Pair) (w : us ≡ put ws (put_consumer (decode ws) c)) where
    -- its ring has room as before
    pub joins_after : Joins e ws c.id p → Joins e us c.id p
    unfolding put_consumer with_consumers dispatcher dispatcher_of ledger_of topic_of
    joins_after i =
        let now = sym (decode_after ws (put_consumer (decode ws) c) shaped_seated w) in
        record {
          canon = canon_after ws (put_consumer (decode ws) c) shaped_seated (canon_entries h.canon) w;
          dispatcher_room = subst (λ (s : State). length s.dispatchers ≤ slot by_pair p s.dispatchers → length s.dispatchers < 8) now i.dispatcher_room;
          ring_room = subst (λ (s : State). member c.id (dispatcher s p).attached ≡ false → length (dispatcher s p).attached < 32) now i.ring_room;
        }

    -- both
    pub entered : {vs : List ℕ} → vs ≡ put us (put_dispatcher (decode us) (joined c.id (dispatcher (decode us) p)))
        → vs ≡ put ws (put_dispatcher (put_consumer (decode ws) c) (joined c.id (dispatcher (decode ws) p)))
    unfolding put_consumer put_dispatcher with_consumers with_dispatchers dispatcher dispatcher_of ledger_of topic_of
    entered f = then_write ws (put_consumer (decode ws) c) (λ (s : State). put_dispatcher s (joined c.id (dispatcher s p))) shaped_seated refl w f
