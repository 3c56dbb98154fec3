-- A reader that no ring names, in a state, and the turns of others, which leave it as it stands: a dispatcher's turn serves a
-- consumer of its ring, another plain consumer's that one.
use Prim.Native.Nat.{ℕ, ◌<◌}
use mathlib.Core.Path.{◌≡◌, refl, sym, ap, ◌∙◌, subst}
use mathlib.Core.Bool.{true, false, not, ◌||◌}
use mathlib.Core.List.{List, [], ◌∷◌}
use mathlib.Core.Option.{Option, none, some}
use lib.Dec.{eqb, ltb}
use lib.ListN.{length}
use borrow.Author.Tests.{eqb-true, eq-eqb}
use Rattle.rules.specs.Permits.{above_zero}
use Rattle.rules.specs.Table.{member, count, is_empty}
use Rattle.rules.specs.State.{StoredMessage, Pair, by_kind, Consumer, Dispatcher, State, topic_of, consumer_of, ledger_of, dispatcher_of, dispatcher, with_consumers, with_dispatchers, put_consumer, put_dispatcher}
use Rattle.rules.specs.Dispatcher.{with_next, with_cursor, with_total, with_places, dispatch_gate_open}
use Rattle.rules.specs.Outcome.{Dispatch}
use Rattle.rules.specs.Commands.{with_permits, with_reading}
use Rattle.rules.specs.Push.{Choice, choose, slot_after, dispatch_of, hand_out, hand_out_next, serve_choice, shared_turn, send_plain, send_plain_next, plain_turn_of, plain_turn}
use Rattle.rules.specs.Readers.{Reader}
use Rattle.rules.proofs.Table.{by_test, never_both, count_member}
use Rattle.rules.proofs.State.{consumer_put, consumer_id, each_pair}
use Rattle.rules.proofs.Kept.Turns.{Turned}
use Rattle.rules.proofs.Kept.Choice.{chosen_all}

-- a dispatch to another than consumer i
abbrev pub Elsewhere : ℕ → Dispatch → Type 0
Elsewhere i x = eqb i x.consumer ≡ false

module _ (i n : ℕ) (l : List StoredMessage) where
  -- plain consumer c stands under the id i, over the topic n with the ledger l, and no ring names it
  pub record Stands (c : Consumer) (t : State) : Type 0 where
    pub reader : Reader t i c
    pub its_topic : c.pair.topic ≡ n
    pub its_ledger : ledger_of t n ≡ l

  -- another consumer is put
  other_put : (c : Consumer) (t : State) (x : Consumer) → eqb i x.id ≡ false → Stands c t → Stands c (put_consumer t x)
  unfolding put_consumer with_consumers ledger_of topic_of dispatcher dispatcher_of
  other_put c t x e h =
      record {
        reader = record {
          live = consumer_put t x i ∙ rw e h.reader.live;
          is_plain = h.reader.is_plain;
          in_no_ring = h.reader.in_no_ring;
        };
        its_topic = h.its_topic;
        its_ledger = h.its_ledger;
      }

  -- the reader itself is put, with other permits and another reading
  pub self_put : (c x : Consumer) (t : State) → x.id ≡ c.id → x.kind ≡ c.kind → x.pair ≡ c.pair → Stands c t → Stands x (put_consumer t x)
  unfolding put_consumer with_consumers ledger_of topic_of dispatcher dispatcher_of
  self_put c x t same kind pair h =
      let e : i ≡ x.id = consumer_id t i c h.reader.live ∙ sym same in
      record {
        reader = record {
          live = consumer_put t x i ∙ rw (eq-eqb i x.id e);
          is_plain = kind ∙ h.reader.is_plain;
          in_no_ring = h.reader.in_no_ring;
        };
        its_topic = ap (λ (p : Pair). p.topic) pair ∙ h.its_topic;
        its_ledger = h.its_ledger;
      }

  -- a dispatcher is put whose ring does not name it
  ring_put : (c : Consumer) (t : State) (d : Dispatcher) → member i d.attached ≡ false → Stands c t → Stands c (put_dispatcher t d)
  unfolding put_dispatcher with_dispatchers consumer_of ledger_of topic_of
  ring_put c t d e h =
      record {
        reader = record {
          live = h.reader.live;
          is_plain = h.reader.is_plain;
          in_no_ring = each_pair (λ (q : Pair) (x : Dispatcher). member i x.attached ≡ false) t d.pair d refl e (λ q u. h.reader.in_no_ring q);
        };
        its_topic = h.its_topic;
        its_ledger = h.its_ledger;
      }

  -- ---- the turns of others

  module _ (c : Consumer) where
    -- an entry, or none, goes to a consumer of a ring
    hand_out_leaves : (t : State) (x : Consumer) (d : Dispatcher) (queue : List ℕ) → eqb i x.id ≡ false → member i d.attached ≡ false
        → Stands c t → Turned (Stands c) (Elsewhere i) (hand_out_next t x d queue)
    unfolding hand_out_next hand_out dispatch_of with_cursor with_places with_total with_permits
    hand_out_leaves t x d [] e r h =
        by_test (ltb d.cursor (length (ledger_of t d.pair.topic)))
        (λ u. rw u (e, ring_put c _ _ r (other_put c t _ e h)))
        (λ u. rw u (ring_put c t d r h))
    hand_out_leaves t x d (k ∷ queue) e r h = (e, ring_put c _ _ r (other_put c t _ e h))

    -- a turn of a dispatcher
    pub shared_turn_leaves : (p : Pair) (t : State) → Stands c t → Turned (Stands c) (Elsewhere i) (shared_turn p t)
    unfolding shared_turn serve_choice with_next
    shared_turn_leaves p t h =
        let d : Dispatcher = dispatcher t p in
        let r : member i d.attached ≡ false = h.reader.in_no_ring p in
        by_test (is_empty d.attached || not (dispatch_gate_open d)) (λ u. rw u h) (λ u. rw u (go r (choose t d) refl))
      where
        -- the consumer chosen is another, since it is in the ring
        another : (r : member i (dispatcher t p).attached ≡ false) (j : ℕ) (x : Consumer) → 0 < count j (dispatcher t p).attached → consumer_of t j ≡ some x
            → eqb i x.id ≡ false
        another r j x m e =
            by_test (eqb i x.id)
            (λ u. never_both (member i (dispatcher t p).attached)
            (subst (λ (k : ℕ). member k (dispatcher t p).attached ≡ true) (consumer_id t j x e ∙ sym (eqb-true i x.id u)) (count_member j (dispatcher t p).attached m)) r)
            (λ u. u)

        go : (r : member i (dispatcher t p).attached ≡ false) (o : Option Choice) → choose t (dispatcher t p) ≡ o
            → Turned (Stands c) (Elsewhere i) (serve_choice t (dispatcher t p) o)
        go r none e = h
        go r (some z) e =
            chosen_all
            (λ (z : Choice). Turned (Stands c) (Elsewhere i) (hand_out_next t z.consumer (with_next (dispatcher t p) (slot_after z.slot (dispatcher t p).attached)) (dispatcher t p).redelivery))
            t (dispatcher t p)
            (λ j k x m e ready. hand_out_leaves t x _ (dispatcher t p).redelivery (another r j x m e) r h) z e

    -- a turn of another plain consumer
    pub plain_turn_leaves : (j : ℕ) (t : State) → eqb i j ≡ false → Stands c t → Turned (Stands c) (Elsewhere i) (plain_turn j t)
    unfolding plain_turn plain_turn_of send_plain_next send_plain with_reading with_permits
    plain_turn_leaves j t e h = go (consumer_of t j) refl
      where
        its : (x : Consumer) → consumer_of t j ≡ some x → eqb i x.id ≡ false
        its x f = rw (← (consumer_id t j x f)) e

        next : (x : Consumer) (nacked : List ℕ) → eqb i x.id ≡ false → Turned (Stands c) (Elsewhere i) (send_plain_next t x nacked)
        next x [] e =
            by_test (ltb x.cursor (length (ledger_of t x.pair.topic)))
            (λ u. rw u (e, other_put c t _ e h))
            (λ u. rw u h)
        next x (k ∷ nacked) e = (e, other_put c t _ e h)

        go : (o : Option Consumer) → consumer_of t j ≡ o → Turned (Stands c) (Elsewhere i) (plain_turn_of t o)
        go none f = h
        go (some x) f =
            by_test (by_kind x.kind (above_zero x.permits) false) (λ u. rw u (next x x.nacked (its x f))) (λ u. rw u h)
