-- The rule of close by the consumer's slot: its ways out, one for each return of the code.
use mathlib.Core.Path.{◌≡◌, refl, sym, ap, ◌∙◌}
use mathlib.Core.Bool.{Bool, true, false, not}
use mathlib.Core.List.{List, Memᴰ}
use Prim.Native.Nat.{ℕ, ◌+◌, ◌-◌, ◌≤◌, ◌<◌}
use lib.Dec.{eqb, leb}
use lib.ListN.{length, get_or}
use borrow.Author.Tests.{lt-leb, le-leb}
use Rattle.words.specs.Codec.{bit}
use Rattle.rules.specs.Permits.{least_total, most_total, zero_permits, less, total_in_range}
use Rattle.rules.specs.State.{State, Dispatcher, by_id, by_pair, dispatcher, with_consumers, with_dispatchers, put_dispatcher}
use Rattle.rules.specs.State.Kind.{plain, shared}
use Rattle.rules.specs.Outcome.{guard}
use Rattle.rules.specs.Outcome.Outcome.{refused, done}
use Rattle.rules.specs.Outcome.Value.{closed}
use Rattle.rules.specs.Dispatcher.{with_attached, with_next, with_places, with_total}
use Rattle.rules.specs.Commands.{close, close_found, close_consumer, without_consumer, left_by, total_after_close}
use Rattle.rules.specs.Calls.{rule, value_number, bit_of}
use Rattle.rules.specs.Calls.Call.{Close}
use Rattle.rules.specs.Valid.{Valid, ValidConsumer}
use Rattle.layout.specs.Layout.{decode, put}
use Rattle.layout.specs.Whole.{Shaped, ShapedDispatcher}
use Rattle.layout.specs.Canon.{CanonStore}
use Rattle.layout.specs.Fields.{consumer_nth, dispatcher_nth, set_dispatcher}
use Rattle.layout.specs.Placed.{ConsumerIn}
use Rattle.layout.proofs.Gets.{read_leak}
use Rattle.layout.proofs.Placed.{consumer_in, shaped_set_dispatcher}
use Rattle.store.specs.Find.{slot}
use Rattle.operation_laws.proofs.Frame.{guard_stop, guard_pass, kind_plain, kind_shared, consumer_found, consumer_missing, without_consumer_at, dispatcher_found, dispatcher_found_pair, dispatcher_found_valid, set_dispatcher_put, then_write, canon_after, decode_after}
use Rattle.close.specs.Leaving.{MemberOf}
use Rattle.dispatcher.proofs.Returning.{without_nth}

-- ---- the values

pub value_closed : value_number (closed true) ≡ 1
unfolding value_number bit_of
value_closed = refl

pub value_not_closed : value_number (closed false) ≡ 0
unfolding value_number bit_of
value_not_closed = refl

-- ---- the total

-- below the least
pub under_range : (t : ℕ) → t < least_total → leb least_total t ≡ total_in_range t
unfolding total_in_range
under_range t h = rw (lt-leb least_total t h)

-- not below it: by the most
pub over_range : (t : ℕ) → least_total ≤ t → leb t most_total ≡ total_in_range t
unfolding total_in_range
over_range t h = rw (le-leb least_total t h)

-- the switch off
pub total_once : {leak : Bool} (total permits : ℕ) → leak ≡ false → total + zero_permits - permits ≡ total_after_close leak total permits
unfolding total_after_close less
total_once total permits e = rw e

-- and on
pub total_twice : {leak : Bool} (total permits : ℕ) → leak ≡ true → total + zero_permits - permits + zero_permits - permits ≡ total_after_close leak total permits
unfolding total_after_close less
total_twice total permits e = rw e

-- a switch word
switch : (b : Bool) → not (eqb (bit b) 0) ≡ b
switch true = refl
switch false = refl

-- the total by the words that the code reads
pub total_left : {e : ℕ} (ws : List ℕ) (r t p : ℕ) {u q : ℕ} → CanonStore e ws → t ≡ u → p ≡ q → r ≡ total_after_close (not (eqb (get_or ws 2 0) 0)) t p
    → r ≡ total_after_close (decode ws).leak_shared_permits_on_churn u q
total_left ws r t p h a b c = c ∙ rw (read_leak h, switch (decode ws).leak_shared_permits_on_churn, a, b)

-- an id in a ring, told of the same id and dispatcher
member_at : (i j : ℕ) (x y : Dispatcher) → i ≡ j → x ≡ y → Memᴰ j x.attached → Memᴰ i y.attached
member_at i j x y e f m = rw (e, ← f) m

-- ---- the rule

-- the slot of an id that is the consumer's
pub slot_of : (s : State) (i id : ℕ) → i ≡ slot by_id (consumer_nth s i).id s.consumers → id ≡ (consumer_nth s i).id → i ≡ slot by_id id s.consumers
slot_of s i id e q = e ∙ ap (λ (j : ℕ). slot by_id j s.consumers) (sym q)

-- an id that is not live
pub close_missing : (s : State) (id : ℕ) → length s.consumers ≤ slot by_id id s.consumers → rule s (Close id) ≡ done (closed false) s
unfolding rule close close_found
close_missing s id h = rw (consumer_missing s (slot by_id id s.consumers) id refl h)

module _ (s : State) (i id : ℕ) (e : i ≡ slot by_id id s.consumers) (q : id ≡ (consumer_nth s i).id) (v : Valid s) (h : i < length s.consumers) where
  -- the rule with the consumer at hand
  at_hand : rule s (Close id) ≡ close_consumer s (consumer_nth s i)
  unfolding rule close close_found
  at_hand = rw (consumer_found s i id e h)

  -- a plain consumer goes
  pub close_plain : (consumer_nth s i).kind ≡ plain → rule s (Close id) ≡ done (closed true) (with_consumers s (without_nth i s.consumers))
  unfolding close_consumer
  close_plain k =
      at_hand ∙ kind_plain _ _ _ k
      ∙ ap (λ (t : State). done (closed true) t) (ap (without_consumer s) (sym q) ∙ without_consumer_at s i id e v h)

  module _ (k : (consumer_nth s i).kind ≡ shared) (d t : ℕ) (f : d ≡ slot by_pair (consumer_nth s i).pair s.dispatchers) (l : d < length s.dispatchers)
      (c : t ≡ total_after_close s.leak_shared_permits_on_churn (dispatcher_nth s d).total_available_permits (consumer_nth s i).permits) where
    -- the rule with its dispatcher at hand
    shared_way : rule s (Close id) ≡ guard (not (total_in_range t)) 9 (done (closed true) (put_dispatcher (without_consumer s id) (left_by id t (dispatcher_nth s d))))
    unfolding close_consumer
    shared_way = at_hand ∙ kind_shared _ _ _ k ∙ rw (dispatcher_found s d (consumer_nth s i).pair f l, c, q)

    -- the total would leave its range
    pub close_over : total_in_range t ≡ false → rule s (Close id) ≡ refused 9
    close_over o = shared_way ∙ guard_stop _ _ _ (rw o)

    -- the dispatcher is left, and the consumer goes
    pub close_shared : total_in_range t ≡ true
        → rule s (Close id) ≡ done (closed true) (with_consumers (set_dispatcher s d (left_by id t (dispatcher_nth s d))) (without_nth i s.consumers))
    unfolding with_consumers set_dispatcher with_dispatchers left_by with_total with_places with_next with_attached
    close_shared o =
        let y = left_by id t (dispatcher_nth s d) in
        let u = with_consumers s (without_nth i s.consumers) in
        let p : set_dispatcher u d y ≡ put_dispatcher u y = set_dispatcher_put u d (consumer_nth s i).pair f y l (dispatcher_found_pair s d (consumer_nth s i).pair f l) in
        shared_way ∙ guard_pass _ _ _ (rw o)
        ∙ ap (λ (z : State). done (closed true) z) (ap (λ (z : State). put_dispatcher z y) (without_consumer_at s i id e v h) ∙ sym p)

    -- the consumer stands in the ring
    pub close_member : ValidConsumer s (consumer_nth s i) → MemberOf id (dispatcher_nth s d)
    close_member w =
        let x = dispatcher_found s d (consumer_nth s i).pair f l in
        record {
          ring_once = (dispatcher_found_valid s d (consumer_nth s i).pair f v l).ring.ring_distinct;
          in_ring = member_at id (consumer_nth s i).id (dispatcher s (consumer_nth s i).pair) (dispatcher_nth s d) q x (w.shared_in_ring k);
        }

-- ---- the words

module _ {e : ℕ} {us : List ℕ} (ws : List ℕ) (i d : ℕ) (y : Dispatcher) (h : CanonStore e ws) (k : ShapedDispatcher (decode ws).entries y) (q : (decode ws).entries ≡ e)
    (w : us ≡ put ws (set_dispatcher (decode ws) d y)) where
  -- the consumer is there after its dispatcher was set
  pub consumer_kept_in : i < length (decode ws).consumers → ConsumerIn e us i
  unfolding set_dispatcher with_dispatchers
  consumer_kept_in l =
      let t : Shaped (set_dispatcher (decode ws) d y) = shaped_set_dispatcher (decode ws) h.shaped d y k in
      let same : (decode us).consumers ≡ (decode ws).consumers = ap (λ (x : State). x.consumers) (decode_after ws (set_dispatcher (decode ws) d y) t w) in
      consumer_in (canon_after ws (set_dispatcher (decode ws) d y) t q w) i (rw same l)

  -- and then goes
  pub closed_words : {vs : List ℕ} → vs ≡ put us (with_consumers (decode us) (without_nth i (decode us).consumers))
      → vs ≡ put ws (with_consumers (set_dispatcher (decode ws) d y) (without_nth i (decode ws).consumers))
  unfolding set_dispatcher with_dispatchers with_consumers
  closed_words g =
      then_write ws (set_dispatcher (decode ws) d y) (λ (t : State). with_consumers t (without_nth i t.consumers))
      (shaped_set_dispatcher (decode ws) h.shaped d y k) refl w g
