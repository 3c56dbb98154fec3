-- The rule of subscribe by its tests: its ways out, one for each return of the code.
use mathlib.Core.Path.{◌≡◌, refl, sym, ◌∙◌}
use mathlib.Core.Bool.{Bool, true, false, not, ◌&&◌}
use mathlib.Core.List.{List}
use Prim.Native.Nat.{ℕ, ◌≤◌}
use lib.Dec.{leb}
use lib.ListN.{length}
use borrow.Author.Tests.{leb-false}
use Rattle.rules.specs.Table.{any, is_some, member}
use Rattle.rules.specs.State.{Pair, Kind, by_kind, State, new_dispatcher, by_id, by_pair, consumer_of, dispatcher_of, dispatcher, put_consumer, put_dispatcher}
use Rattle.rules.specs.State.Kind.{plain, shared}
use Rattle.rules.specs.Outcome.{guard}
use Rattle.rules.specs.Outcome.Outcome.{refused, done}
use Rattle.rules.specs.Outcome.Value.{nothing}
use Rattle.rules.specs.Commands.{subscribe, new_consumer, joined}
use Rattle.rules.specs.Calls.{rule}
use Rattle.rules.specs.Calls.Call.{Subscribe}
use Rattle.layout.specs.Layout.{decode}
use Rattle.store.specs.Find.{slot}
use Rattle.store.proofs.Finding.{slot_none}
use Rattle.operation_laws.proofs.Frame.{canon_of, valid_now, guard_stop, guard_pass, consumer_missing, dispatcher_missing}
use Rattle.subscribe.specs.Admitted.{Admitted}
use Rattle.subscribe.specs.Seats.{Seats, Joins}

-- ---- the tests

module _ (s : State) where
  -- an id that is not live
  pub live_none : (id : ℕ) → length s.consumers ≤ slot by_id id s.consumers → false ≡ is_some (consumer_of s id)
  unfolding is_some
  live_none id h = rw (consumer_missing s (slot by_id id s.consumers) id refl h)

  -- a pair that has no dispatcher
  pub pair_none : (d : ℕ) (p : Pair) → d ≡ slot by_pair p s.dispatchers → length s.dispatchers ≤ d → false ≡ is_some (dispatcher_of s p)
  unfolding is_some dispatcher_of
  pair_none d p e h = rw (slot_none by_pair p s.dispatchers (rw e at h))

-- the tests of subscribe by whether the id is live
pub idle_is : (s : State) (id : ℕ) {live idle : Bool} → live ≡ is_some (consumer_of s id) → idle ≡ live && s.live_id_subscribe_is_noop
    → is_some (consumer_of s id) && s.live_id_subscribe_is_noop ≡ idle
idle_is s id e f = rw (← e, f) refl

pub full_is : (s : State) (id : ℕ) {live full : Bool} → live ≡ is_some (consumer_of s id) → full ≡ not live && leb 32 (length s.consumers)
    → not (is_some (consumer_of s id)) && leb 32 (length s.consumers) ≡ full
full_is s id e f = rw (← e, f) refl

-- a test of what would be new: not where it is there
pub not_new : (t u : Bool) → true ≡ t → false ≡ not t && u
not_new t u e = rw (← e)

-- and by the number where it is not
pub new_by : (t u : Bool) → false ≡ t → u ≡ not t && u
new_by t u e = rw (← e)

-- the ring of a new pair is empty
pub new_ring : (s : State) (d : ℕ) (p : Pair) (id : ℕ) → d ≡ slot by_pair p s.dispatchers → length s.dispatchers ≤ d
    → false ≡ not (member id (dispatcher s p).attached) && leb 32 (length (dispatcher s p).attached)
unfolding new_dispatcher member any
new_ring s d p id e h = rw (dispatcher_missing s d p e h) refl

-- ---- the rule

module _ (s : State) (id : ℕ) (k : Kind) (p : Pair) where
  -- nothing to do
  pub subscribe_idle : is_some (consumer_of s id) && s.live_id_subscribe_is_noop ≡ true → rule s (Subscribe id k p) ≡ done nothing s
  unfolding rule subscribe
  subscribe_idle t = rw t

  -- the rule where there is
  to_do : is_some (consumer_of s id) && s.live_id_subscribe_is_noop ≡ false → rule s (Subscribe id k p) ≡
      guard (not (is_some (consumer_of s id)) && leb 32 (length s.consumers)) 12
      (by_kind k
      (done nothing (put_consumer s (new_consumer id k p)))
      (guard (not (is_some (dispatcher_of s p)) && leb 8 (length s.dispatchers)) 13
      (guard (not (member id (dispatcher s p).attached) && leb 32 (length (dispatcher s p).attached)) 14
      (done nothing (put_dispatcher (put_consumer s (new_consumer id k p)) (joined id (dispatcher s p)))))))
  unfolding rule subscribe
  to_do t = rw t

  -- 32 are live
  pub subscribe_full : is_some (consumer_of s id) && s.live_id_subscribe_is_noop ≡ false
      → not (is_some (consumer_of s id)) && leb 32 (length s.consumers) ≡ true → rule s (Subscribe id k p) ≡ refused 12
  subscribe_full t u = to_do t ∙ guard_stop _ _ _ u

module _ {e : ℕ} {ws : List ℕ} {id : ℕ} (a : Admitted e ws id) (p : Pair) where
  -- a plain consumer
  pub subscribe_plain : rule (decode ws) (Subscribe id plain p) ≡ done nothing (put_consumer (decode ws) (new_consumer id plain p))
  unfolding by_kind
  subscribe_plain = to_do (decode ws) id plain p a.to_do ∙ guard_pass _ _ _ a.room

  -- the rule of a shared one
  as_shared : rule (decode ws) (Subscribe id shared p) ≡
      guard (not (is_some (dispatcher_of (decode ws) p)) && leb 8 (length (decode ws).dispatchers)) 13
      (guard (not (member id (dispatcher (decode ws) p).attached) && leb 32 (length (dispatcher (decode ws) p).attached)) 14
      (done nothing (put_dispatcher (put_consumer (decode ws) (new_consumer id shared p)) (joined id (dispatcher (decode ws) p)))))
  unfolding by_kind
  as_shared = to_do (decode ws) id shared p a.to_do ∙ guard_pass _ _ _ a.room

  -- 8 pairs exist
  pub subscribe_pairs : not (is_some (dispatcher_of (decode ws) p)) && leb 8 (length (decode ws).dispatchers) ≡ true
      → rule (decode ws) (Subscribe id shared p) ≡ refused 13
  subscribe_pairs t = as_shared ∙ guard_stop _ _ _ t

  module _ (t : not (is_some (dispatcher_of (decode ws) p)) && leb 8 (length (decode ws).dispatchers) ≡ false) where
    -- the ring has 32
    pub subscribe_ring : not (member id (dispatcher (decode ws) p).attached) && leb 32 (length (dispatcher (decode ws) p).attached) ≡ true
        → rule (decode ws) (Subscribe id shared p) ≡ refused 14
    subscribe_ring u = as_shared ∙ guard_pass _ _ _ t ∙ guard_stop _ _ _ u

    module _ (u : not (member id (dispatcher (decode ws) p).attached) && leb 32 (length (dispatcher (decode ws) p).attached) ≡ false) where
      -- a shared consumer
      pub subscribe_shared : rule (decode ws) (Subscribe id shared p)
          ≡ done nothing (put_dispatcher (put_consumer (decode ws) (new_consumer id shared p)) (joined id (dispatcher (decode ws) p)))
      subscribe_shared = as_shared ∙ guard_pass _ _ _ t ∙ guard_pass _ _ _ u

      -- its ring has room
      pub joins : Joins e ws id p
      joins = record {
        canon = canon_of e ws a.opened.spelt a.opened.E;
        dispatcher_room = λ m. leb-false 8 (length (decode ws).dispatchers) (new_by _ _ (pair_none (decode ws) _ p refl m) ∙ t);
        ring_room = λ m. leb-false 32 (length (dispatcher (decode ws) p).attached) (new_by _ _ (sym m) ∙ u);
      }

-- the table of consumers has room
pub seats : {e : ℕ} {ws : List ℕ} {id : ℕ} → Admitted e ws id → Seats e ws id
seats {e} {ws} {id} a = record {
  canon = canon_of e ws a.opened.spelt a.opened.E;
  ascending = (valid_now ws a.opened.spelt).tables.consumers_ascending;
  room = λ m. leb-false 32 (length (decode ws).consumers) (new_by _ _ (live_none (decode ws) id m) ∙ a.room);
}
