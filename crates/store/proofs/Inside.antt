-- Where the slots of a store's tables end: within the store.
use Prim.Native.Nat.{ℕ, ◌+◌, ◌*◌, ◌≤◌, ◌<◌}
use mathlib.Core.List.{List}
use native.Mathlib.Omega.{arith}
use lib.ListN.{length}
use Rattle.layout.specs.Layout.{decode}
use Rattle.layout.specs.Canon.{CanonStore}
use Rattle.store.proofs.Rooms.{slot_le}

module _ {e : ℕ} {ws : List ℕ} (h : CanonStore e ws) where
  -- a consumer
  pub consumer_inside : (i : ℕ) → i < length (decode ws).consumers → 17 + (i * 72 + 72) ≤ length ws
  consumer_inside i k = let f = h.shaped.consumers_fit in let l = h.long in omega arith

  -- a topic
  pub topic_inside : (t : ℕ) → t < length (decode ws).topics → 2322 + (t * (4 + 4 * e) + (4 + 4 * e)) ≤ length ws
  topic_inside t k =
      let f = slot_le t _ 8 (4 + 4 * e) k h.shaped.topics_fit in let l = h.long in omega arith

  -- a dispatcher
  pub dispatcher_inside : (d : ℕ) → d < length (decode ws).dispatchers → 2355 + 32 * e + (d * (176 + 9 * e) + (176 + 9 * e)) ≤ length ws
  dispatcher_inside d k =
      let f = slot_le d _ 8 (176 + 9 * e) k h.shaped.dispatchers_fit in let l = h.long in omega arith
