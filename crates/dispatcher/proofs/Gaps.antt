-- Words of a dispatcher's lists as the code reads and writes them.
use mathlib.Core.Path.{◌≡◌, ap₂, ◌∙◌}
use mathlib.Core.Bool.{true}
use mathlib.Core.List.{List}
use Prim.Native.Nat.{ℕ, suc, ◌+◌, ◌-◌, ◌*◌, ◌^◌, ◌<◌, min}
use native.Mathlib.Omega.{arith}
use lib.ListN.{length, get_or, set}
use Rattle.rules.specs.State.{new_mark}
use Rattle.rules.specs.Dispatcher.{with_marks, mark_at}
use Rattle.rules.specs.Commands.{raised}
use Rattle.layout.specs.Layout.{decode, put}
use Rattle.layout.specs.Offsets.{dispatcher_at, outside_id_in, mark_in}
use Rattle.layout.specs.Fields.{zero_id, dispatcher_nth, set_dispatcher, with_complete, with_count}
use Rattle.layout.specs.Placed.{DispatcherIn}
use Rattle.layout.proofs.GetsDispatcher.{read_outside_ledger, read_outside_entry, read_redelivery_count}
use Rattle.layout.proofs.SetsDispatcher as layout
use Rattle.topic.specs.Ids.{id_of, id_at}

module _ {e : ℕ} {ws : List ℕ} (d at : ℕ) (h : DispatcherIn e ws d) (a : at ≡ dispatcher_at e d) where
  -- outside id j
  pub outside_here : (j : ℕ) → j < length (dispatcher_nth (decode ws) d).outside → id_at ws (at + 45 + j * 2) ≡ get_or (dispatcher_nth (decode ws) d).outside j zero_id
  outside_here j l =
      let n : at + 45 + j * 2 ≡ dispatcher_at e d + outside_id_in j = omega arith in
      rw n (ap₂ id_of (read_outside_ledger h.canon d h.there j l) (read_outside_entry h.canon d h.there j l))

  -- mark k complete
  pub completed_mark : (k : ℕ) → k < length (dispatcher_nth (decode ws) d).marks
      → set ws (at + 176 + 3 * e + k * 6) 1 ≡ put ws (set_dispatcher (decode ws) d (with_marks (dispatcher_nth (decode ws) d)
      (set (dispatcher_nth (decode ws) d).marks k (with_complete (get_or (dispatcher_nth (decode ws) d).marks k new_mark) true)) (dispatcher_nth (decode ws) d).outside))
  completed_mark k l =
      let to : at + 176 + 3 * e + k * 6 ≡ dispatcher_at e d + mark_in e k = omega arith in
      rw to (layout.write_mark_complete h.canon d h.there k l true)

  -- the redelivery count of mark k raised
  pub raised_count : (k n : ℕ) → k < length (dispatcher_nth (decode ws) d).marks → n ≡ min (suc (get_or ws (at + 177 + 3 * e + k * 6) 0)) (2 ^ 32 - 1)
      → set ws (at + 177 + 3 * e + k * 6) n ≡ put ws (set_dispatcher (decode ws) d (with_marks (dispatcher_nth (decode ws) d)
      (set (dispatcher_nth (decode ws) d).marks k (raised (mark_at (dispatcher_nth (decode ws) d) k))) (dispatcher_nth (decode ws) d).outside))
  unfolding raised mark_at with_count
  raised_count k n l c =
      let to : at + 177 + 3 * e + k * 6 ≡ dispatcher_at e d + mark_in e k + 1 = omega arith in
      let m : n ≡ min (suc (get_or (dispatcher_nth (decode ws) d).marks k new_mark).redelivery_count) (2 ^ 32 - 1) = c ∙ rw (to, read_redelivery_count h.canon d h.there k l) in
      rw (to, m) (layout.write_redelivery_count h.canon d h.there k l (min (suc (get_or (dispatcher_nth (decode ws) d).marks k new_mark).redelivery_count) (2 ^ 32 - 1)))
