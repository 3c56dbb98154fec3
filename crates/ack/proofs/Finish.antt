-- What follows the ids of an ack: the acker's complete entries dropped, mark-delete advanced, each written over the last.
use mathlib.Core.Path.{◌≡◌, refl, sym, subst}
use mathlib.Core.Bool.{not, ◌&&◌}
use mathlib.Core.List.{List}
use Prim.Native.Nat.{ℕ, ◌≤◌}
use native.Mathlib.Omega.{arith}
use lib.Dec.{eqb}
use lib.ListN.{length, length-drop, drop}
use Rattle.rules.specs.State.{Held, Dispatcher}
use Rattle.rules.specs.Dispatcher.{with_places, with_mark_delete, complete_at, drop_complete, advance_mark_delete}
use Rattle.rules.proofs.Table.{length_keep}
use Rattle.rules.proofs.Kept.Ack.{leading_le}
use Rattle.layout.specs.Layout.{decode, put}
use Rattle.layout.specs.Whole.{ShapedDispatcher}
use Rattle.layout.specs.Fields.{dispatcher_nth, set_dispatcher}
use Rattle.layout.specs.Placed.{DispatcherIn}
use Rattle.layout.proofs.Store.{canon_entries}
use Rattle.layout.proofs.Placed.{shaped_places, shaped_mark_delete}
use Rattle.operation_laws.proofs.Frame.{dispatcher_twice, dispatcher_set_in, dispatcher_now_is}
use Rattle.dispatcher.specs.Completion.{Marked}

-- ---- the dispatcher

module _ {e : ℕ} (consumer : ℕ) (a : Dispatcher) (f : ShapedDispatcher e a) where
  -- it fits after the drop
  pub drop_fits : ShapedDispatcher e (drop_complete consumer a)
  unfolding drop_complete
  drop_fits =
      let n = length_keep (λ (h : Held). not (eqb consumer h.holder && complete_at a h.position)) a.in_flight in
      let m = f.flight_fits in
      shaped_places a f a.redelivery _ f.queue_fits (omega arith)

  -- and after the advance
  pub advance_fits : ShapedDispatcher e (advance_mark_delete (drop_complete consumer a))
  unfolding advance_mark_delete
  advance_fits = shaped_mark_delete (drop_complete consumer a) drop_fits _

-- mark-delete stays within the marks
pub advance_within : (consumer : ℕ) (a : Dispatcher) (n : ℕ) → a.mark_delete ≤ n → length a.marks ≤ n → (advance_mark_delete (drop_complete consumer a)).mark_delete ≤ n
unfolding advance_mark_delete with_mark_delete drop_complete with_places
advance_within consumer a n h k =
    let m = leading_le (drop a.mark_delete a.marks) in
    let l = length-drop a.mark_delete a.marks in
    omega arith

-- the pair stays
pub finish_pair : (consumer : ℕ) (a : Dispatcher) → (advance_mark_delete (drop_complete consumer a)).pair ≡ a.pair
unfolding advance_mark_delete with_mark_delete drop_complete with_places
finish_pair consumer a = refl

-- ---- the words

module _ {e : ℕ} {ws us : List ℕ} (d consumer : ℕ) (a : Dispatcher) (h : DispatcherIn e ws d) (f : ShapedDispatcher e a)
    (w : us ≡ put ws (set_dispatcher (decode ws) d a)) where
  -- as the layout asks it
  fits_here : ShapedDispatcher (decode ws).entries a
  fits_here = rw (canon_entries h.canon) f

  -- the dispatcher is there
  pub written_in : DispatcherIn e us d
  written_in = dispatcher_set_in ws (decode ws) d a h.canon.shaped (canon_entries h.canon) fits_here w h.there

  -- and is what was written
  pub written_is : dispatcher_nth (decode us) d ≡ a
  written_is = dispatcher_now_is ws (decode ws) d a h.canon.shaped fits_here w h.there

  -- so its entries in flight have marks
  pub written_marked : Marked a → Marked (dispatcher_nth (decode us) d)
  written_marked m = subst (λ (x : Dispatcher). Marked x) (sym written_is) m

  -- dropped
  pub dropped : {vs : List ℕ} → vs ≡ put us (set_dispatcher (decode us) d (drop_complete consumer (dispatcher_nth (decode us) d)))
      → vs ≡ put ws (set_dispatcher (decode ws) d (drop_complete consumer a))
  dropped g = dispatcher_twice ws (decode ws) d a (λ (x : Dispatcher). drop_complete consumer x) h.canon.shaped fits_here h.there w g

  -- advanced
  pub advanced : {vs : List ℕ} → vs ≡ put us (set_dispatcher (decode us) d (advance_mark_delete (dispatcher_nth (decode us) d)))
      → vs ≡ put ws (set_dispatcher (decode ws) d (advance_mark_delete a))
  advanced g = dispatcher_twice ws (decode ws) d a (λ (x : Dispatcher). advance_mark_delete x) h.canon.shaped fits_here h.there w g
