-- The ring, the queue and what is in flight as the code reads and writes them.
use mathlib.Core.Path.{◌≡◌, sym, ap₂}
use mathlib.Core.List.{List, [], ◌∷◌}
use Prim.Native.Nat.{ℕ, suc, ◌+◌, ◌*◌, ◌<◌}
use native.Mathlib.Omega.{arith}
use lib.ListN.{length, get_or, set, drop}
use lib.Seq.{set-get_or}
use Rattle.words.specs.Act.{lay}
use Rattle.rules.specs.State.{with_dispatchers}
use Rattle.rules.specs.Dispatcher.{with_places}
use Rattle.layout.specs.Layout.{decode, put}
use Rattle.layout.specs.Offsets.{dispatcher_at, held_in}
use Rattle.layout.specs.Fields.{zero_held, zero_dispatcher, dispatcher_nth, set_dispatcher}
use Rattle.layout.specs.Placed.{DispatcherIn}
use Rattle.layout.proofs.Store.{put_decode}
use Rattle.layout.proofs.GetsDispatcher.{read_ring, read_queue, read_holder, read_position}
use Rattle.rules.specs.State.{Held}
use Rattle.dispatcher.specs.Held.{held_of}

-- two words written one after the other
pub two_words : (a b to : ℕ) (ws : List ℕ) → set (set ws to a) (to + 1) b ≡ (lay (a ∷ b ∷ [])).run to ws
unfolding lay
two_words a b to ws = let n : to + 1 ≡ suc to = omega arith in rw n

-- the entry in flight at an offset of a store
abbrev held_at : List ℕ → ℕ → Held
held_at ws at = held_of (get_or ws at 0) (get_or ws (at + 1) 0)

-- words that stay are those of a dispatcher whose queue loses no position
pub dropped_none : {e : ℕ} {ws : List ℕ} (d n : ℕ) → DispatcherIn e ws d → n ≡ 0
    → ws ≡ put ws (set_dispatcher (decode ws) d (with_places (dispatcher_nth (decode ws) d) (drop n (dispatcher_nth (decode ws) d).redelivery) (dispatcher_nth (decode ws) d).in_flight))
unfolding with_places set_dispatcher with_dispatchers
dropped_none {e} {ws} d n h z = rw (z, set-get_or (decode ws).dispatchers d zero_dispatcher) (sym (put_decode h.canon))

module _ {e : ℕ} {ws : List ℕ} (d at : ℕ) (h : DispatcherIn e ws d) (a : at ≡ dispatcher_at e d) where
  -- ---- in flight

  -- entry j in flight
  pub held_here : (j : ℕ) → j < length (dispatcher_nth (decode ws) d).in_flight → held_at ws (at + 175 + e + j * 2) ≡ get_or (dispatcher_nth (decode ws) d).in_flight j zero_held
  held_here j l =
      let n : at + 175 + e + j * 2 ≡ dispatcher_at e d + held_in e j = omega arith in
      rw n (ap₂ held_of (read_holder h.canon d h.there j l) (read_position h.canon d h.there j l))

  -- ---- the queue

  -- queued position j
  pub queue_here : (j : ℕ) → j < length (dispatcher_nth (decode ws) d).redelivery → get_or ws (at + 174 + j) 0 ≡ get_or (dispatcher_nth (decode ws) d).redelivery j 0
  queue_here j l = rw a (read_queue h.canon d h.there j l)

  -- ---- the ring

  -- ring id j
  pub ring_here : (j : ℕ) → j < length (dispatcher_nth (decode ws) d).attached → get_or ws (at + 12 + j) 0 ≡ get_or (dispatcher_nth (decode ws) d).attached j 0
  ring_here j l = rw a (read_ring h.canon d h.there j l)
