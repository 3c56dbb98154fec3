-- A store whose dispatcher d has changed, by one write after another, and nothing else. What each loop over one dispatcher
-- carries along.
use mathlib.Core.Path.{◌≡◌, refl, sym, ap, ◌∙◌}
use mathlib.Core.List.{List}
use Prim.Native.Nat.{ℕ}
use lib.ListN.{length}
use lib.Seq.{set-get_or}
use Rattle.rules.specs.State.{Dispatcher, with_dispatchers}
use Rattle.layout.specs.Layout.{decode, put}
use Rattle.layout.specs.Whole.{ShapedDispatcher}
use Rattle.layout.specs.Fields.{zero_dispatcher, dispatcher_nth, set_dispatcher}
use Rattle.layout.specs.Placed.{DispatcherIn}
use Rattle.layout.proofs.Store.{canon_entries, put_decode, length_put}
use Rattle.operation_laws.proofs.Frame.{dispatcher_twice, dispatcher_set_in, dispatcher_now_is}

-- the words us are the words ws with x for dispatcher d
pub record Moved (e d : ℕ) (ws us : List ℕ) (x : Dispatcher) : Type 0 where
  pub here : DispatcherIn e us d
  pub words : us ≡ put ws (set_dispatcher (decode ws) d x)
  pub now : dispatcher_nth (decode us) d ≡ x

module _ {e d : ℕ} {ws : List ℕ} (h : DispatcherIn e ws d) where
  -- nothing has moved yet
  pub moved_start : Moved e d ws ws (dispatcher_nth (decode ws) d)
  unfolding set_dispatcher with_dispatchers
  moved_start = record { here = h; words = rw (set-get_or (decode ws).dispatchers d zero_dispatcher) (sym (put_decode h.canon)); now = refl }

  -- one write more
  pub moved_on : {us vs : List ℕ} {x : Dispatcher} → Moved e d ws us x → (g : Dispatcher → Dispatcher) → ShapedDispatcher e (g x)
      → vs ≡ put us (set_dispatcher (decode us) d (g (dispatcher_nth (decode us) d))) → Moved e d ws vs (g x)
  moved_on {us} {vs} {x} m g k w =
      let fits : ShapedDispatcher (decode ws).entries x = rw (canon_entries h.canon, ← m.now) m.here.lists_fit in
      let fits_on : ShapedDispatcher (decode ws).entries (g x) = rw (canon_entries h.canon) k in
      let all : vs ≡ put ws (set_dispatcher (decode ws) d (g x)) =
      dispatcher_twice ws (decode ws) d x g h.canon.shaped fits h.there m.words w in
      record {
        here = dispatcher_set_in ws (decode ws) d (g x) h.canon.shaped (canon_entries h.canon) fits_on all h.there;
        words = all;
        now = dispatcher_now_is ws (decode ws) d (g x) h.canon.shaped fits_on all h.there;
      }

  -- the store is as long
  pub moved_length : {us : List ℕ} {x : Dispatcher} → Moved e d ws us x → length us ≡ length ws
  unfolding set_dispatcher with_dispatchers
  moved_length {us} {x} m =
      ap length m.words ∙ length_put ws (set_dispatcher (decode ws) d x) (rw (canon_entries h.canon) h.canon.long_needed)
