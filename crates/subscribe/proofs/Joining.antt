-- A consumer joins a ring: it is in it already, it goes to its end, or the ring is a new dispatcher's.
use mathlib.Core.Path.{◌≡◌, refl, sym, ap, ◌∙◌, subst}
use mathlib.Core.Bool.{true, false}
use mathlib.Core.List.{List, [], ◌∷◌, ◌++◌}
use Prim.Native.Nat.{ℕ, ◌+◌, ◌≤◌, ◌<◌}
use native.Mathlib.Omega.{arith}
use lib.ListN.{replicate, length, length-append, length-replicate, set, get_or}
use lib.Seq.{get_or-append_seam, set-append_seam, set-get_or}
use Rattle.words.proofs.Each.{all_append}
use Rattle.rules.specs.Table.{member, any}
use Rattle.rules.specs.State.{Pair, Dispatcher, State, Mark, new_mark, by_pair, ledger_of, dispatcher, new_dispatcher, with_dispatchers, put_dispatcher}
use Rattle.rules.specs.Commands.{joined}
use Rattle.rules.specs.Dispatcher.{with_attached}
use Rattle.rules.proofs.Table.{by_test}
use Rattle.layout.specs.Layout.{decode, put}
use Rattle.layout.specs.Whole.{Shaped, ShapedDispatcher}
use Rattle.layout.specs.Canon.{CanonStore}
use Rattle.layout.specs.Placed.{DispatcherIn}
use Rattle.layout.specs.Fields.{zero_dispatcher, dispatcher_nth, set_dispatcher}
use Rattle.layout.proofs.Store.{put_decode, canon_entries}
use Rattle.layout.proofs.Valid.{ledger_fits}
use Rattle.layout.proofs.Placed.{dispatcher_in, shaped_dispatchers}
use Rattle.store.specs.Find.{slot}
use Rattle.operation_laws.proofs.Frame.{dispatcher_found, dispatcher_found_pair, set_dispatcher_put, dispatcher_missing, put_dispatcher_last, then_write, canon_after, decode_after}
use Rattle.subscribe.specs.Seats.{Joins}

-- ---- a ring that is there

-- it stays as it is
pub join_stays : {e : ℕ} {ws : List ℕ} (d id : ℕ) → CanonStore e ws → member id (dispatcher_nth (decode ws) d).attached ≡ true
    → ws ≡ put ws (set_dispatcher (decode ws) d (joined id (dispatcher_nth (decode ws) d)))
unfolding set_dispatcher with_dispatchers joined
join_stays {ws = ws} d id h m = rw (m, set-get_or (decode ws).dispatchers d zero_dispatcher) (sym (put_decode h))

-- it grows
pub join_adds : (id : ℕ) (x : Dispatcher) → member id x.attached ≡ false → with_attached x (x.attached ++ id ∷ []) ≡ joined id x
unfolding joined
join_adds id x m = rw m

-- a join keeps the pair
joined_pair : (id : ℕ) (x : Dispatcher) → (joined id x).pair ≡ x.pair
unfolding joined with_attached
joined_pair id x = by_test (member id x.attached) (λ t. rw t) (λ t. rw t)

module _ {e : ℕ} {ws : List ℕ} (d id : ℕ) (p : Pair) (h : Joins e ws id p) (q : d ≡ slot by_pair p (decode ws).dispatchers) (l : d < length (decode ws).dispatchers) where
  -- the dispatcher that was found has room
  pub joins_there : DispatcherIn e ws d × (member id (dispatcher_nth (decode ws) d).attached ≡ false → length (dispatcher_nth (decode ws) d).attached < 32)
  joins_there =
      let r : (dispatcher (decode ws) p).attached ≡ (dispatcher_nth (decode ws) d).attached = ap (λ (x : Dispatcher). x.attached) (dispatcher_found (decode ws) d p q l) in
      (dispatcher_in h.canon d l, λ m. subst (λ (k : List ℕ). length k < 32) r (h.ring_room (ap (member id) r ∙ m)))

  -- and is the pair's
  pub joined_there : set_dispatcher (decode ws) d (joined id (dispatcher_nth (decode ws) d)) ≡ put_dispatcher (decode ws) (joined id (dispatcher (decode ws) p))
  joined_there =
      set_dispatcher_put (decode ws) d p q (joined id (dispatcher_nth (decode ws) d)) l (joined_pair id (dispatcher_nth (decode ws) d) ∙ dispatcher_found_pair (decode ws) d p q l)
      ∙ ap (λ (x : Dispatcher). put_dispatcher (decode ws) (joined id x)) (sym (dispatcher_found (decode ws) d p q l))

-- ---- the ring of a new dispatcher

-- a new dispatcher fits
shaped_new : (e n : ℕ) (p : Pair) → n ≤ e → ShapedDispatcher e (new_dispatcher p n)
unfolding new_dispatcher
shaped_new e n p h =
    let l : length (replicate n new_mark) ≡ n = length-replicate {A = Mark} n new_mark in
    record { ring_fits = omega arith; outside_fits = omega arith; queue_fits = omega arith; flight_fits = omega arith; marks_fit = omega arith }

-- a ledger has at most E entries
pub ledger_short : {e : ℕ} {ws : List ℕ} (topic : ℕ) → CanonStore e ws → length (ledger_of (decode ws) topic) ≤ e
ledger_short {ws = ws} topic h = rw (← canon_entries h) (ledger_fits (decode ws) topic h.shaped.each_topic)

module _ {e : ℕ} {ws us : List ℕ} (d : ℕ) (p : Pair) (h : CanonStore e ws) (c : d ≡ length (decode ws).dispatchers) (r : length (decode ws).dispatchers < 8)
    (n : ℕ) (k : n ≡ length (ledger_of (decode ws) p.topic))
    (w : us ≡ put ws (with_dispatchers (decode ws) ((decode ws).dispatchers ++ new_dispatcher p n ∷ []))) where
  abbrev after_make : State
  after_make = with_dispatchers (decode ws) ((decode ws).dispatchers ++ new_dispatcher p n ∷ [])

  longer : length ((decode ws).dispatchers ++ new_dispatcher p n ∷ []) ≡ length (decode ws).dispatchers + 1
  longer = length-append (decode ws).dispatchers (new_dispatcher p n ∷ [])

  shaped : Shaped after_make
  shaped =
      let l = longer in
      let f : length (ledger_of (decode ws) p.topic) ≤ (decode ws).entries = ledger_fits (decode ws) p.topic h.shaped.each_topic in
      shaped_dispatchers (decode ws) h.shaped ((decode ws).dispatchers ++ new_dispatcher p n ∷ []) (omega arith)
      (all_append (ShapedDispatcher (decode ws).entries) (decode ws).dispatchers (new_dispatcher p n ∷ []) h.shaped.each_dispatcher (shaped_new (decode ws).entries n p (omega arith), tt))

  seam : get_or ((decode ws).dispatchers ++ new_dispatcher p n ∷ []) d zero_dispatcher ≡ new_dispatcher p n
  seam = rw c (get_or-append_seam (decode ws).dispatchers (new_dispatcher p n) [] zero_dispatcher)

  -- it is there, and its ring is empty
  pub new_there : DispatcherIn e us d × (length (dispatcher_nth (decode us) d).attached < 32)
  unfolding with_dispatchers new_dispatcher
  new_there =
      let now : decode us ≡ after_make = decode_after ws after_make shaped w in
      let more : length (decode us).dispatchers ≡ length (decode ws).dispatchers + 1 = ap (λ (s : State). length s.dispatchers) now ∙ longer in
      let z : length (dispatcher_nth (decode us) d).attached ≡ 0 = ap (λ (s : State). length (dispatcher_nth s d).attached) now ∙ ap (λ (x : Dispatcher). length x.attached) seam in
      (dispatcher_in (canon_after ws after_make shaped (canon_entries h) w) d (omega arith), omega arith)

  -- its first id
  pub joined_new : {vs : List ℕ} (id : ℕ) → length (decode ws).dispatchers ≤ slot by_pair p (decode ws).dispatchers
      → vs ≡ put us (set_dispatcher (decode us) d (with_attached (dispatcher_nth (decode us) d) ((dispatcher_nth (decode us) d).attached ++ id ∷ [])))
      → vs ≡ put ws (put_dispatcher (decode ws) (joined id (dispatcher (decode ws) p)))
  unfolding with_dispatchers set_dispatcher new_dispatcher joined member any with_attached
  joined_new id m f =
      let x = new_dispatcher p n in
      let y = joined id x in
      let is : dispatcher (decode ws) p ≡ x = dispatcher_missing (decode ws) (slot by_pair p (decode ws).dispatchers) p refl m ∙ ap (new_dispatcher p) (sym k) in
      let last = put_dispatcher_last (decode ws) (slot by_pair p (decode ws).dispatchers) p refl y m refl in
      then_write ws after_make (λ (s : State). set_dispatcher s d (with_attached (dispatcher_nth s d) ((dispatcher_nth s d).attached ++ id ∷ []))) shaped refl w f
      ∙ ap (λ (l : List Dispatcher). put ws (with_dispatchers (decode ws) l))
      (ap (λ (z : Dispatcher). set ((decode ws).dispatchers ++ x ∷ []) d (with_attached z (z.attached ++ id ∷ []))) seam
      ∙ ap (λ (j : ℕ). set ((decode ws).dispatchers ++ x ∷ []) j y) c ∙ rw set-append_seam)
      ∙ ap (put ws) (sym last ∙ ap (λ (z : Dispatcher). put_dispatcher (decode ws) (joined id z)) (sym is))
