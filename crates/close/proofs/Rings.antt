-- A consumer leaves its dispatcher: an id leaves the ring, and the three steps of the code in one.
use mathlib.Core.Path.{◌≡◌, sym, ap, ◌∙◌, subst}
use mathlib.Core.Bool.{not}
use mathlib.Core.List.Memᴰ
use mathlib.Core.List.{List, [], ◌∷◌, ◌++◌, Memᴰ}
use mathlib.Core.Logic.{⊎_elim}
use Prim.Native.Nat.{ℕ, suc, ◌+◌, ◌-◌, ◌%◌, ◌≤◌, ◌<◌}
use native.Mathlib.Nat.{le_of_suc-le-suc, not-suc-le-zero}
use native.Mathlib.Numerals.{add-one}
use native.Mathlib.Omega.{arith}
use lib.Dec.{eqb}
use lib.ListN.{length, take, drop, length-append}
use borrow.Author.Tests.{eqb-true, eqb-false, eq-eqb, ne_eqb}
use Rattle.rules.specs.Table.{keep, Distinct, is_empty}
use Rattle.rules.specs.State.{Held, Dispatcher}
use Rattle.rules.specs.Dispatcher.{with_attached, with_next, with_places, with_total, held_by, without_holder}
use Rattle.rules.specs.Commands.{next_in_ring, left_by}
use Rattle.rules.proofs.Says.{says_not, says_all}
use Rattle.rules.proofs.Table.{by_test, keep_all, length_keep}
use Rattle.layout.specs.Layout.{decode, put}
use Rattle.layout.specs.Whole.{ShapedDispatcher}
use Rattle.layout.specs.Fields.{dispatcher_nth, set_dispatcher}
use Rattle.layout.specs.Placed.{DispatcherIn}
use Rattle.layout.proofs.Store.{canon_entries}
use Rattle.layout.proofs.Placed.{shaped_attached, shaped_next, shaped_places}
use Rattle.store.specs.Find.{slot}
use Rattle.dispatcher.specs.Held.{by_value}
use Rattle.operation_laws.proofs.Frame.{dispatcher_twice, dispatcher_set_in, dispatcher_now_is}
use Rattle.dispatcher.specs.Returned.{all_back}
use Rattle.close.specs.Leaving.{next_of, out_of_ring, MemberOf}
use Rattle.dispatcher.proofs.Returning.{without_nth, length_without}

-- ---- an id in a ring

module _ (i : ℕ) where
  -- an id of the ring has a slot there
  in_slot : (l : List ℕ) → Memᴰ i l → slot by_value i l < length l
  unfolding slot
  in_slot [] m = absurd (Memᴰ.not-nil m)
  in_slot (a ∷ l) m =
      by_test (eqb i a) (λ t. rw t (omega arith))
      (λ t. ⊎_elim (λ (e : i ≡ a). absurd (eqb-false i a t e))
      (λ (n : Memᴰ i l). let h : slot by_value i l < length l = in_slot l n in rw t (omega arith))
      (Memᴰ.cases_cons m))

  -- the ring without it
  keep_ring : (l : List ℕ) → Distinct eqb l → slot by_value i l < length l
      → keep (λ (j : ℕ). not (eqb i j)) l ≡ take (slot by_value i l) l ++ drop (suc (slot by_value i l)) l
  unfolding slot keep Distinct
  keep_ring [] u h = absurd (not-suc-le-zero h)
  keep_ring (a ∷ l) u h =
      by_test (eqb i a)
      (λ t. let e : i ≡ a = eqb-true i a t in
      let others = (says_all (λ (j : ℕ). says_not (eqb i j)) l).given (λ x m. rw e (u.0 x m)) in
      rw t (keep_all (λ (j : ℕ). not (eqb i j)) l others))
      (λ t. let h' : suc (slot by_value i l) < suc (length l) = rw t at h in
      rw t (ap (λ (r : List ℕ). a ∷ r) (keep_ring l u.1 (le_of_suc-le-suc h'))))

-- next by the length of the ring
next_same : (next n : ℕ) (ring : List ℕ) → n ≡ length ring → next_of next n ≡ next_in_ring next ring
unfolding next_of next_in_ring is_empty
next_same next n [] e = rw e
next_same next n (a ∷ l) e = rw (ne_eqb n 0 (λ q. omega arith), e)

-- as the code computes it
pub next_empty : (next n : ℕ) → n ≡ 0 → 0 ≡ next_of next n
unfolding next_of
next_empty next n e = rw (eq-eqb n 0 e)

pub next_rest : (next n : ℕ) → (n ≡ 0 → ⊥) → next % n ≡ next_of next n
unfolding next_of
next_rest next n e = rw (ne_eqb n 0 e)

-- ring id j left out
abbrev pub ringless : ℕ → Dispatcher → Dispatcher
ringless j d = with_attached d (without_nth j d.attached)

module _ (i j : ℕ) (d : Dispatcher) (m : MemberOf i d) (e : j ≡ slot by_value i d.attached) where
  -- the slot is one of the ring
  pub ring_there : j < length d.attached
  ring_there = rw e (in_slot i d.attached m.in_ring)

  -- the two steps of the code are the rule
  pub ring_left : (n next to : ℕ) → n ≡ length d.attached → next ≡ d.next → to ≡ next_of next (n - 1) → with_next (ringless j d) to ≡ out_of_ring i d
  unfolding out_of_ring with_next with_attached
  ring_left n next to c x t =
      let h : slot by_value i d.attached < length d.attached = in_slot i d.attached m.in_ring in
      let k : without_nth j d.attached ≡ keep (λ (o : ℕ). not (eqb i o)) d.attached = rw (e, add-one) (sym (keep_ring i d.attached m.ring_once h)) in
      let l : length (without_nth j d.attached) + 1 ≡ length d.attached = length_without j d.attached ring_there in
      let g : n - 1 ≡ length (without_nth j d.attached) = omega (arith, l, c) in
      let f : to ≡ next_in_ring d.next (without_nth j d.attached) = t ∙ ap (λ (z : ℕ). next_of z (n - 1)) x ∙ next_same d.next (n - 1) (without_nth j d.attached) g in
      ap (λ (z : ℕ). with_next (with_attached d (without_nth j d.attached)) z) f
      ∙ ap (λ (r : List ℕ). with_next (with_attached d r) (next_in_ring d.next r)) k

module _ {e : ℕ} {ws : List ℕ} (d : ℕ) (h : DispatcherIn e ws d) (j : ℕ) (l : j < length (dispatcher_nth (decode ws) d).attached) where
  -- the record fits with an id less
  ringless_fits : ShapedDispatcher (decode ws).entries (ringless j (dispatcher_nth (decode ws) d))
  ringless_fits =
      let x = dispatcher_nth (decode ws) d in
      let o = length_without j x.attached l in
      let f = h.lists_fit.ring_fits in
      rw (canon_entries h.canon) (shaped_attached x h.lists_fit (without_nth j x.attached) (omega (arith, o, f)))

  module _ {us : List ℕ} (w : us ≡ put ws (set_dispatcher (decode ws) d (ringless j (dispatcher_nth (decode ws) d)))) where
    -- the dispatcher is there after the first step
    pub ringless_in : DispatcherIn e us d
    ringless_in = dispatcher_set_in ws (decode ws) d (ringless j (dispatcher_nth (decode ws) d)) h.canon.shaped (canon_entries h.canon) ringless_fits w h.there

    -- the two steps in one
    pub ring_words : {vs : List ℕ} (to : ℕ) → vs ≡ put us (set_dispatcher (decode us) d (with_next (dispatcher_nth (decode us) d) to))
        → vs ≡ put ws (set_dispatcher (decode ws) d (with_next (ringless j (dispatcher_nth (decode ws) d)) to))
    ring_words to w' =
        dispatcher_twice ws (decode ws) d (ringless j (dispatcher_nth (decode ws) d)) (λ (y : Dispatcher). with_next y to) h.canon.shaped ringless_fits h.there w w'

-- ---- the whole leave

-- no more is held than is in flight
held_few : (i : ℕ) (l : List Held) → (length (held_by i l) ≤ length l) × (length (without_holder i l) ≤ length l)
unfolding keep held_by without_holder
held_few i [] = (omega arith, omega arith)
held_few i (a ∷ l) =
    let h : length (held_by i l) ≤ length l = (held_few i l).0 in
    let g : length (without_holder i l) ≤ length l = (held_few i l).1 in
    by_test (eqb i a.holder) (λ t. rw t (omega (arith, h), omega (arith, g))) (λ t. rw t (omega (arith, h), omega (arith, g)))

module _ {e : ℕ} {ws : List ℕ} (i d : ℕ) (h : DispatcherIn e ws d) (m : MemberOf i (dispatcher_nth (decode ws) d)) (room : length (dispatcher_nth (decode ws) d).redelivery + length (dispatcher_nth (decode ws) d).in_flight ≤ e) where
  -- the record fits after the first step
  back_fits : ShapedDispatcher (decode ws).entries (all_back i (dispatcher_nth (decode ws) d))
  unfolding all_back
  back_fits =
      let x = dispatcher_nth (decode ws) d in
      let f = held_few i x.in_flight in
      let n : length (x.redelivery ++ held_by i x.in_flight) ≤ e = simp length-append (omega (arith, room, f.0)) in
      rw (canon_entries h.canon) (shaped_places x h.lists_fit (x.redelivery ++ held_by i x.in_flight) (without_holder i x.in_flight) n (omega (arith, room, f.1)))

  -- and after the second
  out_fits : ShapedDispatcher (decode ws).entries (out_of_ring i (all_back i (dispatcher_nth (decode ws) d)))
  unfolding out_of_ring
  out_fits =
      let x = all_back i (dispatcher_nth (decode ws) d) in
      let k = keep (λ (j : ℕ). not (eqb i j)) x.attached in
      let f = back_fits.ring_fits in
      let n = length_keep (λ (j : ℕ). not (eqb i j)) x.attached in
      shaped_next (with_attached x k) (shaped_attached x back_fits k (omega (arith, f, n))) (next_in_ring x.next k)

  module _ {us : List ℕ} (w : us ≡ put ws (set_dispatcher (decode ws) d (all_back i (dispatcher_nth (decode ws) d)))) where
    -- after the first step the id still stands in the ring
    pub back_in : DispatcherIn e us d × MemberOf i (dispatcher_nth (decode us) d)
    unfolding all_back with_places
    back_in =
        let x = dispatcher_nth (decode ws) d in
        let same : dispatcher_nth (decode us) d ≡ all_back i x = dispatcher_now_is ws (decode ws) d (all_back i x) h.canon.shaped back_fits w h.there in
        let still : MemberOf i (all_back i x) = record { ring_once = m.ring_once; in_ring = m.in_ring } in (
          dispatcher_set_in ws (decode ws) d (all_back i x) h.canon.shaped (canon_entries h.canon) back_fits w h.there,
          subst (λ (y : Dispatcher). MemberOf i y) (sym same) still,
        )

    module _ {vs : List ℕ} (w' : vs ≡ put us (set_dispatcher (decode us) d (out_of_ring i (dispatcher_nth (decode us) d)))) where
      out_words : vs ≡ put ws (set_dispatcher (decode ws) d (out_of_ring i (all_back i (dispatcher_nth (decode ws) d))))
      out_words = dispatcher_twice ws (decode ws) d (all_back i (dispatcher_nth (decode ws) d)) (out_of_ring i) h.canon.shaped back_fits h.there w w'

      -- the dispatcher is there after the second step
      pub out_in : DispatcherIn e vs d
      out_in = dispatcher_set_in ws (decode ws) d (out_of_ring i (all_back i (dispatcher_nth (decode ws) d))) h.canon.shaped (canon_entries h.canon) out_fits out_words h.there

      -- the three steps in one
      pub left_words : {xs : List ℕ} (total : ℕ) → xs ≡ put vs (set_dispatcher (decode vs) d (with_total (dispatcher_nth (decode vs) d) total))
          → xs ≡ put ws (set_dispatcher (decode ws) d (left_by i total (dispatcher_nth (decode ws) d)))
      unfolding left_by out_of_ring all_back with_total with_places with_next with_attached
      left_words total w'' =
          dispatcher_twice ws (decode ws) d (out_of_ring i (all_back i (dispatcher_nth (decode ws) d))) (λ (y : Dispatcher). with_total y total) h.canon.shaped out_fits h.there out_words w''

  -- the record fits in the end
  pub left_fits : (total : ℕ) → ShapedDispatcher (decode ws).entries (left_by i total (dispatcher_nth (decode ws) d))
  unfolding left_by out_of_ring all_back with_total with_places with_next with_attached
  left_fits total =
      record { ring_fits = out_fits.ring_fits; outside_fits = out_fits.outside_fits; queue_fits = out_fits.queue_fits; flight_fits = out_fits.flight_fits; marks_fit = out_fits.marks_fit }
