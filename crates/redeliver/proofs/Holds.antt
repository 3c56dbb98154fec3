-- The hold of a consumer on a position, by its slot among the entries in flight: whether there is one, what is in flight
-- without it, and that handing it back is the rule's change of the dispatcher.
use mathlib.Core.Path.{◌≡◌, refl, ap}
use mathlib.Core.Bool.{true, false, not}
use mathlib.Core.List.{List, [], ◌∷◌, ◌++◌}
use Prim.Native.Nat.{ℕ, suc, ◌+◌, ◌≤◌, ◌<◌}
use native.Mathlib.Nat.{le_of_suc-le-suc, not-suc-le-zero}
use native.Mathlib.Numerals.{add-one}
use native.Mathlib.Omega.{arith}
use lib.Dec.{eqb, ltb}
use lib.ListN.{length, take, drop, length-append}
use borrow.Author.Tests.{eq-eqb, ltb-true, ltb-false}
use Rattle.rules.specs.Table.{any, keep, count}
use Rattle.rules.specs.State.{Id, StoredMessage, Held, Dispatcher, State, ledger_of}
use Rattle.rules.specs.Ledger.{position_of}
use Rattle.rules.specs.Dispatcher.{is_hold}
use Rattle.rules.specs.Commands.{redeliver_id}
use Rattle.rules.specs.Valid.{ValidDispatcher}
use Rattle.rules.proofs.Table.{by_test, count_parted, any_count}
use Rattle.rules.proofs.Kept.Parts.{positions, places_of}
use Rattle.rules.proofs.Kept.Redeliver.{hold_position}
use Rattle.layout.specs.Whole.{ShapedDispatcher}
use Rattle.layout.proofs.Pigeons.{distinct_below}
use Rattle.store.specs.Find.{slot}
use Rattle.dispatcher.specs.Held.{held_of, by_hold}
use Rattle.redeliver.specs.Back.{handed}

-- ---- among the entries in flight

module _ (i k : ℕ) where
  -- a hold with a slot is there
  hold_there : (l : List Held) → slot by_hold (held_of i k) l < length l → any (is_hold i k) l ≡ true
  unfolding slot any
  hold_there [] h = absurd (not-suc-le-zero h)
  hold_there (a ∷ l) h =
      by_test (is_hold i k a) (λ t. rw t)
      (λ t. let h' : suc (slot by_hold (held_of i k) l) < suc (length l) = rw t at h in rw t (hold_there l (le_of_suc-le-suc h')))

  -- without one there is none
  hold_none : (l : List Held) → length l ≤ slot by_hold (held_of i k) l → any (is_hold i k) l ≡ false
  unfolding slot any
  hold_none [] h = refl
  hold_none (a ∷ l) h =
      by_test (is_hold i k a) (λ t. let h' : suc (length l) ≤ 0 = rw t at h in absurd (not-suc-le-zero h'))
      (λ t. let h' : suc (length l) ≤ suc (slot by_hold (held_of i k) l) = rw t at h in rw t (hold_none l (le_of_suc-le-suc h')))

  -- an entry on another position is no such hold
  not_hold : (a : Held) → eqb k a.position ≡ false → is_hold i k a ≡ false
  unfolding is_hold
  not_hold a t = by_test (eqb i a.holder) (λ u. rw (u, t)) (λ u. rw u)

  -- where the position is not in flight, all are others
  others_all : (l : List Held) → count k (positions l) ≡ 0 → keep (λ (h : Held). not (is_hold i k h)) l ≡ l
  unfolding keep count
  others_all [] h = refl
  others_all (a ∷ l) h =
      by_test (eqb k a.position)
      (λ t. let h' : suc (count k (positions l)) ≡ 0 = rw t at h in let none : ⊥ = omega arith in absurd none)
      (λ t. rw (not_hold a t) (ap (λ (r : List Held). a ∷ r) (others_all l (rw t at h))))

  -- where it is in flight once at most, the others are all but the one at the slot
  without_hold : (l : List Held) → count k (positions l) ≤ 1 → slot by_hold (held_of i k) l < length l
      → keep (λ (h : Held). not (is_hold i k h)) l ≡ take (slot by_hold (held_of i k) l) l ++ drop (suc (slot by_hold (held_of i k) l)) l
  unfolding slot keep count
  without_hold [] c h = absurd (not-suc-le-zero h)
  without_hold (a ∷ l) c h =
      by_test (is_hold i k a)
      (λ t.
      let c' : suc (count k (positions l)) ≤ 1 = rw (eq-eqb k a.position (hold_position i k a t)) at c in
      rw t (others_all l (omega arith)))
      (λ t.
      let h' : suc (slot by_hold (held_of i k) l) < suc (length l) = rw t at h in
      let c' : count k (positions l) ≤ 1 = by_test (eqb k a.position) (λ u. let d : suc (count k (positions l)) ≤ 1 = rw u at c in omega arith) (λ u. rw u at c) in
      rw t (ap (λ (r : List Held). a ∷ r) (without_hold l c' (le_of_suc-le-suc h'))))

  -- a hold that is there stands on its position
  hold_counted : (l : List Held) → slot by_hold (held_of i k) l < length l → 0 < count k (positions l)
  hold_counted l h =
      let n = any_count (is_hold i k) (λ (a : Held). a.position) k (λ a t. hold_position i k a t) l (hold_there l h) in
      let p = count_parted (is_hold i k) (λ (a : Held). a.position) k l in
      omega arith

-- ---- of a valid dispatcher

-- as many positions as entries in flight
length_positions : (l : List Held) → length (positions l) ≡ length l
length_positions [] = omega arith
length_positions (a ∷ l) = let h : length (positions l) ≡ length l = length_positions l in omega (arith, h)

-- places are distinct and below the cursor: there are no more of them than entries of the topic
few_places : (s : State) (d : Dispatcher) → ValidDispatcher s d → length d.in_flight + length d.redelivery ≤ length (ledger_of s d.pair.topic)
few_places s d v =
    let r = distinct_below d.cursor (positions d.in_flight ++ d.redelivery) v.places.places_distinct v.places.places_below_cursor in
    let n : length (positions d.in_flight ++ d.redelivery) ≡ length (positions d.in_flight) + length d.redelivery = simp length-append in
    let p = length_positions d.in_flight in
    let c = v.cursor_in_ledger in
    omega (arith, r, n, p, c)

-- so its lists fit where its ledger does
pub valid_fits : (e : ℕ) (s : State) (d : Dispatcher) → ValidDispatcher s d → length (ledger_of s d.pair.topic) ≤ e → ShapedDispatcher e d
valid_fits e s d v h =
    let n = few_places s d v in
    let m = v.entry_marks.one_each in
    record {
      ring_fits = v.ring.ring_count;
      outside_fits = v.outside_ids.outside_count;
      queue_fits = omega (arith, n, h);
      flight_fits = omega (arith, n, h);
      marks_fit = omega (arith, m, h);
    }

module _ (s : State) (i j k : ℕ) (d : Dispatcher) (v : ValidDispatcher s d) (q : j ≡ slot by_hold (held_of i k) d.in_flight) where
  -- there is room in the queue while something is in flight
  pub held_room : (e : ℕ) → length d.marks ≤ e → j < length d.in_flight → length d.redelivery < e
  held_room e f h =
      let n = few_places s d v in
      let m = v.entry_marks.one_each in
      omega (arith, n, m, f, h)

  -- a held position has a mark
  pub held_marked : j < length d.in_flight → k < length d.marks
  held_marked h =
      let c = hold_counted i k d.in_flight (rw q at h) in
      let b : k < d.cursor = (places_of d v.places).below k (omega arith) in
      let l = v.cursor_in_ledger in
      let m = v.entry_marks.one_each in
      omega (arith, b, l, m)

  module _ (ledger : List StoredMessage) (m : Id) (p : k ≡ position_of m ledger) where
    -- an id that is held
    pub redeliver_held : j < length d.in_flight → redeliver_id ledger i d m ≡ handed j k d
    unfolding redeliver_id handed
    redeliver_held h =
        let h' : slot by_hold (held_of i k) d.in_flight < length d.in_flight = rw q at h in
        let once : count k (positions d.in_flight) ≤ 1 = let o = (places_of d v.places).once k in omega arith in
        rw (← p, hold_there i k d.in_flight h', q, add-one, without_hold i k d.in_flight once h')

    -- an id that is not
    pub redeliver_none : length d.in_flight ≤ j → redeliver_id ledger i d m ≡ d
    unfolding redeliver_id
    redeliver_none h = rw (← p, hold_none i k d.in_flight (rw q at h))

-- an id that is not in the ledger of the topic is not held
pub redeliver_absent : (s : State) (i topic : ℕ) (d : Dispatcher) (m : Id) → ValidDispatcher s d → d.pair.topic ≡ topic
    → length (ledger_of s topic) ≤ position_of m (ledger_of s topic) → redeliver_id (ledger_of s topic) i d m ≡ d
redeliver_absent s i topic d m v t h =
    let k = position_of m (ledger_of s topic) in
    let l = ap (λ (n : ℕ). length (ledger_of s n)) t in
    redeliver_none s i (slot by_hold (held_of i k) d.in_flight) k d v refl (ledger_of s topic) m refl
    (by_test (ltb (slot by_hold (held_of i k) d.in_flight) (length d.in_flight))
    (λ u.
    let c = hold_counted i k d.in_flight (ltb-true _ _ u) in
    let b : k < d.cursor = (places_of d v.places).below k (omega arith) in
    let n = v.cursor_in_ledger in
    absurd (omega (arith, b, n, l, h)))
    (λ u. ltb-false _ _ u))
