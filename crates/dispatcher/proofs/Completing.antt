-- What completion leads to: the complete entries of a consumer dropped in one pass, and mark-delete advanced.
use mathlib.Core.Path.{◌≡◌, sym, ap, ◌∙◌}
use mathlib.Core.Bool.{Bool, true, false, not, ◌&&◌}
use mathlib.Core.List.{List}
use Prim.Native.Nat.{ℕ, suc, ◌+◌, ◌≤◌, ◌<◌}
use native.Mathlib.Omega.{arith}
use native.Mathlib.Numerals.{add-one}
use lib.Dec.{eqb}
use lib.ListN.{length, get_or, set, take, drop, drop_of_length-le, length-set, length-take}
use lib.Seq.{drop-cons}
use Rattle.rules.specs.Table.{keep}
use Rattle.rules.specs.State.{Held, Mark, Dispatcher, new_mark}
use Rattle.head.specs.declared.Head as numbers
use Rattle.head.specs.Moves.{advanced}
use Rattle.dispatcher.specs.Values.{head_of, with_head}
use Rattle.rules.specs.Dispatcher.{with_mark_delete, with_places, mark_at, complete_at, drop_complete, leading_complete, advance_mark_delete}
use Rattle.layout.specs.Layout.{decode, put}
use Rattle.layout.specs.Whole.{ShapedDispatcher}
use Rattle.layout.specs.Fields.{zero_held, dispatcher_nth, set_dispatcher}
use Rattle.layout.specs.Placed.{DispatcherIn}
use Rattle.operation_laws.proofs.Frame.{every_nth}
use Rattle.operation_laws.proofs.Moved.{Moved, moved_start, moved_on}
use Rattle.dispatcher.specs.Completion.{Marked}
use Rattle.dispatcher.proofs.Keeping.{Thinning, thinning_start, thinning_nth, thinning_length, thinning_keep, thinning_skip, thinning_end}

-- ---- mark-delete

module _ (marks : List Mark) (k : ℕ) where
  -- a complete entry is one more
  pub leads_on : k < length marks → (get_or marks k new_mark).acked.complete ≡ true
      → k + leading_complete (drop k marks) ≡ k + 1 + leading_complete (drop (k + 1) marks)
  unfolding leading_complete
  leads_on h y =
      let one : k + 1 ≡ suc k = add-one k in
      ap (λ (l : List Mark). k + leading_complete l) (drop-cons marks k new_mark h) ∙ rw (y, one) (omega arith)

  -- at one that is not they end
  pub leads_not : k < length marks → (get_or marks k new_mark).acked.complete ≡ false → k ≡ k + leading_complete (drop k marks)
  unfolding leading_complete
  leads_not h y = sym (ap (λ (l : List Mark). k + leading_complete l) (drop-cons marks k new_mark h) ∙ rw y (omega arith))

  -- and past the last
  pub leads_past : length marks ≤ k → k ≡ k + leading_complete (drop k marks)
  unfolding leading_complete
  leads_past h = sym (ap (λ (l : List Mark). k + leading_complete l) (drop_of_length-le marks h) ∙ omega arith)

-- mark-delete there, and the other three numbers as they were
pub advanced_there : (d : Dispatcher) (h r : numbers.Head) (k : ℕ) → h ≡ head_of d → k ≡ h.mark_delete + leading_complete (drop h.mark_delete d.marks)
    → r ≡ advanced h k → with_head d r ≡ advance_mark_delete d
unfolding advance_mark_delete with_mark_delete with_head head_of advanced
advanced_there d h r k p q e = rw (e, q, p)

-- ---- complete entries dropped

-- what stays
abbrev pub stays_for : ℕ → Dispatcher → Held → Bool
stays_for id d h = not (eqb id h.holder && complete_at d h.position)

-- the store while what is in flight is thinned: the places before j are looked at, and w entries stayed
pub record Dropping (e d id : ℕ) (ws us : List ℕ) (j w : ℕ) : Type 0 where
  pub flight : List Held
  pub looked : j ≤ length (dispatcher_nth (decode ws) d).in_flight
  pub moved : Moved e d ws us (with_places (dispatcher_nth (decode ws) d) (dispatcher_nth (decode ws) d).redelivery flight)
  pub thinning : Thinning (stays_for id (dispatcher_nth (decode ws) d)) (dispatcher_nth (decode ws) d).in_flight flight j w

module _ {e : ℕ} {ws : List ℕ} (d id : ℕ) (h : DispatcherIn e ws d) (marked : Marked (dispatcher_nth (decode ws) d)) where
  abbrev D : Dispatcher
  D = dispatcher_nth (decode ws) d

  -- nothing is looked at yet
  pub dropping_start : Dropping e d id ws ws 0 0
  unfolding with_places
  dropping_start = record { flight = D.in_flight; looked = omega arith; moved = moved_start h; thinning = thinning_start (stays_for id D) D.in_flight }

  module _ {us : List ℕ} {j w : ℕ} (r : Dropping e d id ws us j w) where
    -- what is in flight now
    flight_now : (dispatcher_nth (decode us) d).in_flight ≡ r.flight
    unfolding with_places
    flight_now = ap (λ (x : Dispatcher). x.in_flight) r.moved.now

    -- the marks are those of before
    pub marks_now : (dispatcher_nth (decode us) d).marks ≡ D.marks
    unfolding with_places
    marks_now = ap (λ (x : Dispatcher). x.marks) r.moved.now

    -- completion too
    complete_now : (k : ℕ) → complete_at (dispatcher_nth (decode us) d) k ≡ complete_at D k
    unfolding complete_at mark_at
    complete_now k = ap (λ (l : List Mark). (get_or l k new_mark).acked.complete) marks_now

    -- as many are in flight as before
    pub as_many : length (dispatcher_nth (decode us) d).in_flight ≡ length D.in_flight
    as_many =
        let b = r.thinning.behind in
        let k = r.looked in
        ap length flight_now ∙ thinning_length (stays_for id D) D.in_flight r.thinning zero_held (omega (arith, b, k))

    -- entry j is the one that it was
    pub entry_now : get_or (dispatcher_nth (decode us) d).in_flight j zero_held ≡ get_or D.in_flight j zero_held
    entry_now = ap (λ (l : List Held). get_or l j zero_held) flight_now ∙ thinning_nth (stays_for id D) D.in_flight r.thinning zero_held

    module _ (l : j < length D.in_flight) where
      -- it is there, and has a mark
      pub there_now : j < length (dispatcher_nth (decode us) d).in_flight
      there_now = rw as_many l

      pub marked_now : (get_or (dispatcher_nth (decode us) d).in_flight j zero_held).position < length (dispatcher_nth (decode us) d).marks
      marked_now =
          rw (entry_now, marks_now) (every_nth {P = λ (x : Held). x.position < length D.marks} D.in_flight j zero_held marked.each_has_mark l)

      -- the test of a turn
      pub test_now : stays_for id (dispatcher_nth (decode us) d) (get_or (dispatcher_nth (decode us) d).in_flight j zero_held) ≡ stays_for id D (get_or D.in_flight j zero_held)
      test_now = rw (entry_now, complete_now (get_or D.in_flight j zero_held).position)

      -- it goes
      pub dropping_skip : stays_for id D (get_or D.in_flight j zero_held) ≡ false → Dropping e d id ws us (j + 1) w
      dropping_skip y =
          rw (add-one j)
          (record { flight = r.flight; looked = l; moved = r.moved; thinning = thinning_skip (stays_for id D) D.in_flight r.thinning zero_held l y })

      -- where it is written
      pub place_now : w < length (dispatcher_nth (decode us) d).in_flight
      place_now = let b = r.thinning.behind in rw as_many (omega (arith, b, l))

      -- it stays
      pub dropping_keep : {vs : List ℕ} (x : Held) → stays_for id D (get_or D.in_flight j zero_held) ≡ true → x ≡ get_or (dispatcher_nth (decode us) d).in_flight j zero_held
          → vs ≡ put us (set_dispatcher (decode us) d (with_places (dispatcher_nth (decode us) d) (dispatcher_nth (decode us) d).redelivery (set (dispatcher_nth (decode us) d).in_flight w x)))
          → Dropping e d id ws vs (j + 1) (w + 1)
      unfolding with_places
      dropping_keep {vs} x y q v =
          let g : Dispatcher → Dispatcher = λ a. with_places a a.redelivery (set a.in_flight w x) in
          let f = h.lists_fit in
          let sized : length (set r.flight w x) ≤ e = rw (length-set r.flight w x, ← flight_now, as_many) f.flight_fits in
          let fits : ShapedDispatcher e (with_places D D.redelivery (set r.flight w x)) =
          record { ring_fits = f.ring_fits; outside_fits = f.outside_fits; queue_fits = f.queue_fits; flight_fits = sized; marks_fit = f.marks_fit } in
          let was : set r.flight w x ≡ set r.flight w (get_or D.in_flight j zero_held) = ap (λ (a : Held). set r.flight w a) (q ∙ entry_now) in
          rw (add-one j, add-one w)
          (record {
            flight = set r.flight w x;
            looked = l;
            moved = moved_on h r.moved g fits v;
            thinning = rw was (thinning_keep (stays_for id D) D.in_flight r.thinning zero_held l y);
          })

    -- at the end the first w are kept
    pub dropping_end : {vs : List ℕ} → length D.in_flight ≤ j
        → vs ≡ put us (set_dispatcher (decode us) d (with_places (dispatcher_nth (decode us) d) (dispatcher_nth (decode us) d).redelivery (take w (dispatcher_nth (decode us) d).in_flight)))
        → vs ≡ put ws (set_dispatcher (decode ws) d (drop_complete id D))
    unfolding drop_complete with_places
    dropping_end {vs} m v =
        let g : Dispatcher → Dispatcher = λ a. with_places a a.redelivery (take w a.in_flight) in
        let last : take w r.flight ≡ keep (stays_for id D) D.in_flight = thinning_end (stays_for id D) D.in_flight r.thinning zero_held m in
        let f = h.lists_fit in
        let n : length r.flight ≤ e = rw (← flight_now, as_many) f.flight_fits in
        let sized : length (take w r.flight) ≤ e = rw (length-take w r.flight) (omega arith) in
        let fits : ShapedDispatcher e (with_places D D.redelivery (take w r.flight)) =
        record { ring_fits = f.ring_fits; outside_fits = f.outside_fits; queue_fits = f.queue_fits; flight_fits = sized; marks_fit = f.marks_fit } in
        (moved_on h r.moved g fits v).words
        ∙ ap (λ (x : List Held). put ws (set_dispatcher (decode ws) d (with_places D D.redelivery x))) last

    -- which are there
    pub kept_there : w ≤ length (dispatcher_nth (decode us) d).in_flight
    kept_there = let b = r.thinning.behind in let k = r.looked in rw as_many (omega (arith, b, k))
