-- Entries in flight that go back to the queue of their dispatcher, in one pass: a consumer's own go to the queue's end, the
-- others' move to the front. And a list without one of its elements.
use mathlib.Core.Path.{◌≡◌, refl, sym, ap, ap₂, ◌∙◌}
use mathlib.Core.Bool.{Bool, true, false, not}
use mathlib.Core.List.{List, [], ◌∷◌, ◌++◌, append-nil}
use Prim.Native.Nat.{ℕ, zero, suc, ◌+◌, ◌-◌, ◌≤◌, ◌<◌}
use native.Mathlib.Nat.{le_of_suc-le-suc, not-suc-le-zero}
use native.Mathlib.Numerals.{add-one}
use native.Mathlib.Omega.{arith}
use lib.Dec.{eqb}
use lib.ListN.{length, get_or, set, take, drop, length-append, length-set, length-take, drop_of_length-le}
use lib.Seq.{drop-cons, append_snoc}
use Rattle.rules.specs.Table.{keep}
use Rattle.rules.specs.State.{Held, Dispatcher}
use Rattle.rules.specs.Dispatcher.{with_places, held_by, without_holder}
use Rattle.layout.specs.Layout.{decode, put}
use Rattle.layout.specs.Whole.{ShapedDispatcher}
use Rattle.layout.specs.Fields.{zero_held, dispatcher_nth, set_dispatcher}
use Rattle.layout.specs.Placed.{DispatcherIn}
use Rattle.layout.proofs.Placed.{shaped_places}
use Rattle.operation_laws.proofs.Moved.{Moved, moved_start, moved_on}
use Rattle.dispatcher.proofs.Keeping.{Thinning, thinning_start, thinning_nth, thinning_length, thinning_keep, thinning_skip, thinning_end}
use Rattle.dispatcher.specs.Returned.{one_looked_at, all_back}

-- ---- one entry less

-- a list without one of its elements
abbrev pub without_nth : {A : Type 0} → ℕ → List A → List A
without_nth j l = take j l ++ drop (j + 1) l

pub length_without : {A : Type 0} (j : ℕ) (l : List A) → j < length l → length (without_nth j l) + 1 ≡ length l
length_without j [] h = absurd (not-suc-le-zero h)
length_without zero (a ∷ l) h = omega arith
length_without (suc j) (a ∷ l) h =
    let r : length (without_nth j l) + 1 ≡ length l = length_without j l (le_of_suc-le-suc h) in
    let n : suc j + 1 ≡ suc (j + 1) = omega arith in
    rw n (omega arith)

-- ---- what is held from an entry on

module _ (i : ℕ) (l : List Held) (j : ℕ) (h : j < length l) where
  -- the entry is the consumer's
  held_own : eqb i (get_or l j zero_held).holder ≡ true → held_by i (drop j l) ≡ (get_or l j zero_held).position ∷ held_by i (drop (suc j) l)
  unfolding held_by keep
  held_own t = ap (held_by i) (drop-cons l j zero_held h) ∙ rw t

  -- or another's
  held_other : eqb i (get_or l j zero_held).holder ≡ false → held_by i (drop j l) ≡ held_by i (drop (suc j) l)
  unfolding held_by keep
  held_other t = ap (held_by i) (drop-cons l j zero_held h) ∙ rw t

-- whether an entry stays
abbrev stays : ℕ → Held → Bool
stays i h = not (eqb i h.holder)

-- an entry looked at: the consumer's own
pub looked_own : (i j w : ℕ) (d : Dispatcher) → eqb i (get_or d.in_flight j zero_held).holder ≡ true
    → with_places d (d.redelivery ++ (get_or d.in_flight j zero_held).position ∷ []) d.in_flight ≡ one_looked_at i j w d
unfolding one_looked_at
looked_own i j w d t = rw t

-- or another's
pub looked_other : (i j w : ℕ) (d : Dispatcher) → eqb i (get_or d.in_flight j zero_held).holder ≡ false
    → with_places d d.redelivery (set d.in_flight w (get_or d.in_flight j zero_held)) ≡ one_looked_at i j w d
unfolding one_looked_at
looked_other i j w d t = rw t

-- ---- one after another

-- the entries before j are looked at, and w of them stayed: what is queued, with what the consumer holds from j on, is all
pub record Returning (e i d : ℕ) (ws us : List ℕ) (j w : ℕ) : Type 0 where
  pub queue : List ℕ
  pub flight : List Held
  pub looked : j ≤ length (dispatcher_nth (decode ws) d).in_flight
  pub moved : Moved e d ws us (with_places (dispatcher_nth (decode ws) d) queue flight)
  pub thinning : Thinning (stays i) (dispatcher_nth (decode ws) d).in_flight flight j w
  pub queued : queue ++ held_by i (drop j (dispatcher_nth (decode ws) d).in_flight) ≡ (dispatcher_nth (decode ws) d).redelivery ++ held_by i (dispatcher_nth (decode ws) d).in_flight
  pub room : length queue + (length (dispatcher_nth (decode ws) d).in_flight - j) ≤ e

module _ {e : ℕ} {ws : List ℕ} (i d : ℕ) (h : DispatcherIn e ws d) where
  abbrev D : Dispatcher
  D = dispatcher_nth (decode ws) d

  -- none looked at yet
  pub return_start : length D.redelivery + length D.in_flight ≤ e → Returning e i d ws ws 0 0
  unfolding with_places
  return_start r =
      record {
        queue = D.redelivery;
        flight = D.in_flight;
        looked = omega arith;
        moved = moved_start h;
        thinning = thinning_start (stays i) D.in_flight;
        queued = refl;
        room = omega (arith, r);
      }

  module _ {us : List ℕ} {j w : ℕ} (r : Returning e i d ws us j w) where
    abbrev now : Dispatcher
    now = dispatcher_nth (decode us) d

    flight_now : now.in_flight ≡ r.flight
    unfolding with_places
    flight_now = ap (λ (x : Dispatcher). x.in_flight) r.moved.now

    queue_now : now.redelivery ≡ r.queue
    unfolding with_places
    queue_now = ap (λ (x : Dispatcher). x.redelivery) r.moved.now

    -- as many are in flight as at first, the last turn aside
    as_many : length now.in_flight ≡ length D.in_flight
    as_many =
        let b = r.thinning.behind in
        let k = r.looked in
        ap length flight_now ∙ thinning_length (stays i) D.in_flight r.thinning zero_held (omega (arith, b, k))

    -- entry j is the one that it was
    entry_now : get_or now.in_flight j zero_held ≡ get_or D.in_flight j zero_held
    entry_now = ap (λ (l : List Held). get_or l j zero_held) flight_now ∙ thinning_nth (stays i) D.in_flight r.thinning zero_held

    pub kept_there : w ≤ length now.in_flight
    kept_there = let b = r.thinning.behind in let k = r.looked in rw as_many (omega (arith, b, k))

    module _ (l : j < length D.in_flight) where
      pub there_now : j < length now.in_flight
      there_now = rw as_many l

      pub room_now : length now.redelivery < e
      room_now = let m = r.room in rw queue_now (omega (arith, m, l))

      -- the lists fit
      fits : (q : List ℕ) (f : List Held) → length q ≤ e → length f ≤ e → ShapedDispatcher e (with_places D q f)
      fits q f a b = shaped_places D h.lists_fit q f a b

      flight_fits : length r.flight ≤ e
      flight_fits = rw (← flight_now, as_many) h.lists_fit.flight_fits

      module _ {vs : List ℕ} (v : vs ≡ put us (set_dispatcher (decode us) d (one_looked_at i j w now))) where
        -- the consumer's own is queued
        pub return_own : eqb i (get_or now.in_flight j zero_held).holder ≡ true → Returning e i d ws vs (j + 1) w
        unfolding with_places
        return_own t =
            let x : Held = get_or D.in_flight j zero_held in
            let t' : eqb i x.holder ≡ true = ap (λ (a : Held). eqb i a.holder) (sym entry_now) ∙ t in
            let g : Dispatcher → Dispatcher = λ a. with_places a (a.redelivery ++ x.position ∷ []) a.in_flight in
            let m = r.room in
            let more : length (r.queue ++ x.position ∷ []) ≡ length r.queue + 1 = length-append r.queue (x.position ∷ []) in
            let v' : vs ≡ put us (set_dispatcher (decode us) d (g now)) =
            v ∙ ap (λ (a : Dispatcher). put us (set_dispatcher (decode us) d a))
            (sym (looked_own i j w now t) ∙ ap (λ (a : Held). with_places now (now.redelivery ++ a.position ∷ []) now.in_flight) entry_now) in
            rw (add-one j)
            (record {
              queue = r.queue ++ x.position ∷ [];
              flight = r.flight;
              looked = l;
              moved = moved_on h r.moved g (fits (r.queue ++ x.position ∷ []) r.flight (omega (arith, more, m, l)) flight_fits) v';
              thinning = thinning_skip (stays i) D.in_flight r.thinning zero_held l (rw t');
              queued =
                  append_snoc r.queue x.position (held_by i (drop (suc j) D.in_flight))
                  ∙ ap (λ (a : List ℕ). r.queue ++ a) (sym (held_own i D.in_flight j l t')) ∙ r.queued;
              room = omega (arith, more, m, l);
            })

        -- another's moves to the front
        pub return_other : eqb i (get_or now.in_flight j zero_held).holder ≡ false → Returning e i d ws vs (j + 1) (w + 1)
        unfolding with_places
        return_other t =
            let x : Held = get_or D.in_flight j zero_held in
            let t' : eqb i x.holder ≡ false = ap (λ (a : Held). eqb i a.holder) (sym entry_now) ∙ t in
            let g : Dispatcher → Dispatcher = λ a. with_places a a.redelivery (set a.in_flight w x) in
            let m = r.room in
            let sized : length (set r.flight w x) ≤ e = rw (length-set r.flight w x) flight_fits in
            let v' : vs ≡ put us (set_dispatcher (decode us) d (g now)) =
            v ∙ ap (λ (a : Dispatcher). put us (set_dispatcher (decode us) d a))
            (sym (looked_other i j w now t) ∙ ap (λ (a : Held). with_places now now.redelivery (set now.in_flight w a)) entry_now) in
            rw (add-one j, add-one w)
            (record {
              queue = r.queue;
              flight = set r.flight w x;
              looked = l;
              moved = moved_on h r.moved g (fits r.queue (set r.flight w x) (omega (arith, m)) sized) v';
              thinning = thinning_keep (stays i) D.in_flight r.thinning zero_held l (rw t');
              queued = ap (λ (a : List ℕ). r.queue ++ a) (sym (held_other i D.in_flight j l t')) ∙ r.queued;
              room = omega (arith, m, l);
            })

    -- all are looked at: the first w stay
    pub return_end : {vs : List ℕ} → length D.in_flight ≤ j
        → vs ≡ put us (set_dispatcher (decode us) d (with_places now now.redelivery (take w now.in_flight)))
        → vs ≡ put ws (set_dispatcher (decode ws) d (all_back i D))
    unfolding all_back with_places without_holder held_by keep
    return_end {vs} z v =
        let g : Dispatcher → Dispatcher = λ a. with_places a a.redelivery (take w a.in_flight) in
        let last : take w r.flight ≡ keep (stays i) D.in_flight = thinning_end (stays i) D.in_flight r.thinning zero_held z in
        let none : held_by i (drop j D.in_flight) ≡ [] = ap (held_by i) (drop_of_length-le D.in_flight z) in
        let all : r.queue ≡ D.redelivery ++ held_by i D.in_flight = sym (append-nil r.queue) ∙ ap (λ (a : List ℕ). r.queue ++ a) (sym none) ∙ r.queued in
        let m = r.room in
        let f : length r.flight ≤ e = rw (← flight_now, as_many) h.lists_fit.flight_fits in
        let sized : length (take w r.flight) ≤ e = rw (length-take w r.flight) (omega (arith, f)) in
        (moved_on h r.moved g (shaped_places D h.lists_fit r.queue (take w r.flight) (omega (arith, m)) sized) v).words
        ∙ ap₂ {A = List ℕ} {B = List Held} {C = List ℕ} (λ q a. put ws (set_dispatcher (decode ws) d (with_places D q a))) all last
