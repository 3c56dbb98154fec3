-- The turns of a dispatcher written one after the other. What is left to be made from the numbers as they are, with what is
-- written, is the whole service: so at the stop all of it is written.
use mathlib.Core.Path.{◌≡◌, refl, sym, ap, ap₂, ◌∙◌, subst}
use mathlib.Core.List.{List, [], ◌∷◌, ◌++◌, map, append-nil}
use Prim.Native.Nat.{ℕ, suc, ◌+◌, ◌-◌, ◌*◌, ◌≤◌, ◌<◌}
use native.Mathlib.Numerals.{add-one}
use native.Mathlib.Omega.{arith}
use lib.ListN.{length, drop, length-append, length-drop}
use lib.Seq.{append_snoc}
use Rattle.words.specs.Act.{lay}
use Rattle.rules.specs.State.{Held, Dispatcher}
use Rattle.rules.specs.Dispatcher.{of_parts, with_places}
use Rattle.rules.specs.Outcome.{Dispatch}
use Rattle.rules.specs.Push.{flat}
use Rattle.layout.specs.Layout.{decode, put}
use Rattle.layout.specs.Whole.{ShapedDispatcher}
use Rattle.layout.specs.Fields.{dispatcher_nth, set_dispatcher}
use Rattle.layout.specs.Placed.{DispatcherIn}
use Rattle.operation_laws.proofs.Moved.{Moved, moved_start, moved_on}
use Rattle.push_turn.specs.declared.service.Served as places
use Rattle.push_turn.specs.declared.service.Numbers as moved
use Rattle.dispatcher.specs.Values.{head_of, with_head}
use Rattle.push_laws.specs.Local.{Fixed, Local, Step, Steps, local_turn, fixed_of, served}
use Rattle.push_laws.specs.Local.LocalTurn.{stop, move}
use Rattle.push_laws.specs.Applied.{record_of, held_of, applied_dispatcher}
use Rattle.push_laws.specs.Shared.{service_records, served_dispatcher}
use Rattle.record.specs.Flat.{filled}
use Rattle.record.proofs.Filled.{filled_length}
use Rattle.push_turn.specs.Turns.{local_from, numbers_from, ServedHere}
use Rattle.push_shared.specs.Service.{service_of}
use Rattle.push_turn.proofs.Left.{left, all_turns, turn_lowers, turn_less, stop_in_lists, turns_stop}
use Rattle.push_turn.proofs.Served.{served_turns}
use Rattle.push_shared.proofs.Steps.{Ranged, Moves, turn_moves, ranged_on, turns_on}
use Rattle.push_shared.proofs.Staying.{consumers_now, fixed_now, record_now, held_now, serving_now}

-- what a service reads
abbrev pub fixed : List ℕ → ℕ → Fixed
fixed ws d = fixed_of (decode ws) (dispatcher_nth (decode ws) d)

-- the whole service
abbrev pub whole : List ℕ → ℕ → List ℕ → Steps
whole ws d permits = served (decode ws) (dispatcher_nth (decode ws) d) permits

-- what is left of it, from some numbers on
abbrev pub rest : List ℕ → ℕ → Local → Steps
rest ws d l = all_turns (fixed ws d) l

-- the records of steps
abbrev pub records : List ℕ → ℕ → List Step → List Dispatch
records ws d steps = map (record_of (decode ws) (fixed ws d)) steps

-- their entries in flight
abbrev pub holds : List ℕ → List Step → List Held
holds ws steps = map (held_of (decode ws)) steps

-- from the words ws, the permits ps and the list ls: now the words us, and the same for the others, with m records written and
-- the numbers h
pub record Writing (p : places.Served) (ws ps ls us qs ks : List ℕ) (h : moved.Numbers) (m : ℕ) : Type 0 where
  pub flight : List Held
  pub moved : Moved p.e p.d ws us (with_places (dispatcher_nth (decode ws) p.d) (dispatcher_nth (decode ws) p.d).redelivery flight)
  pub ranged : Ranged (fixed ws p.d) (local_from qs h)
  pub sized : length qs ≡ length (decode ws).consumers
  pub after_same : (rest ws p.d (local_from qs h)).after ≡ (whole ws p.d ps).after
  pub flight_same : flight ++ holds ws (rest ws p.d (local_from qs h)).made
      ≡ (dispatcher_nth (decode ws) p.d).in_flight ++ holds ws (whole ws p.d ps).made
  pub records_same : filled ks m (records ws p.d (rest ws p.d (local_from qs h)).made) ≡ filled ls 0 (records ws p.d (whole ws p.d ps).made)
  pub count_same : m + length (rest ws p.d (local_from qs h)).made ≡ length (whole ws p.d ps).made
  pub room : length flight + left (fixed ws p.d) (local_from qs h) ≤ p.e
  pub as_long : length ks ≡ length ls
  pub mark_same : h.head.mark_delete ≡ (dispatcher_nth (decode ws) p.d).mark_delete

module _ {p : places.Served} {ws : List ℕ} (v : ServedHere p ws) where
  abbrev e : ℕ
  e = p.e

  abbrev d : ℕ
  d = p.d

  abbrev n : ℕ
  n = p.n

  abbrev x : Dispatcher
  x = dispatcher_nth (decode ws) d

  -- ---- at first

  pub writing_start : (ps ls : List ℕ) (h : moved.Numbers) → h ≡ numbers_from (head_of x) → x.next ≤ length (fixed ws d).ring
      → length ps ≡ length (decode ws).consumers
      → length x.in_flight + (length x.redelivery + (n - x.cursor)) ≤ e
      → Writing p ws ps ls ws ps ls h 0
  unfolding with_places local_from numbers_from head_of fixed_of
  writing_start ps ls h q a b c =
      let whole_rest : rest ws d (local_from ps h) ≡ whole ws d ps =
      ap (λ (z : moved.Numbers). rest ws d (local_from ps z)) q ∙ sym (served_turns (decode ws) x ps) in
      let l = v.ledger_length in
      record {
        flight = x.in_flight;
        moved = moved_start v.here;
        ranged = rw q (record {
          next_in = a;
          lists_in = (omega arith, rw (← v.ledger_length) v.cursor_in_ledger);
          queue_in =
              rw (← v.ledger_length) v.queue_in_ledger;
        });
        sized = b;
        after_same = ap (λ (r : Steps). r.after) whole_rest;
        flight_same = ap (λ (r : Steps). x.in_flight ++ holds ws r.made) whole_rest;
        records_same = ap (λ (r : Steps). filled ls 0 (records ws d r.made)) whole_rest;
        count_same = rw whole_rest (omega arith);
        room = rw q (omega (arith, c, l));
        as_long = refl;
        mark_same = ap (λ (z : moved.Numbers). z.head.mark_delete) q;
      }

  module _ {ps ls us qs ks : List ℕ} {h : moved.Numbers} {m : ℕ} (w : Writing p ws ps ls us qs ks h m) where
    -- the numbers as they are
    abbrev l : Local
    l = local_from qs h

    -- what the turns read of the store as it is
    fixed_same : fixed us d ≡ fixed ws d
    fixed_same = fixed_now w.flight v.here w.moved

    pub serving_on : ServedHere p us
    serving_on = serving_now w.flight v w.moved

    pub ring_on : {ring : List ℕ} → ring ≡ (fixed ws d).ring → ring ≡ (fixed us d).ring
    ring_on q = q ∙ sym (ap (λ (f : Fixed). f.ring) fixed_same)

    -- next stays in the ring
    pub next_on : {ring : List ℕ} → ring ≡ (fixed ws d).ring → h.head.next ≤ length ring
    unfolding local_from
    next_on q = rw q w.ranged.next_in

    -- what is in flight now
    flight_now : (dispatcher_nth (decode us) d).in_flight ≡ w.flight
    unfolding with_places
    flight_now = ap (λ (z : Dispatcher). z.in_flight) w.moved.now

    queue_now : (dispatcher_nth (decode us) d).redelivery ≡ x.redelivery
    unfolding with_places
    queue_now = ap (λ (z : Dispatcher). z.redelivery) w.moved.now

    -- ---- a turn that hands out an entry

    module _ (z : Step) (rs : List ℕ) (k : moved.Numbers) (told : move z (local_from rs k) ≡ local_turn (fixed us d) l) where
      turned : local_turn (fixed ws d) l ≡ move z (local_from rs k)
      turned = ap (λ (f : Fixed). local_turn f l) (sym fixed_same) ∙ sym told

      moves : Moves (fixed ws d) l z (local_from rs k)
      moves = turn_moves (fixed ws d) l w.ranged z (local_from rs k) turned

      lower : suc (left (fixed ws d) (local_from rs k)) ≡ left (fixed ws d) l
      lower = turn_lowers (fixed ws d) l z (local_from rs k) turned

      on : rest ws d l ≡ record { made = z ∷ (rest ws d (local_from rs k)).made; after = (rest ws d (local_from rs k)).after }
      on = turns_on (fixed ws d) l w.ranged z (local_from rs k) turned

      -- the entry is one of the ledger
      pub entry_in : z.position < n
      unfolding fixed_of
      entry_in = let p = moves.position_in in let q = v.ledger_length in omega arith

      -- the consumer is there
      pub consumer_in : z.consumer < length (decode us).consumers
      unfolding local_from
      consumer_in = rw (consumers_now w.flight v.here w.moved, ← w.sized) moves.consumer_in

      -- there is room for it in flight
      pub flight_room : length (dispatcher_nth (decode us) d).in_flight < e
      flight_room = let a = w.room in let b = lower in rw flight_now (omega (arith, a, b))

      -- and for its record
      pub list_room : length (whole ws d ps).made * 13 ≤ length ls → m * 13 + 13 ≤ length ks
      list_room r =
          let a = w.count_same in
          let b : length (rest ws d l).made ≡ suc (length (rest ws d (local_from rs k)).made) = ap (λ (s : Steps). length s.made) on in
          let c = w.as_long in
          omega (arith, a, b, c, r)

      -- one entry less is left
      pub left_on : left (fixed ws d) (local_from rs k) < left (fixed ws d) l
      left_on = turn_less (fixed ws d) l z (local_from rs k) turned

      -- it is written
      pub writing_on : {vs ns : List ℕ}
          → vs ≡ put us (set_dispatcher (decode us) d
          (with_places (dispatcher_nth (decode us) d) (dispatcher_nth (decode us) d).redelivery
          ((dispatcher_nth (decode us) d).in_flight ++ held_of (decode us) z ∷ [])))
          → ns ≡ filled ks m (record_of (decode us) (fixed us d) z ∷ []) → k.head.mark_delete ≡ h.head.mark_delete
          → Writing p ws ps ls vs rs ns k (m + 1)
      unfolding with_places local_from filled
      writing_on {vs} {ns} a b same_mark =
          let y : Held = held_of (decode ws) z in
          let r : Dispatch = record_of (decode ws) (fixed ws d) z in
          let g : Dispatcher → Dispatcher = λ q. with_places q q.redelivery (q.in_flight ++ y ∷ []) in
          let f = v.here.lists_fit in
          let more : length (w.flight ++ y ∷ []) ≡ length w.flight + 1 = length-append w.flight (y ∷ []) in
          let some = w.room in
          let less = lower in
          let fits : ShapedDispatcher e (with_places x x.redelivery (w.flight ++ y ∷ [])) =
          record {
            ring_fits = f.ring_fits;
            outside_fits = f.outside_fits;
            queue_fits = f.queue_fits;
            flight_fits =
                omega (arith, more, some, less);
            marks_fit = f.marks_fit;
          } in
          let a' : vs ≡ put us (set_dispatcher (decode us) d (g (dispatcher_nth (decode us) d))) =
          a ∙ ap (λ (q : Held). put us (set_dispatcher (decode us) d
          (with_places (dispatcher_nth (decode us) d) (dispatcher_nth (decode us) d).redelivery
          ((dispatcher_nth (decode us) d).in_flight ++ q ∷ [])))) (held_now w.flight v.here w.moved z) in
          let same : record_of (decode us) (fixed us d) z ≡ r =
          record_now w.flight v.here w.moved (fixed us d) z ∙ ap (λ (q : Fixed). record_of (decode ws) q z) fixed_same in
          let b' : ns ≡ (lay (flat r)).run (m * 13) ks = b ∙ ap (λ (q : Dispatch). (lay (flat q)).run (m * 13) ks) same in
          let now : List Step = (rest ws d (local_from rs k)).made in
          let made_on : (rest ws d l).made ≡ z ∷ now = ap (λ (s : Steps). s.made) on in
          let counted = w.count_same in
          let longer : length (rest ws d l).made ≡ suc (length now) = ap (λ (s : List Step). length s) made_on in
          record {
            flight = w.flight ++ y ∷ [];
            moved = moved_on v.here w.moved g fits a';
            ranged = ranged_on (fixed ws d) l w.ranged z (local_from rs k) turned;
            sized = moves.sized ∙ w.sized;
            after_same = sym (ap (λ (s : Steps). s.after) on) ∙ w.after_same;
            flight_same =
                append_snoc w.flight y (holds ws now) ∙ sym (ap (λ (s : List Step). w.flight ++ holds ws s) made_on) ∙ w.flight_same;
            records_same =
                ap₂ {A = List ℕ} {B = ℕ} {C = List ℕ} (λ q j. filled q j (records ws d now)) b' (add-one m)
                ∙ sym (ap (λ (s : List Step). filled ks m (records ws d s)) made_on) ∙ w.records_same;
            count_same = omega (arith, counted, longer);
            room = omega (arith, more, some, less);
            as_long = ap length b ∙ filled_length ks m (record_of (decode us) (fixed us d) z ∷ []) ∙ w.as_long;
            mark_same = same_mark ∙ w.mark_same;
          }

    -- ---- the turn that stops

    module _ (rs : List ℕ) (k : moved.Numbers) (told : stop (local_from rs k) ≡ local_turn (fixed us d) l) where
      stopped : local_turn (fixed ws d) l ≡ stop (local_from rs k)
      stopped = ap (λ (f : Fixed). local_turn f l) (sym fixed_same) ∙ sym told

      done : rest ws d l ≡ record { made = []; after = local_from rs k }
      done = turns_stop (fixed ws d) l (left (fixed ws d) l) (local_from rs k) stopped

      -- no more was taken off the queue than it has
      pub taken_there : k.taken ≤ length (dispatcher_nth (decode us) d).redelivery
      unfolding local_from fixed_of
      taken_there = rw queue_now (stop_in_lists (fixed ws d) l (local_from rs k) w.ranged.lists_in stopped).0

      -- mark-delete is as it was
      pub mark_there : k.head.mark_delete ≡ h.head.mark_delete → k.head.mark_delete ≡ (dispatcher_nth (decode us) d).mark_delete
      unfolding with_places
      mark_there q = q ∙ w.mark_same ∙ sym (ap (λ (z : Dispatcher). z.mark_delete) w.moved.now)

      last : local_from rs k ≡ (whole ws d ps).after
      last = sym (ap (λ (s : Steps). s.after) done) ∙ w.after_same

      pub permits_end : rs ≡ (whole ws d ps).after.permits
      unfolding local_from
      permits_end = ap (λ (q : Local). q.permits) last

      pub count_end : m ≡ length (whole ws d ps).made
      count_end =
          let a : length (rest ws d l).made ≡ 0 = ap (λ (s : Steps). length s.made) done in
          let b = w.count_same in
          omega (arith, a, b)

      pub records_end : ks ≡ filled ls 0 (service_records (decode ws) (service_of (decode ws) d ps))
      unfolding filled service_records
      records_end = sym (ap (λ (s : Steps). filled ks m (records ws d s.made)) done) ∙ w.records_same

      flight_end : w.flight ++ [] ≡ x.in_flight ++ holds ws (whole ws d ps).made
      flight_end = sym (ap (λ (s : Steps). w.flight ++ holds ws s.made) done) ∙ w.flight_same

      -- what the last writes make of the dispatcher
      abbrev g : Dispatcher → Dispatcher
      g q = applied_dispatcher q (local_from [] k) []

      -- its lists fit
      fits : ShapedDispatcher e (g (with_places x x.redelivery w.flight))
      unfolding applied_dispatcher local_from with_places
      fits =
          let f = v.here.lists_fit in
          let b : length w.flight ≤ e = let q = w.room in omega (arith, q) in
          let c : length (w.flight ++ []) ≤ e = rw (append-nil w.flight) b in
          let fewer : length (drop k.taken x.redelivery) ≤ e = rw (length-drop k.taken x.redelivery) (let q = f.queue_fits in omega (arith, q)) in
          record { ring_fits = f.ring_fits; outside_fits = f.outside_fits; queue_fits = fewer; flight_fits = c; marks_fit = f.marks_fit }

      -- it is the dispatcher as its service leaves it
      served_end : g (with_places x x.redelivery w.flight) ≡ served_dispatcher (decode ws) (service_of (decode ws) d ps)
      unfolding served_dispatcher applied_dispatcher local_from with_places
      served_end =
          ap₂ {A = Local} {B = List Held} {C = Dispatcher}
          (λ q i. of_parts x.pair x.attached q.next q.cursor x.mark_delete q.total (drop q.taken x.redelivery) i x.marks x.outside)
          last flight_end

      pub fits_end : ShapedDispatcher e (served_dispatcher (decode ws) (service_of (decode ws) d ps))
      fits_end = subst (λ (q : Dispatcher). ShapedDispatcher e q) served_end fits

      pub words_end : {vs : List ℕ} → vs ≡ put us (set_dispatcher (decode us) d (applied_dispatcher (dispatcher_nth (decode us) d) (local_from [] k) []))
          → vs ≡ put ws (set_dispatcher (decode ws) d (served_dispatcher (decode ws) (service_of (decode ws) d ps)))
      words_end {vs} a = (moved_on v.here w.moved g fits a).words ∙ ap (λ (q : Dispatcher). put ws (set_dispatcher (decode ws) d q)) served_end

-- ---- the end of a service

module _ {e d : ℕ} {ws us : List ℕ} (k : moved.Numbers) (h : DispatcherIn e ws d)
    (a : us ≡ put ws (set_dispatcher (decode ws) d
    (with_places (dispatcher_nth (decode ws) d) (drop k.taken (dispatcher_nth (decode ws) d).redelivery) (dispatcher_nth (decode ws) d).in_flight))) where
  -- the queue dropped
  dropped : Moved e d ws us (with_places (dispatcher_nth (decode ws) d) (drop k.taken (dispatcher_nth (decode ws) d).redelivery)
      (dispatcher_nth (decode ws) d).in_flight)
  unfolding with_places
  dropped =
      let x = dispatcher_nth (decode ws) d in
      let f = h.lists_fit in
      let fewer : length (drop k.taken x.redelivery) ≤ e = rw (length-drop k.taken x.redelivery) (let q = f.queue_fits in omega (arith, q)) in
      moved_on h (moved_start h) (λ q. with_places q (drop k.taken q.redelivery) q.in_flight)
      (record { ring_fits = f.ring_fits; outside_fits = f.outside_fits; queue_fits = fewer; flight_fits = f.flight_fits; marks_fit = f.marks_fit }) a

  -- the dispatcher is still there
  pub dropped_in : DispatcherIn e us d
  dropped_in = dropped.here

  -- then the numbers stored
  pub finished : {vs : List ℕ} → k.head.mark_delete ≡ (dispatcher_nth (decode ws) d).mark_delete
      → vs ≡ put us (set_dispatcher (decode us) d (with_head (dispatcher_nth (decode us) d) k.head))
      → vs ≡ put ws (set_dispatcher (decode ws) d (applied_dispatcher (dispatcher_nth (decode ws) d) (local_from [] k) []))
  unfolding with_places with_head applied_dispatcher local_from
  finished {vs} same b =
      let x = dispatcher_nth (decode ws) d in
      let f = dropped.here.lists_fit in
      let z : Dispatcher = with_places x (drop k.taken x.redelivery) x.in_flight in
      let g : ShapedDispatcher e z = rw (← dropped.now) f in
      (moved_on h dropped (λ p. with_head p k.head)
      (record {
        ring_fits = g.ring_fits;
        outside_fits = g.outside_fits;
        queue_fits = g.queue_fits;
        flight_fits = g.flight_fits;
        marks_fit =
            g.marks_fit;
      }) b).words
      ∙ ap₂ {A = ℕ} {B = List Held} {C = List ℕ}
      (λ n i.
      put ws (set_dispatcher (decode ws) d
      (of_parts x.pair x.attached k.head.next k.head.cursor n k.head.total_available_permits (drop k.taken x.redelivery) i x.marks x.outside)))
      same (sym (append-nil x.in_flight))
