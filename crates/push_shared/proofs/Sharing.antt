-- The dispatchers served one after the other: those before d are as their services left them, those from d on as they were.
-- What is left to serve, with what is written, is the whole.
use mathlib.Core.Path.{◌≡◌, refl, sym, ap, ap₂, ◌∙◌, subst}
use mathlib.Core.Bool.{true}
use mathlib.Core.List.{List, [], ◌∷◌, ◌++◌, map}
use Prim.Native.Nat.{ℕ, suc, ◌+◌, ◌-◌, ◌*◌, ◌≤◌, ◌<◌}
use native.Mathlib.Omega.{arith}
use native.Mathlib.Numerals.{add-one}
use Rattle.std.proofs.lemmas.List.{take_rest}
use lib.ListN.{length, get_or, set, drop, length-append, length-map, length-drop, drop_of_length-le}
use lib.Seq.{drop-cons, append_snoc, set_at, get_or_at}
use Rattle.words.specs.Codec.{All}
use Rattle.words.proofs.Each.{all_set}
use Rattle.rules.specs.State.{Dispatcher, State, topic_of, ledger_of, with_dispatchers}
use Rattle.rules.specs.Valid.{ValidDispatcher}
use Rattle.rules.specs.Outcome.{Dispatch}
use Rattle.rules.proofs.Kept.Frame.{move_dispatcher}
use Rattle.layout.specs.Layout.{decode, put, spells}
use Rattle.layout.specs.Canon.{CanonStore}
use Rattle.layout.specs.Whole.{Shaped, ShapedDispatcher}
use Rattle.layout.specs.Fields.{zero_dispatcher, dispatcher_nth, set_dispatcher}
use Rattle.layout.proofs.Store.{canon_entries, put_decode}
use Rattle.layout.proofs.Placed.{dispatcher_in, shaped_dispatchers}
use Rattle.operation_laws.proofs.Frame.{canon_of, canon_after, decode_after, then_write, valid_now, every_nth}
use Rattle.push_laws.specs.Local.{Steps, fixed_of, served, turns_of}
use Rattle.push_laws.specs.Applied.{record_of, held_of}
use Rattle.push_laws.specs.Shared.{Service, services, permits_left, service_records, all_service_records, served_dispatcher}
use Rattle.push_laws.proofs.Shared.{served_sized}
use Rattle.record.specs.Flat.{filled}
use Rattle.record.proofs.Filled.{filled_append, filled_length, rest}
use Rattle.push_turn.proofs.Totals.{services_from, services_step}
use Rattle.push_shared.specs.Service.{service_of, Ready}

-- ---- a state with other dispatchers serves a dispatcher the same

module _ (s : State) (ds : List Dispatcher) where
  abbrev T : State
  T = with_dispatchers s ds

  -- its steps
  steps_same : (x : Dispatcher) (ps : List ℕ) → served T x ps ≡ served s x ps
  unfolding served turns_of fixed_of with_dispatchers ledger_of topic_of
  steps_same x ps = refl

  -- what it leaves
  served_same : (v : Service) → served_dispatcher T v ≡ served_dispatcher s v
  unfolding served_dispatcher held_of with_dispatchers
  served_same v = refl

  -- its records
  records_same : (v : Service) → service_records T v ≡ service_records s v
  unfolding service_records record_of fixed_of with_dispatchers ledger_of topic_of
  records_same v = refl

-- from the words ws, the permits ps and the list ls: now the words us, and the same for the others, with m records written
pub record Sharing (e : ℕ) (ws ps ls us qs ks : List ℕ) (d m : ℕ) : Type 0 where
  pub done : List Dispatcher
  pub size : length done ≡ d
  pub looked : d ≤ length (decode ws).dispatchers
  pub words : us ≡ put ws (with_dispatchers (decode ws) (done ++ drop d (decode ws).dispatchers))
  pub fit : All (ShapedDispatcher (decode ws).entries) (done ++ drop d (decode ws).dispatchers)
  pub whole : done ++ map (served_dispatcher (decode ws)) (services_from (decode ws) d qs)
      ≡ map (served_dispatcher (decode ws)) (services (decode ws) (decode ws).dispatchers ps)
  pub ends : permits_left qs (services_from (decode ws) d qs) ≡ permits_left ps (services (decode ws) (decode ws).dispatchers ps)
  pub records : filled ks m (all_service_records (decode ws) (services_from (decode ws) d qs))
      ≡ filled ls 0 (all_service_records (decode ws) (services (decode ws) (decode ws).dispatchers ps))
  pub count : m + length (all_service_records (decode ws) (services_from (decode ws) d qs))
      ≡ length (all_service_records (decode ws) (services (decode ws) (decode ws).dispatchers ps))
  pub sized : length qs ≡ length (decode ws).consumers
  pub as_long : length ks ≡ length ls

module _ {e : ℕ} (ws : List ℕ) (spelt : spells ws ≡ true) (E : e ≡ (decode ws).entries) where
  abbrev s : State
  s = decode ws

  abbrev ds : List Dispatcher
  ds = s.dispatchers

  canon : CanonStore e ws
  canon = canon_of e ws spelt E

  -- nothing is served yet
  pub sharing_start : (ps ls : List ℕ) → length ps ≡ length s.consumers → Sharing e ws ps ls ws ps ls 0 0
  unfolding with_dispatchers
  sharing_start ps ls a =
      record {
        done = [];
        size = refl;
        looked = omega arith;
        words = sym (put_decode canon);
        fit = canon.shaped.each_dispatcher;
        whole = refl;
        ends = refl;
        records = refl;
        count = omega arith;
        sized = a;
        as_long = refl;
      }

  module _ {ps ls us qs ks : List ℕ} {d m : ℕ} (w : Sharing e ws ps ls us qs ks d m) where
    -- the dispatchers now
    abbrev rows : List Dispatcher
    rows = w.done ++ drop d ds

    as_many : length rows ≡ length ds
    as_many =
        let a : length rows ≡ length w.done + length (drop d ds) = length-append w.done (drop d ds) in
        let b : length (drop d ds) ≡ length ds - d = length-drop d ds in
        let c = w.size in
        let k = w.looked in
        omega (arith, a, b, c, k)

    -- the state fits, and is what the store says
    shaped : Shaped (with_dispatchers s rows)
    shaped = let h = canon.shaped in shaped_dispatchers s h rows (rw as_many h.dispatchers_fit) w.fit

    state_now : decode us ≡ with_dispatchers s rows
    state_now = decode_after ws (with_dispatchers s rows) shaped w.words

    canon_now : CanonStore e us
    unfolding with_dispatchers
    canon_now = canon_after ws (with_dispatchers s rows) shaped (canon_entries canon) w.words

    -- as many dispatchers are left in the store
    pub dispatchers_now : length (decode us).dispatchers ≡ length ds
    unfolding with_dispatchers
    dispatchers_now = ap (λ (t : State). length t.dispatchers) state_now ∙ as_many

    -- the permits are one for each consumer
    pub permits_now : length qs ≡ length (decode us).consumers
    unfolding with_dispatchers
    permits_now = w.sized ∙ sym (ap (λ (t : State). length t.consumers) state_now)

    module _ (l : d < length ds) where
      abbrev x : Dispatcher
      x = dispatcher_nth s d

      -- the next dispatcher is as it was
      row_now : rows ≡ w.done ++ x ∷ drop (suc d) ds
      row_now = ap (λ (r : List Dispatcher). w.done ++ r) (drop-cons ds d zero_dispatcher l)

      next_now : dispatcher_nth (decode us) d ≡ x
      unfolding with_dispatchers
      next_now =
          ap (λ (t : State). get_or t.dispatchers d zero_dispatcher) state_now
          ∙ ap (λ (r : List Dispatcher). get_or r d zero_dispatcher) row_now
          ∙ get_or_at w.done x (drop (suc d) ds) zero_dispatcher d w.size

      -- it can be served
      pub ready_next : Ready e us d
      unfolding with_dispatchers ledger_of topic_of
      ready_next =
          let v = valid_now ws spelt in
          let one : ValidDispatcher s x = every_nth ds d zero_dispatcher v.tables.each_dispatcher l in
          record {
            here = dispatcher_in canon_now d (rw dispatchers_now l);
            dispatcher_valid = rw (next_now, state_now) (move_dispatcher s (with_dispatchers s rows) x refl one);
            topics_valid = rw state_now v.tables.each_topic;
          }

      abbrev v : Service
      v = service_of s d qs

      -- its service is that of the state at first
      service_now : service_of (decode us) d qs ≡ v
      service_now =
          ap₂ {A = State} {B = Dispatcher} {C = Service} (λ t y. record { dispatcher = y; steps = served t y qs }) state_now next_now
          ∙ ap (λ (r : Steps). record { dispatcher = x; steps = r }) (steps_same s rows x qs)

      steps_now : served (decode us) (dispatcher_nth (decode us) d) qs ≡ served s x qs
      steps_now = ap (λ (y : Service). y.steps) service_now

      left_by_service : served_dispatcher (decode us) (service_of (decode us) d qs) ≡ served_dispatcher s v
      left_by_service = ap₂ {A = State} {B = Service} {C = Dispatcher} served_dispatcher state_now service_now ∙ served_same s rows v

      its_records : service_records (decode us) (service_of (decode us) d qs) ≡ service_records s v
      its_records = ap₂ {A = State} {B = Service} {C = List Dispatch} service_records state_now service_now ∙ records_same s rows v

      counted : length (all_service_records s (services_from s d qs))
          ≡ length (served s x qs).made + length (all_service_records s (services_from s (suc d) v.steps.after.permits))
      unfolding all_service_records service_records
      counted =
          ap (λ (r : List Service). length (all_service_records s r)) (services_step s qs d l)
          ∙ length-append (service_records s v) (all_service_records s (services_from s (suc d) v.steps.after.permits))
          ∙ ap (λ (n : ℕ). n + length (all_service_records s (services_from s (suc d) v.steps.after.permits)))
          (length-map (served s x qs).made (record_of s (fixed_of s x)))

      -- the list has room for the records up to its own
      pub room_whole : length (all_service_records s (services s ds ps)) * 13 ≤ length ls
          → (m + length (served (decode us) (dispatcher_nth (decode us) d) qs).made) * 13 ≤ length ks
      room_whole r =
          let a = counted in
          let b = w.count in
          let c = w.as_long in
          rw steps_now (omega (arith, a, b, c, r))

      -- so the rest behind those before it has room for its own
      pub room_next : length (all_service_records s (services s ds ps)) * 13 ≤ length ls
          → length (served (decode us) (dispatcher_nth (decode us) d) qs).made * 13 ≤ length (rest (m * 13) ks)
      room_next r = let a = room_whole r in rw (take_rest ks (m * 13), length-drop (m * 13) ks) (omega (arith, a))

      -- it is served
      module _ {vs rs ns : List ℕ} (k : ℕ)
          (a : vs ≡ put us (set_dispatcher (decode us) d (served_dispatcher (decode us) (service_of (decode us) d qs))))
          (b : rs ≡ (served (decode us) (dispatcher_nth (decode us) d) qs).after.permits)
          (c : ns ≡ filled ks m (service_records (decode us) (service_of (decode us) d qs)))
          (q : k ≡ length (served (decode us) (dispatcher_nth (decode us) d) qs).made)
          (f : ShapedDispatcher e (served_dispatcher (decode us) (service_of (decode us) d qs))) where
        abbrev y : Dispatcher
        y = served_dispatcher s v

        -- the rows after it
        rows_on : set rows d y ≡ w.done ++ y ∷ [] ++ drop (suc d) ds
        rows_on =
            ap (λ (r : List Dispatcher). set r d y) row_now ∙ set_at w.done x (drop (suc d) ds) y d w.size
            ∙ sym (append_snoc w.done y (drop (suc d) ds))

        words_on : vs ≡ put ws (with_dispatchers s (w.done ++ y ∷ [] ++ drop (suc d) ds))
        unfolding set_dispatcher with_dispatchers
        words_on =
            then_write ws (with_dispatchers s rows) (λ (t : State). set_dispatcher t d y) shaped refl w.words
            (a ∙ ap (λ (z : Dispatcher). put us (set_dispatcher (decode us) d z)) left_by_service)
            ∙ ap (λ (r : List Dispatcher). put ws (with_dispatchers s r)) rows_on

        fit_on : All (ShapedDispatcher s.entries) (w.done ++ y ∷ [] ++ drop (suc d) ds)
        fit_on =
            let fits : ShapedDispatcher e y = subst (λ (z : Dispatcher). ShapedDispatcher e z) left_by_service f in
            let here : ShapedDispatcher s.entries y = subst (λ (n : ℕ). ShapedDispatcher n y) E fits in
            subst (λ (r : List Dispatcher). All (ShapedDispatcher s.entries) r) rows_on (all_set (ShapedDispatcher s.entries) rows d y w.fit here)

        after_on : rs ≡ v.steps.after.permits
        after_on = b ∙ ap (λ (r : Steps). r.after.permits) steps_now

        on : services_from s d qs ≡ v ∷ services_from s (suc d) rs
        on = rw after_on (services_step s qs d l)

        pub sharing_on : Sharing e ws ps ls vs rs ns (d + 1) (m + k)
        unfolding permits_left all_service_records service_records
        sharing_on =
            let made : ℕ = length (served s x qs).made in
            let q' : m + k ≡ m + made = ap (λ (j : ℕ). m + j) (q ∙ ap (λ (r : Steps). length r.made) steps_now) in
            let z : List Dispatch = service_records s v in
            let many : length z ≡ made = length-map (served s x qs).made (record_of s (fixed_of s x)) in
            let before = w.count in
            let first = ap (λ (r : List Service). length (all_service_records s r)) on in
            let parts = length-append z (all_service_records s (services_from s (suc d) rs)) in
            rw (add-one d)
            (record {
              done = w.done ++ y ∷ [];
              size = length-append w.done (y ∷ []) ∙ rw w.size (add-one d);
              looked = l;
              words = words_on;
              fit = fit_on;
              whole =
                  append_snoc w.done y (map (served_dispatcher s) (services_from s (suc d) rs))
                  ∙ sym (ap (λ (r : List Service). w.done ++ map (served_dispatcher s) r) on) ∙ w.whole;
              ends =
                  ap (λ (r : List ℕ). permits_left r (services_from s (suc d) rs)) after_on
                  ∙ sym (ap (λ (r : List Service). permits_left qs r) on) ∙ w.ends;
              records =
                  ap₂ {A = List ℕ} {B = ℕ} {C = List ℕ} (λ r j. filled r j (all_service_records s (services_from s (suc d) rs)))
                  (c ∙ ap (λ (r : List Dispatch). filled ks m r) its_records) (q' ∙ ap (λ (j : ℕ). m + j) (sym many))
                  ∙ sym (filled_append ks m z (all_service_records s (services_from s (suc d) rs)))
                  ∙ sym (ap (λ (r : List Service). filled ks m (all_service_records s r)) on) ∙ w.records;
              count = omega (arith, q', many, before, first, parts);
              sized = ap length after_on ∙ served_sized s x qs ∙ w.sized;
              as_long = ap length c ∙ filled_length ks m (service_records (decode us) (service_of (decode us) d qs)) ∙ w.as_long;
            })

    -- all are served
    module _ (l : length ds ≤ d) where
      none_left : drop d ds ≡ []
      none_left = drop_of_length-le ds l

      no_service : services_from s d qs ≡ []
      unfolding services
      no_service = ap (λ (r : List Dispatcher). services s r qs) none_left

      all_done : w.done ++ [] ≡ map (served_dispatcher s) (services s ds ps)
      all_done = sym (ap (λ (r : List Service). w.done ++ map (served_dispatcher s) r) no_service) ∙ w.whole

      pub words_end : us ≡ put ws (with_dispatchers s (map (served_dispatcher s) (services s ds ps)))
      words_end =
          w.words ∙ ap (λ (r : List Dispatcher). put ws (with_dispatchers s (w.done ++ r))) none_left
          ∙ ap (λ (r : List Dispatcher). put ws (with_dispatchers s r)) all_done

      pub permits_end : qs ≡ permits_left ps (services s ds ps)
      unfolding permits_left
      permits_end = sym (ap (λ (r : List Service). permits_left qs r) no_service) ∙ w.ends

      pub records_end : ks ≡ filled ls 0 (all_service_records s (services s ds ps))
      unfolding filled all_service_records
      records_end = sym (ap (λ (r : List Service). filled ks m (all_service_records s r)) no_service) ∙ w.records

      pub count_end : m ≡ length (all_service_records s (services s ds ps))
      unfolding all_service_records
      count_end =
          let a : length (all_service_records s (services_from s d qs)) ≡ 0 = ap (λ (r : List Service). length (all_service_records s r)) no_service in
          let b = w.count in
          omega (arith, a, b)

      pub fits_end : All (ShapedDispatcher e) (map (served_dispatcher s) (services s ds ps))
      fits_end =
          let a : rows ≡ map (served_dispatcher s) (services s ds ps) = ap (λ (r : List Dispatcher). w.done ++ r) none_left ∙ all_done in
          let b : All (ShapedDispatcher s.entries) (map (served_dispatcher s) (services s ds ps)) =
          subst (λ (r : List Dispatcher). All (ShapedDispatcher s.entries) r) a w.fit in
          subst (λ (n : ℕ). All (ShapedDispatcher n) (map (served_dispatcher s) (services s ds ps))) (sym E) b
