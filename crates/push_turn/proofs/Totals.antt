-- The services of the dispatchers one after the other: what is ahead, with what was counted, is the whole.
use mathlib.Core.Path.{◌≡◌, refl, sym, ap, ◌∙◌}
use mathlib.Core.List.{List, [], ◌∷◌}
use Prim.Native.Nat.{ℕ, suc, ◌+◌, ◌*◌, ◌≤◌, ◌<◌}
use native.Mathlib.Numerals.{add-one}
use native.Mathlib.Omega.{arith}
use lib.ListN.{length, drop, drop_of_length-le, length-append, length-map}
use lib.Seq.{drop-cons}
use Rattle.rules.specs.State.{Dispatcher, State}
use Rattle.layout.specs.Fields.{zero_dispatcher, dispatcher_nth}
use Rattle.push_laws.specs.Local.{fixed_of, served}
use Rattle.push_laws.specs.Applied.{record_of}
use Rattle.push_laws.specs.Shared.{Service, services, permits_left, service_records, all_service_records}

module _ (s : State) where
  -- the services from a dispatcher on, from some permits
  abbrev pub services_from : ℕ → List ℕ → List Service
  services_from d permits = services s (drop d s.dispatchers) permits

  -- what is ahead, with what was counted, is the whole; each service counts at most 8,193
  pub record Carried (start permits : List ℕ) (d count : ℕ) : Type 0 where
    pub records : count + length (all_service_records s (services_from d permits)) ≡ length (all_service_records s (services s s.dispatchers start))
    pub ends : permits_left permits (services_from d permits) ≡ permits_left start (services s s.dispatchers start)
    pub few : count ≤ d * 8193

  -- at the start
  pub carried_start : (start : List ℕ) → Carried start start 0 0
  carried_start start = record { records = omega arith; ends = refl; few = omega arith }

  -- the service of a dispatcher and those after it
  pub services_step : (permits : List ℕ) (d : ℕ) → d < length s.dispatchers
      → services_from d permits
      ≡ record { dispatcher = dispatcher_nth s d; steps = served s (dispatcher_nth s d) permits } ∷ services_from (suc d)
      (served s (dispatcher_nth s d) permits).after.permits
  unfolding services
  services_step permits d k = ap (λ (l : List Dispatcher). services s l permits) (drop-cons s.dispatchers d zero_dispatcher k)

  module _ (start permits : List ℕ) (d count : ℕ) (h : Carried start permits d count) where
    -- one dispatcher further
    pub carried_on : (after : List ℕ) (r : ℕ) → d < length s.dispatchers → r ≡ length (served s (dispatcher_nth s d) permits).made
        → after ≡ (served s (dispatcher_nth s d) permits).after.permits → r ≤ 8193 → Carried start after (d + 1) (count + r)
    unfolding permits_left all_service_records service_records
    carried_on after r k q a b =
        let x : Service = record { dispatcher = dispatcher_nth s d; steps = served s (dispatcher_nth s d) permits } in
        let u : services_from d permits ≡ x ∷ services_from (d + 1) after = rw (a, add-one d) (services_step permits d k) in
        let g = ap (λ (l : List Service). length (all_service_records s l)) u in
        let y = length-append (service_records s x) (all_service_records s (services_from (d + 1) after)) in
        let z = length-map (served s (dispatcher_nth s d) permits).made (record_of s (fixed_of s (dispatcher_nth s d))) in
        let w = ap (λ (l : List Service). permits_left permits l) u in
        let e : permits_left after (services_from (d + 1) after) ≡ permits_left permits (services_from d permits) =
        ap (λ (l : List ℕ). permits_left l (services_from (d + 1) after)) a ∙ sym w in
        let p = h.records in
        let f = h.few in
        record { records = omega arith; ends = e ∙ h.ends; few = omega arith }

    -- at the end
    pub carried_end : length s.dispatchers ≤ d
        → (count ≡ length (all_service_records s (services s s.dispatchers start))) × (permits ≡ permits_left start (services s s.dispatchers start))
    unfolding services permits_left all_service_records
    carried_end k =
        let u : services_from d permits ≡ [] = rw (drop_of_length-le s.dispatchers k) in
        let g = ap (λ (l : List Service). length (all_service_records s l)) u in
        let w = ap (λ (l : List Service). permits_left permits l) u in
        let p = h.records in
        (omega arith, sym w ∙ h.ends)
