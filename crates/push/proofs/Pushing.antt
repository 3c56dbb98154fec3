-- A whole push: the shared part written, then the plain part, is the push by plain numbers, which is the rules' push.
use mathlib.Core.Path.{◌≡◌, refl, sym, ap, ap₂, ◌∙◌, subst}
use mathlib.Core.Bool.{true}
use mathlib.Core.List.{List, [], ◌∷◌, ◌++◌, map}
use Prim.Native.Nat.{ℕ, zero, suc, ◌+◌, ◌*◌, ◌≤◌, ◌<◌}
use native.Mathlib.Nat.{le_of_suc-le-suc, not-suc-le-zero}
use native.Mathlib.Omega.{arith}
use lib.ListN.{length, get_or, length-append, length-drop, length-map}
use Rattle.std.proofs.lemmas.List.{take_rest}
use Rattle.words.specs.Codec.{All}
use Rattle.rules.specs.State.{Consumer, Dispatcher, State, with_consumers, with_dispatchers}
use Rattle.rules.specs.Outcome.{Dispatch}
use Rattle.layout.specs.Layout.{decode, put, spells}
use Rattle.layout.specs.Canon.{CanonStore}
use Rattle.layout.specs.Whole.{Shaped, ShapedDispatcher}
use Rattle.layout.specs.Fields.{zero_consumer, consumer_nth}
use Rattle.layout.proofs.Placed.{shaped_dispatchers}
use Rattle.operation_laws.proofs.Frame.{canon_of, canon_after, decode_after, then_write}
use Rattle.push_laws.specs.Local.{served}
use Rattle.push_laws.specs.Applied.{with_each}
use Rattle.push_laws.specs.Shared.{services, permits_left, all_service_records, served_dispatcher}
use Rattle.push_laws.specs.Plain.{plain_served, all_plain_records}
use Rattle.push_laws.specs.Whole.{permits_now, services_of, charged_consumers, local_push}
use Rattle.push_laws.proofs.Shared.{served_sized}
use Rattle.record.specs.Flat.{filled}
use Rattle.record.proofs.Filled.{filled_append, filled_rest, handed_back, rest}
use Rattle.push_plain.specs.Reading.{Readable}
use Rattle.push_plain.proofs.Same.{readable_now, readable_same, all_served_same, all_records_same}
use Rattle.push.specs.Bound.{most_due}
use Rattle.push.proofs.Most.{dispatched_most, most_small}

-- one number of permits for each consumer
pub length_permits : (s : State) → length (permits_now s) ≡ length s.consumers
unfolding permits_now
length_permits s = length-map s.consumers (λ (c : Consumer). c.permits)

-- of at most 32 consumers
pub consumers_few : (e : ℕ) (ws : List ℕ) → spells ws ≡ true → e ≡ (decode ws).entries → length (decode ws).consumers ≤ 32
consumers_few e ws p q = (canon_of e ws p q).shaped.consumers_fit

-- which are its own
pub permits_nth : (s : State) (i : ℕ) → i < length s.consumers → get_or (permits_now s) i 0 ≡ (consumer_nth s i).permits
unfolding permits_now
permits_nth s i h = go s.consumers i h
  where
    go : (l : List Consumer) (i : ℕ) → i < length l → get_or (map (λ (c : Consumer). c.permits) l) i 0 ≡ (get_or l i zero_consumer).permits
    go [] i h = absurd (not-suc-le-zero h)
    go (c ∷ l) zero h = refl
    go (c ∷ l) (suc i) h = go l i (le_of_suc-le-suc h)

-- a service for each dispatcher
length_services : (s : State) (ds : List Dispatcher) (ps : List ℕ) → length (services s ds ps) ≡ length ds
unfolding services
length_services s [] ps = refl
length_services s (d ∷ ds) ps = ap suc (length_services s ds (served s d ps).after.permits)

-- the services keep the number of permits
pub length_left : (s : State) (ds : List Dispatcher) (ps : List ℕ) → length (permits_left ps (services s ds ps)) ≡ length ps
unfolding services permits_left
length_left s [] ps = refl
length_left s (d ∷ ds) ps = length_left s ds (served s d ps).after.permits ∙ served_sized s d ps

module _ (s : State) where
  -- the permits that the services leave
  abbrev pub left : List ℕ
  left = permits_left (permits_now s) (services s s.dispatchers (permits_now s))

  -- one number for each consumer
  pub left_sized : length left ≡ length s.consumers
  left_sized = length_left s s.dispatchers (permits_now s) ∙ length_permits s

  -- the records of the shared part, and of the plain part
  abbrev pub shared_records : List Dispatch
  shared_records = all_service_records s (services s s.dispatchers (permits_now s))

  abbrev pub plain_records : List Dispatch
  plain_records = all_plain_records s (with_each s.consumers left)

  -- all records
  pub all_records : shared_records ++ plain_records ≡ (local_push s).dispatched
  unfolding local_push services_of charged_consumers
  all_records = refl

  -- their number
  pub all_counted : length shared_records + length plain_records ≡ length (local_push s).dispatched
  all_counted = sym (length-append shared_records plain_records) ∙ ap length all_records

  -- the dispatchers after it
  abbrev pub served_rows : List Dispatcher
  served_rows = map (served_dispatcher s) (services s s.dispatchers (permits_now s))

-- ---- how many there can be

-- no more than wait
pub due_most : (s : State) → length (local_push s).dispatched ≤ most_due s
due_most s =
    let a = dispatched_most s (permits_now s) (left s) in
    let b = all_counted s in
    omega (arith, a, b)

-- which is small
pub due_small : (s : State) → Shaped s → length (local_push s).dispatched ≤ 198656
due_small s h =
    let a = due_most s in
    let b = most_small s h in
    omega (arith, a, b)

module _ {e : ℕ} (ws : List ℕ) (spelt : spells ws ≡ true) (E : e ≡ (decode ws).entries) (fit : All (ShapedDispatcher e) (served_rows (decode ws))) where
  abbrev s : State
  s = decode ws

  -- the state after the shared part
  abbrev T : State
  T = with_dispatchers s (served_rows s)

  shaped : Shaped T
  shaped =
      let h = (canon_of e ws spelt E).shaped in
      shaped_dispatchers s h (served_rows s)
      (rw (length-map (services s s.dispatchers (permits_now s)) (served_dispatcher s), length_services s s.dispatchers (permits_now s)) h.dispatchers_fit)
      (subst (λ (n : ℕ). All (ShapedDispatcher n) (served_rows s)) E fit)

  module _ {us : List ℕ} (a : us ≡ put ws T) where
    state_now : decode us ≡ T
    state_now = decode_after ws T shaped a

    pub canon_now : CanonStore e us
    unfolding with_dispatchers
    canon_now = canon_after ws T shaped (sym E) a

    consumers_now : (decode us).consumers ≡ s.consumers
    unfolding with_dispatchers
    consumers_now = ap (λ (t : State). t.consumers) state_now

    topics_now : (decode us).topics ≡ s.topics
    unfolding with_dispatchers
    topics_now = ap (λ (t : State). t.topics) state_now

    -- what the plain part needs of the store
    pub readable_on : Readable (decode us)
    readable_on = readable_same s (decode us) topics_now consumers_now (readable_now ws spelt)

    module _ {qs : List ℕ} (b : qs ≡ left s) where
      pub permits_on : length qs ≡ length (decode us).consumers
      permits_on = ap length b ∙ left_sized s ∙ sym (ap length consumers_now)

      -- its records
      records_now : all_plain_records (decode us) (with_each (decode us).consumers qs) ≡ plain_records s
      records_now =
          ap₂ {A = List Consumer} {B = List ℕ} {C = List Dispatch} (λ l q. all_plain_records (decode us) (with_each l q)) consumers_now b
          ∙ all_records_same s (decode us) topics_now (with_each s.consumers (left s))

      -- a list with room for all records has room for them behind those of the shared part
      pub room_on : {m : ℕ} (ks : List ℕ) → m ≡ length (shared_records s) → length (local_push s).dispatched * 13 ≤ length ks
          → length (all_plain_records (decode us) (with_each (decode us).consumers qs)) * 13 ≤ length (rest (m * 13) ks)
      room_on {m} ks q r =
          let c = all_counted s in
          rw (records_now, take_rest ks (m * 13), length-drop (m * 13) ks) (omega (arith, c, q, r))

      -- how many are made
      pub pushed_count : {m n : ℕ} → m ≡ length (shared_records s) → n ≡ length (all_plain_records (decode us) (with_each (decode us).consumers qs))
          → m + n ≡ length (local_push s).dispatched
      pushed_count {m} {n} q v =
          let c = all_counted s in
          let r : length (all_plain_records (decode us) (with_each (decode us).consumers qs)) ≡ length (plain_records s) = ap length records_now in
          omega (arith, c, q, r, v)

      -- the store at the end
      pub pushed_words : {vs : List ℕ} → vs ≡ put us (with_consumers (decode us) (map (plain_served (decode us)) (with_each (decode us).consumers qs)))
          → vs ≡ put ws (local_push s).state
      unfolding local_push services_of charged_consumers with_consumers with_dispatchers
      pushed_words {vs} v =
          let f : State → State = λ t. with_consumers t (map (plain_served s) (with_each s.consumers (left s))) in
          let same : map (plain_served (decode us)) (with_each (decode us).consumers qs) ≡ map (plain_served s) (with_each s.consumers (left s)) =
          ap₂ {A = List Consumer} {B = List ℕ} {C = List Consumer} (λ l q. map (plain_served (decode us)) (with_each l q)) consumers_now b
          ∙ all_served_same s (decode us) topics_now (with_each s.consumers (left s)) in
          then_write ws T f shaped refl a (v ∙ ap (λ (l : List Consumer). put us (with_consumers (decode us) l)) same)

      -- the list at the end
      pub pushed_records : {ns : List ℕ} (ks ls : List ℕ) (m : ℕ) → m ≡ length (shared_records s) → ks ≡ filled ls 0 (shared_records s) → m * 13 ≤ length ks
          → ns ≡ filled (rest (m * 13) ks) 0 (all_plain_records (decode us) (with_each (decode us).consumers qs))
          → handed_back (m * 13) ks ns ≡ filled ls 0 (local_push s).dispatched
      pushed_records ks ls m q k room v =
          let zero_first : 0 + length (shared_records s) ≡ m = omega (arith, q) in
          filled_rest m ks (plain_records s) room (v ∙ ap (λ (x : List Dispatch). filled (rest (m * 13) ks) 0 x) records_now)
          ∙ ap (λ (r : List ℕ). filled r m (plain_records s)) k
          ∙ ap (λ (j : ℕ). filled (filled ls 0 (shared_records s)) j (plain_records s)) (sym zero_first)
          ∙ sym (filled_append ls 0 (shared_records s) (plain_records s))
          ∙ ap (λ (x : List Dispatch). filled ls 0 x) (all_records s)

-- what is counted, shared part and plain part by the permits that the shared part leaves, is the number due
pub due_sum : (s : State) {q l : List ℕ} {a b : ℕ} → q ≡ permits_now s → a ≡ length (all_service_records s (services s s.dispatchers q))
    → l ≡ permits_left q (services s s.dispatchers q) → b ≡ length (all_plain_records s (with_each s.consumers l))
    → a + b ≡ length (local_push s).dispatched
due_sum s p f g h =
    let a = f ∙ ap (λ (q : List ℕ). length (all_service_records s (services s s.dispatchers q))) p in
    let l = g ∙ ap (λ (q : List ℕ). permits_left q (services s s.dispatchers q)) p in
    let b = h ∙ ap (λ (q : List ℕ). length (all_plain_records s (with_each s.consumers q))) l in
    ap₂ {A = ℕ} {B = ℕ} {C = ℕ} ◌+◌ a b ∙ all_counted s
