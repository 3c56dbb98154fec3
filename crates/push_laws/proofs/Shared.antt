-- The shared part of a push is the services of its dispatchers, one after the other, applied.
use mathlib.Core.Path.{◌≡◌, refl, sym, ap, ap₂, ◌∙◌, fun_ext}
use mathlib.Core.Bool.{true, false}
use mathlib.Core.List.Memᴰ
use mathlib.Core.List.{List, [], ◌∷◌, ◌++◌, map, append_assoc, append-nil, Memᴰ}
use mathlib.Core.Logic.{⊎_elim}
use mathlib.Core.Option.{some}
use Prim.Native.Nat.{ℕ, suc, ◌+◌, ◌-◌}
use lib.ListN.{length, length-map}
use Rattle.rules.specs.Table.{Key, find, put, or_else, Every, Distinct}
use Rattle.rules.specs.State.{same_pair, Consumer, Held, Dispatcher, State, by_id, by_pair, topic_of, ledger_of, dispatcher_of, dispatcher, with_tables}
use Rattle.rules.specs.State.{with_consumers, with_dispatchers, put_dispatcher}
use Rattle.rules.specs.Valid.{Ascending}
use Rattle.rules.specs.Dispatcher.{of_parts}
use Rattle.rules.specs.Outcome.{Dispatch}
use Rattle.rules.specs.Push.{Pushed, turns, shared_turn, serve_dispatcher, serve_each, push_pending_shared}
use Rattle.rules.proofs.Table.{turned_round}
use Rattle.rules.proofs.State.{decides_pairs}
use Rattle.rules.proofs.Kept.Every.{every_snoc}
use Rattle.layout.specs.Fields.{zero_consumer}
use Rattle.store.specs.Find.{slot}
use Rattle.push_laws.specs.Local.{Fixed, Local, Step, Steps, local_turns, fixed_of, local_of, turns_of, served}
use Rattle.push_laws.specs.Applied.{with_each, record_to, record_of, held_of, applied_dispatcher, applied}
use Rattle.push_laws.specs.Shared.{Service, services, permits_left, service_records, all_service_records, served_dispatcher, served_state}
use Rattle.push_laws.proofs.Each.{length_each, slot_each, each_own, each_each, id_each, ascending_each}
use Rattle.push_laws.proofs.Turns.{turns_sized, turns_same}

-- ---- a row in the middle of a table

module _ {A K : Type 0} (k : Key A K) where
  -- no row has a key
  abbrev pub Without : K → List A → Type 0
  Without j l = Every (λ (a : A). k.same j (k.key a) ≡ false) l

  pub find_here : (j : K) (l : List A) (a : A) (m : List A) → Without j l → k.same j (k.key a) ≡ true → find k j (l ++ a ∷ m) ≡ some a
  unfolding find
  find_here j [] a m w e = rw e
  find_here j (x ∷ l) a m w e = rw (w x (Memᴰ.head refl)) (find_here j l a m (λ y i. w y (Memᴰ.tail i)) e)

  pub put_here : (b : A) (l : List A) (a : A) (m : List A) → Without (k.key b) l → k.same (k.key b) (k.key a) ≡ true → put k b (l ++ a ∷ m) ≡ l ++ b ∷ m
  unfolding put
  put_here b [] a m w e = rw e
  put_here b (x ∷ l) a m w e = rw (w x (Memᴰ.head refl)) (ap (λ (r : List A). x ∷ r) (put_here b l a m (λ y i. w y (Memᴰ.tail i)) e))

-- ---- what stays while others are served

module _ (s : State) (P : List ℕ) (ds : List Dispatcher) where
  abbrev S : State
  S = served_state s P ds

  held_stays : (x : Step) → held_of S x ≡ held_of s x
  unfolding held_of served_state
  held_stays x = ap (λ (i : ℕ). record { holder = i; position = x.position }) (id_each s.consumers P x.consumer zero_consumer)

  record_stays : (f : Fixed) (x : Step) → record_of S f x ≡ record_of s f x
  unfolding record_of served_state
  record_stays f x = ap (λ (i : ℕ). record_to i f x) (id_each s.consumers P x.consumer zero_consumer)

  ring_stays : (ids : List ℕ) → map (λ (i : ℕ). slot by_id i (with_each s.consumers P)) ids ≡ map (λ (i : ℕ). slot by_id i s.consumers) ids
  ring_stays [] = refl
  ring_stays (i ∷ ids) = ap₂ {A = ℕ} {B = List ℕ} ◌∷◌ (slot_each i s.consumers P) (ring_stays ids)

  fixed_stays : (d : Dispatcher) → fixed_of S d ≡ fixed_of s d
  unfolding fixed_of served_state ledger_of topic_of
  fixed_stays d = ap (λ (r : List ℕ). record { ring = r; queue = d.redelivery; ledger = ledger_of s d.pair.topic; marks = d.marks }) (ring_stays d.attached)

-- ---- one dispatcher served among others

module _ (s : State) (P : List ℕ) (done : List Dispatcher) (d : Dispatcher) (rest : List Dispatcher)
    (w : Without by_pair d.pair done) (sized : length P ≡ length s.consumers) (a : Ascending s.consumers) where
  abbrev T : State
  T = served_state s P (done ++ d ∷ rest)

  -- the service applied so far, as permits and dispatchers
  applied_is : (l : Local) (added : List Held) → applied T d l added ≡ served_state s l.permits (done ++ applied_dispatcher d l added ∷ rest)
  unfolding applied served_state put_dispatcher with_dispatchers with_consumers applied_dispatcher
  applied_is l added =
      ap₂ {A = List Consumer} {B = List Dispatcher} (λ x y. with_tables s s.topics x y) (each_each s.consumers P l.permits)
      (put_here by_pair (applied_dispatcher d l added) done d rest w (decides_pairs.self d.pair))

  -- nothing applied yet
  start_same : applied T d (local_of d P) [] ≡ T
  unfolding applied_dispatcher local_of
  start_same = applied_is (local_of d P) [] ∙ ap (λ (h : List Held). served_state s P (done ++ of_held h ∷ rest)) (append-nil d.in_flight)
    where
      of_held : List Held → Dispatcher
      of_held h = of_parts d.pair d.attached d.next d.cursor d.mark_delete d.total_available_permits d.redelivery h d.marks d.outside

  -- it is the pair's dispatcher
  here : dispatcher T d.pair ≡ d
  unfolding dispatcher dispatcher_of or_else served_state
  here = rw (find_here by_pair d.pair done d rest w (decides_pairs.self d.pair))

  -- its service
  abbrev steps : Steps
  steps = served s d P

  -- what the rules' turns come to, with the fixed part f and the records and entries read off by r and h
  abbrev came_to : Fixed → (Step → Dispatch) → (Step → Held) → Pushed
  came_to f r h =
      let x = local_turns (turns_of s d) f (local_of d P) in
      record { dispatched = map r x.made; state = applied T d x.after (map h x.made) }

  turns_here : turns (turns_of s d) (shared_turn d.pair) T ≡ came_to (fixed_of T d) (record_of T (fixed_of T d)) (held_of T)
  unfolding served_state local_of
  turns_here =
      ap (λ (x : State). turns (turns_of s d) (shared_turn d.pair) x) (sym start_same)
      ∙ turns_same T d (ascending_each s.consumers P a) (turns_of s d) (local_of d P) [] (sized ∙ sym (length_each s.consumers P))

  came_same : came_to (fixed_of T d) (record_of T (fixed_of T d)) (held_of T) ≡ came_to (fixed_of s d) (record_of s (fixed_of s d)) (held_of s)
  came_same =
      ap (λ (f : Fixed). came_to f (record_of T f) (held_of T)) (fixed_stays s P (done ++ d ∷ rest) d)
      ∙ ap₂ {A = Step → Dispatch} {B = Step → Held} (λ r h. came_to (fixed_of s d) r h)
      (fun_ext (record_stays s P (done ++ d ∷ rest) (fixed_of s d))) (fun_ext (held_stays s P (done ++ d ∷ rest)))

  fuel_here : serve_dispatcher T d.pair ≡ turns (turns_of s d) (shared_turn d.pair) T
  unfolding serve_dispatcher turns_of ledger_of topic_of served_state
  fuel_here =
      ap (λ (x : Dispatcher). turns (suc (length x.redelivery + (length (ledger_of s d.pair.topic) - x.cursor))) (shared_turn d.pair) T) here

  serve_same : serve_dispatcher T d.pair
      ≡ record {
        dispatched = service_records s (record { dispatcher = d; steps = steps });
        state = served_state s steps.after.permits (done ++ served_dispatcher s (record { dispatcher = d; steps = steps }) ∷ rest);
      }
  unfolding served service_records served_dispatcher
  serve_same =
      fuel_here ∙ turns_here ∙ came_same
      ∙ ap (λ (x : State). record { dispatched = map (record_of s (fixed_of s d)) steps.made; state = x })
      (applied_is steps.after (map (held_of s) steps.made))

-- ---- all of them

-- a mapped element stands in the mapped list
mem_map : {A B : Type 0} (f : A → B) (l : List A) (x : A) → Memᴰ x l → Memᴰ (f x) (map f l)
mem_map f [] x m = absurd (Memᴰ.not-nil m)
mem_map f (y ∷ l) x m = ⊎_elim (λ e. Memᴰ.head (ap f e)) (λ k. Memᴰ.tail (mem_map f l x k)) (Memᴰ.cases_cons m)

-- a service keeps the number of permits
pub served_sized : (s : State) (d : Dispatcher) (P : List ℕ) → length (served s d P).after.permits ≡ length P
unfolding served local_of
served_sized s d P = turns_sized (turns_of s d) (fixed_of s d) (local_of d P)

-- and the dispatcher's pair
served_pair : (s : State) (v : Service) → (served_dispatcher s v).pair ≡ v.dispatcher.pair
unfolding served_dispatcher applied_dispatcher
served_pair s v = refl

-- the services of the dispatchers from some on, those before them served
serve_all : (s : State) (done ds : List Dispatcher) (P : List ℕ) → Ascending s.consumers → length P ≡ length s.consumers
    → ((d : Dispatcher) → Memᴰ d ds → Without by_pair d.pair done) → Distinct same_pair (map (λ (d : Dispatcher). d.pair) ds)
    → serve_each serve_dispatcher (map (λ (d : Dispatcher). d.pair) ds) (served_state s P (done ++ ds))
    ≡ record {
      dispatched = all_service_records s (services s ds P);
      state = served_state s (permits_left P (services s ds P)) (done ++ map (served_dispatcher s) (services s ds P));
    }
unfolding serve_each services all_service_records permits_left Distinct
serve_all s done [] P a z w u = refl
serve_all s done (d ∷ ds) P a z w u =
    let v : Service = record { dispatcher = d; steps = served s d P } in
    let b : Dispatcher = served_dispatcher s v in
    let Q : List ℕ = (served s d P).after.permits in
    let rest : State → Pushed = λ x. serve_each serve_dispatcher (map (λ (x : Dispatcher). x.pair) ds) x in
    let others : (x : Dispatcher) → Memᴰ x ds → Without by_pair x.pair (done ++ b ∷ []) =
    λ x m. every_snoc {P = λ (y : Dispatcher). same_pair x.pair y.pair ≡ false} done b (w x (Memᴰ.tail m))
    (rw (served_pair s v) (turned_round decides_pairs d.pair x.pair (u.0 x.pair (mem_map (λ (y : Dispatcher). y.pair) ds x m)))) in
    ap (λ (r : Pushed). record { dispatched = r.dispatched ++ (rest r.state).dispatched; state = (rest r.state).state })
    (serve_same s P done d ds (w d (Memᴰ.head refl)) z a)
    ∙ ap (λ (r : Pushed). record { dispatched = service_records s v ++ r.dispatched; state = r.state })
    (ap (λ (l : List Dispatcher). rest (served_state s Q l)) (sym (append_assoc done (b ∷ []) ds))
    ∙ serve_all s (done ++ b ∷ []) ds Q a (served_sized s d P ∙ z) others u.1
    ∙ ap (λ (l : List Dispatcher). record { dispatched = all_service_records s (services s ds Q); state = served_state s (permits_left Q (services s ds Q)) l })
    (append_assoc done (b ∷ []) (map (served_dispatcher s) (services s ds Q))))

-- the shared part of a push
pub shared_same : (s : State) → Ascending s.consumers → Distinct same_pair (map (λ (d : Dispatcher). d.pair) s.dispatchers)
    → push_pending_shared s
    ≡ record {
      dispatched = all_service_records s (services s s.dispatchers (map (λ (c : Consumer). c.permits) s.consumers));
      state =
          served_state s
          (permits_left (map (λ (c : Consumer). c.permits) s.consumers) (services s s.dispatchers (map (λ (c : Consumer). c.permits) s.consumers)))
          (map (served_dispatcher s) (services s s.dispatchers (map (λ (c : Consumer). c.permits) s.consumers)));
    }
unfolding push_pending_shared served_state
shared_same s a u =
    ap (λ (l : List Consumer). serve_each serve_dispatcher (map (λ (d : Dispatcher). d.pair) s.dispatchers) (with_tables s s.topics l s.dispatchers))
    (sym (each_own s.consumers))
    ∙ serve_all s [] s.dispatchers (map (λ (c : Consumer). c.permits) s.consumers) a
    (length-map s.consumers (λ (c : Consumer). c.permits)) (λ d m x n. absurd (Memᴰ.not-nil n)) u
