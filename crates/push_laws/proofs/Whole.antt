-- A push of the rules is the push by plain numbers.
use mathlib.Core.Path.{◌≡◌, refl, sym, ap, ap₂, ◌∙◌}
use mathlib.Core.List.Memᴰ
use mathlib.Core.List.{List, [], ◌∷◌, ◌++◌, map}
use Prim.Native.Nat.{ℕ}
use lib.ListN.{drop}
use Rattle.rules.specs.State.{Consumer, Dispatcher, State, topic_of, ledger_of, with_tables}
use Rattle.rules.specs.Valid.{Ascending, Valid}
use Rattle.rules.specs.Commands.{with_permits}
use Rattle.rules.specs.Outcome.{Dispatch}
use Rattle.rules.specs.Push.{Pushed, serve_each, serve_plain, push_pending_shared, push_pending}
use Rattle.push_laws.specs.Applied.{with_each}
use Rattle.push_laws.specs.Shared.{permits_left, all_service_records, served_dispatcher, served_state}
use Rattle.push_laws.specs.Plain.{plain_due, plain_records, ledger_for, plain_served, all_plain_records}
use Rattle.push_laws.specs.Whole.{permits_now, services_of, charged_consumers, local_push}
use Rattle.push_laws.proofs.Each.{ascending_each}
use Rattle.push_laws.proofs.Shared.{shared_same}
use Rattle.push_laws.proofs.Plain.{plain_all}

-- the ids stay
ids_each : (l : List Consumer) (ps : List ℕ) → map (λ (c : Consumer). c.id) (with_each l ps) ≡ map (λ (c : Consumer). c.id) l
unfolding with_each with_permits
ids_each [] ps = refl
ids_each (c ∷ l) ps = ap (λ (r : List ℕ). c.id ∷ r) (ids_each l (drop 1 ps))

-- the parts depend on the topics alone
module _ (s : State) (cs : List Consumer) (ds : List Dispatcher) where
  abbrev T : State
  T = with_tables s s.topics cs ds

  records_stay : (l : List Consumer) → all_plain_records T l ≡ all_plain_records s l
  unfolding all_plain_records ledger_of topic_of
  records_stay [] = refl
  records_stay (c ∷ l) =
      ap (λ (r : List Dispatch). plain_records (ledger_for s c) c (plain_due (ledger_for s c) c) ++ r) (records_stay l)

  served_stay : (l : List Consumer) → map (plain_served T) l ≡ map (plain_served s) l
  unfolding plain_served ledger_of topic_of
  served_stay [] = refl
  served_stay (c ∷ l) = ap (λ (r : List Consumer). plain_served s c ∷ r) (served_stay l)

-- the shared part
shared_part : (s : State) → Valid s
    → push_pending_shared s
    ≡ record {
      dispatched = all_service_records s (services_of s);
      state = with_tables s s.topics (charged_consumers s) (map (served_dispatcher s) (services_of s));
    }
unfolding charged_consumers services_of permits_now served_state
shared_part s v = shared_same s v.tables.consumers_ascending v.tables.pairs_distinct

-- the plain part, on the state that the services leave
plain_part : (s : State) → Ascending s.consumers
    → serve_each serve_plain (map (λ (c : Consumer). c.id) s.consumers)
    (with_tables s s.topics (charged_consumers s) (map (served_dispatcher s) (services_of s)))
    ≡ record {
      dispatched = all_plain_records s (charged_consumers s);
      state = with_tables s s.topics (map (plain_served s) (charged_consumers s)) (map (served_dispatcher s) (services_of s));
    }
unfolding charged_consumers
plain_part s a =
    let ps : List ℕ = permits_left (permits_now s) (services_of s) in
    let cs : List Consumer = with_each s.consumers ps in
    let ds : List Dispatcher = map (served_dispatcher s) (services_of s) in
    ap (λ (ids : List ℕ). serve_each serve_plain ids (with_tables s s.topics cs ds)) (sym (ids_each s.consumers ps))
    ∙ plain_all (with_tables s s.topics cs ds) [] cs (λ x m y n. absurd (Memᴰ.not-nil n)) (ascending_each s.consumers ps a)
    ∙ ap₂ {A = List Dispatch} {B = List Consumer} (λ r l. record { dispatched = r; state = with_tables s s.topics l ds })
    (records_stay s cs ds cs) (served_stay s cs ds cs)

-- a push of the rules is the push by plain numbers
pub push_same : (s : State) → Valid s → push_pending s ≡ local_push s
unfolding push_pending local_push
push_same s v =
    let rest : State → Pushed = λ x. serve_each serve_plain (map (λ (c : Consumer). c.id) s.consumers) x in
    ap (λ (r : Pushed). record { dispatched = r.dispatched ++ (rest r.state).dispatched; state = (rest r.state).state }) (shared_part s v)
    ∙ ap (λ (r : Pushed). record { dispatched = all_service_records s (services_of s) ++ r.dispatched; state = r.state })
    (plain_part s v.tables.consumers_ascending)
