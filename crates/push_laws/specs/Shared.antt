-- The shared part of a push by plain numbers: the dispatchers' services one after the other, the permits carried from one
-- to the next, and what all of them come to in the state.
use Rattle.std.specs.Prelude.{ℕ, List, [], ◌∷◌, ◌++◌, map}
use Rattle.rules.specs.State.{Dispatcher, State, with_tables}
use Rattle.rules.specs.Outcome.{Dispatch}
use Rattle.push_laws.specs.Local.{Steps, fixed_of, served}
use Rattle.push_laws.specs.Applied.{with_each, record_of, held_of, applied_dispatcher}

-- a dispatcher and the steps of its service
pub record Service : Type 0 where
  pub dispatcher : Dispatcher
  pub steps : Steps

-- the services of some dispatchers, from some permits
unfoldable pub services : State → List Dispatcher → List ℕ → List Service
services s [] permits = []
services s (d ∷ ds) permits =
    let r = served s d permits in record { dispatcher = d; steps = r } ∷ services s ds r.after.permits

-- the permits that some services leave
unfoldable pub permits_left : List ℕ → List Service → List ℕ
permits_left permits [] = permits
permits_left permits (v ∷ l) = permits_left v.steps.after.permits l

-- the records of a service
unfoldable pub service_records : State → Service → List Dispatch
service_records s v = map (record_of s (fixed_of s v.dispatcher)) v.steps.made

-- the records of some services
unfoldable pub all_service_records : State → List Service → List Dispatch
all_service_records s [] = []
all_service_records s (v ∷ l) = service_records s v ++ all_service_records s l

-- the dispatcher that a service leaves
unfoldable pub served_dispatcher : State → Service → Dispatcher
served_dispatcher s v = applied_dispatcher v.dispatcher v.steps.after (map (held_of s) v.steps.made)

-- a state with other permits and other dispatchers
unfoldable pub served_state : State → List ℕ → List Dispatcher → State
served_state s permits ds = with_tables s s.topics (with_each s.consumers permits) ds
