-- A whole push by plain numbers: the services, then each consumer's part by the permits that the services leave.
use Rattle.std.specs.Prelude.{ℕ, List, ◌++◌, map}
use Rattle.rules.specs.State.{Consumer, State, with_tables}
use Rattle.rules.specs.Push.{Pushed}
use Rattle.push_laws.specs.Applied.{with_each}
use Rattle.push_laws.specs.Shared.{Service, services, permits_left, all_service_records, served_dispatcher}
use Rattle.push_laws.specs.Plain.{plain_served, all_plain_records}

-- the permits of the consumers, by slot
unfoldable pub permits_now : State → List ℕ
permits_now s = map (λ (c : Consumer). c.permits) s.consumers

-- the services of a state's dispatchers
unfoldable pub services_of : State → List Service
services_of s = services s s.dispatchers (permits_now s)

-- the consumers with the permits that the services leave
unfoldable pub charged_consumers : State → List Consumer
charged_consumers s = with_each s.consumers (permits_left (permits_now s) (services_of s))

-- the records of a push, and the state after it
unfoldable pub local_push : State → Pushed
local_push s =
    record {
      dispatched = all_service_records s (services_of s) ++ all_plain_records s (charged_consumers s);
      state =
          with_tables s s.topics (map (plain_served s) (charged_consumers s)) (map (served_dispatcher s) (services_of s));
    }
