-- The service of a dispatcher of a state, named by its place.
use Rattle.std.specs.Prelude.{◌≡◌, ℕ, List, length}
use Rattle.rules.specs.Table.{Every}
use Rattle.rules.specs.State.{Dispatcher, State}
use Rattle.rules.specs.Outcome.{Dispatch}
use Rattle.rules.specs.Valid.{ValidTopic, ValidDispatcher}
use Rattle.layout.specs.Layout.{decode}
use Rattle.layout.specs.Placed.{DispatcherIn}
use Rattle.layout.specs.Whole.{ShapedDispatcher}
use Rattle.layout.specs.Fields.{dispatcher_nth, put_dispatcher_at}
use Rattle.record.specs.Flat.{filled}
use Rattle.push_laws.specs.Local.{served}
use Rattle.push_turn.specs.Turns.{served_now}
use Rattle.push_laws.specs.Shared.{Service, service_records, served_dispatcher}

-- dispatcher d and the steps of its service, from some permits
abbrev pub service_of : State → ℕ → List ℕ → Service
service_of s d permits = record { dispatcher = dispatcher_nth s d; steps = served s (dispatcher_nth s d) permits }

-- dispatcher d of the state that words decode to, after that service
abbrev pub dispatcher_served : List ℕ → ℕ → List ℕ → Dispatcher
dispatcher_served ws d permits = served_dispatcher (decode ws) (service_of (decode ws) d permits)

-- the records of that service
abbrev pub records_served : List ℕ → ℕ → List ℕ → List Dispatch
records_served ws d permits = service_records (decode ws) (service_of (decode ws) d permits)

-- dispatcher d can be served: it is there and obeys the rules, and so do the topics
pub record Ready (e : ℕ) (ws : List ℕ) (d : ℕ) : Type 0 where
  pub here : DispatcherIn e ws d
  pub dispatcher_valid : ValidDispatcher (decode ws) (dispatcher_nth (decode ws) d)
  pub topics_valid : Every (ValidTopic (decode ws).entries) (decode ws).topics

-- a service of dispatcher d is written, from some words, permits and list: the words, permits and list after it, and how many
-- records it made, with which the list begins
pub record Written (e : ℕ) (ws : List ℕ) (d : ℕ) (ps ls us qs ks : List ℕ) (made : ℕ) : Type 0 where
  pub value : made ≡ length (served_now ws d ps).made
  pub words : us ≡ put_dispatcher_at ws d (dispatcher_served ws d ps)
  pub permits : qs ≡ (served_now ws d ps).after.permits
  pub records : ks ≡ filled ls 0 (records_served ws d ps)
  pub fits : ShapedDispatcher e (dispatcher_served ws d ps)
