-- A turn as code has it, and what code that serves a dispatcher may take for granted.
use Rattle.std.specs.Prelude.{ℕ, ◌≤◌, ◌<◌, ◌≡◌, List, length, get_or, take, drop, Some, None}
use Rattle.std.specs.Prelude as prelude
use Rattle.std.proofs.Math.Option.{Option, none, some}
use Rattle.store.specs.Find.{slot}
use Rattle.rules.specs.Table.{Every}
use Rattle.rules.specs.State.{StoredMessage, State, by_number, ledger_of}
use Rattle.rules.specs.Outcome.{Dispatch}
use Rattle.layout.specs.Layout.{decode}
use Rattle.layout.specs.Fields.{topic_nth, dispatcher_nth, dispatcher_now}
use Rattle.layout.specs.Placed.{TopicIn, DispatcherIn}
use Rattle.push_laws.specs.Local.{Fixed, Local, Step, Place, LocalTurn, Steps, first_with_permits, fixed_of, served}
use Rattle.push_laws.specs.Local.LocalTurn.{stop, move}
use Rattle.push_laws.specs.Shared.{Service, services, all_service_records}
use Rattle.head.specs.declared.Head as heads
use Rattle.push_turn.specs.declared.turn.Step as steps
use Rattle.push_turn.specs.declared.service.Served as places
use Rattle.push_turn.specs.declared.service.Numbers as moved

-- the place of a ring that code names by its number, if it names one
unfoldable pub place_named : List ℕ → prelude.Option ℕ → Option Place
place_named ring None = none
place_named ring (Some r) = some (record { place = r; consumer = get_or ring r 0 })

-- the first place from next on, going round, whose consumer has permits above 0
unfoldable pub first_place : List ℕ → List ℕ → ℕ → Option Place
first_place ring permits next =
    first_with_permits permits next (drop next ring) (first_with_permits permits 0 (take next ring) none)

-- what the turns of a dispatcher move, before the first one: its own numbers, and nothing is taken off the queue
unfoldable pub numbers_from : heads.Head → moved.Numbers
numbers_from h = record { head = h; taken = 0 }

-- the local numbers of a service, from the permits and what the turns move beside them
unfoldable pub local_from : List ℕ → moved.Numbers → Local
local_from permits m =
    record { permits = permits; next = m.head.next; cursor = m.head.cursor; total = m.head.total_available_permits; taken = m.taken }

-- the step that the code's record stands for
unfoldable pub step_of : steps.Step → Step
step_of x = record { consumer = x.consumer; position = x.position; price = x.price; permits = x.permits }

-- the turn that left permits and numbers, and made a step or none
unfoldable pub turn_of : List ℕ → moved.Numbers → prelude.Option steps.Step → LocalTurn
turn_of permits m None = stop (local_from permits m)
turn_of permits m (Some x) = move (step_of x) (local_from permits m)

-- what a push only reads of dispatcher d of the state that words decode to
abbrev pub fixed_now : List ℕ → ℕ → Fixed
fixed_now ws d = fixed_of (decode ws) (dispatcher_now ws d)

-- the steps of its service, from some permits
abbrev pub served_now : List ℕ → ℕ → List ℕ → Steps
served_now ws d permits = served (decode ws) (dispatcher_now ws d) permits

-- the services of all dispatchers of that state, from some permits
abbrev pub services_now : List ℕ → List ℕ → List Service
services_now ws permits = services (decode ws) (decode ws).dispatchers permits

-- their records
abbrev pub shared_records_now : List ℕ → List ℕ → List Dispatch
shared_records_now ws permits = all_service_records (decode ws) (services_now ws permits)

-- the ledger of a dispatcher's topic
abbrev pub ledger_under : State → ℕ → List StoredMessage
ledger_under s d = ledger_of s (dispatcher_nth s d).pair.topic

-- a dispatcher that code has by value is there; its ledger is as long as told and, if it has messages, is that of the topic
-- told; every entry has a mark and a batch size in range, and only entries of the ledger are queued
pub record ServedHere (x : places.Served) (ws : List ℕ) : Type 0 where
  pub here : DispatcherIn x.e ws x.d
  pub ledger_length : x.n ≡ length (ledger_under (decode ws) x.d)
  pub topic_here : 0 < x.n → TopicIn x.e ws x.t
  pub ledger_here : 0 < x.n → (topic_nth (decode ws) x.t).messages ≡ ledger_under (decode ws) x.d
  pub one_mark_each : length (dispatcher_nth (decode ws) x.d).marks ≡ x.n
  pub batches : Every (λ (m : StoredMessage). m.batch_size ≤ 256) (ledger_under (decode ws) x.d)
  pub queue_in_ledger : Every (λ (k : ℕ). k < x.n) (dispatcher_nth (decode ws) x.d).redelivery
  pub cursor_in_ledger : (dispatcher_nth (decode ws) x.d).cursor ≤ x.n

-- dispatcher d of a state with E entries, to be served
unfoldable pub served_in : State → ℕ → ℕ → places.Served
served_in s e d =
    record {
      e = e;
      d = d;
      t = slot by_number (dispatcher_nth s d).pair.topic s.topics;
      n = length (ledger_under s d);
    }
