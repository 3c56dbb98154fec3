-- What an ack of groups takes for granted of a store: the dispatcher is there, and it has a mark for each entry of the topic.
use Rattle.std.specs.Prelude.{ℕ, ◌≤◌, ◌≡◌, cond, List, length}
use Rattle.rules.specs.State.{Id, Dispatcher, ledger_of}
use Rattle.rules.specs.Ledger.{insert_id}
use Rattle.rules.specs.Dispatcher.{is_outside}
use Rattle.rules.specs.Groups.{Group}
use Rattle.rules.specs.Commands.{ack_groups}
use Rattle.layout.specs.Layout.{decode}
use Rattle.layout.specs.Fields.{dispatcher_nth, dispatcher_now}
use Rattle.layout.specs.Placed.{DispatcherIn}

-- groups may be acknowledged by dispatcher d over the ledger of a topic
pub record Ackable (e : ℕ) (ws : List ℕ) (d topic : ℕ) : Type 0 where
  pub within : DispatcherIn e ws d
  pub one_each : length (dispatcher_nth (decode ws) d).marks ≡ length (ledger_of (decode ws) topic)

-- the acknowledged ids outside the ledger of a dispatcher, and one more if it is not among them
abbrev pub outside_with : Id → Dispatcher → List Id
outside_with i x = cond (is_outside i x) x.outside (insert_id i x.outside)

-- groups leave dispatcher d at most 64 acknowledged ids outside the ledger of a topic
abbrev pub OutsideFits : List ℕ → ℕ → ℕ → List Group → Type 0
OutsideFits ws d topic gs = length (ack_groups (ledger_of (decode ws) topic) (dispatcher_now ws d) gs).outside ≤ 64
