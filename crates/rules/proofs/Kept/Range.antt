-- A valid state is one with sound tables whose other parts lie in their ranges. Every change that a call makes keeps the
-- latter, so what keeps a state sound keeps it valid.
use Prim.Native.Nat.{ℕ, ◌≤◌}
use mathlib.Core.Bool.{Bool}
use Rattle.rules.specs.State.{Pair, State, with_topics, with_consumers, with_dispatchers, put_consumer, put_dispatcher}
use Rattle.rules.specs.Outcome.{Outcome, Dispatch}
use Rattle.rules.specs.Outcome.Outcome.{refused, short, done}
use Rattle.rules.specs.Commands.{without_consumer}
use Rattle.rules.specs.Push.{Turn, shared_turn, plain_turn}
use Rattle.rules.specs.Push.Turn.{halt, sent}
use Rattle.rules.specs.Calls.{opened, Call, rule}
use Rattle.rules.specs.Valid.{Sound, Valid}
use Rattle.rules.proofs.Kept.Outcomes.{Keeps}
use Rattle.rules.proofs.Kept.Turns.{Turned}
use Rattle.rules.proofs.Kept.Closed.{Closed, shared_turn_closed, plain_turn_closed, closed_keeps}
use Rattle.rules.proofs.Kept.Records.{Ranged}
use Rattle.rules.proofs.Kept.Shared.{shared_turn_keeps}
use Rattle.rules.proofs.Kept.Plain.{plain_turn_keeps}

-- what a valid state obeys besides the rules on its tables
pub record InRange (s : State) : Type 0 where
  pub from : 1 ≤ s.entries
  pub to : s.entries ≤ 4096

-- a valid state obeys it
pub in_range : {s : State} → Valid s → InRange s
in_range v = record { from = v.E_from; to = v.E_to }

-- and with sound tables it is all that is asked
pub valid_of : {s : State} → InRange s → Sound s → Valid s
valid_of r v = record { E_from = r.from; E_to = r.to; tables = v }

-- it holds of a state just opened
pub opened_in_range : (e : ℕ) (leak noop : Bool) → 1 ≤ e → e ≤ 4096 → InRange (opened e leak noop)
unfolding opened
opened_in_range e leak noop h k = record { from = h; to = k }

-- and every change of a call keeps it
range_closed : Closed InRange
unfolding put_consumer put_dispatcher without_consumer with_topics with_consumers with_dispatchers
range_closed =
    record {
      consumer_put = λ t c h. record { from = h.from; to = h.to };
      consumer_left = λ t i h. record { from = h.from; to = h.to };
      dispatcher_put = λ t d h. record { from = h.from; to = h.to };
      entry_put = λ t topic m h. record { from = h.from; to = h.to };
    }

-- ---- from sound to valid

-- a call that keeps the tables sound keeps the state valid
pub call_valid : (s : State) (x : Call) → Valid s → Keeps Sound s (rule s x) → Keeps Valid s (rule s x)
call_valid s x v k = go (rule s x) (closed_keeps InRange range_closed s (in_range v) x) k
  where
    go : (o : Outcome) → Keeps InRange s o → Keeps Sound s o → Keeps Valid s o
    go (refused n) r k = v
    go (short n) r k = v
    go (done y t) r k = valid_of r k

-- the same of a turn
turn_valid : (x : Turn) → Turned InRange (λ (y : Dispatch). Unit {0}) x → Turned Sound Ranged x → Turned Valid Ranged x
turn_valid (halt t) r k = valid_of r k
turn_valid (sent y t) r k = (k.0, valid_of r.1 k.1)

-- a turn of a dispatcher
pub shared_turn_valid : (p : Pair) (s : State) → Valid s → Turned Valid Ranged (shared_turn p s)
shared_turn_valid p s v =
    turn_valid (shared_turn p s) (shared_turn_closed InRange range_closed p s (in_range v)) (shared_turn_keeps p s v.tables)

-- a turn of a plain consumer
pub plain_turn_valid : (i : ℕ) (s : State) → Valid s → Turned Valid Ranged (plain_turn i s)
plain_turn_valid i s v =
    turn_valid (plain_turn i s) (plain_turn_closed InRange range_closed i s (in_range v)) (plain_turn_keeps i s v.tables)
