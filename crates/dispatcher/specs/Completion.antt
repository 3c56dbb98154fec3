-- What dropping complete entries takes for granted.
use Rattle.std.specs.Prelude.{◌<◌, length}
use Rattle.rules.specs.Table.{Every}
use Rattle.rules.specs.State.{Held, Dispatcher}

-- every entry in flight has a mark
pub record Marked (d : Dispatcher) : Type 0 where
  pub each_has_mark : Every (λ (h : Held). h.position < length d.marks) d.in_flight
