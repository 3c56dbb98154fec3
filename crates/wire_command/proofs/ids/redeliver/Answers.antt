-- `wire_command::ids::redeliver` meets its contract: a consumer, and ids whose words are counted.
use mathlib.Core.Option.{bind}
use Rattle.wire.specs.Select.{uint64}
use Rattle.wire.specs.Commands.{redeliver_of}
use Rattle.wire_fields.specs.Found.{answered}
use Rattle.wire_fields.proofs.Selections.{walked, walked_not, at_a, required_is, required_bad}
use Rattle.wire_command.specs.Found.{as_command}
use Rattle.wire_command.proofs.Sizes.{size_is, size_bad}
use Rattle.wire_command.proofs.ids.redeliver.Goals as goal

pub returns-in_err-x : goal.returns-in_err-x
unfolding redeliver_of answered bind
returns-in_err-x c = rw (c.from_residual.ensures, walked_not _ _ c.in_err-x.ensures)

pub returns-in_err-consumer : goal.returns-in_err-consumer
unfolding redeliver_of answered bind
returns-in_err-consumer c =
    let w = walked _ _ _ c.in_ok-x.ensures in
    rw (c.from_residual-in_err-consumer.ensures, w.all_fields, required_bad uint64 (at_a w) c.in_err-consumer.ensures)

pub returns-in_err-size : goal.returns-in_err-size
unfolding redeliver_of answered bind
returns-in_err-size c =
    let w = walked _ _ _ c.in_ok-x.ensures in
    rw (
      c.from_residual-in_err-size.ensures,
      w.all_fields,
      required_is uint64 (at_a w) c.in_ok-consumer.ensures,
      size_bad _ 2 w.all_fields c.in_err-size.ensures,
    )

pub returns : goal.returns
unfolding redeliver_of answered as_command bind
returns c =
    let w = walked _ _ _ c.in_ok-x.ensures in
    let s = size_is _ 2 w.all_fields c.in_ok-size.ensures in
    rw (w.all_fields, required_is uint64 (at_a w) c.in_ok-consumer.ensures, s.are, s.many)
