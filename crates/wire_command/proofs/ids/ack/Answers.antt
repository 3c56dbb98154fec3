-- `wire_command::ids::ack` meets its contract: a consumer, a type of the ack, and ids whose words are counted.
use mathlib.Core.Option.{bind}
use Rattle.wire.specs.Commands.{ack_of}
use Rattle.wire_fields.specs.Found.{answered}
use Rattle.wire_command.specs.Found.{as_command}
use Rattle.wire_command.proofs.Sizes.{size_is, size_bad}
use Rattle.wire_command.proofs.Steps.{two_of_message, two_bad_message}
use Rattle.wire_command.proofs.ids.ack.Goals as goal

pub returns-in_err-consumer : goal.returns-in_err-consumer
unfolding ack_of answered bind
returns-in_err-consumer c =
    rw c.from_residual.ensures
    (two_bad_message _ _ 1 2 c.in_err-consumer.ensures
    (λ p. rw p)
    (λ fs p q. rw (p, q))
    (λ fs p u q s. rw (p, q, s)))

pub returns-in_err-size : goal.returns-in_err-size
unfolding ack_of answered bind
returns-in_err-size c =
    let t = two_of_message _ _ 1 2 c.in_ok-consumer.ensures in
    rw (
      c.from_residual-in_err-size.ensures,
      t.all_fields,
      t.numbers.first,
      t.numbers.second,
      size_bad _ 3 t.all_fields c.in_err-size.ensures,
    )

pub returns : goal.returns
unfolding ack_of answered as_command bind
returns c =
    let t = two_of_message _ _ 1 2 c.in_ok-consumer.ensures in
    let s = size_is _ 3 t.all_fields c.in_ok-size.ensures in
    rw (t.all_fields, t.numbers.first, t.numbers.second, s.are, s.many)
