-- `wire_command::numbers::close` meets its contract: its two numbers are the message's first two.
use mathlib.Core.Option.{bind}
use Rattle.wire.specs.Commands.{close_of}
use Rattle.wire_fields.specs.Found.{answered}
use Rattle.wire_command.specs.Found.{as_command}
use Rattle.wire_command.proofs.Steps.{two_of_message, two_bad_message}
use Rattle.wire_command.proofs.numbers.close.Goals as goal

pub returns-in_err-consumer : goal.returns-in_err-consumer
unfolding close_of answered bind
returns-in_err-consumer c =
    rw c.from_residual.ensures
    (two_bad_message _ _ 1 2 c.in_err-consumer.ensures
    (λ p. rw p)
    (λ fs p q. rw (p, q))
    (λ fs p u q s. rw (p, q, s)))

pub returns : goal.returns
unfolding close_of answered as_command bind
returns c =
    let t = two_of_message _ _ 1 2 c.in_ok-consumer.ensures in
    rw (t.all_fields, t.numbers.first, t.numbers.second)
