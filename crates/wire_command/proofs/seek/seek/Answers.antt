-- `wire_command::seek::seek` meets its contract: two numbers of the message, and its target.
use mathlib.Core.Option.{bind}
use Rattle.wire.specs.Commands.{seek_of}
use Rattle.wire_fields.specs.Found.{answered}
use Rattle.wire_command.specs.Found.{as_command}
use Rattle.wire_command.proofs.Steps.{two_of_message, two_bad_message}
use Rattle.wire_command.proofs.Targets.{target_is, target_bad}
use Rattle.wire_command.proofs.seek.seek.Goals as goal

pub returns-in_err-consumer : goal.returns-in_err-consumer
unfolding seek_of answered bind
returns-in_err-consumer c =
    rw c.from_residual.ensures
    (two_bad_message _ _ 1 2 c.in_err-consumer.ensures
    (λ p. rw p)
    (λ fs p q. rw (p, q))
    (λ fs p u q s. rw (p, q, s)))

pub returns-in_err-target : goal.returns-in_err-target
unfolding seek_of answered bind
returns-in_err-target c =
    let t = two_of_message _ _ 1 2 c.in_ok-consumer.ensures in
    rw (
      c.from_residual-in_err-target.ensures,
      t.all_fields,
      t.numbers.first,
      t.numbers.second,
      target_bad _ _ t.all_fields c.in_err-target.ensures,
    )

pub returns : goal.returns
unfolding seek_of answered as_command bind
returns c =
    let t = two_of_message _ _ 1 2 c.in_ok-consumer.ensures in
    let s = target_is _ _ t.all_fields c.in_ok-target.ensures in
    rw (t.all_fields, t.numbers.first, t.numbers.second, s.is, s.told)
