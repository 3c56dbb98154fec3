-- `wire_command::subscribe::subscribe` meets its contract: two names, the kind of its sub type, and two numbers. Each way out has read
-- one thing more than the last, and names what it has: the walk w, the names p and q, the sub type n.
use mathlib.Core.Option.{bind}
use native.Mathlib.Omega.{arith}
use Rattle.wire.specs.Select.{int32}
use Rattle.wire.specs.Commands.{subscribe_of}
use Rattle.wire_fields.specs.Found.{answered}
use Rattle.wire_fields.proofs.Selections.{walked, walked_not, at_a, at_b, at_c, part_is, part_bad, required_is, required_bad}
use Rattle.wire_command.specs.Found.{as_command}
use Rattle.wire_command.proofs.Steps.{two_are, two_bad, part_inside, name_told}
use Rattle.wire_command.proofs.subscribe.subscribe.Goals as goal

pub returns-in_err-x : goal.returns-in_err-x
unfolding subscribe_of answered bind
returns-in_err-x c = rw (c.from_residual.ensures, walked_not _ _ c.in_err-x.ensures)

pub returns-in_err-topic : goal.returns-in_err-topic
unfolding subscribe_of answered bind
returns-in_err-topic c =
    let w = walked _ _ _ c.in_ok-x.ensures in
    rw (c.from_residual-in_err-topic.ensures, w.all_fields, part_bad (at_a w) c.in_err-topic.ensures)

pub returns-in_err-subscription : goal.returns-in_err-subscription
unfolding subscribe_of answered bind
returns-in_err-subscription c =
    let w = walked _ _ _ c.in_ok-x.ensures in
    let p = part_is (at_a w) c.in_ok-topic.ensures in
    rw (c.from_residual-in_err-subscription.ensures, w.all_fields, p.is, part_bad (at_b w) c.in_err-subscription.ensures)

pub returns-in_err-sub_type : goal.returns-in_err-sub_type
unfolding subscribe_of answered bind
returns-in_err-sub_type c =
    let w = walked _ _ _ c.in_ok-x.ensures in
    let p = part_is (at_a w) c.in_ok-topic.ensures in
    let q = part_is (at_b w) c.in_ok-subscription.ensures in
    rw (c.from_residual-in_err-sub_type.ensures, w.all_fields, p.is, q.is, required_bad int32 (at_c w) c.in_err-sub_type.ensures)

pub returns-in_err-consumer : goal.returns-in_err-consumer
unfolding subscribe_of answered bind
returns-in_err-consumer c =
    let w = walked _ _ _ c.in_ok-x.ensures in
    let p = part_is (at_a w) c.in_ok-topic.ensures in
    let q = part_is (at_b w) c.in_ok-subscription.ensures in
    let n = required_is int32 (at_c w) c.in_ok-sub_type.ensures in
    rw c.from_residual-in_err-consumer.ensures
    (two_bad _ _ 4 5 w.all_fields c.in_err-consumer.ensures
    (λ f. rw (w.all_fields, p.is, q.is, n, f))
    (λ u f g. rw (w.all_fields, p.is, q.is, n, f, g)))

pub name-requires : goal.name-requires
name-requires c =
    let w = walked _ _ _ c.in_ok-x.ensures in
    let h = part_inside _ 1 w.all_fields (part_is (at_a w) c.in_ok-topic.ensures) in
    let b = c.requires in
    (h.0, omega arith)

pub name-requires-2 : goal.name-requires-2
name-requires-2 c =
    let w = walked _ _ _ c.in_ok-x.ensures in
    let h = part_inside _ 2 w.all_fields (part_is (at_b w) c.in_ok-subscription.ensures) in
    let b = c.requires in
    (h.0, omega arith)

pub returns : goal.returns
unfolding subscribe_of answered as_command bind
returns c =
    let w = walked _ _ _ c.in_ok-x.ensures in
    let p = part_is (at_a w) c.in_ok-topic.ensures in
    let q = part_is (at_b w) c.in_ok-subscription.ensures in
    let n = required_is int32 (at_c w) c.in_ok-sub_type.ensures in
    let u = two_are _ _ 4 5 w.all_fields c.in_ok-consumer.ensures in
    rw (
      c.kind_of.ensures,
      c.name.ensures,
      c.name-2.ensures,
      w.all_fields,
      p.is,
      q.is,
      n,
      u.first,
      u.second,
      name_told c.args.at p,
      name_told c.args.at q,
    )
