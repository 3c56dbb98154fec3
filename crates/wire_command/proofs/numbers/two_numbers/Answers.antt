-- `wire_command::numbers::two_numbers` meets its contract: the numbers that were seen are the message's.
use mathlib.Core.Option.{bind}
use Rattle.wire.specs.Select.{uint64}
use Rattle.wire_fields.specs.Found.{answered}
use Rattle.wire_fields.specs.Selected.{fits}
use Rattle.wire_fields.proofs.Selections.{walked, walked_not, at_a, at_b, required_is, required_bad, saw_varint}
use Rattle.wire_command.specs.Found.{two_of}
use Rattle.wire_command.proofs.numbers.two_numbers.Goals as goal

pub returns-in_err-x : goal.returns-in_err-x
unfolding two_of answered bind
returns-in_err-x c = rw (c.from_residual.ensures, walked_not _ _ c.in_err-x.ensures)

pub returns-in_err-u : goal.returns-in_err-u
unfolding two_of answered bind
returns-in_err-u c =
    let w = walked _ _ _ c.in_ok-x.ensures in
    let a = saw_varint c.args.first w.fs (at_a w) in
    rw (c.from_residual-in_err-u.ensures, w.all_fields, required_bad uint64 a c.in_err-u.ensures)

pub returns-in_err-v : goal.returns-in_err-v
unfolding two_of answered bind
returns-in_err-v c =
    let w = walked _ _ _ c.in_ok-x.ensures in
    let a = saw_varint c.args.first w.fs (at_a w) in
    let b = saw_varint c.args.second w.fs (at_b w) in
    rw (
      c.from_residual-in_err-v.ensures,
      w.all_fields,
      required_is uint64 a c.in_ok-u.ensures,
      required_bad (fits c.args.width) b c.in_err-v.ensures,
    )

pub returns : goal.returns
unfolding two_of answered bind
returns c =
    let w = walked _ _ _ c.in_ok-x.ensures in
    let a = saw_varint c.args.first w.fs (at_a w) in
    let b = saw_varint c.args.second w.fs (at_b w) in
    rw (w.all_fields, required_is uint64 a c.in_ok-u.ensures, required_is (fits c.args.width) b c.in_ok-v.ensures)
