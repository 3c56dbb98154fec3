-- `wire_command::seek::target_of` meets its contract: no id is the start, and a part is read as an id.
use mathlib.Core.Path.{◌∙◌}
use mathlib.Core.Option.{bind}
use native.Mathlib.Omega.{arith}
use Rattle.wire.specs.Commands.{target_of}
use Rattle.wire_fields.specs.Found.{answered}
use Rattle.wire_fields.proofs.Selections.{walked, walked_not, at_a, part_is, part_bad}
use Rattle.wire_command.specs.Found.{target_of_bytes, as_target}
use Rattle.wire_command.proofs.Targets.{none_there, target_none, target_part, id_inside}
use Rattle.wire_command.proofs.seek.target_of.Goals as goal

pub returns-in_err-x : goal.returns-in_err-x
unfolding target_of_bytes answered bind
returns-in_err-x c = rw (c.from_residual.ensures, walked_not _ _ c.in_err-x.ensures)

pub returns-then-x-eq0 : goal.returns-then-x-eq0
unfolding target_of_bytes target_of answered as_target bind
returns-then-x-eq0 c =
    let w = walked _ _ _ c.in_ok-x.ensures in
    rw (w.all_fields, none_there (at_a w) c.if-x-eq0.true)

pub returns-in_err-id : goal.returns-in_err-id
unfolding target_of_bytes answered bind
returns-in_err-id c =
    let w = walked _ _ _ c.in_ok-x.ensures in
    rw (
      c.from_residual-in_err-id.ensures,
      w.all_fields,
      target_none _ (at_a w) c.if-x-eq0.false (part_bad (at_a w) c.in_err-id.ensures),
    )

pub slice_bounds-target_in-count : goal.slice_bounds-target_in-count
slice_bounds-target_in-count c =
    let h = id_inside _ c.in_ok-x.ensures c.in_ok-id.ensures in omega (arith, h.0, h.1)

pub slice_bounds-target_in-start : goal.slice_bounds-target_in-start
slice_bounds-target_in-start c =
    let h = id_inside _ c.in_ok-x.ensures c.in_ok-id.ensures in omega (arith, h.0, h.1)

pub slice_bounds-target_in-end : goal.slice_bounds-target_in-end
slice_bounds-target_in-end c =
    let h = id_inside _ c.in_ok-x.ensures c.in_ok-id.ensures in omega (arith, h.0, h.1)

pub returns : goal.returns
unfolding target_of_bytes bind
returns c =
    let w = walked _ _ _ c.in_ok-x.ensures in
    let p = part_is (at_a w) c.in_ok-id.ensures in
    c.target_in.ensures ∙ rw (w.all_fields, target_part _ p)
