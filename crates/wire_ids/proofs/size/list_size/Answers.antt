-- `wire_ids::size::list_size` meets its contract: the tally so far and the fields that are left decide what the ids take in all
-- (`Counted`).
use mathlib.Core.Path.{◌∙◌}
use native.Mathlib.Omega.{arith}
use Rattle.wire_fields.proofs.Walks.{at_start, on, off, ended}
use Rattle.wire_ids.proofs.Tallies.{counted_start, counted_end, counted_unformed, counted_bad, counted_on, counted_past, tally_here}
use Rattle.wire_ids.proofs.size.list_size.Goals as goal

pub loop-field-init : goal.loop-field-init
loop-field-init c =
    let s = c.of-field-items.ensures in
    rw c.into_iter-field-iterator.ensures.into_iter_gives (at_start s, rw s.1 (counted_start _ _))

pub returns-in_err-f : goal.returns-in_err-f
returns-in_err-f c =
    let i = c.loop-field.invariant in
    let o = off i.0 c.in-Some.ensures.steps c.in_err-f.was in
    rw c.from_residual.ensures (counted_unformed _ _ i.1 o.0 o.1)

pub loop-field-preserved-then-f-number : goal.loop-field-preserved-then-f-number
loop-field-preserved-then-f-number c =
    let i = c.loop-field.invariant in
    let f = on i.0 c.in-Some.ensures.steps c.in_ok-f.was in
    (f.3, rw f.2 (counted_past _ _ i.1 _ f.0 f.1 c.if-f-number.true))

pub slice_bounds-with_id-count : goal.slice_bounds-with_id-count
slice_bounds-with_id-count c =
    let f = (on c.loop-field.invariant.0 c.in-Some.ensures.steps c.in_ok-f.was).1 in omega (arith, f.starts, f.ends)

pub slice_bounds-with_id-start : goal.slice_bounds-with_id-start
slice_bounds-with_id-start c =
    let f = (on c.loop-field.invariant.0 c.in-Some.ensures.steps c.in_ok-f.was).1 in omega (arith, f.starts, f.ends)

pub slice_bounds-with_id-end : goal.slice_bounds-with_id-end
slice_bounds-with_id-end c =
    let f = (on c.loop-field.invariant.0 c.in-Some.ensures.steps c.in_ok-f.was).1 in omega (arith, f.starts, f.ends)

pub with_id-requires : goal.with_id-requires
with_id-requires c = c.loop-field.invariant.1.room

pub returns-in_err-t : goal.returns-in_err-t
returns-in_err-t c =
    let i = c.loop-field.invariant in
    let f = on i.0 c.in-Some.ensures.steps c.in_ok-f.was in
    rw c.from_residual-in_err-t.ensures
    (counted_bad _ _ i.1 _ f.0 f.1 (c.in_err-t.ensures ∙ tally_here _ _ _ _ c.if-f-number.false))

pub loop-field-preserved : goal.loop-field-preserved
loop-field-preserved c =
    let i = c.loop-field.invariant in
    let f = on i.0 c.in-Some.ensures.steps c.in_ok-f.was in
    (f.3, rw f.2 (counted_on _ _ i.1 _ f.0 f.1 _ (c.in_ok-t.ensures ∙ tally_here _ _ _ _ c.if-f-number.false)))

pub returns : goal.returns
returns c = let i = c.loop-field.invariant in counted_end _ _ i.1 (ended i.0 c.in-None.ensures.steps)
