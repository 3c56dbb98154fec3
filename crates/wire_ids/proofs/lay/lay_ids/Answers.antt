-- `wire_ids::lay::lay_ids` meets its contract: laying what is left from here on is laying all, and what is left are ids (`Listing`).
use mathlib.Core.Path.{◌∙◌}
use native.Mathlib.Omega.{arith}
use Rattle.wire_fields.proofs.Walks.{at_start, on, off, ended}
use Rattle.wire_fields.proofs.Laying.{laying_end, formed_not_bad}
use Rattle.wire_ids.proofs.Groups.{all_laid, lays_nothing, field_other, field_id, field_room, listing_start, listing_room, listing_on}
use Rattle.wire_ids.proofs.lay.lay_ids.Goals as goal

pub loop-field-init : goal.loop-field-init
loop-field-init c =
    let s = c.of-field-items.ensures in
    rw c.into_iter-field-iterator.ensures.into_iter_gives (at_start s, rw s.1 (listing_start _ _ _ c.requires))

pub returns-in_default : goal.returns-in_default
returns-in_default c =
    let i = c.loop-field.invariant in
    let o = off i.0 c.in-Some.ensures.steps c.in_default.is in
    formed_not_bad _ _ o.0 o.1 i.1.laying.formed

pub loop-field-preserved-then-f-number : goal.loop-field-preserved-then-f-number
loop-field-preserved-then-f-number c =
    let i = c.loop-field.invariant in
    let f = on i.0 c.in-Some.ensures.steps c.in-Some-field.is in
    (f.3, rw f.2 (listing_on _ _ _ i.1 _ f.0 f.1 _ _ (lays_nothing _ _ _ (field_other _ _ _ c.if-f-number.true))))

pub slice_bounds-lay_id-count : goal.slice_bounds-lay_id-count
slice_bounds-lay_id-count c =
    let f = (on c.loop-field.invariant.0 c.in-Some.ensures.steps c.in-Some-field.is).1 in omega (arith, f.starts, f.ends)

pub slice_bounds-lay_id-start : goal.slice_bounds-lay_id-start
slice_bounds-lay_id-start c =
    let f = (on c.loop-field.invariant.0 c.in-Some.ensures.steps c.in-Some-field.is).1 in omega (arith, f.starts, f.ends)

pub slice_bounds-lay_id-end : goal.slice_bounds-lay_id-end
slice_bounds-lay_id-end c =
    let f = (on c.loop-field.invariant.0 c.in-Some.ensures.steps c.in-Some-field.is).1 in omega (arith, f.starts, f.ends)

pub lay_id-to-requires : goal.lay_id-to-requires
lay_id-to-requires c =
    let i = c.loop-field.invariant in
    let f = on i.0 c.in-Some.ensures.steps c.in-Some-field.is in
    field_room _ _ _ _ _ c.if-f-number.false (listing_room _ _ _ i.1 _ f.0 f.1)

pub loop-field-preserved : goal.loop-field-preserved
loop-field-preserved c =
    let a = c.args in
    let i = c.loop-field.invariant in
    let f = on i.0 c.in-Some.ensures.steps c.in-Some-field.is in
    (f.3, rw f.2 (listing_on _ _ _ i.1 _ f.0 f.1 _ _ (rw (field_id a.m.now a.number c.in-Some-field.f c.if-f-number.false) c.lay_id-to.ensures)))

pub returns : goal.returns
returns c =
    let i = c.loop-field.invariant in
    laying_end _ _ _ _ i.1.laying (ended i.0 c.in-None.ensures.steps) ∙ rw (all_laid c.args.m.now c.args.number c.requires.read).1
