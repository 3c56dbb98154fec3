-- `wire_fields::lay::lay_numbers` meets its contract: laying what is left from here on is laying all.
use mathlib.Core.Path.{◌∙◌}
use Rattle.wire_fields.specs.Values.{all_of, values_of}
use Rattle.wire_fields.proofs.Walks.{at_start, on, off, ended}
use Rattle.wire_fields.proofs.Laying.{laying_start, laying_end, laying_room, laying_on, formed_not_bad, number_of, numbers_laid}
use Rattle.wire_fields.proofs.lay.lay_numbers.Goals as goal

pub loop-field-init : goal.loop-field-init
unfolding values_of
loop-field-init c =
    let a = c.args in
    let s = c.of-field-items.ensures in
    rw c.into_iter-field-iterator.ensures.into_iter_gives
    (at_start s, rw s.1 (laying_start (number_of a.number) _ _ _ c.requires.formed (rw (numbers_laid a.number (all_of a.m.now)) c.requires.room)))

pub returns-in_default : goal.returns-in_default
returns-in_default c =
    let i = c.loop-field.invariant in
    let o = off i.0 c.in-Some.ensures.steps c.in_default.is in
    formed_not_bad _ _ o.0 o.1 i.1.formed

pub lay_number-next-requires : goal.lay_number-next-requires
lay_number-next-requires c =
    let i = c.loop-field.invariant in
    let f = on i.0 c.in-Some.ensures.steps c.in-Some-field.is in
    rw f.1.same (laying_room _ _ _ _ i.1 _ f.0 f.1)

pub loop-field-preserved : goal.loop-field-preserved
loop-field-preserved c =
    let i = c.loop-field.invariant in
    let f = on i.0 c.in-Some.ensures.steps c.in-Some-field.is in
    (f.3, rw f.2 (laying_on _ _ _ _ i.1 _ f.0 f.1 _ _ (rw f.1.same at c.lay_number-next.ensures)))

pub returns : goal.returns
unfolding values_of
returns c =
    let a = c.args in
    let i = c.loop-field.invariant in
    laying_end _ _ _ _ i.1 (ended i.0 c.in-None.ensures.steps) ∙ rw (numbers_laid a.number (all_of a.m.now))
