-- `wire_ids::lay::lay_id` meets its contract: finishing from here is finishing from the start (`Filling`).
use Rattle.wire_fields.proofs.Walks.{at_start, on, off, ended}
use Rattle.wire_ids.proofs.OneId.{filling_start, filling_bad, filling_end, filling_room, filling_on}
use Rattle.wire_ids.proofs.lay.lay_id.Goals as goal

pub loop-field-init : goal.loop-field-init
loop-field-init c =
    let s = c.of-field-items.ensures in
    rw c.into_iter-field-iterator.ensures.into_iter_gives (at_start s, rw s.1 (filling_start _ _ _ c.requires))

pub returns-in_default : goal.returns-in_default
returns-in_default c =
    let i = c.loop-field.invariant in
    let o = off i.0 c.in-Some.ensures.steps c.in_default.is in
    filling_bad _ _ _ i.1 o.0 o.1

pub put-n-requires : goal.put-n-requires
put-n-requires c =
    let i = c.loop-field.invariant in
    let f = on i.0 c.in-Some.ensures.steps c.in-Some-field.is in
    filling_room _ _ _ i.1 _ f.0 f.1

pub loop-field-preserved : goal.loop-field-preserved
loop-field-preserved c =
    let i = c.loop-field.invariant in
    let f = on i.0 c.in-Some.ensures.steps c.in-Some-field.is in
    (f.3, rw f.2 (filling_on _ _ _ i.1 _ f.0 f.1 _ _ c.put-n.ensures))

pub returns : goal.returns
returns c = let i = c.loop-field.invariant in filling_end _ _ _ i.1 c.requires (ended i.0 c.in-None.ensures.steps)
