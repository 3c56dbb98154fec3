-- `next` of `wire_fields::fields::Fields` meets its contract: it gives the field that stands at the place, if one does.
use Rattle.std.proofs.Common.{arith}
use Rattle.wire_fields.proofs.Walks.{stands}
use Rattle.wire_fields.proofs.fields.FieldsIterator.next.Goals as goal

pub invariant_of-self-2 : goal.invariant_of-self-2
invariant_of-self-2 c = record { inside = (stands _ _ _ c.in-Some.ensures).ends }

pub returns-clause-goes : goal.returns-clause-goes
returns-clause-goes c =
    let w = stands _ _ _ c.in-Some.ensures in
    record { on = λ _. (tt, tt, omega (arith, w.more, w.ends)); keeps = tt; rests = λ _. tt }
