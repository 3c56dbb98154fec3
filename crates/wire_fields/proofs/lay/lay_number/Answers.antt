-- `wire_fields::lay::lay_number` meets its contract: one number or none is laid.
use native.Mathlib.Omega.{arith}
use mathlib.Core.Path.{ap}
use lib.ListN.{length}
use Rattle.wire_fields.proofs.Laying.{lays_none, lays_one, one_there}
use Rattle.wire_fields.proofs.lay.lay_number.Goals as goal

pub returns-then-f-number : goal.returns-then-f-number
returns-then-f-number c = let a = c.args in lays_none a.number a.f a.list.now a.to c.if-f-number.true

pub bounds-list-to : goal.bounds-list-to
bounds-list-to c =
    let a = c.args in
    omega (arith, ap length (one_there a.number a.f c.if-f-number.false), c.requires)

pub returns : goal.returns
returns c = let a = c.args in lays_one a.number a.f a.list.now a.to c.if-f-number.false
