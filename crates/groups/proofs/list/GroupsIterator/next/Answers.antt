-- `next` of `groups::list::Groups` meets its contract: it gives the first group that is left.
use Rattle.std.proofs.Common.{arith, ap, length}
use Rattle.groups.proofs.Lists.{none_ahead, first_ahead, form_after, groups_ahead}
use Rattle.groups.proofs.list.GroupsIterator.next.Goals as goal

pub returns-in_err-group-clause-steps : goal.returns-in_err-group-clause-steps
returns-in_err-group-clause-steps c =
    let e = none_ahead c.args.self.now.list.now c.args.self.now.formed c.in_err-group.ensures in rw c.from_residual.ensures (e, e)

pub invariant_of-self : goal.invariant_of-self
invariant_of-self c =
    let list = c.args.self.now.list.now in
    let s = c.in_ok-group.ensures in
    record { formed = rw s.2 (form_after list (first_ahead list c.args.self.now.formed s.0)) }

pub returns-clause-steps : goal.returns-clause-steps
returns-clause-steps c =
    let s = c.in_ok-group.ensures in groups_ahead c.args.self.now.list.now _ _ c.args.self.now.formed s.0 s.1 s.2

pub returns-clause-goes : goal.returns-clause-goes
returns-clause-goes c =
    let s = c.in_ok-group.ensures in
    let e = groups_ahead c.args.self.now.list.now _ _ c.args.self.now.formed s.0 s.1 s.2 in
    record { on = λ _. (tt, tt, omega (arith, ap length e)); keeps = tt; rests = λ _. tt }
