-- `next` of `row_script::calls::Calls` meets its contract: it gives the first call that is left.
use Rattle.std.proofs.Common.{arith, ap, length}
use Rattle.row_script.proofs.Walking.{none_left, rest_formed, calls_ahead}
use Rattle.row_script.proofs.calls.CallsIterator.next.Goals as goal

pub returns-in_err-call-clause-steps : goal.returns-in_err-call-clause-steps
returns-in_err-call-clause-steps c =
    let e = none_left c.args.self.now.script.now c.args.self.now.formed c.in_err-call.ensures in rw c.from_residual.ensures (e, e)

pub invariant_of-self : goal.invariant_of-self
invariant_of-self c = record { formed = rest_formed c.in_ok-call.ensures c.args.self.now.formed }

pub returns-clause-steps : goal.returns-clause-steps
returns-clause-steps c = calls_ahead c.in_ok-call.ensures c.args.self.now.formed

pub returns-clause-goes : goal.returns-clause-goes
returns-clause-goes c =
    let e = calls_ahead c.in_ok-call.ensures c.args.self.now.formed in
    record { on = λ _. (tt, tt, omega (arith, ap length e)); keeps = tt; rests = λ _. tt }
