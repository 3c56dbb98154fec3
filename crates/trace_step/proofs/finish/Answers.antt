-- `trace_step::finish` meets its contract: without a header, after a record, inside one.
use native.Mathlib.Omega.{arith}
use borrow.Author.Rules.{rules}
use Rattle.trace_step.proofs.Steps.{ended_well, ended_early, ended_inside}
use Rattle.trace_step.proofs.finish.Goals as goal

pub returns-then-number-eq0 : goal.returns-then-number-eq0
returns-then-number-eq0 c = let e = ended_early (omega arith) _ _ c.if-number-eq0.true c.write_bad.ensures in record { answer = e.0; text = e.1; within = e.2 }

pub returns-then-held-eq0 : goal.returns-then-held-eq0
returns-then-held-eq0 c =
    let a = c.args in
    let e = ended_well a.number a.held.now a.out.now (search rules) c.if-held-eq0.true in record { answer = e.0; text = e.1; within = e.2 }

pub returns : goal.returns
returns c =
    let a = c.args in
    let e = ended_inside (omega arith) a.number a.held.now (search rules) (search rules) c.write_bad-2.ensures in record { answer = e.0; text = e.1; within = e.2 }
