-- `trace_step::step` meets its contract: the header, which needs no store, or a record.
use Rattle.trace_step.proofs.Steps.{with_store}
use Rattle.trace_step.proofs.step.Goals as goal

pub returns-then-number-eq0 : goal.returns-then-number-eq0
returns-then-number-eq0 c =
    let s = with_store c.args.store.now c.args.number c.if-number-eq0.true c.requires.0 c.step_header.ensures in
    record { answer = s.answer; text = s.text; words = s.words; state = s.state; spelt = s.spelt; within = s.within }

pub returns : goal.returns
returns c =
    let s = c.step_record.ensures in
    record { answer = s.answer; text = s.text; words = s.words; state = s.state; spelt = s.spelt; within = s.within }
