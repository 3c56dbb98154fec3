-- `trace_step::step_header` meets its contract, by how far the header reaches.
use native.Mathlib.Omega.{arith}
use mathlib.Core.Path.{sym, ◌∙◌}
use Rattle.trace_read.proofs.Reaches.{ends_there, cut_there, wrong_there}
use Rattle.trace_step.proofs.Steps.{header_went, header_waits, header_bad}
use Rattle.trace_step.proofs.step_header.Goals as goal

pub returns-in-Ends : goal.returns-in-Ends
returns-in-Ends c = header_went _ _ _ (ends_there _ _ (sym c.in-Ends.is ∙ c.header_reach-reach.ensures))

pub returns-in-CutOff : goal.returns-in-CutOff
returns-in-CutOff c = header_waits _ _ (cut_there _ (sym c.in-CutOff.is ∙ c.header_reach-reach.ensures))

pub returns-in-Wrong : goal.returns-in-Wrong
returns-in-Wrong c =
    let b = c.bad.ensures in
    rw b.is (header_bad _ _ (omega arith) b.wrote (wrong_there _ (sym c.in-Wrong.is ∙ c.header_reach-reach.ensures)))
