-- `trace_step::step_record` meets its contract, by how far the record reaches.
use native.Mathlib.Omega.{arith}
use mathlib.Core.Path.{sym, ◌∙◌}
use Rattle.trace_read.proofs.Reaches.{ends_there, cut_there, wrong_there}
use Rattle.trace_step.proofs.Steps.{cut_at, wrong_at}
use Rattle.trace_step.proofs.step_record.Goals as goal

pub play_record-requires : goal.play_record-requires
play_record-requires c =
    let p = c.requires in (
      p.0,
      p.1,
      ends_there _ _ (sym c.in-Ends.is ∙ c.record_reach-reach.ensures),
      p.2,
    )

pub returns-in-CutOff : goal.returns-in-CutOff
returns-in-CutOff c =
    let p = c.requires in
    cut_at _ _ _ _ p.0 p.1 (cut_there _ (sym c.in-CutOff.is ∙ c.record_reach-reach.ensures))

pub returns-in-Wrong : goal.returns-in-Wrong
returns-in-Wrong c =
    let p = c.requires in
    let b = c.bad.ensures in
    rw b.is (wrong_at _ _ _ _ p.0 p.1 (omega arith) b.wrote (wrong_there _ (sym c.in-Wrong.is ∙ c.record_reach-reach.ensures)))
