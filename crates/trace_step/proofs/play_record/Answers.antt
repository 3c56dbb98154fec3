-- `trace_step::play_record` meets its contract: its call is made, and its lines are written.
use borrow.Author.Rules.{rules}
use native.Mathlib.Omega.{arith}
use mathlib.Core.Path.{refl, sym, ap, ◌∙◌}
use Rattle.trace.proofs.Format.{taken_length, taken_reach}
use Rattle.trace_call.specs.Made.{words_told}
use Rattle.trace_step.proofs.Records.{few_told, played_call, played_none}
use Rattle.trace_step.proofs.play_record.Goals as goal

pub slice_bounds-kind_of-end : goal.slice_bounds-kind_of-end
slice_bounds-kind_of-end c = sym (taken_length _ _ c.requires.2)

pub kind_of-kind-requires : goal.kind_of-kind-requires
kind_of-kind-requires c = taken_reach _ _ c.requires.2

pub slice_bounds-make_record-end : goal.slice_bounds-make_record-end
slice_bounds-make_record-end c = sym (taken_length _ _ c.requires.2)

pub make_record-made-requires : goal.make_record-made-requires
make_record-made-requires c = let p = c.requires in (p.0, taken_reach _ _ p.2, refl)

pub write_outcome-written-requires : goal.write_outcome-written-requires
write_outcome-written-requires c =
    let p = c.requires in
    let few = few_told _ p.0 _ _ _ c.kind_of-kind.ensures (sym (ap words_told c.in-Some.is) ∙ c.make_record-made.ensures.answer) in
    rw c.word_of.ensures (search rules, few, omega (arith, few))

pub returns-in-Some : goal.returns-in-Some
returns-in-Some c =
    let p = c.requires in
    played_call _ _ _ _ p.0 p.1 _ p.2 _ c.kind_of-kind.ensures (sym (ap words_told c.in-Some.is) ∙ c.make_record-made.ensures.answer)
    c.make_record-made.ensures.words c.make_record-made.ensures.records (rw c.word_of.ensures at c.write_outcome-written.ensures)

pub returns-in-None : goal.returns-in-None
returns-in-None c =
    let p = c.requires in
    let b = c.bad.ensures in
    rw b.is
    (played_none _ _ _ _ p.0 p.1 _ p.2 (sym (ap words_told c.in-None.is) ∙ c.make_record-made.ensures.answer)
    c.make_record-made.ensures.words (omega arith) b.wrote)
