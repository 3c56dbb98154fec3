-- `trace_step::make_record` meets its contract: its words are read and lent on.
use borrow.Author.Rules.{rules}
use native.Mathlib.Omega.{arith}
use mathlib.Core.Path.{sym}
use lib.Seq.{length-take-le}
use Rattle.trace.specs.Format.{record_in}
use Rattle.trace_step.proofs.Records.{first_words, of_record}
use Rattle.trace_step.proofs.make_record.Goals as goal

pub slice_bounds-make_call-end : goal.slice_bounds-make_call-end
slice_bounds-make_call-end c = let w = c.read_words-n.ensures in sym (length-take-le _ _ (omega (arith, w.ends, w.short, w.long)))

pub returns : goal.returns
returns c =
    let a = c.args in
    let r = record_in a.bytes.now in
    let w = first_words c.read_words-n.ensures (search rules) in
    let e = of_record r c.kind_of-kind.result c.read_words-n.result _ c.kind_of-kind.ensures w _ c.requires.2 in
    rw (← e) c.make_call.ensures
