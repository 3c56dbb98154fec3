-- `dispatcher::marks::raise_count` meets its contract: the word at its offset.
use native.Mathlib.Omega.{arith}
use Rattle.dispatcher.proofs.Gaps.{raised_count}
use Rattle.dispatcher.proofs.marks.raise_count.Goals as goal

pub returns : goal.returns
returns c =
    let s = c.saturating_add.ensures in
    let m = c.min.ensures in
    raised_count c.args.d c.dispatcher_at-at.result c.requires.0 c.dispatcher_at-at.ensures c.args.k c.min.result c.requires.1 (omega arith)
