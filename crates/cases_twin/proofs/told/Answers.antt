-- A refusal tells none; else the value, of at most 64.
use Rattle.std.proofs.Common.{◌%◌, arith}
use borrow.Author.Tests.{lt-ltb, le-ltb}
use Rattle.rules.specs.Calls.{number_in, value_in}
use Rattle.cases_twin.specs.Twin.{told}
use Rattle.cases_twin.proofs.told.Goals as goal

pub returns-then-number_in-gt0 : goal.returns-then-number_in-gt0
unfolding told number_in
returns-then-number_in-gt0 c = let n = c.number_in.ensures in (rw (lt-ltb 0 (c.args.answer % 256) (omega arith)), omega arith)

pub returns : goal.returns
unfolding told number_in value_in
returns c =
    let n = c.number_in.ensures in
    let v = c.value_in.ensures in
    (rw (le-ltb 0 (c.args.answer % 256) (omega arith)) (omega arith), omega arith)
