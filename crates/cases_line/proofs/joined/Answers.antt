-- A byte below the digits leaves a word; a digit and a letter join it.
use native.Mathlib.Omega.{arith}
use borrow.Author.Tests.{lt-ltb, le-ltb}
use Rattle.cases_line.specs.Line.{with_byte}
use Rattle.cases_line.proofs.joined.Goals as goal

pub returns-then-b-lt48 : goal.returns-then-b-lt48
unfolding with_byte
returns-then-b-lt48 c = rw (lt-ltb c.args.b 48 c.if-b-lt48.true)

pub returns-then-b-le57 : goal.returns-then-b-le57
unfolding with_byte
returns-then-b-le57 c = rw (le-ltb c.args.b 48 c.if-b-lt48.false, lt-ltb c.args.b 58 (omega arith), ← c.from.ensures) c.with_digit.ensures

pub returns : goal.returns
unfolding with_byte
returns c = rw (le-ltb c.args.b 48 c.if-b-lt48.false, le-ltb c.args.b 58 (omega arith)) (omega arith)
