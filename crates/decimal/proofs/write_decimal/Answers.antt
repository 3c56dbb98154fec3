-- `decimal::write_decimal` meets its contract: the digits of what is left of the number, laid from the first place on, finish the
-- number (`Partly`).
use native.Mathlib.Omega.{arith}
use borrow.Author.Rules.{rules}
use Rattle.decimal.specs.Decimal.{digit}
use Rattle.decimal.proofs.Written.{partly_start, partly_on, partly_end, below_10, from_10, short}
use Rattle.decimal.proofs.write_decimal.Goals as goal

pub overflow_add-end : goal.overflow_add-end
overflow_add-end c = omega (arith, short c.args.number)

pub loop-here-init : goal.loop-here-init
loop-here-init c = partly_start (search rules) (search rules)

pub loop-here-preserved : goal.loop-here-preserved
unfolding digit
loop-here-preserved c =
    let p = c.loop-here.invariant in partly_on p (from_10 _ (omega (arith, p.ends, c.loop-here-test.true)))

pub overflow_cast-buffer-2 : goal.overflow_cast-buffer-2
overflow_cast-buffer-2 c =
    let p = c.loop-here.invariant in
    record { fits = omega (arith, below_10 _ p.fits (omega (arith, p.ends, c.loop-here-test.false))) }

pub overflow_add-buffer-2 : goal.overflow_add-buffer-2
overflow_add-buffer-2 c =
    let p = c.loop-here.invariant in
    record { fits = omega (arith, below_10 _ p.fits (omega (arith, p.ends, c.loop-here-test.false))) }

pub returns : goal.returns
unfolding digit
returns c =
    let p = c.loop-here.invariant in
    partly_end p (below_10 _ p.fits (omega (arith, p.ends, c.loop-here-test.false))) (search rules)
