-- `decimal::digits` meets its contract: a number from a power of ten on, and below the next, has a digit more than the power says.
use Rattle.std.proofs.Common.{rules, sym, ap, arith, length}
use Rattle.decimal.proofs.Written.{one_digit, by_power}
use Rattle.decimal.proofs.digits.Goals as goal

pub returns-in-Some : goal.returns-in-Some
returns-in-Some c = let e = c.in-Some.ensures in sym (by_power _ _ (search rules) e.power_le e.next_power_gt)

pub returns-in-None : goal.returns-in-None
returns-in-None c = sym (ap length (one_digit _ (omega (arith, c.in-None.ensures.none))))
