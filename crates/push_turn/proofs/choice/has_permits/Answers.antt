-- `push_turn::choice::has_permits` meets its contract: a slot past the end has permits 0, in excess form far below none.
use Rattle.std.proofs.Common.{◌≡◌, sym, get_or, arith}
use borrow.Author.Tests.{le-ltb}
use Rattle.rules.specs.Permits.{zero_permits, above_zero}
use Rattle.push_turn.proofs.choice.has_permits.Goals as goal

pub returns-in_default : goal.returns-in_default
unfolding above_zero
returns-in_default c =
    let none : 0 ≡ get_or c.args.permits.now c.args.c 0 = rw c.in_default.is at (c.get.ensures.lookup.4 (omega arith) 0) in
    rw (← none) (sym (le-ltb zero_permits 0 (omega arith)))

pub returns : goal.returns
unfolding above_zero
returns c =
    let held : c.in-Some.held.now ≡ get_or c.args.permits.now c.args.c 0 = rw c.in-Some.is at (c.get.ensures.lookup.4 (omega arith) 0) in
    rw (← held)
