-- `push_turn::turn::place_after` meets its contract.
use mathlib.Core.Path.{◌≡◌}
use Prim.Native.Nat.{suc, ◌+◌}
use native.Mathlib.Omega.{arith}
use borrow.Author.Tests.{eq-eqb, ne_eqb}
use Rattle.push_turn.proofs.turn.place_after.Goals as goal

pub returns-then-place-n : goal.returns-then-place-n
returns-then-place-n c =
    let t = c.if-place-n.true in
    rw (eq-eqb (suc c.args.place) c.args.n (omega arith))

pub returns-else-place-n : goal.returns-else-place-n
returns-else-place-n c =
    let n : c.args.place + 1 ≡ suc c.args.place = omega arith in
    rw (ne_eqb (suc c.args.place) c.args.n (λ q. c.if-place-n.false (omega (arith, q)))) n
