-- Each dispatcher's slot lies in the table.
use Rattle.std.proofs.Common.{arith}
use Rattle.layout.proofs.Placed.{dispatcher_in}
use Rattle.cases.proofs.balances.show_each.Goals as goal

pub balance_check-balance-requires : goal.balance_check-balance-requires
balance_check-balance-requires g c =
    let n = c.dispatcher_count-n.ensures in
    (dispatcher_in c.requires.0 c.loop-d.d (omega (arith, n)), c.requires.1)

pub total_available_permits-total-requires : goal.total_available_permits-total-requires
total_available_permits-total-requires g c =
    let n = c.dispatcher_count-n.ensures in
    dispatcher_in c.requires.0 c.loop-d.d (omega (arith, n))
