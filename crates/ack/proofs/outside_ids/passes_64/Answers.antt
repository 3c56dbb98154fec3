-- `ack::outside_ids::passes_64` meets its contract: the ids there, and those that an ack adds.
use mathlib.Core.Path.{◌≡◌, ap}
use Prim.Native.Nat.{ℕ, ◌+◌}
use native.Mathlib.Omega.{arith}
use lib.Dec.{ltb}
use lib.ListN.{length}
use Rattle.rules.specs.State.{ledger_of}
use Rattle.layout.specs.Layout.{decode}
use Rattle.layout.specs.Fields.{dispatcher_nth}
use Rattle.groups.specs.Lent.{groups_in}
use Rattle.groups.proofs.Lists.{groups_few}
use Rattle.rules.specs.Commands.{ack_groups}
use Rattle.ack.proofs.Counts.{count_after, count_few}
use Rattle.ack.proofs.outside_ids.passes_64.Goals as goal

pub overflow_add-result : goal.overflow_add-result
overflow_add-result c =
    let a = c.args in
    let f = count_few (ledger_of (decode a.store.now) a.topic) (dispatcher_nth (decode a.store.now) a.d).outside (groups_in a.groups) in
    let m = groups_few a.groups in
    let o = c.requires.lists_fit.outside_fits in
    let r = c.new_ids.ensures in
    let n = c.outside_count-n.ensures in
    omega arith

pub returns : goal.returns
returns c =
    let a = c.args in
    let r = c.new_ids.ensures in
    let n = c.outside_count-n.ensures in
    let w = count_after (ledger_of (decode a.store.now) a.topic) (dispatcher_nth (decode a.store.now) a.d) (groups_in a.groups) in
    let e : c.outside_count-n.result + c.new_ids.result ≡ length (ack_groups (ledger_of (decode a.store.now) a.topic) (dispatcher_nth (decode a.store.now) a.d) (groups_in a.groups)).outside = omega arith in
    ap (λ (m : ℕ). ltb 64 m) e
