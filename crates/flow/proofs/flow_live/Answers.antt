-- `flow::flow_live` meets its contract: over the limit, a plain consumer, or a shared one.
use mathlib.Core.Path.{◌≡◌, refl}
use Prim.Native.Nat.{◌+◌, ◌≤◌, ◌<◌}
use native.Mathlib.Omega.{arith}
use Rattle.layout.specs.Layout.{decode}
use Rattle.layout.specs.Fields.{consumer_nth}
use Rattle.rules.specs.Permits.{most_permits}
use Rattle.operation_laws.proofs.Frame.{refused_with, done_with, value_permits}
use Rattle.consumer.proofs.Found.{live_in, live_valid, live_slot, live_consumer}
use Rattle.consumer.proofs.Records.{told_shared, told_plain}
use Rattle.flow.proofs.Grants.{flow_over, flow_plain}
use Rattle.flow.proofs.flow_live.Goals as goal

pub permits-requires : goal.permits-requires
permits-requires c = live_in c.requires.0

pub overflow_add-granted : goal.overflow_add-granted
overflow_add-granted c =
    let m = (live_consumer c.requires.0).permits_to in
    let p = c.permits.ensures in
    let g = c.requires.1 in
    omega arith

pub returns-then-granted-gt-MOST_PERMITS : goal.returns-then-granted-gt-MOST_PERMITS
returns-then-granted-gt-MOST_PERMITS c =
    let ws = c.args.store.now in
    let h = c.requires.0 in
    let p = c.permits.ensures in
    let over : most_permits < (consumer_nth (decode ws) c.args.i).permits + c.args.grant = let t = c.if-granted-gt-MOST_PERMITS.true in omega arith in
    refused_with ws _ h.opened.spelt (flow_over (decode ws) c.args.i _ c.args.grant (live_slot h) refl (live_valid h) h.there over)

pub kind-requires : goal.kind-requires
kind-requires c = live_in c.requires.0

pub flow_shared-requires : goal.flow_shared-requires
flow_shared-requires c =
    let h = c.requires.0 in
    let p = c.permits.ensures in
    let left = c.if-granted-gt-MOST_PERMITS.false in
    (record { live = h; kind = told_shared c.in-Shared.is c.kind.ensures }, c.requires.1, omega arith, omega arith)

pub set_permits-requires : goal.set_permits-requires
set_permits-requires c = live_in c.requires.0

pub returns-in-Plain : goal.returns-in-Plain
returns-in-Plain c =
    let ws = c.args.store.now in
    let h = c.requires.0 in
    let n = c.permits.result + c.args.grant in
    let p : n ≡ (consumer_nth (decode ws) c.args.i).permits + c.args.grant = let q = c.permits.ensures in omega arith in
    let le : n ≤ most_permits = let t = c.if-granted-gt-MOST_PERMITS.false in omega arith in
    let k = told_plain c.in-Plain.is c.kind.ensures in
    done_with ws _ h.opened.spelt n _
    (flow_plain (decode ws) c.args.i _ c.args.grant (live_slot h) refl (live_valid h) h.there n p le k)
    (value_permits n) refl c.set_permits.ensures
