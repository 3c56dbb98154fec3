-- `ack::ack_id::ack_entry` meets its contract: the mark is read, acknowledged and written.
use mathlib.Core.Path.{◌≡◌, ap, ◌∙◌}
use Prim.Native.Nat.{ℕ}
use native.Mathlib.Omega.{arith}
use lib.ListN.{set}
use Rattle.rules.specs.State.{Mark, ledger_of}
use Rattle.rules.specs.Ledger.{message_at}
use Rattle.rules.specs.Dispatcher.{with_marks, mark_at, ack_mark}
use Rattle.layout.specs.Layout.{decode, put}
use Rattle.layout.specs.Fields.{dispatcher_nth, set_dispatcher}
use Rattle.groups.specs.Lent.{group_of}
use Rattle.dispatcher.specs.Values.{mark_of}
use Rattle.ack.proofs.ack_id.ack_entry.Goals as goal

pub load_mark-mark-requires : goal.load_mark-mark-requires
load_mark-mark-requires c =
    let p = c.requires in
    let o = p.0.one_each in
    let k = p.1 in
    (p.0.within, omega arith)

pub save_mark-requires : goal.save_mark-requires
save_mark-requires c =
    let p = c.requires in
    let o = p.0.one_each in
    let k = p.1 in
    (p.0.within, omega arith)

pub returns : goal.returns
returns c =
    let a = c.args in
    let s = decode a.store.now in
    let x = dispatcher_nth s a.d in
    let m : mark_of c.acked_mark-acked.result ≡ ack_mark (message_at (ledger_of s a.topic) a.k).batch_size (group_of a.group).words (mark_at x a.k) =
    c.acked_mark-acked.ensures
    ∙ ap (λ (n : ℕ). ack_mark n (group_of a.group).words (mark_of c.load_mark-mark.result)) c.batch_size_of-batch.ensures
    ∙ ap (λ (y : Mark). ack_mark (message_at (ledger_of s a.topic) a.k).batch_size (group_of a.group).words y) c.load_mark-mark.ensures in
    c.save_mark.ensures ∙ ap (λ (y : Mark). put a.store.now (set_dispatcher s a.d (with_marks x (set x.marks a.k y) x.outside))) m
