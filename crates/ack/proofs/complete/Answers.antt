-- `ack::complete` meets its contract: three writes of one dispatcher, each over the last.
use Rattle.rules.specs.State.{ledger_of}
use Rattle.layout.specs.Layout.{decode}
use Rattle.layout.specs.Fields.{dispatcher_nth}
use Rattle.rules.specs.Commands.{ack_groups}
use Rattle.rules.specs.Dispatcher.{drop_complete}
use Rattle.groups.specs.Lent.{groups_in}
use Rattle.ack.proofs.Turns.{kept_groups, kept_fits, kept_marked}
use Rattle.ack.proofs.Finish.{drop_fits, written_in, written_marked, dropped, advanced}
use Rattle.ack.proofs.complete.Goals as goal

pub drop_complete-requires : goal.drop_complete-requires
drop_complete-requires c =
    let a = c.args in
    let p = c.requires in
    let k = (kept_groups (ledger_of (decode a.store.now) a.topic) (dispatcher_nth (decode a.store.now) a.d) (groups_in a.groups)) in
    let f = kept_fits k p.0.within.lists_fit p.1 in (
      written_in a.d a.id (ack_groups (ledger_of (decode a.store.now) a.topic) (dispatcher_nth (decode a.store.now) a.d) (groups_in a.groups)) p.0.within f c.ack_all.ensures,
      written_marked a.d a.id (ack_groups (ledger_of (decode a.store.now) a.topic) (dispatcher_nth (decode a.store.now) a.d) (groups_in a.groups)) p.0.within f c.ack_all.ensures (kept_marked k p.2),
    )

pub advance_mark_delete-requires : goal.advance_mark_delete-requires
advance_mark_delete-requires c =
    let a = c.args in
    let p = c.requires in
    let f = kept_fits (kept_groups (ledger_of (decode a.store.now) a.topic) (dispatcher_nth (decode a.store.now) a.d) (groups_in a.groups)) p.0.within.lists_fit p.1 in
    let w = dropped a.d a.id (ack_groups (ledger_of (decode a.store.now) a.topic) (dispatcher_nth (decode a.store.now) a.d) (groups_in a.groups)) p.0.within f c.ack_all.ensures c.drop_complete.ensures in
    (written_in a.d a.id (drop_complete a.id (ack_groups (ledger_of (decode a.store.now) a.topic) (dispatcher_nth (decode a.store.now) a.d) (groups_in a.groups))) p.0.within (drop_fits a.id (ack_groups (ledger_of (decode a.store.now) a.topic) (dispatcher_nth (decode a.store.now) a.d) (groups_in a.groups)) f) w)

pub returns : goal.returns
returns c =
    let a = c.args in
    let p = c.requires in
    let f = kept_fits (kept_groups (ledger_of (decode a.store.now) a.topic) (dispatcher_nth (decode a.store.now) a.d) (groups_in a.groups)) p.0.within.lists_fit p.1 in
    let w = dropped a.d a.id (ack_groups (ledger_of (decode a.store.now) a.topic) (dispatcher_nth (decode a.store.now) a.d) (groups_in a.groups)) p.0.within f c.ack_all.ensures c.drop_complete.ensures in
    advanced a.d a.id (drop_complete a.id (ack_groups (ledger_of (decode a.store.now) a.topic) (dispatcher_nth (decode a.store.now) a.d) (groups_in a.groups))) p.0.within (drop_fits a.id (ack_groups (ledger_of (decode a.store.now) a.topic) (dispatcher_nth (decode a.store.now) a.d) (groups_in a.groups)) f) w c.advance_mark_delete.ensures
