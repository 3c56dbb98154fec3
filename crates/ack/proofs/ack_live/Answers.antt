-- `ack::ack_live` meets its contract: a shared consumer, or a plain one, whose ack changes nothing.
use mathlib.Core.Path.{refl, sym}
use Rattle.layout.specs.Layout.{decode}
use Rattle.layout.proofs.Store.{put_decode}
use Rattle.groups.specs.Lent.{groups_in}
use Rattle.groups.proofs.Lists.{groups_read}
use Rattle.operation_laws.proofs.Frame.{done_with}
use Rattle.consumer.proofs.Found.{live_canon, live_in, live_slot}
use Rattle.consumer.proofs.Records.{told_shared, told_plain}
use Rattle.ack.proofs.Outcomes.{value_plain, ack_plain}
use Rattle.ack.proofs.ack_live.Goals as goal

pub kind-requires : goal.kind-requires
kind-requires c = live_in c.requires

pub ack_shared-requires : goal.ack_shared-requires
ack_shared-requires c = record { live = c.requires; kind = told_shared c.in-Shared.is c.kind.ensures }

pub returns-in-Plain : goal.returns-in-Plain
returns-in-Plain c =
    let a = c.args in
    let h = c.requires in
    let s = decode a.store.now in
    done_with a.store.now _ h.opened.spelt 0 0
    (ack_plain s a.i _ a.groups.list.now (live_slot h) h.there (groups_in a.groups) (groups_read a.groups) (told_plain c.in-Plain.is c.kind.ensures))
    value_plain refl (sym (put_decode (live_canon h)))
