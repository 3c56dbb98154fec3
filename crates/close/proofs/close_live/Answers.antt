-- `close::close_live` meets its contract: a shared consumer, or a plain one that goes.
use mathlib.Core.Path.{refl}
use Rattle.layout.specs.Layout.{decode}
use Rattle.operation_laws.proofs.Frame.{done_with}
use Rattle.consumer.proofs.Records.{told_shared, told_plain}
use Rattle.consumer.proofs.Found.{live_in, live_valid, live_slot}
use Rattle.close.proofs.Closes.{value_closed, close_plain}
use Rattle.close.proofs.close_live.Goals as goal

pub kind-requires : goal.kind-requires
kind-requires c = live_in c.requires

pub close_shared-requires : goal.close_shared-requires
close_shared-requires c = record { live = c.requires; kind = told_shared c.in-Shared.is c.kind.ensures }

pub remove_consumer-requires : goal.remove_consumer-requires
remove_consumer-requires c = live_in c.requires

pub returns-in-Plain : goal.returns-in-Plain
returns-in-Plain c =
    let a = c.args in
    let h = c.requires in
    done_with a.store.now _ h.opened.spelt 1 256
    (close_plain (decode a.store.now) a.i _ (live_slot h) refl (live_valid h) h.there (told_plain c.in-Plain.is c.kind.ensures))
    value_closed refl c.remove_consumer.ensures
