-- `redeliver::redeliver_live` meets its contract: the redeliver of a shared consumer, or of a plain one.
use Rattle.consumer.proofs.Found.{live_in}
use Rattle.consumer.proofs.Records.{told_shared, told_plain}
use Rattle.redeliver.proofs.redeliver_live.Goals as goal

pub kind-requires : goal.kind-requires
kind-requires c = live_in c.requires

pub redeliver_shared-requires : goal.redeliver_shared-requires
redeliver_shared-requires c = record { live = c.requires; kind = told_shared c.in-Shared.is c.kind.ensures }

pub redeliver_plain-requires : goal.redeliver_plain-requires
redeliver_plain-requires c = (c.requires, told_plain c.in-Plain.is c.kind.ensures)
