-- `push_plain::due::waiting_for` meets its contract: nothing waits for a shared consumer.
use mathlib.Core.Path.{◌∙◌}
use Rattle.layout.specs.Layout.{decode}
use Rattle.layout.specs.Fields.{consumer_nth}
use Rattle.consumer.proofs.Records.{told_shared, told_plain}
use Rattle.push_plain.proofs.Waits.{waits_not, waits}
use Rattle.push_plain.proofs.due.waiting_for.Goals as goal

pub returns-in-Shared : goal.returns-in-Shared
returns-in-Shared c =
    let s = decode c.args.store.now in
    waits_not s (consumer_nth s c.args.i) (told_shared c.in-Shared.is c.kind.ensures)

pub returns-in-Plain : goal.returns-in-Plain
returns-in-Plain c =
    let s = decode c.args.store.now in
    c.waiting.ensures ∙ waits s (consumer_nth s c.args.i) (told_plain c.in-Plain.is c.kind.ensures)
