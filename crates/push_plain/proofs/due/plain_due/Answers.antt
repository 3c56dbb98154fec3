-- `push_plain::due::plain_due` meets its contract: what is permitted of what waits.
use mathlib.Core.Path.{ap, ◌∙◌}
use Prim.Native.Nat.{ℕ, ◌-◌, min}
use Rattle.rules.specs.Permits.{zero_permits}
use Rattle.layout.specs.Layout.{decode}
use Rattle.layout.specs.Fields.{consumer_nth}
use Rattle.push_plain.proofs.Waits.{waits_permitted}
use Rattle.push_plain.proofs.due.plain_due.Goals as goal

pub returns : goal.returns
returns c =
    let r = c.args.reader in
    let s = decode c.args.store.now in
    c.permitted.ensures
    ∙ ap (λ (n : ℕ). min (r.permits - zero_permits) n) c.waiting_for.ensures
    ∙ waits_permitted s (consumer_nth s r.i) r.permits
