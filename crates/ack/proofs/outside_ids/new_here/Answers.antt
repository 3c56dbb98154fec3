-- `ack::outside_ids::new_here` meets its contract: one of the three tests is met, or none.
use mathlib.Core.Path.{sym, ◌∙◌}
use mathlib.Core.Bool.{true≢false}
use Rattle.groups.specs.Lent.{group_of, groups_in}
use Rattle.rules.specs.State.{ledger_of}
use Rattle.rules.proofs.Table.{by_test}
use Rattle.layout.specs.Layout.{decode}
use Rattle.layout.specs.Fields.{dispatcher_nth}
use Rattle.ack.proofs.Counts.{bit_held, bit_known, bit_later, bit_counts}
use Rattle.ack.proofs.outside_ids.new_here.Goals as goal
use Rattle.ack.proofs.outside_ids.new_here.Goals.{then-in_ledger, else-in_ledger, then-known, else-known}

pub returns : goal.returns
returns c =
    let a = c.args in
    let ledger = ledger_of (decode a.store.now) a.topic in
    let x = dispatcher_nth (decode a.store.now) a.d in
    let g = group_of a.group in
    let gs = groups_in a.left in
    let held = sym c.in_ledger.ensures in
    elim c.if-known.branch [
      | then-known w ↦
          (rw (w.from-is, w.if-known.true) at c.from.ensures)
          ∙ elim c.if-in_ledger.branch [
            | then-in_ledger v ↦ bit_held ledger x g gs (held ∙ v.if-in_ledger.true)
            | else-in_ledger v ↦
                bit_known ledger x g gs (held ∙ v.if-in_ledger.false) (sym (rw c.id-id.ensures at v.is_outside-known.ensures) ∙ sym v.known-is ∙ w.if-known.true)
          ]
      | else-known w ↦ elim c.if-in_ledger.branch [
        | then-in_ledger v ↦ absurd (true≢false (sym v.if-in_ledger.true ∙ sym v.known-is ∙ w.if-known.false))
        | else-in_ledger v ↦
            let h = held ∙ v.if-in_ledger.false in
            let o = sym (rw c.id-id.ensures at v.is_outside-known.ensures) ∙ sym v.known-is ∙ w.if-known.false in
            let n = sym (rw c.id-id.ensures at w.names.ensures) in
            by_test w.names.result
            (λ t. (rw (w.from-is, t) at c.from.ensures) ∙ bit_later ledger x g gs h o (n ∙ t))
            (λ t. (rw (w.from-is, t) at c.from.ensures) ∙ bit_counts ledger x g gs h o (n ∙ t))
      ]
    ]
