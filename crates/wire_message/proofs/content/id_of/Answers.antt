-- `wire_message::content::id_of` meets its contract: each early return is a part of the definition's chain that has no answer.
use mathlib.Core.Option.{bind}
use Rattle.wire.specs.Select.{uint64, count}
use Rattle.wire.specs.Ids.{id_of}
use Rattle.wire_fields.specs.Found.{answered}
use Rattle.wire_fields.proofs.Selections.{walked, walked_not, at_a, at_b, at_c, required_is, required_bad, optional_is, optional_bad}
use Rattle.wire_message.specs.Found.{id_of_bytes}
use Rattle.wire_message.proofs.content.id_of.Goals as goal

pub returns-in_err-x : goal.returns-in_err-x
unfolding id_of_bytes bind answered
returns-in_err-x c = rw (c.from_residual.ensures, walked_not _ _ c.in_err-x.ensures)

pub returns-in_err-ledger : goal.returns-in_err-ledger
unfolding id_of_bytes id_of bind answered
returns-in_err-ledger c =
    let w = walked _ _ _ c.in_ok-x.ensures in
    rw (c.from_residual-in_err-ledger.ensures, w.all_fields, required_bad uint64 (at_a w) c.in_err-ledger.ensures)

pub returns-in_err-entry : goal.returns-in_err-entry
unfolding id_of_bytes id_of bind answered
returns-in_err-entry c =
    let w = walked _ _ _ c.in_ok-x.ensures in
    rw (
      c.from_residual-in_err-entry.ensures,
      w.all_fields,
      required_is uint64 (at_a w) c.in_ok-ledger.ensures,
      required_bad uint64 (at_b w) c.in_err-entry.ensures,
    )

pub returns-in_err-batch_size : goal.returns-in_err-batch_size
unfolding id_of_bytes id_of bind answered
returns-in_err-batch_size c =
    let w = walked _ _ _ c.in_ok-x.ensures in
    rw (
      c.from_residual-in_err-batch_size.ensures,
      w.all_fields,
      required_is uint64 (at_a w) c.in_ok-ledger.ensures,
      required_is uint64 (at_b w) c.in_ok-entry.ensures,
      optional_bad count (at_c w) c.in_err-batch_size.ensures,
    )

pub returns : goal.returns
unfolding id_of_bytes id_of bind answered
returns c =
    let w = walked _ _ _ c.in_ok-x.ensures in
    rw (
      w.all_fields,
      required_is uint64 (at_a w) c.in_ok-ledger.ensures,
      required_is uint64 (at_b w) c.in_ok-entry.ensures,
      optional_is count (at_c w) c.in_ok-batch_size.ensures,
    )
