-- `trace_lines::write_dispatch` meets its contract: five parts one after the other.
use Rattle.std.proofs.lemmas.List.{take_rest}
use Rattle.trace_lines.proofs.Lines.{dispatch_wrote}
use Rattle.trace_lines.proofs.write_dispatch.Goals as goal

pub returns : goal.returns
returns c =
    rw (← take_rest c.args.list.now c.args.from)
    (dispatch_wrote _ c.read_record-dispatch.ensures c.write_text-after_plus.ensures c.write_number-after_consumer.ensures
    c.write_number-after_ledger.ensures c.write_number-after_entry.ensures c.write_permits.ensures)
