-- `trace_call::make_call` meets its contract: what is a call is made, and what is none changes nothing.
use Rattle.std.proofs.Common.{◌/◌, ap, length, arith, sym, ◌∙◌}
use Rattle.layout.proofs.Slices.{word, few_records}
use Rattle.trace_form.specs.Calls.{as_read}
use Rattle.trace_form.proofs.Rooms.{with_any_room}
use Rattle.trace_call.proofs.Calls.{not_made, is_made, numbered}
use Rattle.trace_call.proofs.make_call.Goals as goal

pub returns-in_err-call : goal.returns-in_err-call
unfolding as_read
returns-in_err-call c =
    let room = length c.args.list.now / 13 in
    let read = with_any_room room c.args.kind c.args.words.now (word _ (few_records (length c.args.list.now) (omega arith))) _ c.call_of.ensures in
    rw c.from_residual.ensures (numbered _ _ _ (not_made _ _ (sym (ap (as_read room) c.in_err-call.was) ∙ read)))

pub returns : goal.returns
unfolding as_read
returns c =
    let room = length c.args.list.now / 13 in
    let read = with_any_room room c.args.kind c.args.words.now (word _ (few_records (length c.args.list.now) (omega arith))) _ c.call_of.ensures in
    numbered _ _ _ (is_made _ _ (sym (ap (as_read room) c.in_ok-call.was) ∙ read) c.answer_call.ensures)
