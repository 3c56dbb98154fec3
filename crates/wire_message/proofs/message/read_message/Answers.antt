-- `wire_message::message::read_message` meets its contract: 16 where there is no type, 17 for another, and then the message's
-- content decides.
use mathlib.Core.Path.{ap, ◌∙◌}
use mathlib.Core.Option.{some}
use native.Mathlib.Omega.{arith}
use Rattle.wire.specs.Message.{MESSAGE}
use Rattle.wire_fields.specs.Selected.{placed}
use Rattle.std.proofs.lemmas.Result.{err_from_is_err_and}
use Rattle.wire_fields.proofs.Answered.{was_some, was_none}
use Rattle.wire_fields.proofs.Bases.{told_no_place, told_base, told_untyped, placed_message, message_found, stands_inside}
use Rattle.wire_message.proofs.Records.{not_typed, other_type, no_message, message_read}
use Rattle.wire_message.proofs.message.read_message.Goals as goal

pub returns-in_err-base : goal.returns-in_err-base
returns-in_err-base c =
    let a = c.args in
    let p = err_from_is_err_and c.from_residual.result c.from_residual.ensures.1 in
    let e = was_none _ _ c.in_err-base.ensures.value in
    let d = not_typed a.bytes.now a.record.now (told_untyped _ (e.0 ∙ c.read_base.ensures)) in
    record { answer = rw (p.1, p.2, e.1) d.answer; words = d.written }

pub returns-then-base-ne-MESSAGE : goal.returns-then-base-ne-MESSAGE
returns-then-base-ne-MESSAGE c =
    let a = c.args in
    let b = told_base a.bytes.now _ (was_some _ _ c.in_ok-base.ensures.value ∙ c.read_base.ensures) in
    let d = other_type a.bytes.now a.record.now _ b.0 c.if-base-ne-MESSAGE.true in
    record { answer = d.answer; words = d.written }

pub returns-in_err-place : goal.returns-in_err-place
returns-in_err-place c =
    let a = c.args in
    let r = err_from_is_err_and c.from_residual-in_err-place.result c.from_residual-in_err-place.ensures.1 in
    let k = c.if-base-ne-MESSAGE.false in
    let b = told_base a.bytes.now _ (was_some _ _ c.in_ok-base.ensures.value ∙ c.read_base.ensures) in
    let p = b.1 ∙ ap (placed a.bytes.now) k ∙ placed_message a.bytes.now MESSAGE (omega arith) in
    let e = was_none _ _ c.in_err-place.ensures.value in
    let d = no_message a.bytes.now a.record.now (b.0 ∙ ap some k) (told_no_place _ (e.0 ∙ p)) in
    record { answer = rw (r.1, r.2, e.1) d.answer; words = d.written }

pub slice_bounds-fill_record-count : goal.slice_bounds-fill_record-count
slice_bounds-fill_record-count c =
    let k = c.if-base-ne-MESSAGE.false in
    let s = stands_inside (message_found _ _ _ c.in_ok-base.ensures.value c.read_base.ensures (omega (arith, k)) c.in_ok-place.ensures.value) in
    omega (arith, s.0, s.1)

pub slice_bounds-fill_record-start : goal.slice_bounds-fill_record-start
slice_bounds-fill_record-start c =
    let k = c.if-base-ne-MESSAGE.false in
    let s = stands_inside (message_found _ _ _ c.in_ok-base.ensures.value c.read_base.ensures (omega (arith, k)) c.in_ok-place.ensures.value) in
    omega (arith, s.0, s.1)

pub slice_bounds-fill_record-end : goal.slice_bounds-fill_record-end
slice_bounds-fill_record-end c =
    let k = c.if-base-ne-MESSAGE.false in
    let s = stands_inside (message_found _ _ _ c.in_ok-base.ensures.value c.read_base.ensures (omega (arith, k)) c.in_ok-place.ensures.value) in
    omega (arith, s.0, s.1)

pub returns : goal.returns
returns c =
    let a = c.args in
    let k = c.if-base-ne-MESSAGE.false in
    let b = told_base a.bytes.now _ (was_some _ _ c.in_ok-base.ensures.value ∙ c.read_base.ensures) in
    let s = rw k at (message_found _ _ _ c.in_ok-base.ensures.value c.read_base.ensures (omega (arith, k)) c.in_ok-place.ensures.value) in
    let r = c.fill_record.ensures in
    let d = message_read a.bytes.now a.record.now (b.0 ∙ ap some k) s.is (rw (s.starts, s.ends) (record { answer = r.answer; written = r.words })) in
    record { answer = d.answer; words = d.written }
