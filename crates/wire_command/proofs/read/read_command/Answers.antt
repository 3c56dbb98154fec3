-- `wire_command::read::read_command` meets its contract: 16 where the list is short or there is no type, 17 for a type that is not
-- taken, 16 where its message is not there, and then the message's content decides.
use mathlib.Core.Path.{sym, ap, ◌∙◌}
use native.Mathlib.Omega.{arith}
use Rattle.std.proofs.lemmas.Result.{err_from_is_err_and}
use Rattle.wire_fields.specs.declared.unread.Unread.TheVariants.{Malformed}
use Rattle.wire_fields.proofs.Answered.{was_some, was_none}
use Rattle.wire_fields.proofs.Bases.{told_no_place, told_base, told_untyped, placed_message, message_found, stands_inside}
use Rattle.wire.specs.Commands.Reading.{refused}
use Rattle.wire_command.proofs.Answers.{refused_done, same_done, too_short, untyped, other_type, no_message, message_decides, typed, untyped_number}
use Rattle.wire_command.proofs.read.read_command.Goals as goal

pub returns-then-list-lt-LIST_WORDS : goal.returns-then-list-lt-LIST_WORDS
returns-then-list-lt-LIST_WORDS c =
    let a = c.args in
    let d = refused_done Malformed a.command.now a.list.now (too_short _ _ c.if-list-lt-LIST_WORDS.true) in
    record { answer = d.answer; words = d.written; ids = d.laid }

pub returns-in_err-base : goal.returns-in_err-base
returns-in_err-base c =
    let a = c.args in
    let p = err_from_is_err_and c.from_residual.result c.from_residual.ensures.1 in
    let e = was_none _ _ c.in_err-base.ensures.value in
    let d = refused_done Malformed a.command.now a.list.now (untyped _ _ (omega arith) (told_untyped _ (e.0 ∙ c.read_base.ensures))) in
    record { answer = rw (p.1, p.2, e.1) d.answer; words = d.written; ids = d.laid }

pub returns-in_err-kind : goal.returns-in_err-kind
returns-in_err-kind c =
    let a = c.args in
    let p = err_from_is_err_and c.from_residual-in_err-kind.result c.from_residual-in_err-kind.ensures.1 in
    let b = told_base a.bytes.now _ (was_some _ _ c.in_ok-base.ensures.value ∙ c.read_base.ensures) in
    let u = untyped_number _ _ c.in_err-kind.ensures in
    let d = refused_done c.in_err-kind.field-0.0 a.command.now a.list.now
    (other_type a.list.now a.bytes.now (omega arith) b.0 u.0 ∙ ap refused (sym u.1)) in
    record { answer = rw (p.1, p.2) d.answer; words = d.written; ids = d.laid }

pub returns-in_err-place : goal.returns-in_err-place
returns-in_err-place c =
    let a = c.args in
    let p = err_from_is_err_and c.from_residual-in_err-place.result c.from_residual-in_err-place.ensures.1 in
    let e = was_none _ _ c.in_err-place.ensures.value in
    let b = told_base a.bytes.now _ (was_some _ _ c.in_ok-base.ensures.value ∙ c.read_base.ensures) in
    let t = typed _ _ c.in_ok-kind.ensures in
    let n = told_no_place _ (e.0 ∙ b.1 ∙ placed_message _ _ t.low) in
    let d = refused_done Malformed a.command.now a.list.now (no_message _ _ (omega arith) b.0 t.taken n) in
    record { answer = rw (p.1, p.2, e.1) d.answer; words = d.written; ids = d.laid }

pub slice_bounds-read_content-count : goal.slice_bounds-read_content-count
slice_bounds-read_content-count c =
    let t = typed _ _ c.in_ok-kind.ensures in
    let s = stands_inside (message_found _ _ _ c.in_ok-base.ensures.value c.read_base.ensures t.low c.in_ok-place.ensures.value) in
    omega (arith, s.0, s.1)

pub slice_bounds-read_content-start : goal.slice_bounds-read_content-start
slice_bounds-read_content-start c =
    let t = typed _ _ c.in_ok-kind.ensures in
    let s = stands_inside (message_found _ _ _ c.in_ok-base.ensures.value c.read_base.ensures t.low c.in_ok-place.ensures.value) in
    omega (arith, s.0, s.1)

pub slice_bounds-read_content-end : goal.slice_bounds-read_content-end
slice_bounds-read_content-end c =
    let t = typed _ _ c.in_ok-kind.ensures in
    let s = stands_inside (message_found _ _ _ c.in_ok-base.ensures.value c.read_base.ensures t.low c.in_ok-place.ensures.value) in
    omega (arith, s.0, s.1)

pub returns : goal.returns
returns c =
    let a = c.args in
    let b = told_base a.bytes.now _ (was_some _ _ c.in_ok-base.ensures.value ∙ c.read_base.ensures) in
    let t = typed _ _ c.in_ok-kind.ensures in
    let p = message_found _ _ _ c.in_ok-base.ensures.value c.read_base.ensures t.low c.in_ok-place.ensures.value in
    let e = message_decides a.list.now a.bytes.now (omega arith) b.0 t.taken p in
    let r = c.read_content.ensures in
    let d = same_done a.command.now a.list.now (rw t.is at e) (record { answer = r.answer; written = r.words; laid = r.ids }) in
    record { answer = d.answer; words = d.written; ids = d.laid }
