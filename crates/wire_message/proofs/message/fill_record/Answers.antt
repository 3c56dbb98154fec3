-- `wire_message::message::fill_record` meets its contract: nothing is written before the content was read, and then the numbers and
-- the ack words are the record.
use mathlib.Core.Path.{◌∙◌}
use borrow.Author.Rules.{rules}
use Rattle.std.proofs.lemmas.Result.{err_from_is_err_and}
use Rattle.wire_fields.proofs.Answered.{from_none, was_some, was_none}
use Rattle.wire_message.specs.Found.{head_of}
use Rattle.wire_message.proofs.Contents.{told_content}
use Rattle.wire_message.proofs.Records.{content_refused, words_ready, content_filled}
use Rattle.wire_message.proofs.message.fill_record.Goals as goal

pub returns-in_err-head : goal.returns-in_err-head
returns-in_err-head c =
    let a = c.args in
    let p = err_from_is_err_and c.from_residual.result c.from_residual.ensures.1 in
    let e = was_none _ _ c.in_err-head.ensures.value in
    let d = content_refused a.m.now a.record.now (from_none head_of _ (e.0 ∙ c.read_content.ensures)) in
    record { answer = rw (p.1, p.2, e.1) d.answer; words = d.written }

pub lay_numbers-requires : goal.lay_numbers-requires
lay_numbers-requires c =
    let k = told_content _ _ (was_some _ _ c.in_ok-head.ensures.value ∙ c.read_content.ensures) in
    words_ready k _ (search rules) c.from.ensures c.write_record.ensures

pub returns : goal.returns
returns c =
    let k = told_content _ _ (was_some _ _ c.in_ok-head.ensures.value ∙ c.read_content.ensures) in
    let d = content_filled k _ (search rules) c.from.ensures c.write_record.ensures c.lay_numbers.ensures in
    record { answer = d.answer; words = d.written }
