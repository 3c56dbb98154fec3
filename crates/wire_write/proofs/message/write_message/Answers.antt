-- `wire_write::message::write_message` meets its contract: what its tests refuse the definition refuses, and the rest is written.
use mathlib.Core.Path.{sym, ◌∙◌}
use native.Mathlib.Omega.{arith}
use borrow.Author.Rules.{rules}
use Rattle.wire_write.proofs.Messages.{refuses_buffer, refuses_record, writes, few_words}
use Rattle.wire_write.proofs.message.write_message.Goals as goal

pub returns-then-buffer-lt-BUFFER_BYTES : goal.returns-then-buffer-lt-BUFFER_BYTES
returns-then-buffer-lt-BUFFER_BYTES c =
    let d = refuses_buffer c.args.buffer.now c.args.«record».now c.if-buffer-lt-BUFFER_BYTES.true in
    record { answer = d.answer; short = tt; bytes = d.bytes }

pub returns-then-not-can_write : goal.returns-then-not-can_write
returns-then-not-can_write c =
    let d = refuses_record c.args.buffer.now c.args.«record».now (sym c.can_write.ensures ∙ c.if-not-can_write.true) in
    record { answer = d.answer; short = tt; bytes = d.bytes }

pub write_command-requires : goal.write_command-requires
write_command-requires c =
    (few_words c.args.«record».now (sym c.can_write.ensures ∙ c.if-not-can_write.false), search rules)

pub returns : goal.returns
returns c =
    let w = c.write_command.ensures in
    let d = writes c.args.«record».now (search rules) (sym c.can_write.ensures ∙ c.if-not-can_write.false) w in
    record { answer = d.answer; short = omega (arith, w.ends, w.short); bytes = d.bytes }
