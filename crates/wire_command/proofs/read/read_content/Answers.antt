-- `wire_command::read::read_content` meets its contract: what is not right is refused and changes nothing; what is right has the
-- type that was asked for, its ids are laid, and its words are written.
use mathlib.Core.Path.{ap, ◌∙◌}
use Rattle.std.proofs.lemmas.Result.{err_from_is_err_and}
use Rattle.wire.specs.Commands.{command_of}
use Rattle.wire_fields.specs.declared.unread.Unread.TheVariants.{Malformed}
use Rattle.wire_fields.proofs.Answered.{from_some, was_some, was_none}
use Rattle.wire_command.specs.Found.{as_command}
use Rattle.wire_command.specs.Types.{type_number}
use Rattle.wire_command.proofs.Choices.{chosen}
use Rattle.wire_command.proofs.Answers.{told_no_command, refused_done, read_done}
use Rattle.wire_command.specs.InNumbers.{words_of_numbers}
use Rattle.wire_command.proofs.InNumbers.{same_words}
use Rattle.wire_command.proofs.read.read_content.Goals as goal

pub returns-in_err-c : goal.returns-in_err-c
returns-in_err-c c =
    let a = c.args in
    let p = err_from_is_err_and c.from_residual.result c.from_residual.ensures.1 in
    let e = was_none _ _ c.in_err-c.ensures.value in
    let d = refused_done Malformed a.command.now a.list.now (told_no_command _ (e.0 ∙ c.content_of.ensures)) in
    record { answer = rw (p.1, p.2, e.1) d.answer; words = d.written; ids = d.laid }

pub lay_list-requires : goal.lay_list-requires
lay_list-requires c =
    let a = c.args in
    let t = from_some as_command (command_of (type_number a.kind) a.at a.m.now) (was_some _ _ c.in_ok-c.ensures.value ∙ c.content_of.ensures) in
    (chosen a.at a.m.now (type_number a.kind) t.x t.is).ready _ c.requires.1

pub returns : goal.returns
returns c =
    let a = c.args in
    let t = from_some as_command (command_of (type_number a.kind) a.at a.m.now) (was_some _ _ c.in_ok-c.ensures.value ∙ c.content_of.ensures) in
    let k = chosen a.at a.m.now (type_number a.kind) t.x t.is in
    let w = c.write_words.ensures ∙ ap words_of_numbers c.from.ensures ∙ same_words _ in
    let d = read_done a.command.now a.list.now t k w c.lay_list.ensures in
    record { answer = d.answer; words = d.written; ids = d.laid }
