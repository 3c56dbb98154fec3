-- `wire_command::content::content` meets its contract: the number's type decides, and a number that is no command's has none.
use Rattle.wire_fields.specs.Found.{answered}
use Rattle.wire_command.proofs.Answers.{typed, a_type, no_type, no_command}
use Rattle.wire_command.proofs.content.content.Goals as goal

pub returns-in_err-ok : goal.returns-in_err-ok
unfolding answered
returns-in_err-ok c =
    rw (c.from_residual.ensures, no_command _ c.args.at c.args.m.now (no_type c.args.kind c.try_from.ensures c.in_err-ok.ensures.value))

pub returns : goal.returns
returns c = rw (typed _ _ (a_type c.args.kind c.try_from.ensures c.in_ok-ok.ensures.value)).is c.content_of.ensures
