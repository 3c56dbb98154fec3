-- `wire_command::seek::target_in` meets its contract: the first two numbers are the id's ledger and entry.
use mathlib.Core.Option.{bind}
use Rattle.wire.specs.Ids.{id_of}
use Rattle.wire_fields.specs.Found.{answered}
use Rattle.wire_command.specs.Found.{target_in, as_target}
use Rattle.wire_command.proofs.Steps.{two_of_message, two_bad_message}
use Rattle.wire_command.proofs.seek.target_in.Goals as goal

pub returns-in_err-ledger : goal.returns-in_err-ledger
unfolding target_in id_of answered bind
returns-in_err-ledger c =
    rw c.from_residual.ensures
    (two_bad_message _ _ 1 2 c.in_err-ledger.ensures
    (λ p. rw p)
    (λ fs p q. rw (p, q))
    (λ fs p u q s. rw (p, q, s)))

pub returns : goal.returns
unfolding target_in id_of answered as_target bind
returns c =
    let t = two_of_message _ _ 1 2 c.in_ok-ledger.ensures in
    rw (t.all_fields, t.numbers.first, t.numbers.second)
