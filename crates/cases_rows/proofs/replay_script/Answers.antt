-- The arrays that are lent hold zeros, and nothing else writes the store, whether what is printed is written or not.
use Rattle.cases_rows.proofs.Lines.{with_zeros, done_has_calls}
use Rattle.cases_rows.proofs.replay_script.Goals as goal

pub returns-in_err-show_outcome : goal.returns-in_err-show_outcome
returns-in_err-show_outcome g c = with_zeros c.requires c.broker_calls-answer.ensures

pub returns-then-number_in-eq0 : goal.returns-then-number_in-eq0
returns-then-number_in-eq0 g c = with_zeros c.requires c.broker_calls-answer.ensures

pub returns : goal.returns
returns g c = with_zeros c.requires c.broker_calls-answer.ensures

pub show_calls-requires : goal.show_calls-requires
show_calls-requires g c = done_has_calls c.broker_calls-answer.ensures c.number_in.ensures c.if-number_in-eq0.true
