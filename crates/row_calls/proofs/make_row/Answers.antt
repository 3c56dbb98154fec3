-- `row_calls::make_row` meets its contract: its script is counted, and its calls are made if each has a word for its answer.
use Rattle.std.proofs.Common.{arith}
use Rattle.std.proofs.lemmas.Result.{err_from_is_err_and}
use Rattle.row_calls.proofs.Rows.{has_calls, has_form, has_none, row_bad, row_short, row_many, row_made}
use Rattle.row_calls.proofs.make_row.Goals as goal

pub returns-in_err-calls : goal.returns-in_err-calls
returns-in_err-calls c =
    let p = err_from_is_err_and c.from_residual.result c.from_residual.ensures.1 in
    let n = has_none _ c.in_err-calls.ensures in
    rw (p.1, p.2, n.1) (row_bad _ _ _ _ c.requires n.0)

pub returns-then-answers-calls : goal.returns-then-answers-calls
returns-then-answers-calls c = row_short _ _ _ _ c.requires _ (has_calls _ _ c.in_ok-calls.ensures) c.if-answers-calls.true

pub invariant_of-make_calls : goal.invariant_of-make_calls
invariant_of-make_calls c = record { formed = has_form _ _ (has_calls _ _ c.in_ok-calls.ensures) }

pub make_calls-requires : goal.make_calls-requires
make_calls-requires c =
    let many = row_many _ _ (has_calls _ _ c.in_ok-calls.ensures) in
    (c.requires, omega (arith, many, c.if-answers-calls.false))

pub returns : goal.returns
returns c = row_made _ _ _ _ c.requires _ (has_calls _ _ c.in_ok-calls.ensures) c.if-answers-calls.false c.make_calls.ensures
