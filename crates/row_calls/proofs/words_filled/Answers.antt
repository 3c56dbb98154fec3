-- `row_calls::words_filled` meets its contract: 13 words for each dispatch.
use Rattle.std.proofs.Common.{arith, ap, ◌*◌, ◌^◌, ◌<◌, sym}
use Rattle.told.proofs.Told.{few_told}
use Rattle.row_calls.proofs.words_filled.Goals as goal
use Rattle.row_calls.proofs.Filled.{none_filled, other_kind}
use Rattle.trace.specs.Calls.{kind_of}
use Rattle.trace_form.specs.Calls.{as_call}
use Rattle.row_calls.specs.Rows.{words_filled}

pub overflow_mul-result : goal.overflow_mul-result
overflow_mul-result c =
    let few : c.dispatches.result < 2 ^ 56 = rw c.dispatches.ensures (few_told _ c.args.answer) in
    omega (arith, few)

pub returns-in-Push : goal.returns-in-Push
unfolding words_filled kind_of as_call
returns-in-Push c = rw c.in-Push.is (ap (λ n. n * 13) c.dispatches.ensures)

pub returns-in_default : goal.returns-in_default
returns-in_default c = sym (none_filled _ _ (other_kind c.args.call c.in_default.not-Push))
