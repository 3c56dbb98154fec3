-- `row_script::count_calls` meets its contract: a call more is counted, or the script is bad.
use Rattle.std.proofs.Common.{length, arith, sym, ◌∙◌}
use borrow.Author.Tests.{eqb-true, eqb-false}
use Rattle.row_script.proofs.Walking.{counted_bad, counted_more, counted_all}
use Rattle.row_script.proofs.count_calls.Goals as goal

pub returns-in_default : goal.returns-in_default
returns-in_default c =
    let more = eqb-false (length c.loop-rest.rest.now) 0 (sym c.is_empty.ensures ∙ c.loop-rest-test.true) in
    counted_bad _ c.loop-rest.rest.now (omega (arith, more)) c.in_default.ensures ∙ c.loop-rest.invariant.rest

pub loop-rest-smaller : goal.loop-rest-smaller
loop-rest-smaller c = c.in-Some.ensures.shorter

pub loop-rest-preserved : goal.loop-rest-preserved
loop-rest-preserved c =
    let s = c.in-Some.ensures.shorter in
    let few = c.loop-rest.invariant.few in
    record { few = omega (arith, s, few); rest = counted_more _ c.in-Some.ensures ∙ c.loop-rest.invariant.rest }

pub returns : goal.returns
returns c = counted_all _ c.loop-rest.rest.now (eqb-true (length c.loop-rest.rest.now) 0 (sym c.is_empty.ensures ∙ c.loop-rest-test.false)) ∙ c.loop-rest.invariant.rest
