-- `wire_ids::size::with_id` meets its contract: the tests are the definition's, and an id takes at most 16 words and 3.
use native.Mathlib.Omega.{arith}
use borrow.Author.Tests.{eq-eqb, ne_eqb}
use Rattle.wire_ids.specs.Sizes.{tally_id}
use Rattle.wire_ids.proofs.Tallies.{tallied_none, tallied_some, words_few}
use Rattle.wire_ids.proofs.size.with_id.Goals as goal

pub returns-in_err-n : goal.returns-in_err-n
unfolding tally_id
returns-in_err-n c =
    rw (
      c.from_residual.ensures,
      eq-eqb _ _ c.if-wire-ne-DELIMITED.false,
      ne_eqb _ _ c.if-t-eq0.false,
      tallied_none c.args.t _ c.in_err-n.ensures,
    )

pub overflow_add-result : goal.overflow_add-result
overflow_add-result c = omega (arith, words_few c.args.t _ _ c.in_ok-n.ensures)

pub overflow_add-result-2 : goal.overflow_add-result-2
overflow_add-result-2 c = omega (arith, words_few c.args.t _ _ c.in_ok-n.ensures, c.requires)

pub returns : goal.returns
unfolding tally_id
returns c =
    rw (
      eq-eqb _ _ c.if-wire-ne-DELIMITED.false,
      ne_eqb _ _ c.if-t-eq0.false,
      tallied_some c.args.t _ _ c.in_ok-n.ensures,
    )
