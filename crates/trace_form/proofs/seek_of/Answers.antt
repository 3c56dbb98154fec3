-- `trace_form::seek_of` meets its contract: a word and 0, or a word, 1 and two words, are a seek.
use Rattle.std.proofs.Common.{arith}
use Rattle.command_parts.specs.Parts.{target_of}
use Rattle.trace_form.proofs.Tested.{to_start, to_an_id, no_seek}
use Rattle.trace_form.specs.Calls.{as_call, as_read}
use Rattle.trace_form.proofs.seek_of.Goals as goal

pub returns-then-words-ne-TO_START : goal.returns-then-words-ne-TO_START
unfolding as_read
returns-then-words-ne-TO_START c =
    no_seek _ (λ l z. c.if-words-ne-TO_START.true z) (λ l one. let two = c.if-words-eq2.true in omega (arith, two, l))

pub returns-then-words-eq2 : goal.returns-then-words-eq2
unfolding as_read as_call target_of
returns-then-words-eq2 c = to_start _ (λ k. (c.type_inv.words k).fits) c.if-words-eq2.true c.if-words-ne-TO_START.false

pub returns-then-words-ne4 : goal.returns-then-words-ne4
unfolding as_read
returns-then-words-ne4 c = no_seek _ (λ l z. c.if-words-eq2.false l) (λ l one. c.if-words-ne4.true l)

pub returns-then-words-ne-TO_AN_ID : goal.returns-then-words-ne-TO_AN_ID
unfolding as_read
returns-then-words-ne-TO_AN_ID c = no_seek _ (λ l z. c.if-words-eq2.false l) (λ l one. c.if-words-ne-TO_AN_ID.true one)

pub returns : goal.returns
unfolding as_read as_call target_of
returns c = to_an_id _ (λ k. (c.type_inv.words k).fits) c.if-words-ne4.false c.if-words-ne-TO_AN_ID.false
