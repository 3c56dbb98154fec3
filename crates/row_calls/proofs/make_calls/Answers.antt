-- `row_calls::make_calls` meets its contract: each turn makes the call that stands next, and the row goes on.
use Rattle.std.proofs.Common.{◌+◌, ap, arith}
use mathlib.Core.Path.{ap₂}
use lib.ListN.{set}
use Rattle.row_calls.proofs.Rows.{calls_fit}
use Rattle.row_calls.proofs.Going.{starts_going, goes_on_from, all_made}
use Rattle.row_calls.proofs.make_calls.Goals as goal

pub loop-i-init : goal.loop-i-init
loop-i-init c =
    let all = c.enumerate-i-items.ensures in
    rw (c.into_iter-i-iterator.ensures.into_iter_gives, all.source, all.count)
    (starts_going _ _ _ _ c.requires.0 (calls_fit c.args.calls.script.now) c.requires.1 (omega arith))

pub overflow_add-from : goal.overflow_add-from
overflow_add-from c =
    let s = c.in-Some.ensures.steps in
    let made = c.answer_call-answer.ensures in
    let next =
    goes_on_from c.loop-i.invariant c.in-Some.call _ s.0 _ made.words made.answer (ap₂ (set c.loop-i.answers) s.1 c.word_of.ensures) made.records
    (ap (λ k. c.loop-i.from + k) c.words_filled-from.ensures) (omega arith) in
    record { fits = omega (arith, next.inside, next.short) }

pub loop-i-preserved : goal.loop-i-preserved
loop-i-preserved c =
    let s = c.in-Some.ensures.steps in
    let made = c.answer_call-answer.ensures in
    rw s.2
    (goes_on_from c.loop-i.invariant c.in-Some.call _ s.0 _ made.words made.answer (ap₂ (set c.loop-i.answers) s.1 c.word_of.ensures) made.records
    (ap (λ k. c.loop-i.from + k) c.words_filled-from.ensures) (omega arith))

pub returns : goal.returns
returns c = all_made c.loop-i.invariant c.in-None.ensures.steps.0.0 c.requires.1
