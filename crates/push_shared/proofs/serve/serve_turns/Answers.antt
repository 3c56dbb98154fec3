-- `push_shared::serve::serve_turns` meets its contract: each step is delivered, and where none is made the numbers are stored.
use mathlib.Core.Path.{◌∙◌, ap}
use Prim.Native.Nat.{◌+◌, ◌*◌, ◌≤◌}
use native.Mathlib.Omega.{arith}
use lib.ListN.{length, length-drop}
use Rattle.head.specs.declared.Head as heads
use Rattle.record.proofs.Filled.{filled_rest}
use Rattle.push_turn.specs.Turns.{turn_of, step_of, numbers_from}
use Rattle.push_shared.proofs.Writing.{writing_start, serving_on, ring_on, next_on, entry_in, consumer_in, flight_room, list_room, left_on, writing_on}
use Rattle.push_shared.proofs.Writing.{taken_there, mark_there, permits_end, count_end, records_end, fits_end, words_end}
use borrow.Author.Rules.{rules}
use Rattle.push_shared.proofs.serve.serve_turns.Goals as goal

pub loop-step-init : goal.loop-step-init
loop-step-init c =
    let p = c.requires in
    let a = c.args in
    let from = c.from-numbers.ensures ∙ ap (λ (h : heads.Head). numbers_from h) c.load_head.ensures in
    writing_start p.0 a.permits.now a.list.now c.from-numbers.result from (rw (← p.1) p.2) p.3 p.4

pub take_turn-requires : goal.take_turn-requires
take_turn-requires c =
    let p = c.requires in
    let w = c.loop-step.invariant in
    (serving_on p.0 w, ring_on p.0 w p.1, next_on p.0 w p.1)

pub deliver-requires : goal.deliver-requires
unfolding step_of turn_of
deliver-requires c =
    let p = c.requires in
    let w = c.loop-step.invariant in
    let m = c.take_turn.new.numbers in
    let z = step_of c.in-Some.step in
    let rs = c.take_turn.new.permits in
    let t = c.in-Some.ensures.turn in
    let r = list_room p.0 w z rs m t p.5 in
    let behind = length-drop (c.loop-step.made * 13) c.loop-step.list in
    (serving_on p.0 w, entry_in p.0 w z rs m t, consumer_in p.0 w z rs m t, flight_room p.0 w z rs m t, omega (arith, r, behind))

pub finish-requires : goal.finish-requires
unfolding turn_of
finish-requires c =
    let p = c.requires.0 in
    let w = c.loop-step.invariant in
    let m = c.take_turn.new.numbers in
    let rs = c.take_turn.new.permits in
    let t = c.in_default.ensures in
    (w.moved.here, taken_there p w rs m t.turn, mark_there p w rs m t.turn t.mark_delete)

pub overflow_add-made : goal.overflow_add-made
unfolding step_of turn_of
overflow_add-made c =
    let p = c.requires in
    let w = c.loop-step.invariant in
    let r = list_room p.0 w (step_of c.in-Some.step) c.take_turn.new.permits c.take_turn.new.numbers c.in-Some.ensures.turn p.5 in
    let l = c.loop-step.auto.list in
    let h : c.loop-step.made + 1 ≤ length c.args.list.now = omega (arith, r, l) in
    search rules

pub loop-step-smaller : goal.loop-step-smaller
unfolding step_of turn_of
loop-step-smaller c =
    left_on c.requires.0 c.loop-step.invariant (step_of c.in-Some.step) c.take_turn.new.permits c.take_turn.new.numbers c.in-Some.ensures.turn

pub loop-step-preserved : goal.loop-step-preserved
unfolding step_of turn_of
loop-step-preserved c =
    let p = c.requires in
    let w = c.loop-step.invariant in
    let m = c.take_turn.new.numbers in
    let z = step_of c.in-Some.step in
    let rs = c.take_turn.new.permits in
    let t = c.in-Some.ensures.turn in
    let r = list_room p.0 w z rs m t p.5 in
    let d = c.deliver.ensures in
    writing_on p.0 w z rs m t d.words (filled_rest c.loop-step.made c.loop-step.list _ (omega (arith, r)) d.records) c.in-Some.ensures.mark_delete

pub returns : goal.returns
unfolding turn_of
returns c =
    let p = c.requires in
    let w = c.loop-step.invariant in
    let m = c.take_turn.new.numbers in
    let rs = c.take_turn.new.permits in
    let t = c.in_default.ensures.turn in
    record {
      value = count_end p.0 w rs m t;
      words = words_end p.0 w rs m t c.finish.ensures;
      permits = permits_end p.0 w rs m t;
      records = records_end p.0 w rs m t;
      fits = fits_end p.0 w rs m t;
    }
