-- `push_turn::due::due_turns` meets its contract: each turn counts one step, and where none is made the service is over.
use Rattle.std.proofs.Common.{◌≤◌, sym, ap, ◌∙◌, ℕ, List, length, arith}
use Rattle.layout.specs.Layout.{decode}
use Rattle.layout.specs.Fields.{dispatcher_nth}
use Rattle.dispatcher.specs.Values.{head_of}
use Rattle.push_laws.specs.Local.{Fixed, Local, Steps, fixed_of}
use Rattle.push_turn.specs.Turns.{local_from, numbers_from}
use Rattle.push_turn.proofs.Left.{turn_less, since_start, since_move, since_stop, since_few}
use Rattle.push_turn.proofs.Served.{served_turns}
use Rattle.push_turn.proofs.Turned.{turned_none, turned_some}
use Rattle.push_turn.proofs.due.due_turns.Goals as goal

pub loop-served-init : goal.loop-served-init
unfolding local_from numbers_from head_of
loop-served-init c =
    let a = c.args in
    let n = ap (λ (m : List ℕ). length m) c.requires.1 in
    let p = c.requires.2 in
    let f : Fixed = fixed_of (decode a.store.now) (dispatcher_nth (decode a.store.now) a.served.d) in
    rw (c.from-numbers.ensures, c.load_head.ensures)
    (since_start f (local_from a.permits.now (numbers_from (head_of (dispatcher_nth (decode a.store.now) a.served.d)))) (omega arith))

pub take_turn-requires : goal.take_turn-requires
unfolding local_from
take_turn-requires c =
    let p = c.requires in
    let n = ap (λ (m : List ℕ). length m) p.1 in
    let r = c.loop-served.invariant.in_ring in
    let h : c.loop-served.numbers.head.next ≤ length c.args.ring.now = omega arith in
    (p.0, p.1, h)

pub overflow_add-count : goal.overflow_add-count
unfolding fixed_of
overflow_add-count c =
    let a = c.args in
    let p = c.requires.0 in
    let f = since_few _ _ _ c.loop-served.count c.loop-served.invariant in
    let q = p.here.lists_fit.queue_fits in
    let m = p.here.lists_fit.marks_fit in
    let o = p.one_mark_each in
    let l = p.ledger_length in
    let e = p.here.canon.E_to in
    record { fits = omega arith }

pub loop-served-smaller : goal.loop-served-smaller
loop-served-smaller c =
    let t = turned_some c.take_turn.new.permits c.take_turn.new.numbers c.take_turn.result (sym c.is_some.ensures ∙ c.loop-served-test.true) in
    turn_less _ _ t.0 _ (sym c.take_turn.ensures.turn ∙ t.1)

pub loop-served-preserved : goal.loop-served-preserved
loop-served-preserved c =
    let t = turned_some c.take_turn.new.permits c.take_turn.new.numbers c.take_turn.result (sym c.is_some.ensures ∙ c.loop-served-test.true) in
    since_move _ _ _ c.loop-served.count c.loop-served.invariant t.0 _ (sym c.take_turn.ensures.turn ∙ t.1)

pub returns : goal.returns
unfolding local_from
returns c =
    let a = c.args in
    let e = turned_none c.take_turn.new.permits c.take_turn.new.numbers c.take_turn.result (sym c.is_some.ensures ∙ c.loop-served-test.false) in
    let r = since_stop _ _ _ c.loop-served.count c.loop-served.invariant _ (sym c.take_turn.ensures.turn ∙ e) in
    let s = served_turns (decode a.store.now) (dispatcher_nth (decode a.store.now) a.served.d) a.permits.now in
    record {
      count = r.0 ∙ ap (λ (x : Steps). length x.made) (sym s);
      permits = ap (λ (m : Local). m.permits) r.1 ∙ ap (λ (x : Steps). x.after.permits) (sym s);
    }
