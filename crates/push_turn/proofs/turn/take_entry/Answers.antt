-- `push_turn::turn::take_entry` meets its contract: an entry is queued, or waits in the ledger, or there is none.
use mathlib.Core.Path.{◌≡◌, ap, ◌∙◌}
use Prim.Native.Nat.{ℕ, suc, ◌+◌, ◌<◌}
use native.Mathlib.Omega.{arith}
use Rattle.head.specs.declared.Head as heads
use Rattle.head.specs.Moves.{dispatched}
use Rattle.layout.specs.Layout.{decode}
use Rattle.layout.specs.Fields.{dispatcher_nth}
use Rattle.operation_laws.proofs.Frame.{every_nth}
use Rattle.push_laws.specs.Local.{fixed_of}
use Rattle.push_laws.specs.Local.LocalTurn.{stop}
use Rattle.push_turn.specs.Turns.{turn_of, local_from}
use Rattle.push_turn.proofs.Handing.{entry_queued, entry_waiting, entry_none}
use Rattle.push_turn.proofs.turn.take_entry.Goals as goal

pub hand_over-first-requires : goal.hand_over-first-requires
hand_over-first-requires c =
    let a = c.args in
    let p = c.requires in
    let n = c.queue_count.ensures in
    let t = c.if-numbers-queue_count.true in
    let queue = (dispatcher_nth (decode a.store.now) a.served.d).redelivery in
    let k = every_nth {P = λ (i : ℕ). i < a.served.n} queue a.numbers.now.taken 0 p.0.queue_in_ledger (omega arith) in
    let q = c.queued-k.ensures in
    (p.0, omega arith, p.1, p.2)

pub returns-then-numbers-queue_count : goal.returns-then-numbers-queue_count
unfolding local_from fixed_of
returns-then-numbers-queue_count c =
    let a = c.args in
    let m = a.numbers.now in
    let f = fixed_of (decode a.store.now) (dispatcher_nth (decode a.store.now) a.served.d) in
    let n = c.queue_count.ensures in
    let t = c.if-numbers-queue_count.true in
    let e : m.taken + 1 ≡ suc m.taken = omega arith in
    record {
      turn = c.hand_over-first.ensures.turn
          ∙ entry_queued f (local_from a.permits.now m) a.next a.c (m.taken + 1) c.queued-k.result (omega arith) e c.queued-k.ensures;
      mark_delete = c.hand_over-first.ensures.mark_delete;
    }

pub returns-then-cursor-served : goal.returns-then-cursor-served
unfolding local_from fixed_of
returns-then-cursor-served c =
    let a = c.args in
    let m = a.numbers.now in
    let f = fixed_of (decode a.store.now) (dispatcher_nth (decode a.store.now) a.served.d) in
    let n = c.queue_count.ensures in
    let t = c.if-numbers-queue_count.false in
    let u = c.if-cursor-served.true in
    let l = c.requires.0.ledger_length in
    let e : m.head.cursor + 1 ≡ suc m.head.cursor = omega arith in
    record {
      turn = c.hand_over-step.ensures.turn
          ∙ entry_waiting f (local_from a.permits.now m) a.next a.c (m.head.cursor + 1) (omega arith) (omega arith) e;
      mark_delete = c.hand_over-step.ensures.mark_delete;
    }

pub returns : goal.returns
unfolding turn_of local_from fixed_of dispatched
returns c =
    let a = c.args in
    let m = a.numbers.now in
    let f = fixed_of (decode a.store.now) (dispatcher_nth (decode a.store.now) a.served.d) in
    let n = c.queue_count.ensures in
    let t = c.if-numbers-queue_count.false in
    let u = c.if-cursor-served.false in
    let l = c.requires.0.ledger_length in
    record {
      turn = ap (λ (h : heads.Head). stop (local_from a.permits.now (record { head = h; taken = m.taken }))) c.dispatch.ensures
          ∙ entry_none f (local_from a.permits.now m) a.next a.c (omega arith) (omega arith);
      mark_delete = ap (λ (h : heads.Head). h.mark_delete) c.dispatch.ensures;
    }
