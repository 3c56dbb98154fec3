-- `push_turn::turn::hand_over` meets its contract: the consumer's permits are in the array, and the cost leaves them.
use mathlib.Core.Path.{ap, ◌∙◌}
use Prim.Native.Nat.{◌-◌}
use lib.ListN.{get_or, set}
use Rattle.head.specs.declared.Head as heads
use Rattle.head.specs.Moves.{dispatched}
use Rattle.layout.specs.Layout.{decode}
use Rattle.layout.specs.Fields.{dispatcher_nth}
use Rattle.push_laws.specs.Local.{fixed_of}
use Rattle.push_laws.specs.Local.LocalTurn.{move}
use Rattle.push_turn.specs.Turns.{turn_of, local_from, step_of}
use Rattle.push_turn.proofs.Handing.{above_in, handed}
use borrow.Author.Rules.{rules}
use Rattle.push_turn.proofs.turn.hand_over.Goals as goal

pub offset_bounds-permits-c : goal.offset_bounds-permits-c
offset_bounds-permits-c c = let h = above_in c.args.permits.now c.args.c c.requires.2 in search rules

pub bounds-permits-c : goal.bounds-permits-c
bounds-permits-c c = above_in c.args.permits.now c.args.c c.requires.2

pub offset_bounds-permits-c-2 : goal.offset_bounds-permits-c-2
offset_bounds-permits-c-2 c = let h = above_in c.args.permits.now c.args.c c.requires.2 in search rules

pub bounds-permits-c-2 : goal.bounds-permits-c-2
bounds-permits-c-2 c = above_in c.args.permits.now c.args.c c.requires.2

pub returns : goal.returns
unfolding turn_of local_from step_of dispatched
returns c =
    let a = c.args in
    let m = a.numbers.now in
    let f = fixed_of (decode a.store.now) (dispatcher_nth (decode a.store.now) a.served.d) in
    let cost = c.price-cost.result in
    let left = get_or a.permits.now a.c 0 - cost in
    record {
      turn = ap (λ (h : heads.Head). move (record { consumer = a.c; position = a.k; price = cost; permits = left })
          (local_from (set a.permits.now a.c left) (record { head = h; taken = m.taken }))) c.dispatch.ensures
          ∙ handed f a.permits.now a.next a.cursor m.head.total_available_permits m.taken a.c a.k cost c.price-cost.ensures.0;
      mark_delete = ap (λ (h : heads.Head). h.mark_delete) c.dispatch.ensures;
    }
