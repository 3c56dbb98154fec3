-- `dispatcher::make::make_dispatcher` meets its contract: a blank one at the end, then four words are written.
use mathlib.Core.Path.{◌≡◌}
use Prim.Native.Nat.{◌+◌, ◌*◌, ◌≤◌, ◌<◌}
use native.Mathlib.Omega.{arith}
use lib.ListN.{length, length-set}
use Rattle.layout.specs.Offsets.{dispatcher_at, marks_in, reserved_at}
use Rattle.layout.proofs.Placed.{dispatcher_inside}
use Rattle.dispatcher.proofs.Making.{made_dispatcher}
use borrow.Author.Rules.{rules}
use Rattle.dispatcher.proofs.make.make_dispatcher.Goals as goal

-- it is one of eight
few : (c : goal.After-dispatcher_at-at) → c.dispatcher_count-n.result < 8
few c = let n = c.dispatcher_count-n.ensures in let l = c.requires.1 in omega arith

-- its words lie in the store
inside : (c : goal.After-dispatcher_at-at) → c.dispatcher_at-at.result + (176 + 9 * c.args.e) ≤ reserved_at c.args.e
inside c = rw (c.dispatcher_at-at.ensures) (dispatcher_inside c.args.e c.dispatcher_count-n.result (few c))

room : (c : goal.After-dispatcher_at-at) → c.dispatcher_at-at.result + (176 + 9 * c.args.e) ≤ length c.raise_dispatchers.new.store
room c =
    let i = inside c in
    let l = c.requires.0.long in
    search rules

below : (c : goal.After-dispatcher_at-at) → c.dispatcher_at-at.result + (176 + 9 * c.args.e) ≤ 1000000
below c =
    let i = inside c in
    let l = c.requires.0.E_to in
    omega arith

pub offset_bounds-store-at : goal.offset_bounds-store-at
offset_bounds-store-at c = let k = room c in let f = below c in search rules

pub bounds-store-at : goal.bounds-store-at
bounds-store-at c = let k = room c in omega arith

pub overflow_add-store : goal.overflow_add-store
overflow_add-store c = let k = room c in let f = below c in search rules

pub offset_bounds-store-at-2 : goal.offset_bounds-store-at-2
offset_bounds-store-at-2 c = let k = room c in let f = below c in search rules

pub bounds-store-at-2 : goal.bounds-store-at-2
bounds-store-at-2 c = let k = room c in simp length-set (omega arith)

pub overflow_add-store-2 : goal.overflow_add-store-2
overflow_add-store-2 c = let k = room c in let f = below c in search rules

pub offset_bounds-store-at-3 : goal.offset_bounds-store-at-3
offset_bounds-store-at-3 c = let k = room c in let f = below c in search rules

pub bounds-store-at-3 : goal.bounds-store-at-3
bounds-store-at-3 c = let k = room c in simp length-set (omega arith)

pub overflow_add-store-3 : goal.overflow_add-store-3
overflow_add-store-3 c = let k = room c in let f = below c in search rules

pub overflow_add-store-4 : goal.overflow_add-store-4
overflow_add-store-4 c = let k = room c in let f = below c in search rules

pub offset_bounds-store-at-4 : goal.offset_bounds-store-at-4
offset_bounds-store-at-4 c = let k = room c in let f = below c in search rules

pub bounds-store-at-4 : goal.bounds-store-at-4
bounds-store-at-4 c = let k = room c in simp length-set (omega arith)

pub returns : goal.returns
returns c =
    let at : c.dispatcher_at-at.result + 175 + 3 * c.args.e ≡ dispatcher_at c.args.e c.dispatcher_count-n.result + marks_in c.args.e = let a = c.dispatcher_at-at.ensures in omega arith in
    rw (at, c.dispatcher_at-at.ensures)
    (made_dispatcher c.dispatcher_count-n.result c.args.pair.topic c.args.pair.subscription c.args.entries
    c.requires.0 c.dispatcher_count-n.ensures (few c) c.requires.2 c.raise_dispatchers.ensures)
