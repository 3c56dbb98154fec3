-- `consumer::make::make_consumer` meets its contract: the nacked positions are cleared, then six words are written.
use Prim.Native.Nat.{◌+◌, ◌≤◌}
use native.Mathlib.Omega.{arith}
use lib.ListN.{length, length-set}
use Rattle.command_parts.specs.Parts.{kind_of}
use Rattle.consumer.proofs.Making.{made_consumer}
use borrow.Author.Rules.{rules}
use Rattle.consumer.proofs.make.make_consumer.Goals as goal

-- its words lie in the store
room : (c : goal.After-consumer_at-at) → c.consumer_at-at.result + 72 ≤ length c.clear_nacked.new.store
room c =
    let a = c.consumer_at-at.ensures in
    let i = c.requires.inside in
    let l = c.requires.canon.long in
    search rules

pub bounds-store-at-2 : goal.bounds-store-at-2
bounds-store-at-2 c = let k = room c in simp length-set (omega arith)

pub bounds-store-at-3 : goal.bounds-store-at-3
bounds-store-at-3 c = let k = room c in simp length-set (omega arith)

pub bounds-store-at-4 : goal.bounds-store-at-4
bounds-store-at-4 c = let k = room c in simp length-set (omega arith)

pub bounds-store-at-5 : goal.bounds-store-at-5
bounds-store-at-5 c = let k = room c in simp length-set (omega arith)

pub bounds-store-at-6 : goal.bounds-store-at-6
bounds-store-at-6 c = let k = room c in simp length-set (omega arith)

pub returns : goal.returns
returns c = rw c.consumer_at-at.ensures (made_consumer c.args.i c.requires c.args.id c.from-word.result c.args.pair.topic c.args.pair.subscription (kind_of c.args.kind) c.from-word.ensures c.clear_nacked.ensures)
