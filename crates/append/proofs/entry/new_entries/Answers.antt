-- `append::entry::new_entries` meets its contract: the dispatchers one after another. The loop's invariant: the words are
-- those of the state in which the first d have the new entry.
use mathlib.Core.Path.{◌≡◌, refl}
use Prim.Native.Nat.{◌<◌}
use native.Mathlib.Omega.{arith}
use lib.ListN.{length}
use borrow.Author.Rules.{rules}
use Rattle.layout.specs.Layout.{decode}
use Rattle.append.proofs.Entries.{step_start, step_in, step_turn, step_end}
use Rattle.append.proofs.entry.new_entries.Goals as goal

pub dispatcher_count-n-requires : goal.dispatcher_count-n-requires
dispatcher_count-n-requires c = c.requires.0

pub loop-d-init : goal.loop-d-init
loop-d-init c = (refl, step_start c.args.topic c.args.id c.requires.0)

pub new_entry-requires : goal.new_entry-requires
new_entry-requires c =
    let counted : c.dispatcher_count-n.result ≡ length (decode c.args.store.now).dispatchers = c.dispatcher_count-n.ensures in
    let here : c.loop-d.d < length (decode c.args.store.now).dispatchers = let n = counted in omega arith in
    let a = c.args in
    step_in a.topic a.id c.requires.0 c.loop-d.d c.loop-d.invariant.1 here c.requires.1

pub loop-d-preserved : goal.loop-d-preserved
loop-d-preserved c =
    let counted : c.dispatcher_count-n.result ≡ length (decode c.args.store.now).dispatchers = c.dispatcher_count-n.ensures in
    let here : c.loop-d.d < length (decode c.args.store.now).dispatchers = let n = counted in omega arith in
    let a = c.args in (
      search rules,
      step_turn a.topic a.id c.requires.0 c.loop-d.d c.loop-d.invariant.1 here c.requires.1 c.new_entry.ensures,
    )

pub returns : goal.returns
returns c =
    let counted : c.dispatcher_count-n.result ≡ length (decode c.args.store.now).dispatchers = c.dispatcher_count-n.ensures in
    let a = c.args in
    let n = counted in
    step_end a.topic a.id c.requires.0 c.loop-d.d (omega arith) c.loop-d.invariant.1
