-- `dispatcher::completion::drop_complete` meets its contract: what is in flight is thinned in place.
use mathlib.Core.Path.{sym, ◌∙◌}
use Prim.Native.Nat.{◌<◌}
use native.Mathlib.Omega.{arith}
use lib.ListN.{length}
use Rattle.layout.specs.Layout.{decode}
use Rattle.layout.specs.Fields.{dispatcher_nth}
use Rattle.operation_laws.proofs.Moved.{moved_length}
use Rattle.dispatcher.specs.Held.{held_of}
use Rattle.dispatcher.proofs.Completing.{dropping_start, there_now, marked_now, test_now, dropping_skip, dropping_keep, dropping_end, place_now, kept_there}
use borrow.Author.Rules.{rules}
use Rattle.dispatcher.proofs.completion.drop_complete.Goals as goal
use Rattle.dispatcher.proofs.completion.drop_complete.Goals.{then-stays, else-stays}

pub flight_count-n-requires : goal.flight_count-n-requires
flight_count-n-requires c = c.requires.0

pub loop-j-init : goal.loop-j-init
loop-j-init c = dropping_start c.args.d c.args.id c.requires.0 c.requires.1

pub stays-requires : goal.stays-requires
stays-requires c =
    let r = c.loop-j.invariant in
    let h = c.requires.0 in
    let m = c.requires.1 in
    (r.moved.here, there_now c.args.d c.args.id h m r (omega arith), marked_now c.args.d c.args.id h m r (omega arith))

pub load_held-h-requires : goal.load_held-h-requires
load_held-h-requires c =
    let r = c.loop-j.invariant in
    (r.moved.here, there_now c.args.d c.args.id c.requires.0 c.requires.1 r (omega arith))

pub save_held-requires : goal.save_held-requires
save_held-requires c =
    let r = c.loop-j.invariant in
    (r.moved.here, place_now c.args.d c.args.id c.requires.0 c.requires.1 r (omega arith))

pub overflow_add-kept : goal.overflow_add-kept
overflow_add-kept c =
    let b = c.loop-j.invariant.thinning.behind in
    let f = c.requires.0.lists_fit.flight_fits in
    let l = c.requires.0.canon.E_to in
    omega arith

pub loop-j-preserved : goal.loop-j-preserved
loop-j-preserved c =
    let r = c.loop-j.invariant in
    let h = c.requires.0 in
    let m = c.requires.1 in
    let d = c.args.d in
    let id = c.args.id in
    let l : c.loop-j.j < length (dispatcher_nth (decode c.args.store.now) c.args.d).in_flight = omega arith in
    let told = sym (test_now d id h m r l) ∙ sym c.stays.ensures in
    elim c.if-stays.branch [
      | then-stays w ↦
          rw (w.store-is, w.kept-is)
          (dropping_keep d id h m r l (held_of w.load_held-h.result.holder w.load_held-h.result.position) (told ∙ w.if-stays.true) w.load_held-h.ensures w.save_held.ensures)
      | else-stays w ↦ rw (w.store-is, w.kept-is) (dropping_skip d id h m r l (told ∙ w.if-stays.false))
    ]

pub keep_flight-requires : goal.keep_flight-requires
keep_flight-requires c = (c.loop-j.invariant.moved.here, kept_there c.args.d c.args.id c.requires.0 c.requires.1 c.loop-j.invariant)

pub shape_of-store : goal.shape_of-store
shape_of-store c = let n = moved_length c.requires.0 c.loop-j.invariant.moved in search (rules, n)

pub returns : goal.returns
returns c = dropping_end c.args.d c.args.id c.requires.0 c.requires.1 c.loop-j.invariant (omega arith) c.keep_flight.ensures
