-- `push::push` meets its contract: 15 with the number due, or all of it dispatched. The list has room if it has
-- room for all that waits, or else for the number due.
use mathlib.Core.Path.{◌≡◌, refl}
use Prim.Native.Nat.{ℕ, ◌/◌, ◌≤◌}
use native.Mathlib.Omega.{arith}
use lib.ListN.{length}
use Rattle.rules.specs.State.{State}
use Rattle.layout.specs.Layout.{decode}
use Rattle.operation_laws.proofs.Frame.{canon_of}
use Rattle.push_laws.specs.Whole.{local_push}
use Rattle.push.specs.Bound.{most_due}
use Rattle.push.proofs.Pushing.{due_most}
use Rattle.push.proofs.Answering.{answers_short, answers_done}
use Rattle.push.proofs.push.Goals as goal
use Rattle.push.proofs.push.Goals.{then-room-most_due+else-room-n, else-room-most_due}

-- there is room for what is due: by the number due, or by what waits
due_counted : (s : State) {n room : ℕ} → n ≡ length (local_push s).dispatched → n ≤ room → length (local_push s).dispatched ≤ room
due_counted s e h = omega (arith, e, h)

due_waiting : (s : State) {n room : ℕ} → n ≡ most_due s → n ≤ room → length (local_push s).dispatched ≤ room
due_waiting s e h = omega (arith, e, h, due_most s)

pub most_due-requires : goal.most_due-requires
most_due-requires c = canon_of c.entries-e.result c.args.store.now c.requires c.entries-e.ensures

pub returns-then-room-n : goal.returns-then-room-n
returns-then-room-n c =
    let a = c.args in
    let r = answers_short a.store.now c.requires (length a.list.now / 13) c.due-n.result _ c.due-n.ensures refl
    a.list.now c.if-room-n.true in
    record { answer = r.0; words = r.1; records = r.2 }

pub push_pending-made-requires : goal.push_pending-made-requires
push_pending-made-requires c =
    let s = decode c.args.store.now in
    let f : length (local_push s).dispatched ≤ length c.args.list.now / 13 =
    elim c.if-room-most_due.branch [
      | then-room-most_due+else-room-n w ↦ due_counted s w.due-n.ensures w.if-room-n.false
      | else-room-most_due w ↦ due_waiting s c.most_due.ensures w.if-room-most_due.false
    ] in
    (c.requires, c.entries-e.ensures, omega (arith, f))

pub returns : goal.returns
returns c =
    let a = c.args in
    let p = c.push_pending-made in
    let s = decode c.args.store.now in
    let f : length (local_push s).dispatched ≤ length c.args.list.now / 13 =
    elim c.if-room-most_due.branch [
      | then-room-most_due+else-room-n w ↦ due_counted s w.due-n.ensures w.if-room-n.false
      | else-room-most_due w ↦ due_waiting s c.most_due.ensures w.if-room-most_due.false
    ] in
    let n = p.ensures.value in
    let fits : p.result ≤ length a.list.now / 13 = omega (arith, f, n) in
    let r = answers_done a.store.now c.requires (length a.list.now / 13) p.result _ p.ensures.value refl
    a.list.now fits (omega (arith, fits)) p.ensures.words p.ensures.records in
    record { answer = r.0; words = r.1; records = r.2 }
