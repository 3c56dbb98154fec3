-- `push::due` meets its contract: the permits of at most 32 consumers lie in a local array; what the services are due, then what
-- plain consumers are due by the permits that the services leave.
use Rattle.std.proofs.Common.{length, ap, ◌∙◌, arith}
use Rattle.layout.specs.Layout.{decode}
use Rattle.operation_laws.proofs.Frame.{canon_of}
use Rattle.push_turn.proofs.Zeros.{zeros_enough, zeros_lent, zeros_sized}
use Rattle.push.proofs.Pushing.{consumers_few, length_left, length_permits, due_sum, due_small}
use Rattle.push.proofs.due.Goals as goal

pub consumer_count-n-requires : goal.consumer_count-n-requires
consumer_count-n-requires c = canon_of c.args.e c.args.store.now c.requires.0 c.requires.1

pub slice_bounds-all-end : goal.slice_bounds-all-end
slice_bounds-all-end c = zeros_enough c.consumer_count-n.ensures (consumers_few c.args.e c.args.store.now c.requires.0 c.requires.1)

pub slice_bounds-permits-end : goal.slice_bounds-permits-end
slice_bounds-permits-end c = zeros_lent c.consumer_count-n.ensures (consumers_few c.args.e c.args.store.now c.requires.0 c.requires.1)

pub load_permits-requires : goal.load_permits-requires
load_permits-requires c =
    let few = consumers_few c.args.e c.args.store.now c.requires.0 c.requires.1 in
    (canon_of c.args.e c.args.store.now c.requires.0 c.requires.1, zeros_sized c.consumer_count-n.ensures few)

pub due_plain-requires : goal.due_plain-requires
due_plain-requires c =
    let s = decode c.args.store.now in
    let loaded = ap length c.load_permits.ensures ∙ length_permits s in
    (c.requires.0, c.requires.1, ap length c.due_shared-shared.ensures.permits ∙ length_left s s.dispatchers _ ∙ loaded)

pub overflow_add-result : goal.overflow_add-result
overflow_add-result c =
    let s = decode c.args.store.now in
    let shared = c.due_shared-shared.ensures in
    let n = due_sum s c.load_permits.ensures shared.count shared.permits c.due_plain.ensures in
    let f = due_small s (canon_of c.args.e c.args.store.now c.requires.0 c.requires.1).shaped in
    record { fits = omega (arith, n, f) }

pub returns : goal.returns
returns c =
    let shared = c.due_shared-shared.ensures in
    due_sum (decode c.args.store.now) c.load_permits.ensures shared.count shared.permits c.due_plain.ensures
