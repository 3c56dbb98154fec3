-- `redeliver::found::found_count` meets its contract: the groups are counted one by one, in the ledger of the topic's slot.
use mathlib.Core.Path.{refl}
use Rattle.std.proofs.Common.{List, ◌∷◌, [], length, ap, arith, sym, ◌∙◌}
use Rattle.rules.specs.Groups.{Group}
use Rattle.rules.specs.State.{StoredMessage, ledger_of}
use Rattle.rules.specs.Commands.{found_positions}
use Rattle.layout.specs.Layout.{decode}
use Rattle.layout.specs.Fields.{consumer_nth}
use Rattle.layout.proofs.Placed.{topic_in}
use Rattle.groups.specs.Lent.{group_of, groups_in}
use Rattle.groups.proofs.Lists.{groups_few}
use Rattle.redeliver.proofs.Finds.{found_ahead, found_few, found_nothing, found_in_none, sought_here, sought_nowhere}
use Rattle.redeliver.proofs.found.found_count.Goals as goal

pub returns-in_default : goal.returns-in_default
returns-in_default c =
    let s = decode c.args.store.now in
    rw (sought_nowhere s c.topic.ensures c.in_default.ensures, found_in_none (groups_in c.args.groups)) refl

pub loop-group-init : goal.loop-group-init
loop-group-init c = rw c.into_iter-group-iterator.ensures.into_iter_gives (omega arith)

pub found_here-count-requires : goal.found_here-count-requires
found_here-count-requires c = topic_in c.requires.canon c.in-Some.t (sought_here (decode c.args.store.now) c.topic.ensures c.in-Some.ensures).1

pub overflow_add-count : goal.overflow_add-count
overflow_add-count c =
    let s = decode c.args.store.now in
    let l = ledger_of s (consumer_nth s c.args.i).pair.topic in
    let g = group_of c.in-Some-group.group in
    let a = found_ahead l g _ _ c.in-Some-group.ensures.steps in
    let w = c.loop-group.invariant in
    let f = found_few l (groups_in c.args.groups) in
    let m = groups_few c.args.groups in
    let q = (sought_here s c.topic.ensures c.in-Some.ensures).0 in
    let r = c.found_here-count.ensures ∙ ap (λ (k : List StoredMessage). length (found_positions k (g ∷ []))) (sym q) in
    omega arith

pub loop-group-preserved : goal.loop-group-preserved
loop-group-preserved c =
    let s = decode c.args.store.now in
    let l = ledger_of s (consumer_nth s c.args.i).pair.topic in
    let g = group_of c.in-Some-group.group in
    let a = found_ahead l g _ _ c.in-Some-group.ensures.steps in
    let w = c.loop-group.invariant in
    let q = (sought_here s c.topic.ensures c.in-Some.ensures).0 in
    let r = c.found_here-count.ensures ∙ ap (λ (k : List StoredMessage). length (found_positions k (g ∷ []))) (sym q) in
    omega arith

pub returns : goal.returns
returns c =
    let l = ledger_of (decode c.args.store.now) (consumer_nth (decode c.args.store.now) c.args.i).pair.topic in
    let w = c.loop-group.invariant in
    let n = ap (λ (gs : List Group). length (found_positions l gs)) c.in-None.ensures.steps.0 ∙ found_nothing l in
    omega arith
