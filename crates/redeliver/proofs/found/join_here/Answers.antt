-- `redeliver::found::join_here` meets its contract: the position is found and joins, or nothing changes.
use mathlib.Core.Path.{ap, ◌∙◌}
use native.Mathlib.Omega.{arith}
use Prim.Native.Nat.{ℕ}
use mathlib.Core.List.{List}
use lib.ListN.{length}
use Rattle.layout.specs.Layout.{decode}
use Rattle.layout.specs.Fields.{topic_nth}
use Rattle.rules.specs.State.{Id}
use Rattle.groups.specs.Lent.{group_of}
use Rattle.store.specs.Found.{found}
use Rattle.topic.specs.Ids.{by_message_id}
use Rattle.topic.proofs.Positions.{position_found, position_missing}
use Rattle.redeliver.proofs.Finds.{found_one, found_none}
use Rattle.redeliver.proofs.Joins.{joined_nothing}
use Rattle.redeliver.proofs.found.join_here.Goals as goal

pub append_nacked-requires : goal.append_nacked-requires
append_nacked-requires c =
    let l = (topic_nth (decode c.args.store.now) c.args.t).messages in
    let g = group_of c.args.group in
    let s = position_found g.id l (c.in-Some.ensures ∙ ap (λ (i : Id). found by_message_id i l) c.id.ensures) in
    let f = found_one l g c.in-Some.k s.0 s.1 in
    let n = ap (λ (l : List ℕ). length l) f in
    let p = c.requires.2 in
    (c.requires.0, omega arith)

pub returns-in-Some : goal.returns-in-Some
returns-in-Some c =
    let l = (topic_nth (decode c.args.store.now) c.args.t).messages in
    let g = group_of c.args.group in
    let s = position_found g.id l (c.in-Some.ensures ∙ ap (λ (i : Id). found by_message_id i l) c.id.ensures) in
    rw (found_one l g c.in-Some.k s.0 s.1) c.append_nacked.ensures

pub returns-in_default : goal.returns-in_default
returns-in_default c =
    let l = (topic_nth (decode c.args.store.now) c.args.t).messages in
    let g = group_of c.args.group in
    let missing = position_missing g.id l (c.in_default.ensures ∙ ap (λ (i : Id). found by_message_id i l) c.id.ensures) in
    rw (found_none l g missing) (joined_nothing c.args.i c.requires.0)
