-- `redeliver::hand_back::hand_back` meets its contract: the hold is found and handed back, or nothing changes.
use mathlib.Core.Path.{refl, sym, ap, ◌∙◌}
use Rattle.rules.specs.State.{Dispatcher, Id}
use Rattle.layout.specs.Layout.{decode, put}
use Rattle.layout.specs.Fields.{dispatcher_nth, topic_nth, set_dispatcher}
use Rattle.groups.specs.Lent.{group_of}
use Rattle.store.specs.Find.{slot}
use Rattle.store.specs.Found.{found}
use Rattle.topic.specs.Ids.{by_message_id}
use Rattle.store.proofs.Founds.{found_some, found_none}
use Rattle.dispatcher.specs.Held.{held_of, by_hold}
use Rattle.topic.proofs.Positions.{position_found, position_missing}
use Rattle.redeliver.proofs.Holds.{held_room, held_marked, redeliver_held, redeliver_none, redeliver_absent}
use Rattle.redeliver.proofs.Handing.{stays}
use Rattle.redeliver.proofs.hand_back.hand_back.Goals as goal

pub hand_back_held-requires : goal.hand_back_held-requires
hand_back_held-requires c =
    let a = c.args in
    let p = c.requires in
    let s = decode a.store.now in
    let x = dispatcher_nth s a.d in
    let k = c.in-Some.k in
    let j = c.in-Some-find_hold.j in
    let f = found_some by_hold (held_of a.id k) x.in_flight (sym c.in-Some-find_hold.is ∙ c.find_hold.ensures) in
    (p.0, f.1, held_room s a.id j k x p.1 f.0 a.e p.0.lists_fit.marks_fit f.1, held_marked s a.id j k x p.1 f.0 f.1)

pub returns-in-Some-find_hold : goal.returns-in-Some-find_hold
returns-in-Some-find_hold c =
    let a = c.args in
    let p = c.requires in
    let s = decode a.store.now in
    let x = dispatcher_nth s a.d in
    let k = c.in-Some.k in
    let j = c.in-Some-find_hold.j in
    let g = (group_of a.group).id in
    let f = found_some by_hold (held_of a.id k) x.in_flight (sym c.in-Some-find_hold.is ∙ c.find_hold.ensures) in
    let q = position_found g (topic_nth s a.t).messages (c.in-Some.ensures ∙ ap (λ (i : Id). found by_message_id i (topic_nth s a.t).messages) c.id.ensures) in
    rw p.3 (c.hand_back_held.ensures
    ∙ ap (λ (y : Dispatcher). put a.store.now (set_dispatcher s a.d y)) (sym (redeliver_held s a.id j k x p.1 f.0 (topic_nth s a.t).messages g q.0 f.1)))

pub returns-in_default-find_hold : goal.returns-in_default-find_hold
returns-in_default-find_hold c =
    let a = c.args in
    let p = c.requires in
    let s = decode a.store.now in
    let x = dispatcher_nth s a.d in
    let k = c.in-Some.k in
    let g = (group_of a.group).id in
    let f = found_none by_hold (held_of a.id k) x.in_flight (sym c.in_default-find_hold.is ∙ c.find_hold.ensures) in
    let q = position_found g (topic_nth s a.t).messages (c.in-Some.ensures ∙ ap (λ (i : Id). found by_message_id i (topic_nth s a.t).messages) c.id.ensures) in
    rw p.3 (stays a.d _ p.0 (redeliver_none s a.id (slot by_hold (held_of a.id k) x.in_flight) k x p.1 refl (topic_nth s a.t).messages g q.0 f))

pub returns-in_default : goal.returns-in_default
returns-in_default c =
    let a = c.args in
    let p = c.requires in
    let s = decode a.store.now in
    let x = dispatcher_nth s a.d in
    let g = (group_of a.group).id in
    let q = position_missing g (topic_nth s a.t).messages (c.in_default.ensures ∙ ap (λ (i : Id). found by_message_id i (topic_nth s a.t).messages) c.id.ensures) in
    stays a.d _ p.0 (redeliver_absent s a.id x.pair.topic x g p.1 refl (rw p.3 q))
