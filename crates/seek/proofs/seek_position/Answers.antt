-- `seek::seek_position` meets its contract: the topic exists, or its ledger is empty.
use mathlib.Core.Path.{refl}
use Rattle.rules.specs.State.{by_number}
use Rattle.layout.specs.Layout.{decode}
use Rattle.layout.proofs.Placed.{topic_in}
use Rattle.store.proofs.Founds.{found_some, found_none}
use Rattle.seek.proofs.Seeks.{position_there, position_none}
use Rattle.seek.proofs.seek_position.Goals as goal

pub returns-in_default : goal.returns-in_default
returns-in_default c =
    let a = c.args in
    let s = decode a.store.now in
    position_none s _ a.topic a.id refl (found_none by_number a.topic s.topics c.in_default.ensures)

pub first_at_or_after-requires : goal.first_at_or_after-requires
first_at_or_after-requires c =
    topic_in c.requires c.in-Some.t (found_some by_number c.args.topic (decode c.args.store.now).topics c.in-Some.ensures).1

pub returns : goal.returns
returns c =
    let a = c.args in
    let s = decode a.store.now in
    let f = found_some by_number a.topic s.topics c.in-Some.ensures in
    position_there s c.in-Some.t a.topic c.first_at_or_after.result a.id f.0 f.1 c.first_at_or_after.ensures
