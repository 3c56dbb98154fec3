-- `ack::ack_id::ack_outside` meets its contract: the id joins the outside ids, or is among them already.
use mathlib.Core.Path.{sym, ◌∙◌}
use Rattle.layout.specs.Layout.{decode}
use Rattle.layout.specs.Fields.{dispatcher_nth}
use Rattle.ack.proofs.Marking.{last_room, unchanged}
use Rattle.ack.proofs.ack_id.ack_outside.Goals as goal

pub insert_outside-requires : goal.insert_outside-requires
insert_outside-requires c =
    let a = c.args in
    let n = sym c.is_outside.ensures ∙ c.if-not-is_outside.true in
    (c.requires.0, last_room a.id (dispatcher_nth (decode a.store.now) a.d) n c.requires.1)

pub returns-then-not-is_outside : goal.returns-then-not-is_outside
returns-then-not-is_outside c = let n = sym c.is_outside.ensures ∙ c.if-not-is_outside.true in rw n c.insert_outside.ensures

pub returns-else-not-is_outside : goal.returns-else-not-is_outside
returns-else-not-is_outside c = let n = sym c.is_outside.ensures ∙ c.if-not-is_outside.false in rw n (unchanged c.args.d c.requires.0)
