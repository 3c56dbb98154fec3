-- `check_state::valid_consumers::attached_valid` meets its contract: a plain consumer passes, a shared one's ring is asked.
use mathlib.Core.Path.{◌≡◌, ap, ap₂, ◌∙◌}
use Prim.Native.Nat.{◌+◌}
use native.Mathlib.Omega.{arith}
use Rattle.layout.specs.Layout.{decode}
use Rattle.layout.specs.Offsets.{consumer_at}
use Rattle.layout.specs.Fields.{consumer_now, pair_of}
use Rattle.layout.proofs.Gets.{read_consumer_id, read_consumer_topic, read_consumer_subscription, read_consumer_kind}
use Rattle.command_parts.specs.Parts.{kind_of}
use Rattle.check_state.proofs.Consumers.{plain_passes, ring_decides}
use Rattle.check_state.proofs.valid_consumers.attached_valid.Goals as goal

pub returns-in-Plain : goal.returns-in-Plain
unfolding kind_of
returns-in-Plain c =
    let s = c.args.store.now in
    plain_passes (decode s) (consumer_now s c.args.i) (rw c.consumer_at-at.ensures (read_consumer_kind c.requires.canon c.args.i c.requires.there))
    c.from.ensures (ap kind_of c.in-Plain.is)

pub at-pair-requires : goal.at-pair-requires
at-pair-requires c =
    let a = c.consumer_at-at.ensures in
    let i = c.requires.inside in
    let l = c.requires.canon.long in
    omega arith

pub returns-in-Shared : goal.returns-in-Shared
unfolding kind_of
returns-in-Shared c =
    let s = c.args.store.now in
    let h = c.requires.canon in
    let i = c.args.i in
    let k = c.requires.there in
    let two : consumer_at i + 1 + 1 ≡ consumer_at i + 2 = omega arith in
    ring_decides (decode s) (consumer_now s i) (rw c.consumer_at-at.ensures (read_consumer_kind h i k)) c.from.ensures (ap kind_of c.in-Shared.is)
    (rw c.consumer_at-at.ensures (read_consumer_id h i k))
    (c.at-pair.ensures ∙ rw (c.consumer_at-at.ensures, two) (ap₂ pair_of (read_consumer_topic h i k) (read_consumer_subscription h i k))) c.in_ring.ensures
