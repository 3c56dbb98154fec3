-- `consumer::fields::pair` meets its contract: the words at two offsets.
use mathlib.Core.Path.{◌≡◌, ap₂, ◌∙◌}
use Prim.Native.Nat.{◌+◌}
use native.Mathlib.Omega.{arith}
use Rattle.layout.specs.Offsets.{consumer_at}
use Rattle.layout.specs.Fields.{pair_of}
use Rattle.layout.proofs.Gets.{read_consumer_topic, read_consumer_subscription}
use Rattle.consumer.proofs.fields.pair.Goals as goal

pub at-requires : goal.at-requires
at-requires c =
    let a = c.consumer_at.ensures in
    let i = c.requires.inside in
    let l = c.requires.canon.long in
    omega arith

pub returns : goal.returns
returns c =
    let two : consumer_at c.args.i + 1 + 1 ≡ consumer_at c.args.i + 2 = omega arith in
    c.at.ensures
    ∙ rw (c.consumer_at.ensures, two)
    (ap₂ pair_of (read_consumer_topic c.requires.canon c.args.i c.requires.there) (read_consumer_subscription c.requires.canon c.args.i c.requires.there))
