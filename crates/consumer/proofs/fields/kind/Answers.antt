-- `consumer::fields::kind` meets its contract: the kind of the word at its offset.
use mathlib.Core.Path.{ap, ◌∙◌}
use Rattle.rules.specs.Calls.{kind_from}
use Rattle.layout.proofs.Gets.{read_consumer_kind}
use Rattle.consumer.proofs.Records.{kind_back}
use Rattle.consumer.proofs.fields.kind.Goals as goal

pub returns : goal.returns
returns c =
    c.from.ensures
    ∙ rw c.consumer_at-at.ensures (ap kind_from (read_consumer_kind c.requires.canon c.args.i c.requires.there) ∙ kind_back _)
