-- `consumer::fields::is_shared` meets its contract: by its kind.
use mathlib.Core.Path.{ap, ◌∙◌}
use Rattle.layout.specs.Records.{flag_of}
use Rattle.consumer.proofs.Records.{same_shared}
use Rattle.consumer.proofs.fields.is_shared.Goals as goal

pub returns : goal.returns
returns c = c.eq.ensures ∙ same_shared c.kind.result ∙ ap flag_of c.kind.ensures
