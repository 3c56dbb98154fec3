-- `probe::probe_spells` meets its contract: it answers what the check answered.
use mathlib.Core.Path.{ap, ◌∙◌}
use Rattle.words.specs.Codec.{bit}
use Rattle.probe.proofs.probe_spells.Goals as goal

pub returns : goal.returns
returns c = c.from.ensures ∙ ap bit c.spells.ensures
