-- What looking up a consumer comes to, as document 01 has it.
use Rattle.std.specs.Prelude.{ℕ, List, get_or}
use Rattle.std.specs.declared.option.Option.{Option}
use Rattle.std.specs.declared.option.Option.TheVariants.{None, Some}
use Rattle.rules.specs.State.{Consumer}
use Rattle.rules.specs.Outcome.{Outcome}
use Rattle.rules.specs.Outcome.Outcome.{refused}
use Rattle.layout.specs.Fields.{zero_consumer}

-- what a lookup among some consumers comes to: with none refusal 4, else what is done with the consumer in the slot
unfoldable pub lookup_outcome : List Consumer → (Consumer → Outcome) → Option ℕ → Outcome
lookup_outcome l f (Some i) = f (get_or l i zero_consumer)
lookup_outcome l f None = refused 4
