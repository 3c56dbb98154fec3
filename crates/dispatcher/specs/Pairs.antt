-- A pair as code has it, as the rules have it.
use Rattle.std.specs.Prelude.{ℕ, ◌+◌, List, get_or}
use Rattle.rules.specs.State.{Pair}
use Rattle.layout.specs.Fields.{pair_of}
use Rattle.dispatcher.specs.declared.table.Pair as declared

-- the rules' pair
abbrev pub pair_in : declared.Pair → Pair
pair_in p = pair_of p.topic p.subscription

-- the pair whose two words stand from an offset on
abbrev pub pair_at : List ℕ → ℕ → Pair
pair_at ws at = pair_of (get_or ws at 0) (get_or ws (at + 1) 0)
