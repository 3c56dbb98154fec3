-- Where the list of a consumer's nacked positions stands in a store.
use Rattle.std.specs.Prelude.{ℕ, ◌+◌}
use Rattle.layout.specs.Offsets.{consumer_at, nacked_in}
use Rattle.store.specs.declared.counted.Counted.{Counted}

-- the nacked positions
abbrev pub nacked_list : ℕ → Counted
nacked_list i = record { count_at = consumer_at i + nacked_in; first = consumer_at i + (nacked_in + 1); width = 1 }
