-- Where a row stands in a table, if it stands there.
use Rattle.std.specs.Prelude.{ℕ, cond, List, ltb, length}
use Rattle.std.specs.declared.option.Option.{Option}
use Rattle.std.specs.declared.option.Option.TheVariants.{None, Some}
use Rattle.rules.specs.Table.{Key}
use Rattle.store.specs.Find.{slot}

-- the slot of the first row with a key, where there is one
unfoldable pub found : {A K : Type 0} → Key A K → K → List A → Option ℕ
found k j l = cond (ltb (slot k j l) (length l)) (Some (slot k j l)) None
