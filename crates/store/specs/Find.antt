-- Where a row stands in a table.
use Rattle.std.specs.Prelude.{ℕ, suc, cond, List, [], ◌∷◌}
use Rattle.rules.specs.Table.{Key}

-- the slot of the first row with a key; the number of rows where there is none
unfoldable pub slot : {A K : Type 0} → Key A K → K → List A → ℕ
slot k j [] = 0
slot k j (a ∷ l) = cond (k.same j (k.key a)) 0 (suc (slot k j l))
