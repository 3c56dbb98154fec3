-- How many ids an ack puts outside the ledger. A group counts if its id is neither in the ledger nor outside it yet, and no
-- later group of the list has that id: of groups with one id the last one counts.
use Rattle.std.specs.Prelude.{ℕ, ◌+◌, Bool, cond, List, [], ◌∷◌}
use Rattle.rules.specs.Table.{any}
use Rattle.rules.specs.State.{Id, same_id, StoredMessage}
use Rattle.rules.specs.Ledger.{holds_id}
use Rattle.rules.specs.Groups.{Group}

-- whether some group has an id
unfoldable pub named : Id → List Group → Bool
named i gs = any (λ (g : Group). same_id i g.id) gs

-- 1 if a group with some groups after it counts, else 0
unfoldable pub new_bit : List StoredMessage → List Id → Group → List Group → ℕ
new_bit ledger ids g gs =
    cond (holds_id g.id ledger) 0 (cond (any (same_id g.id) ids) 0 (cond (named g.id gs) 0 1))

-- how many groups count
unfoldable pub new_count : List StoredMessage → List Id → List Group → ℕ
new_count ledger ids [] = 0
new_count ledger ids (g ∷ gs) = new_bit ledger ids g gs + new_count ledger ids gs
