-- What an append needs of the dispatchers of its topic, and what each gains.
use Rattle.std.specs.Prelude.{ℕ, ◌<◌, ◌≡◌, cond, not, [], ◌∷◌, ◌++◌, length}
use Rattle.rules.specs.Table.{Distinct, keep}
use Rattle.rules.specs.State.{Id, same_id, Dispatcher, completed, unacknowledged}
use Rattle.rules.specs.Dispatcher.{with_marks, is_outside}

-- a dispatcher with the mark of a new entry; its id is no longer outside the ledger
unfoldable pub gained : Id → Dispatcher → Dispatcher
gained i d =
    with_marks d
    (d.marks ++ record { acked = cond (is_outside i d) completed unacknowledged; redelivery_count = 0 } ∷ [])
    (keep (λ (j : Id). not (same_id i j)) d.outside)

-- a dispatcher has room for a mark, and no outside id twice
pub record TakesEntry (e : ℕ) (d : Dispatcher) : Type 0 where
  pub room : length d.marks < e
  pub outside_once : Distinct same_id d.outside

-- so has a dispatcher if it is one of the topic
abbrev pub Takes : ℕ → ℕ → Dispatcher → Type 0
Takes e topic d = topic ≡ d.pair.topic → TakesEntry e d
