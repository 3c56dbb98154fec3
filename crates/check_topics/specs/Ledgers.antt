-- What is told of topics that are valid: their store, and the ledger of each as rows.
use Rattle.std.specs.Prelude.{ℕ, ◌+◌, ◌*◌, ◌<◌, ◌≡◌, Bool, true, false, Option, MatchOption, List, length, get_or}
use Rattle.rules.specs.State.{StoredMessage, ledger_of}
use Rattle.rules.specs.Ledger.{no_message}
use Rattle.layout.specs.Layout.{decode}
use Rattle.check_rows.specs.Rows.{row, row_second}
use Rattle.check_rows.specs.declared.PairRows.{PairRows}
use Rattle.check_topics.specs.declared.valid_topics.ValidTopics.{ValidTopics}

-- what a test that tells the orders of topics answers
abbrev pub Ordered : ℕ → List ℕ → Option ValidTopics → Bool → Type 0
Ordered e ws result right = MatchOption result (right ≡ false) (λ o. (right ≡ true) × (o.store.now ≡ ws) × (o.e ≡ e))

-- the messages of a ledger stand from an offset on: their ids and batch sizes are read there
abbrev pub LedgerSpelt : List ℕ → ℕ → List StoredMessage → Type 0
LedgerSpelt ws first l =
    (j : ℕ) → j < length l
    → (row ws first 4 j ≡ (get_or l j no_message).id.ledger) × (row_second ws first 4 j ≡ (get_or l j no_message).id.entry)
    × (get_or ws (first + j * 4 + 3) 0 ≡ (get_or l j no_message).batch_size)

-- rows that are the ledger of a topic
pub record LedgerRows (ws : List ℕ) (topic : ℕ) (r : PairRows) : Type 0 where
  pub same_store : r.rows.store.now ≡ ws
  pub width : r.rows.width ≡ 4
  pub count : r.rows.count ≡ length (ledger_of (decode ws) topic)
  pub spelt : LedgerSpelt ws r.rows.first (ledger_of (decode ws) topic)
