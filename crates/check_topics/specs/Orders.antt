-- The ledgers of topics, tested over words, and which of them are known to ascend by id.
use Rattle.std.specs.Prelude.{ℕ, ◌+◌, ◌*◌, ◌≡◌, Bool, true, false, cond, ◌&&◌, Option, Some, None, List, leb, get_or}
use Rattle.rules.specs.Valid.{valid_topic}
use Rattle.layout.specs.Layout.{decode}
use Rattle.layout.specs.Fields.{topic_nth}
use Rattle.layout.specs.Offsets.{topic_at, messages_in, message_in}
use Rattle.check_rows.specs.Below.{each_below}
use Rattle.check_rows.specs.Rows.{twos_distinct, twos_ascend}

-- whether the batch size of message j, of those from an offset on, is at most 256
abbrev pub batch_right : List ℕ → ℕ → ℕ → Bool
batch_right ws first j = leb (get_or ws (first + j * 4 + 3) 0) 256

-- whether n messages have batch sizes of at most 256 and ids that ascend
unfoldable pub messages_ascend : List ℕ → ℕ → ℕ → Bool
messages_ascend ws first n = each_below (batch_right ws first) n && twos_ascend ws first 4 n

-- whether n messages have batch sizes of at most 256 and no id twice
unfoldable pub messages_distinct : List ℕ → ℕ → ℕ → Bool
messages_distinct ws first n = each_below (batch_right ws first) n && twos_distinct ws first 4 n

-- whether the ids of the ledger in slot t ascend
abbrev pub ledger_ascends : ℕ → List ℕ → ℕ → Bool
ledger_ascends e ws t = twos_ascend ws (topic_at e t + message_in 0) 4 (get_or ws (topic_at e t + messages_in) 0)

-- whether the ids of the ledger in slot t ascend, if its topic is valid
unfoldable pub topic_order : ℕ → List ℕ → ℕ → Option Bool
topic_order e ws t = cond (valid_topic e (topic_nth (decode ws) t)) (Some (ledger_ascends e ws t)) None

-- each topic that is known to has ids that ascend
abbrev pub Known : ℕ → List ℕ → List Bool → Type 0
Known e ws ascend = (t : ℕ) → get_or ascend t false ≡ true → ledger_ascends e ws t ≡ true
