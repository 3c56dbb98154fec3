-- Where the table of topics stands in a store, and the messages of each.
use Rattle.std.specs.Prelude.{ℕ, ◌+◌}
use Rattle.layout.specs.Offsets.{topic_count_at, topic_at, topic_words, messages_in, message_in}
use Rattle.store.specs.declared.counted.Counted.{Counted}

-- the topics
abbrev pub topic_list : ℕ → Counted
topic_list e = record { count_at = topic_count_at; first = topic_at e 0; width = topic_words e }

-- the messages of a topic
abbrev pub message_list : ℕ → ℕ → Counted
message_list e t = record { count_at = topic_at e t + messages_in; first = topic_at e t + message_in 0; width = 4 }
