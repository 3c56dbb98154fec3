-- The rules for a topic by the parts that the check tests, and the topics one after the other.
use mathlib.Core.Path.{◌≡◌, refl, sym}
use mathlib.Core.Bool.{Bool, not, ◌&&◌, and_assoc}
use mathlib.Core.List.{List, map}
use Prim.Native.Nat.{ℕ, ◌^◌, ◌≤◌, ◌<◌}
use lib.Dec.{eqb, leb}
use lib.ListN.{length}
use borrow.Author.Tests.{le-leb}
use Rattle.rules.specs.Table.{all, any, distinct}
use Rattle.rules.specs.State.{Id, same_id, StoredMessage, Topic}
use Rattle.rules.specs.Valid.{is_byte, valid_id, valid_message, valid_topic}
use Rattle.rules.proofs.Table.{decides_numbers}
use Rattle.rules.proofs.Valid.{says_word}
use Rattle.store.proofs.Prefixes.{Stepwise, all_steps, both_steps, map_steps}
use Rattle.check_topics.proofs.Distinct.{distinct_steps}

-- the ids of messages
abbrev pub ids : List StoredMessage → List Id
ids l = map (λ (m : StoredMessage). m.id) l

-- whether messages are valid and their ids distinct
abbrev pub messages_valid : List StoredMessage → Bool
messages_valid l = all valid_message l && distinct same_id (ids l)

-- a message whose numbers are words
pub message_words : (m : StoredMessage) → m.id.ledger < 2 ^ 64 → m.id.entry < 2 ^ 64 → m.handle < 2 ^ 64
    → leb m.batch_size 256 ≡ valid_message m
unfolding valid_message valid_id
message_words m a b c = rw ((says_word m.id.ledger).given a, (says_word m.id.entry).given b, (says_word m.handle).given c)

-- a topic whose ledger fits
pub topic_by_parts : (e : ℕ) (t : Topic) → length t.messages ≤ e
    → (is_byte t.number && (leb 1 (length t.messages) && messages_valid t.messages)) ≡ valid_topic e t
unfolding valid_topic
topic_by_parts e t h =
    sym
    (rw (le-leb (length t.messages) e h)
    (simp and_assoc refl))

-- whether topics are valid and their numbers distinct, topic by topic
pub topic_steps : (e : ℕ)
    → Stepwise (λ l. distinct eqb (map (λ (t : Topic). t.number) l) && all (valid_topic e) l)
    (λ l t. not (any (eqb t.number) (map (λ (x : Topic). x.number) l)) && valid_topic e t)
topic_steps e = both_steps (map_steps (λ (t : Topic). t.number) (distinct_steps decides_numbers)) (all_steps (valid_topic e))
