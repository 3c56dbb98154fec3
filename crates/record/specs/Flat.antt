-- Dispatch records in flat words: the record that the code holds by value, records written one after the other in a lent
-- list, 13 words each, and the record that such words spell.
use Rattle.std.specs.Prelude.{ℕ, suc, ◌+◌, ◌*◌, List, [], ◌∷◌, get_or}
use Rattle.words.specs.Act.{lay}
use Rattle.rules.specs.Outcome.{Dispatch}
use Rattle.rules.specs.Push.{flat}
use Rattle.record.specs.declared.Dispatch as declared

-- a list with records written one after the other, from record m on
unfoldable pub filled : List ℕ → ℕ → List Dispatch → List ℕ
filled list m [] = list
filled list m (x ∷ l) = filled ((lay (flat x)).run (m * 13) list) (suc m) l

-- the words of the code's record, in the order of its fields
unfoldable pub record_words : declared.Dispatch → List ℕ
record_words x =
    x.consumer ∷ x.ledger ∷ x.entry ∷ x.handle ∷ x.batch_size
    ∷ x.ack_set_words ∷ x.ack_set.w0 ∷ x.ack_set.w1 ∷ x.ack_set.w2 ∷ x.ack_set.w3
    ∷ x.redelivery_count ∷ x.cost ∷ x.permits ∷ []

-- word j of record i
abbrev pub word_of : List ℕ → ℕ → ℕ → ℕ
word_of ws i j = get_or ws (i * 13 + j) 0

-- record i of flat words: its fields are its 13 words in order, as `record_read` of the rules has them, but of the code's record,
-- whose permits are in two's complement
unfoldable pub record_at : List ℕ → ℕ → declared.Dispatch
record_at ws i =
    record {
      consumer = word_of ws i 0;
      ledger = word_of ws i 1;
      entry = word_of ws i 2;
      handle = word_of ws i 3;
      batch_size = word_of ws i 4;
      ack_set_words = word_of ws i 5;
      ack_set = record { w0 = word_of ws i 6; w1 = word_of ws i 7; w2 = word_of ws i 8; w3 = word_of ws i 9 };
      redelivery_count = word_of ws i 10;
      cost = word_of ws i 11;
      permits = word_of ws i 12;
    }
