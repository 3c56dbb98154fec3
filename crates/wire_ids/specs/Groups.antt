-- What the second pass over the ids of an Ack or a Redeliver lays into a list.
use Rattle.std.specs.Prelude.{ℕ, ◌+◌, ◌≤◌, ◌≡◌, true, cond, List, [], eqb, length, set}
use Rattle.std.proofs.Math.Option.{Option, none, some}
use Rattle.rules.specs.Table.{is_some, or_else}
use Rattle.rules.specs.Groups.{Group}
use Rattle.wire.specs.Ids.{group_of, group_words, list_words}
use Rattle.wire_ids.specs.Sizes.{ids_of}

-- the words of a group that is there or not
unfoldable pub words_of_group : Option Group → List ℕ
words_of_group none = []
words_of_group (some g) = group_words g

-- the words of the id that some bytes are
unfoldable pub id_words : List ℕ → List ℕ
id_words bytes = words_of_group (group_of bytes)

-- some bytes are an id, and a list of some length has room for its words from a place on
pub record IdRoom (m : List ℕ) (size to : ℕ) : Type 0 where
  pub read : is_some (group_of m) ≡ true
  pub room : to + length (id_words m) ≤ size

-- how many words a group has after a field of some number
unfoldable pub count_with : ℕ → ℕ → ℕ
count_with number n = cond (eqb number 5) (n + 1) n

-- the list after it: the group begins at a place, with ledger, entry, how many words, and the words
unfoldable pub put_in : List ℕ → ℕ → ℕ → ℕ → ℕ → List ℕ
put_in list to n number value =
    cond (eqb number 5) (set list (to + 3 + n) value)
    (cond (eqb number 1) (set list to value)
    (cond (eqb number 2) (set list (to + 1) value)
    list))

-- the number of a field put into its place, with the list before and after and how many words the group has then
pub record Put (before : List ℕ) (to n number value : ℕ) (after : List ℕ) (many : ℕ) : Type 0 where
  pub is : after ≡ put_in before to n number value
  pub count : many ≡ count_with number n

-- the ids under a number of a message
unfoldable pub ids_there : List ℕ → ℕ → List Group
ids_there m number = or_else (ids_of m number) []

-- they were read, and a list of some length has room for them
pub record Listed (m : List ℕ) (number size : ℕ) : Type 0 where
  pub read : ids_of m number ≡ some (ids_there m number)
  pub room : length (list_words (ids_there m number)) ≤ size
