-- What the walk over the fields of an id keeps: how many ledgers, entries and words there were. Each number stops where it is
-- too many, and a field of another wire type takes it there; so the three say whether the id is right.
use Rattle.std.specs.Prelude.{ℕ, ◌+◌, cond, ◌&&◌, List, [], ◌∷◌, eqb, ltb, length}
use Rattle.rules.specs.Groups.{Group}
use Rattle.wire.specs.Fields as wire
use Rattle.wire_ids.specs.declared.id.Parts.{Parts}

-- how many words the ack set of an id has
abbrev pub words_in : Group → ℕ
words_in g = length g.words

-- one field more under a number, from its wire type; `most` is one too many
unfoldable pub one_more : ℕ → ℕ → ℕ → ℕ
one_more most type n = cond (eqb type 0 && ltb n most) (n + 1) most

-- one field more, which may be of another number
unfoldable pub counted : ℕ → ℕ → ℕ → ℕ → ℕ → ℕ
counted wanted most number type n = cond (eqb number wanted) (one_more most type n) n

-- one field more in all three
unfoldable pub parts_with : ℕ → ℕ → Parts → Parts
parts_with number type p =
    record {
      ledgers = counted 1 2 number type p.ledgers;
      entries = counted 2 2 number type p.entries;
      words = counted 5 17 number type p.words;
    }

-- all fields of a list
unfoldable pub parts_after : Parts → List wire.Field → Parts
parts_after p [] = p
parts_after p (f ∷ fs) = parts_after (parts_with f.number f.wire p) fs
