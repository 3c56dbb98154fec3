-- Message ids: MessageIdData has ledgerId 1, entryId 2, ack_set 5 (read in Ack and Redeliver), batch_size 6 (read in Message).
-- The ids of Ack and Redeliver are document 01's groups.
use Rattle.std.specs.Prelude.{ℕ, List, [], ◌∷◌, ◌++◌, length}
use Rattle.std.proofs.Math.Option.{Option, some, map, bind}
use Rattle.rules.specs.State.{Id}
use Rattle.rules.specs.Groups.{Group}
use Rattle.wire.specs.Fields.{Field, fields}
use Rattle.wire.specs.Select.{numbered, uint64, required, bytes_of, up_to, numbers}

-- ledger and entry of an id
unfoldable pub id_of : List Field → Option Id
id_of fs =
    bind (required uint64 (numbered 1 fs)) (λ (ledger : ℕ).
    bind (required uint64 (numbered 2 fs)) (λ (entry : ℕ).
    some (record { ledger = ledger; entry = entry })))

-- an id of Ack or Redeliver: ledger, entry and at most 16 words of its ack set
unfoldable pub group_of : List ℕ → Option Group
group_of m =
    bind (fields m) (λ (fs : List Field).
    bind (id_of fs) (λ (id : Id).
    bind (numbers 16 (numbered 5 fs)) (λ (words : List ℕ).
    some (record { id = id; words = words }))))

-- the groups of the parts of a message, in order
unfoldable pub groups_of : List ℕ → List Field → Option (List Group)
groups_of m [] = some []
groups_of m (f ∷ fs) =
    bind (group_of (bytes_of m f)) (λ (g : Group). map (λ (l : List Group). g ∷ l) (groups_of m fs))

-- at most 64 ids, each a part
unfoldable pub id_list : List ℕ → List Field → Option (List Group)
id_list m fs = bind (up_to 64 2 fs) (groups_of m)

-- a group's words in a lent list: ledger, entry, how many words, the words
unfoldable pub group_words : Group → List ℕ
group_words g = g.id.ledger ∷ g.id.entry ∷ length g.words ∷ g.words

-- the words of groups, one after the other
unfoldable pub list_words : List Group → List ℕ
list_words [] = []
list_words (g ∷ gs) = group_words g ++ list_words gs
