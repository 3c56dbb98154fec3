-- What the first pass over the ids of an Ack or a Redeliver answers: how many words they take in a list.
use Rattle.std.specs.Prelude.{ℕ, ◌+◌, ◌-◌, cond, List, eqb, length, take, drop, Option, Some, None}
use Rattle.std.proofs.Math.Option.{none, some, bind}
use Rattle.std.proofs.Math.Option as math
use Rattle.rules.specs.Groups.{Group}
use Rattle.wire.specs.Fields.{fields}
use Rattle.wire.specs.Fields as wire
use Rattle.wire.specs.Select.{numbered}
use Rattle.wire.specs.Ids.{group_of, id_list, list_words}
use Rattle.wire_fields.specs.declared.field.Field.{Field}
use Rattle.wire_ids.specs.declared.size.Tally.{Tally}

-- the ids under a number of a message
unfoldable pub ids_of : List ℕ → ℕ → math.Option (List Group)
ids_of m number = bind (fields m) (λ (fs : List wire.Field). id_list m (numbered number fs))

-- how many words ids take
abbrev pub size_of : List Group → ℕ
size_of ids = length (list_words ids)

-- a tally with an id that is there or not
unfoldable pub tallied : Tally → math.Option Group → Option Tally
tallied t none = None
tallied t (some g) = Some (record { left = t.left - 1; words = t.words + (3 + length g.words) })

-- one id more, from its bytes and its field's wire type
unfoldable pub tally_id : List ℕ → ℕ → Tally → Option Tally
tally_id bytes wire t = cond (eqb wire 2) (cond (eqb t.left 0) None (tallied t (group_of bytes))) None

-- one field more, which may be an id
unfoldable pub tally_with : List ℕ → ℕ → Field → Tally → Option Tally
tally_with m number f t = cond (eqb f.number number) (tally_id (take (f.next - f.start) (drop f.start m)) f.wire t) (Some t)
