-- What a walk over all fields of a message keeps of those of a number: how many there were, or that one had another wire type than
-- its declaration, and the last one's number or place.
use Rattle.std.specs.Prelude.{ℕ, ◌+◌, ◌/◌, ◌%◌, cond, List, [], ◌∷◌, eqb, leb, length, replicate, Option, Some, None}
use Rattle.std.proofs.Math.Option.{none, some}
use Rattle.std.proofs.Math.Option as math
use Rattle.wire.specs.Fields.{fields}
use Rattle.wire.specs.Fields as wire
use Rattle.wire_fields.specs.Found.{as_field}
use Rattle.wire_fields.specs.declared.field.Field.{Field}
use Rattle.wire_fields.specs.declared.pick.Seen.{Seen}

-- a number that is read, with the wire type of its declaration
pub record Wanted : Type 0 where
  pub number : ℕ
  pub wire : ℕ

-- from the tag that its field has
abbrev pub wanted_of : ℕ → Wanted
wanted_of tag = record { number = tag / 8; wire = tag % 8 }

-- nothing was seen yet
abbrev pub nothing_seen : Seen
nothing_seen = record { count = 0; content = 0; next = 0 }

-- a varint's number; of another field where its bytes begin
unfoldable pub content_of : Field → ℕ
content_of f = cond (eqb f.wire 0) f.value f.start

-- one field more: another wire type counts as 65, more than any reader takes, and the count stops there
unfoldable pub seen_with : Wanted → Seen → ℕ → ℕ → ℕ → ℕ → Seen
seen_with w s number wire content next =
    cond (eqb number w.number)
    (cond (eqb wire w.wire)
    (cond (leb 65 s.count) s (record { count = s.count + 1; content = content; next = next }))
    (record { count = 65; content = 0; next = 0 }))
    s

-- one field of a message more
unfoldable pub seen_field : Wanted → Seen → Field → Seen
seen_field w s f = seen_with w s f.number f.wire (content_of f) f.next

-- all fields of a list, after what was seen before
unfoldable pub seen_after : Wanted → Seen → List wire.Field → Seen
seen_after w s [] = s
seen_after w s (f ∷ fs) = seen_after w (seen_field w s (as_field f)) fs

-- one field more under each of some tags
unfoldable pub all_seen : List ℕ → List Seen → Field → List Seen
all_seen [] ss f = []
all_seen (t ∷ ts) [] f = []
all_seen (t ∷ ts) (s ∷ ss) f = seen_field (wanted_of t) s f ∷ all_seen ts ss f

-- all fields of a list under each, after what was seen before
unfoldable pub all_after : List ℕ → List Seen → List wire.Field → List Seen
all_after tags ss [] = ss
all_after tags ss (f ∷ fs) = all_after tags (all_seen tags ss (as_field f)) fs

-- what was seen under some tags, if the fields are there, after what was seen before
unfoldable pub picked_after : List ℕ → List Seen → math.Option (List wire.Field) → Option (List Seen)
picked_after tags ss none = None
picked_after tags ss (some fs) = Some (all_after tags ss fs)

-- what stands under some numbers of a message, each by its tag
unfoldable pub picked : List ℕ → List ℕ → Option (List Seen)
picked m tags = picked_after tags (replicate (length tags) nothing_seen) (fields m)
