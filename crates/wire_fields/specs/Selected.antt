-- What a reader takes out of what was seen under a number. The laws in `proofs/Selections.antt` tie each to its selection of the
-- wire over the fields of that number.
use Rattle.std.specs.Prelude.{ℕ, ◌^◌, Bool, cond, ◌&&◌, List, eqb, leb, ltb, Option, Some, None}
use Rattle.wire.specs.Fields.{Field}
use Rattle.wire.specs.Select.{uint64, uint32, int32, count}
use Rattle.wire.specs.Commands.{message_of}
use Rattle.wire_fields.specs.Found.{answered}
use Rattle.wire_fields.specs.declared.base.Base.{Base}
use Rattle.wire_fields.specs.declared.pick.Seen.{Seen}
use Rattle.wire_fields.specs.declared.select.Place.{Place}
use Rattle.wire_fields.specs.declared.select.Width.{Width}
use Rattle.wire_fields.specs.declared.select.Width.TheVariants.{Uint64, Uint32, Int32, Count}

-- one field was seen, of the right wire type
unfoldable pub is_one : Seen → Bool
is_one s = eqb s.count 1

-- the numbers of a width
abbrev pub fits : Width → ℕ → Bool
fits Uint64 = uint64
fits Uint32 = uint32
fits Int32 = int32
fits Count = count

-- a number of some width that has to be there
unfoldable pub number : (ℕ → Bool) → Seen → Option ℕ
number fits s = cond (is_one s && fits s.content) (Some s.content) None

-- a number that may be absent, and is 0 then
unfoldable pub optional_number : (ℕ → Bool) → Seen → Option ℕ
optional_number fits s = cond (eqb s.count 0) (Some 0) (number fits s)

-- a part that has to be there
unfoldable pub place : Seen → Option Place
place s = cond (is_one s) (Some (record { start = s.content; next = s.next })) None

-- at most k fields, all of the right wire type: how many
unfoldable pub at_most : ℕ → Seen → Option ℕ
at_most k s = cond (leb s.count k) (Some s.count) None

-- the place of a part
unfoldable pub place_of : Field → Place
place_of f = record { start = f.start; next = f.next }

-- where the message of a type stands in a BaseCommand; types are below 2^32
unfoldable pub placed : List ℕ → ℕ → Option Place
placed m type = cond (ltb type (2 ^ 32)) (answered place_of (message_of m type)) None

-- a BaseCommand of a type, as the code has it
unfoldable pub base_of : List ℕ → ℕ → Base
base_of m type = record { kind = type; message = placed m type }
