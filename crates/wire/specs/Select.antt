-- What a reader takes out of a message's fields: a number or a part, that has to be there or may be, once or often. A field
-- that is read has the wire type of its declaration and a number of its width; a singular one stands once.
use Rattle.std.specs.Prelude.{ℕ, ◌-◌, ◌^◌, Bool, true, cond, ◌&&◌, ◌||◌, List, [], ◌∷◌, map, eqb, leb, ltb, length, take, drop}
use Rattle.std.proofs.Math.Option
use Rattle.std.proofs.Math.Option.{Option, none, some}
use Rattle.rules.specs.Table.{keep, all}
use Rattle.wire.specs.Fields.{Field}

-- the fields of a number, in order
unfoldable pub numbered : ℕ → List Field → List Field
numbered n fs = keep (λ (f : Field). eqb f.number n) fs

-- widths: uint64 and int64 take any varint
unfoldable pub uint64 : ℕ → Bool
uint64 v = true

-- uint32 takes those below 2^32
unfoldable pub uint32 : ℕ → Bool
uint32 v = ltb v (2 ^ 32)

-- an enum and int32 take those below 2^31 and the ten-byte negative ones
unfoldable pub int32 : ℕ → Bool
int32 v = ltb v (2 ^ 31) || leb (2 ^ 64 - 2 ^ 31) v

-- a count is an int32 from 0 on
unfoldable pub count : ℕ → Bool
count v = ltb v (2 ^ 31)

-- a number that has to be there: one field, a varint, of its width
unfoldable pub required : (ℕ → Bool) → List Field → Option ℕ
required fits [] = none
required fits (f ∷ []) = cond (eqb f.wire 0 && fits f.value) (some f.value) none
required fits (f ∷ g ∷ fs) = none

-- a number that may be absent, and is 0 then
unfoldable pub optional : (ℕ → Bool) → List Field → Option ℕ
optional fits [] = some 0
optional fits (f ∷ fs) = required fits (f ∷ fs)

-- a part that has to be there: one field, length-delimited
unfoldable pub part : List Field → Option Field
part [] = none
part (f ∷ []) = cond (eqb f.wire 2) (some f) none
part (f ∷ g ∷ fs) = none

-- the bytes of a part
abbrev pub bytes_of : List ℕ → Field → List ℕ
bytes_of m f = take (f.next - f.start) (drop f.start m)

-- at most k fields, all of a wire type
unfoldable pub up_to : ℕ → ℕ → List Field → Option (List Field)
up_to k wire fs = cond (leb (length fs) k && all (λ (f : Field). eqb f.wire wire) fs) (some fs) none

-- at most k numbers, unpacked
unfoldable pub numbers : ℕ → List Field → Option (List ℕ)
numbers k fs = Option.map (map (λ (f : Field). f.value)) (up_to k 0 fs)
