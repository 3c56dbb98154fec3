-- Varints: seven bits a byte, the lowest first; every byte but the last has its top bit set. Any length up to ten bytes is
-- read, the shortest is written.
use Rattle.std.specs.Prelude.{ℕ, zero, suc, ◌+◌, ◌-◌, ◌*◌, ◌/◌, ◌%◌, ◌^◌, cond, List, [], ◌∷◌, ltb}
use Rattle.std.proofs.Math.Option.{Option, none, some, map, bind}

-- a number read, and how many bytes it took
pub record Varint : Type 0 where
  pub value : ℕ
  pub size : ℕ

-- a byte of seven bits before a varint
unfoldable pub followed : ℕ → Varint → Varint
followed b v = record { value = b - 128 + 128 * v.value; size = suc v.size }

-- a varint of at most k bytes at the front of some bytes; none where it is cut off or longer
unfoldable pub varint_within : ℕ → List ℕ → Option Varint
varint_within zero bytes = none
varint_within (suc k) [] = none
varint_within (suc k) (b ∷ bytes) =
    cond (ltb b 128) (some (record { value = b; size = 1 })) (map (followed b) (varint_within k bytes))

-- the varint if its number has at most 64 bits
unfoldable pub of_64_bits : Varint → Option Varint
of_64_bits v = cond (ltb v.value (2 ^ 64)) (some v) none

-- the varint at the front of some bytes: at most 10 bytes and 64 bits
unfoldable pub varint : List ℕ → Option Varint
varint bytes = bind (varint_within 10 bytes) of_64_bits

-- the shortest varint of a number, in at most k + 1 bytes
unfoldable pub written_within : ℕ → ℕ → List ℕ
written_within zero v = v ∷ []
written_within (suc k) v = cond (ltb v 128) (v ∷ []) ((128 + v % 128) ∷ written_within k (v / 128))

-- the shortest varint of a number of 64 bits
unfoldable pub written : ℕ → List ℕ
written v = written_within 9 v
