-- A varint that was read takes at least one byte, ends inside the bytes, and has 64 bits at most.
use Prim.Native.Nat.{ℕ, zero, suc, ◌^◌, ◌≤◌, ◌<◌}
use mathlib.Core.Path.{◌≡◌, ap}
use mathlib.Core.List.{List, [], ◌∷◌}
use mathlib.Core.Option.{some, map-eq-some_iff, bind-eq-some_iff, none-ne-some, some-injective}
use native.Mathlib.Omega.{arith}
use lib.Dec.{ltb}
use lib.ListN.{length}
use borrow.Author.Tests.{ltb-true}
use Rattle.rules.proofs.Table.{by_test}
use Rattle.wire.specs.Varint.{Varint, followed, varint_within, of_64_bits, varint}
use Rattle.wire.proofs.Options.{answered}

-- a varint of at most k bytes lies inside the bytes
within_bounds : (k : ℕ) (bytes : List ℕ) (v : Varint) → varint_within k bytes ≡ some v → (0 < v.size) × (v.size ≤ length bytes)
unfolding varint_within followed
within_bounds zero bytes v e = absurd (none-ne-some v e)
within_bounds (suc k) [] v e = absurd (none-ne-some v e)
within_bounds (suc k) (b ∷ bytes) v e =
    by_test (ltb b 128)
    (λ t. let s = ap (λ (w : Varint). w.size) (some-injective _ v (rw t at e)) in (omega arith, omega arith))
    (λ t.
    let p = (map-eq-some_iff (followed b) (varint_within k bytes)).0 (rw t at e) in
    let s = ap (λ (w : Varint). w.size) p.2 in
    let h = within_bounds k bytes p.0 p.1 in
    (omega arith, omega arith))

-- a varint takes a byte at least, ends inside the bytes and has 64 bits at most
pub varint_bounds : (bytes : List ℕ) (v : Varint) → varint bytes ≡ some v → (0 < v.size) × (v.size ≤ length bytes) × (v.value < 2 ^ 64)
unfolding varint of_64_bits
varint_bounds bytes v e =
    let p = (bind-eq-some_iff (varint_within 10 bytes) of_64_bits).0 e in
    let q = answered (ltb p.0.value (2 ^ 64)) p.0 p.2 in
    let h = within_bounds 10 bytes v (rw (← q.1) p.1) in
    (h.0, h.1, rw (← q.1) (ltb-true p.0.value (2 ^ 64) q.0))
