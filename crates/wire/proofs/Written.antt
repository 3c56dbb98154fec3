-- The varint that is written for a number is read back as it, whatever follows, and no varint of the number is shorter.
use Prim.Native.Nat.{ℕ, zero, suc, ◌+◌, ◌-◌, ◌*◌, ◌/◌, ◌%◌, ◌^◌, ◌≤◌, ◌<◌}
use mathlib.Core.Path.{◌≡◌, refl, sym, ap, ◌∙◌}
use mathlib.Core.List.{List, [], ◌∷◌, ◌++◌}
use mathlib.Core.Option.{some, bind, map-eq-some_iff, bind-eq-some_iff, none-ne-some, some-injective}
use native.Mathlib.Nat.{pow-suc, mod-add-div, div-lt_iff_lt-mul, div-eq_of_lt, add-mul-div_left}
use native.Mathlib.Omega.{arith}
use lib.Dec.{ltb}
use lib.ListN.{length}
use borrow.Author.Tests.{ltb-true, ltb-false, leb-true, lt-ltb, le-ltb}
use Rattle.rules.specs.Table.{Every}
use Rattle.rules.proofs.Table.{by_test}
use Rattle.rules.proofs.Says.{every_head, every_tail}
use Rattle.wire.specs.Varint.{Varint, followed, varint_within, of_64_bits, varint, written_within, written}
use Rattle.wire.specs.Promises.{Byte, WrittenReadBack, WrittenShortest}
use Rattle.wire.proofs.Options.{answered}

-- a number without its lowest seven bits needs a byte less
rest_below : (k v : ℕ) → v < 128 ^ suc (suc k) → v / 128 < 128 ^ suc k
rest_below k v h = (div-lt_iff_lt-mul {k = 128} (omega arith)).1 (rw (← (pow-suc 128 (suc k))) h)

-- ---- read back

-- a number of k + 1 bytes is read back by a reader of as many or more
back_within : (k j v : ℕ) (rest : List ℕ) → k ≤ j → v < 128 ^ suc k
    → varint_within (suc j) (written_within k v ++ rest) ≡ some (record { value = v; size = length (written_within k v) })
unfolding varint_within written_within followed
back_within zero j v rest n h = rw (lt-ltb v 128 h)
back_within (suc k) zero v rest n h = absurd (omega arith)
back_within (suc k) (suc j) v rest n h =
    by_test (ltb v 128)
    (λ t. rw (t, t))
    (λ t.
    let r = back_within k j (v / 128) rest (omega arith) (rest_below k v h) in
    let e : 128 + v % 128 - 128 + 128 * (v / 128) ≡ v = omega (arith, mod-add-div v 128) in
    rw (t, le-ltb (128 + v % 128) 128 (omega arith), r, e))

-- a written number is read back, whatever follows it
pub written_read_back : WrittenReadBack
unfolding WrittenReadBack varint of_64_bits written bind
written_read_back v rest h =
    rw (back_within 9 9 v rest (omega arith) (omega (arith, leb-true (2 ^ 64) (128 ^ 10) refl)), lt-ltb v (2 ^ 64) h)

-- ---- the shortest

-- a number of k + 1 bytes is written in as many at most
within_length : (n k v : ℕ) → v < 128 ^ suc k → length (written_within n v) ≤ suc k
unfolding written_within
within_length zero k v h = omega arith
within_length (suc n) zero v h = rw (lt-ltb v 128 h) (omega arith)
within_length (suc n) (suc k) v h =
    by_test (ltb v 128)
    (λ t. rw t (omega arith))
    (λ t. rw t (let r = within_length n k (v / 128) (rest_below k v h) in omega arith))

-- how long a written number is at most
pub written_length : (k v : ℕ) → v < 128 ^ suc k → length (written v) ≤ suc k
unfolding written
written_length k v = within_length 9 k v

-- a varint has no more bytes than it may
within_short : (k v : ℕ) → length (written_within k v) ≤ k + 1
unfolding written_within
within_short zero v = omega arith
within_short (suc k) v =
    let h = within_short k (v / 128) in by_test (ltb v 128) (λ t. rw t (omega arith)) (λ t. rw t (omega arith))

-- so the varint of a number has ten at most
pub written_short : (v : ℕ) → length (written v) ≤ 10
unfolding written
written_short v = within_short 9 v

-- what follows a byte, as the rest of the number
rest_is : (b n : ℕ) → b < 256 → 128 ≤ b → (b - 128 + 128 * n) / 128 ≡ n
rest_is b n h g =
    let below : b - 128 < 128 = omega arith in
    let none : (b - 128) / 128 ≡ 0 = div-eq_of_lt below in
    add-mul-div_left (b - 128) n {y = 128} (omega arith) ∙ omega arith

-- a byte before a varint makes what is written a byte longer at most
longer : (n b : ℕ) (y x : Varint) → b < 256 → 128 ≤ b → followed b y ≡ x → ((j : ℕ) → length (written_within j y.value) ≤ y.size)
    → length (written_within n x.value) ≤ x.size
unfolding written_within followed
longer zero b y x h g e r = let s = ap (λ (z : Varint). z.size) e in omega arith
longer (suc n) b y x h g e r =
    let s = ap (λ (z : Varint). z.size) e in
    let v = ap (λ (z : Varint). z.value) e in
    let d : x.value / 128 ≡ y.value = ap (λ (z : ℕ). z / 128) (sym v) ∙ rest_is b y.value h g in
    by_test (ltb x.value 128)
    (λ t. rw t (omega arith))
    (λ t. rw (t, d) (let l = r n in omega arith))

-- what is read from bytes is written in no more of them
shortest_within : (k n : ℕ) (bytes : List ℕ) (x : Varint) → Every Byte bytes → varint_within k bytes ≡ some x
    → length (written_within n x.value) ≤ x.size
unfolding varint_within
shortest_within zero n bytes x h e = absurd (none-ne-some x e)
shortest_within (suc k) n [] x h e = absurd (none-ne-some x e)
shortest_within (suc k) n (b ∷ bytes) x h e =
    by_test (ltb b 128)
    (λ t.
    let p = some-injective _ x (rw t at e) in
    let v = ap (λ (y : Varint). y.value) p in
    let s = ap (λ (y : Varint). y.size) p in
    let l = within_length n 0 x.value (omega (arith, ltb-true b 128 t)) in
    omega arith)
    (λ t.
    let p = (map-eq-some_iff (followed b) (varint_within k bytes)).0 (rw t at e) in
    longer n b p.0 x (every_head h) (ltb-false b 128 t) p.2 (λ j. shortest_within k j bytes p.0 (every_tail h) p.1))

-- no varint of bytes is shorter than the one that is written for its number
pub written_shortest : WrittenShortest
unfolding WrittenShortest varint of_64_bits written
written_shortest bytes x h e =
    let p = (bind-eq-some_iff (varint_within 10 bytes) of_64_bits).0 e in
    let q = answered (ltb p.0.value (2 ^ 64)) p.0 p.2 in
    shortest_within 10 9 bytes x h (p.1 ∙ ap some q.1)
