-- The shortest varint of a number, byte by byte: what the loop of `fields.rt` turns on.
use mathlib.Core.Path.{◌≡◌, refl, sym, ap, ◌∙◌}
use mathlib.Core.List.{List, [], ◌∷◌}
use Prim.Native.Nat.{ℕ, zero, suc, ◌+◌, ◌-◌, ◌*◌, ◌/◌, ◌%◌, ◌^◌, ◌≤◌, ◌<◌}
use native.Mathlib.Nat.{pow-suc, mul_assoc, div-lt_iff_lt-mul}
use native.Mathlib.Omega.{arith}
use lib.ListN.{set}
use borrow.Author.Tests.{lt-ltb, le-ltb}
use Rattle.wire.specs.Varint.{written_within, written}
use Rattle.wire.proofs.Written.{written_short}
use Rattle.words.specs.Wrote.{Wrote}
use Rattle.words.proofs.Writers.{Left, left_start, left_on, left_end, wrote_byte}

-- a number below 128 is its own varint
pub last_byte : (k v : ℕ) → v < 128 → written_within k v ≡ v ∷ []
unfolding written_within
last_byte zero v h = refl
last_byte (suc k) v h = rw (lt-ltb v 128 h)

-- another has its low seven bits first
first_byte : (k v : ℕ) → 128 ≤ v → written_within (suc k) v ≡ (128 + v % 128) ∷ written_within k (v / 128)
unfolding written_within
first_byte k v h = rw (le-ltb v 128 h)

-- ---- the loop

-- the numbers that k + 1 bytes of a varint of 64 bits can still hold
abbrev limit : ℕ → ℕ
limit k = 2 * 128 ^ k

-- Of a number some bytes are written: at most nine, and what is left of the number goes into the bytes that it has left.
pub record Partly (before : List ℕ) (at number : ℕ) (now : List ℕ) (here left : ℕ) : Type 0 where
  pub few : here ≤ at + 9
  pub small : left < limit (at + 9 - here)
  pub rest : Left before at (written number) now here (written_within (at + 9 - here) left)

-- none at first
pub partly_start : (before : List ℕ) (at number : ℕ) → number < 2 ^ 64 → Partly before at number before at number
unfolding written
partly_start before at number h =
    let e : at + 9 - at ≡ 9 = omega arith in
    record { few = omega arith; small = rw e h; rest = rw e (left_start before at (written_within 9 number)) }

-- a number of more than one byte has a byte left after this
room_left : (k v : ℕ) → v < limit k → 128 ≤ v → 0 < k
room_left zero v h g = omega arith
room_left (suc k) v h g = omega arith

-- what is left of it goes into those bytes
less_left : (k v : ℕ) → v < limit (suc k) → v / 128 < limit k
less_left k v h =
    let e : limit (suc k) ≡ limit k * 128 = ap (λ (n : ℕ). 2 * n) (pow-suc 128 k) ∙ sym (mul_assoc 2 (128 ^ k) 128) in
    (div-lt_iff_lt-mul {k = 128} (omega arith)).1 (rw e at h)

-- seven bits more
pub partly_on : {before now : List ℕ} {at number here left : ℕ} → Partly before at number now here left → 128 ≤ left
    → Partly before at number (set now here (128 + left % 128)) (here + 1) (left / 128)
partly_on {before} {now} {at} {number} {here} {left} p h =
    let r = room_left (at + 9 - here) left p.small h in
    let e : at + 9 - here ≡ suc (at + 9 - (here + 1)) = omega arith in
    record {
      few = omega arith;
      small = less_left (at + 9 - (here + 1)) left (rw e at p.small);
      rest =
          left_on
          (rw (e, first_byte (at + 9 - (here + 1)) left h) at p.rest)
          (wrote_byte now here (128 + left % 128));
    }

-- the last byte
pub partly_end : {before now : List ℕ} {at number here left : ℕ} → Partly before at number now here left → left < 128
    → Wrote 10 before at (written number) (set now here left) (here + 1)
partly_end {before} {now} {at} {number} {here} {left} p h =
    left_end 10 (written_short number)
    (left_on (rw (last_byte (at + 9 - here) left h) at p.rest) (wrote_byte now here left))
