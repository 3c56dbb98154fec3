-- A number read byte by byte, high byte first: what the loop of `number` turns on. And bytes are told by their number.
use Prim.Native.Nat.{ℕ, suc, ◌+◌, ◌*◌, ◌^◌, ◌≤◌, ◌<◌}
use mathlib.Core.Path.{◌≡◌, refl}
use mathlib.Core.Bool.{true}
use mathlib.Core.List.{List, [], ◌∷◌}
use native.Mathlib.Nat.{pow-suc, pow-le-pow_right}
use native.Mathlib.Omega.{arith}
use lib.ListN.{length, get_or, take, drop, drop_of_length-le}
use lib.Seq.{drop-cons}
use borrow.Author.Tests.{eq-eqb}
use Rattle.words.specs.Words.{starts}
use Rattle.words.specs.Codec.{All}
use Rattle.trace.specs.Format.{number_from, number}

-- Of the bytes of a number i are read: the number so far, carried on over the others, is the number of all.
pub record Partly (bytes : List ℕ) (n i : ℕ) : Type 0 where
  pub small : n < 256 ^ i
  pub rest : number_from n (drop i bytes) ≡ number bytes

-- none at first
pub partly_start : (bytes : List ℕ) → Partly bytes 0 0
unfolding number
partly_start bytes = record { small = omega arith; rest = refl }

module _ {bytes : List ℕ} {n i : ℕ} (p : Partly bytes n i) where
  -- a number before its last byte leaves room for one more
  pub room : i < length bytes → length bytes ≤ 8 → n < 2 ^ 56
  room h g =
      let e : i ≤ 7 = omega arith in
      let s = p.small in
      omega (arith, pow-le-pow_right {n = 256} (omega arith) e)

  -- one byte more
  pub partly_on : {b : ℕ} → i < length bytes → b ≡ get_or bytes i 0 → b < 256 → Partly bytes (n * 256 + b) (i + 1)
  unfolding number_from
  partly_on {b} h is l =
      let f : i + 1 ≡ suc i = omega arith in
      let s = p.small in
      record {
        small = rw (f, pow-suc) (omega arith);
        rest = rw (f, is) (rw (drop-cons bytes i 0 h) at p.rest);
      }

-- all at the end
pub partly_end : {bytes : List ℕ} {n i : ℕ} → Partly bytes n i → length bytes ≤ i → n ≡ number bytes
unfolding number_from
partly_end {bytes} {n} {i} p h = rw (drop_of_length-le bytes h) at p.rest

-- ---- the bytes of a number

-- bytes that spell the number of as many others are these
pub starts_number : (h k : ℕ) (us ws : List ℕ) → All (λ b. b < 256) us → ((i : ℕ) → get_or ws i 0 < 256) → length us ≤ length ws
    → number_from h (take (length us) ws) ≡ number_from k us → (h ≡ k) × (starts us ws ≡ true)
unfolding number_from starts
starts_number h k [] ws f g l e = (e, refl)
starts_number h k (u ∷ us) [] f g l e = absurd (omega arith)
starts_number h k (u ∷ us) (w ∷ ws) f g l e =
    let r = starts_number (h * 256 + w) (k * 256 + u) us ws f.1 (λ i. g (suc i)) (omega arith) e in
    let same = r.0 in
    let u_byte = f.0 in
    let w_byte = g 0 in
    (omega arith, rw (eq-eqb w u (omega arith)) r.1)
