-- A varint read byte by byte: what the loop of `varint.rt` turns on. Some bytes are read, each says that another follows, and
-- what is left decides what the whole is.
use Prim.Native.Nat.{ℕ, suc, ◌+◌, ◌-◌, ◌*◌, ◌%◌, ◌^◌, ◌<◌, ◌≤◌}
use mathlib.Core.Path.{◌≡◌, refl, sym, ap, ◌∙◌}
use mathlib.Core.Bool.{Bool, true, false, cond}
use mathlib.Core.List.{List}
use mathlib.Core.Option.{Option, none, some, map, bind}
use Rattle.std.specs.Prelude.{Some, None}
use Rattle.std.specs.Prelude as code
use native.Mathlib.Nat.{mul_comm, mul_assoc, mul-add, add-zero, add_assoc, mul-le-mul_right}
use native.Mathlib.Numerals.{add-one}
use native.Mathlib.Omega.{arith}
use lib.Dec.{ltb}
use lib.ListN.{length, get_or, drop, drop_of_length-le}
use lib.Pow.{pow-add, pow_mono, shl_exact}
use lib.Seq.{drop-cons}
use borrow.Author.Tests.{lt-ltb, le-ltb, ltb-true}
use Rattle.wire.specs.Varint.{followed, varint_within, of_64_bits, varint}
use Rattle.wire.specs.Varint as wire
use Rattle.wire_fields.specs.Found.{answered, as_varint, varint_at, after, Partway}
use Rattle.wire_fields.specs.declared.varint.Varint.{Varint}

-- a varint that was read, as the code answers it
abbrev pub Read : ℕ → ℕ → code.Option Varint
Read value next = Some (record { value = value; next = next })

-- what is left of a varint at a place inside the message
within_step : (k : ℕ) (m : List ℕ) (i : ℕ) → i < length m
    → varint_within (suc k) (drop i m)
    ≡ cond (ltb (get_or m i 0) 128) (some (record { value = get_or m i 0; size = 1 }))
    (map (followed (get_or m i 0)) (varint_within k (drop (i + 1) m)))
unfolding varint_within
within_step k m i h = rw (drop-cons m i 0 h, add-one i)

-- a number's next seven bits, d, in front of what is left, w
grown : (value p q d w : ℕ) → q ≡ p * 128 → value + p * (d + 128 * w) ≡ value + d * p + q * w
grown value p q d w e =
    let t : p * (128 * w) ≡ q * w = sym (mul_assoc p 128 w) ∙ ap (λ (k : ℕ). k * w) (sym e) in
    let u : p * (d + 128 * w) ≡ d * p + q * w = mul-add p d (128 * w) ∙ rw (mul_comm p d, t) in
    omega arith

-- the place value of the next seven bits
pub next_place : (size : ℕ) → 2 ^ (7 * (size + 1)) ≡ 2 ^ (7 * size) * 128
next_place size =
    let e : 7 * (size + 1) ≡ 7 * size + 7 = omega arith in
    ap (λ (k : ℕ). 2 ^ k) e ∙ pow-add 2 (7 * size) 7

-- equal parts make equal varints
same_varint : {a b c d : ℕ} → a ≡ b → c ≡ d
    → ◌≡◌ {A = wire.Varint} (record { value = a; size = c }) (record { value = b; size = d })
same_varint p q = cc

-- the byte b joins what was read before it
joins : (value size b : ℕ) (v : wire.Varint)
    → after value size (followed b v) ≡ after (value + (b - 128) * 2 ^ (7 * size)) (size + 1) v
unfolding after followed
joins value size b v =
    same_varint (grown value (2 ^ (7 * size)) (2 ^ (7 * (size + 1))) (b - 128) v.value (next_place size)) (omega arith)

-- and so of what is left
joins_all : (value size b : ℕ) (o : Option wire.Varint)
    → map (after value size) (map (followed b) o) ≡ map (after (value + (b - 128) * 2 ^ (7 * size)) (size + 1)) o
joins_all value size b none = refl
joins_all value size b (some v) = ap some (joins value size b v)

-- nothing is read at first
nothing : (o : Option wire.Varint) → map (after 0 0) o ≡ o
unfolding after
nothing none = refl
nothing (some v) = ap some (same_varint {b = v.value} {d = v.size} (omega arith) (omega arith))

pub partway_start : (m : List ℕ) (at : ℕ) → at ≤ length m → Partway m at 0 0
partway_start m at h =
    record {
      inside = omega arith;
      few = omega arith;
      small = omega arith;
      rest = rw add-zero (sym (nothing (varint_within 10 (drop at m))));
    }

-- the varint at a place, from the varint of at most ten bytes there
at_place : (m : List ℕ) (at : ℕ) {o : Option wire.Varint} → varint_within 10 (drop at m) ≡ o
    → varint_at m at ≡ answered (as_varint at) (bind o of_64_bits)
unfolding varint_at varint
at_place m at e = rw e

-- a number of 64 bits is taken, a larger one is not
taken : (at value size : ℕ) → value < 2 ^ 64
    → answered (as_varint at) (bind (some (record { value = value; size = size })) of_64_bits) ≡ Read value (at + size)
unfolding answered as_varint bind of_64_bits
taken at value size h = rw (lt-ltb value (2 ^ 64) h)

too_wide : (at value size : ℕ) → 2 ^ 64 ≤ value
    → answered (as_varint at) (bind (some (record { value = value; size = size })) of_64_bits) ≡ None
unfolding answered as_varint bind of_64_bits
too_wide at value size h = rw (le-ltb value (2 ^ 64) h)

no_varint : (at : ℕ) → answered (as_varint at) (bind none of_64_bits) ≡ None
unfolding answered bind
no_varint at = refl

module _ {m : List ℕ} {at value size : ℕ} (p : Partway m at value size) where
  -- one byte more may come
  one_left : 10 - size ≡ suc (9 - size)
  one_left = omega arith

  -- the message ends before the varint does
  pub cut_off : length m ≤ at + size → None ≡ varint_at m at
  unfolding varint_within
  cut_off h =
      let e : varint_within (10 - size) (drop (at + size) m) ≡ none = rw (one_left, drop_of_length-le m h) in
      let w : varint_within 10 (drop at m) ≡ none = p.rest ∙ rw e in
      sym (at_place m at w ∙ no_varint at)

  module _ (b : ℕ) (is : b ≡ get_or m (at + size) 0) (h : at + size < length m) where
    -- what is left begins with the byte b
    next_byte : varint_within (10 - size) (drop (at + size) m)
        ≡ cond (ltb b 128) (some (record { value = b; size = 1 })) (map (followed b) (varint_within (9 - size) (drop (at + size + 1) m)))
    next_byte = rw (one_left, is) (within_step (9 - size) m (at + size) h)

    -- the byte ends the varint
    pub last_one : b < 128 → varint_within 10 (drop at m) ≡ some (record { value = value + b * 2 ^ (7 * size); size = size + 1 })
    unfolding after
    last_one l =
        let e : varint_within (10 - size) (drop (at + size) m) ≡ some (record { value = b; size = 1 }) = next_byte ∙ rw (lt-ltb b 128 l) in
        p.rest ∙ rw (e, mul_comm)

    -- the byte says that another follows
    pub goes_on : size < 9 → 128 ≤ b → b < 256 → Partway m at (value + (b - 128) * 2 ^ (7 * size)) (size + 1)
    goes_on few l u =
        let e : varint_within (10 - size) (drop (at + size) m) ≡ map (followed b) (varint_within (9 - size) (drop (at + size + 1) m)) =
        next_byte ∙ rw (le-ltb b 128 l) in
        let d : 10 - (size + 1) ≡ 9 - size = omega arith in
        let t : (b - 128) * 2 ^ (7 * size) ≤ 127 * 2 ^ (7 * size) = mul-le-mul_right (2 ^ (7 * size)) (omega arith) in
        record {
          inside = omega arith;
          few = omega arith;
          small = omega (arith, next_place size);
          rest = rw (d, ← add_assoc at size 1) (p.rest ∙ rw e (joins_all value size b (varint_within (9 - size) (drop (at + size + 1) m))));
        }

    -- a byte that is not the tenth ends a varint of 63 bits at most
    pub ends : size < 9 → b < 128 → (x : ℕ) → x ≡ b * 2 ^ (7 * size) → (next : ℕ) → next ≡ at + size + 1
        → Read (value + x) next ≡ varint_at m at
    ends few l x e next n =
        let t : b * 2 ^ (7 * size) ≤ 127 * 2 ^ (7 * size) = mul-le-mul_right (2 ^ (7 * size)) (omega arith) in
        let u : 7 * (size + 1) ≤ 63 = omega arith in
        let w : value + b * 2 ^ (7 * size) < 2 ^ 64 = omega (arith, next_place size, pow_mono u) in
        let g : at + (size + 1) ≡ next = omega arith in
        sym (at_place m at (last_one l) ∙ taken at (value + b * 2 ^ (7 * size)) (size + 1) w ∙ rw (g, e))

-- the tenth byte has one bit
module _ {m : List ℕ} {at value : ℕ} (p : Partway m at value 9) (b : ℕ) (is : b ≡ get_or m (at + 9) 0) (h : at + 9 < length m) where
  pub tenth : b ≤ 1 → (x : ℕ) → x ≡ b * 2 ^ 63 → (next : ℕ) → next ≡ at + 9 + 1 → Read (value + x) next ≡ varint_at m at
  tenth l x e next n =
      let w : value + b * 2 ^ 63 < 2 ^ 64 = omega (arith, p.small) in
      let g : at + (9 + 1) ≡ next = omega arith in
      sym (at_place m at (last_one p b is h (omega arith)) ∙ taken at (value + b * 2 ^ 63) 10 w ∙ rw (g, e))

  pub tenth_wide : 1 < b → None ≡ varint_at m at
  unfolding varint_within
  tenth_wide l = sym (go (ltb b 128) refl)
    where
      go : (t : Bool) → ltb b 128 ≡ t → varint_at m at ≡ None
      go true t = at_place m at (last_one p b is h (ltb-true b 128 t)) ∙ too_wide at (value + b * 2 ^ 63) 10 (omega arith)
      go false t =
          let e : varint_within 1 (drop (at + 9) m) ≡ none = next_byte p b is h ∙ rw t in
          let w : varint_within 10 (drop at m) ≡ none = p.rest ∙ rw e in
          at_place m at w ∙ no_varint at

-- ---- seven bits moved to their place

-- none of them is lost
pub moved : (size d : ℕ) → size < 9 → d < 128 → (d * 2 ^ (7 * size)) % 2 ^ 64 ≡ d * 2 ^ (7 * size)
moved size d few l = shl_exact 7 (7 * size) 64 l (omega arith)

-- and the number that they join keeps 64 bits
pub sum_fits : (value size d : ℕ) → value < 2 ^ (7 * size) → size < 9 → d < 128 → value + (d * 2 ^ (7 * size)) % 2 ^ 64 < 2 ^ 64
sum_fits value size d s few l =
    let t : d * 2 ^ (7 * size) ≤ 127 * 2 ^ (7 * size) = mul-le-mul_right (2 ^ (7 * size)) (omega arith) in
    let u : 7 * (size + 1) ≤ 63 = omega arith in
    rw (moved size d few l) (omega (arith, next_place size, pow_mono u))

-- ---- a varint of one byte

pub one_byte : (m : List ℕ) (at b : ℕ) → at < length m → b ≡ get_or m at 0 → b < 128 → Read b (at + 1) ≡ varint_at m at
unfolding varint_within
one_byte m at b h e l =
    let w : varint_within 10 (drop at m) ≡ some (record { value = b; size = 1 }) = within_step 9 m at h ∙ rw (← e, lt-ltb b 128 l) in
    sym (at_place m at w ∙ taken at b 1 (omega arith))
