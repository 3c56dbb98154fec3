-- Fields laid one after another: bytes that, wherever they stand in a message, are read as certain fields. A number and a part
-- as they are written are such bytes, and so are such bytes joined.
use Prim.Native.Nat.{ℕ, ◌+◌, ◌-◌, ◌*◌, ◌/◌, ◌%◌, ◌^◌, ◌≤◌, ◌<◌}
use mathlib.Core.Path.{◌≡◌, refl, sym, ap, ◌∙◌}
use mathlib.Core.List.{List, [], ◌∷◌, ◌++◌, append_assoc, append-nil}
use mathlib.Core.Option.{Option, none, some, map, bind}
use native.Mathlib.Omega.{arith}
use lib.ListN.{length, drop, length-append, length-drop}
use lib.Seq.{drop-drop, drop-append_seam, take-append_seam}
use borrow.Author.Tests.{leb-true, lt-ltb, le-leb}
use Rattle.wire.specs.Varint.{varint, written_within, written}
use Rattle.wire.specs.Fields.{Field, inside, varint_field, delimited_field, field_of, field, fields, left}
use Rattle.wire.specs.Select.{bytes_of}
use Rattle.wire.specs.Message.{number_bytes, part_bytes}
use Rattle.wire.specs.Promises.{WrittenReadBack}
use Rattle.wire.proofs.Fields.{left_start, left_end, left_step}
use Rattle.wire.proofs.Written.{written_read_back}

-- wherever the bytes stand, they are read as the fields, which depend on the place
pub record Lays (bytes : List ℕ) (fs : ℕ → List Field) : Type 0 where
  pub law : (m : List ℕ) (at : ℕ) (rest : List ℕ) → drop at m ≡ bytes ++ rest
      → left m at ≡ map (λ (l : List Field). fs at ++ l) (left m (at + length bytes))

-- ---- places

-- what stands behind some bytes of a message
pub behind_bytes : (m : List ℕ) (at : ℕ) (a rest : List ℕ) → drop at m ≡ a ++ rest → drop (at + length a) m ≡ rest
behind_bytes m at a rest e = sym (drop-drop (length a) at m) ∙ ap (drop (length a)) e ∙ drop-append_seam a rest

-- the bytes up to there are of the message
ends_in : (m : List ℕ) (at : ℕ) (a rest : List ℕ) → drop at m ≡ a ++ rest → 0 < length a → at + length a ≤ length m
ends_in m at a rest e h =
    let n = sym (length-drop at m) ∙ ap length e ∙ length-append a rest in
    omega arith

-- ---- joined

-- fields put before others in two steps
map_twice : (f g : List Field) (o : Option (List Field))
    → map (λ (l : List Field). f ++ l) (map (λ (l : List Field). g ++ l) o) ≡ map (λ (l : List Field). (f ++ g) ++ l) o
map_twice f g none = refl
map_twice f g (some l) = rw append_assoc

-- no bytes are no fields
pub lays_none : Lays [] (λ at. [])
lays_none = record { law = λ m at rest e. same m at }
  where
    id_map : (o : Option (List Field)) → o ≡ map (λ (l : List Field). l) o
    id_map none = refl
    id_map (some l) = refl

    same : (m : List ℕ) (at : ℕ) → left m at ≡ map (λ (l : List Field). l) (left m (at + 0))
    same m at = let z : at + 0 ≡ at = omega arith in rw z (id_map (left m at))

-- bytes joined are read as the fields of the first and then those of the second
pub lays_both : {a b : List ℕ} {f g : ℕ → List Field} → Lays a f → Lays b g → Lays (a ++ b) (λ at. f at ++ g (at + length a))
lays_both {a} {b} {f} {g} x y = record { law = go }
  where
    go : (m : List ℕ) (at : ℕ) (rest : List ℕ) → drop at m ≡ (a ++ b) ++ rest
        → left m at ≡ map (λ (l : List Field). (f at ++ g (at + length a)) ++ l) (left m (at + length (a ++ b)))
    go m at rest e =
        let e₁ : drop at m ≡ a ++ (b ++ rest) = e ∙ append_assoc a b rest in
        let e₂ : drop (at + length a) m ≡ b ++ rest = behind_bytes m at a (b ++ rest) e₁ in
        let n : at + length (a ++ b) ≡ at + length a + length b = omega (arith, length-append a b) in
        x.law m at (b ++ rest) e₁
        ∙ ap (map (λ (l : List Field). f at ++ l)) (y.law m (at + length a) rest e₂)
        ∙ map_twice (f at) (g (at + length a)) (left m (at + length a + length b))
        ∙ rw n

-- laid bytes alone are a message of their fields
pub laid_fields : {bytes : List ℕ} {fs : ℕ → List Field} → Lays bytes fs → fields bytes ≡ some (fs 0)
laid_fields {bytes} {fs} x =
    sym (left_start bytes)
    ∙ x.law bytes 0 [] (sym (append-nil bytes))
    ∙ ap (map (λ (l : List Field). fs 0 ++ l)) (left_end bytes (0 + length bytes) (omega arith))
    ∙ ap some (append-nil (fs 0))

-- one field: where the bytes stand it is read, and ends with them
lays_field : (bytes : List ℕ) (f : ℕ → Field) → 0 < length bytes
    → ((m : List ℕ) (at : ℕ) (rest : List ℕ) → drop at m ≡ bytes ++ rest → field m at ≡ some (f at))
    → ((at : ℕ) → (f at).next ≡ at + length bytes) → Lays bytes (λ at. f at ∷ [])
unfolding bind
lays_field bytes f h r n = record { law = go }
  where
    go : (m : List ℕ) (at : ℕ) (rest : List ℕ) → drop at m ≡ bytes ++ rest
        → left m at ≡ map (λ (l : List Field). f at ∷ l) (left m (at + length bytes))
    go m at rest e =
        let i = ends_in m at bytes rest e h in
        left_step m at (omega arith)
        ∙ ap (λ (o : Option Field). bind o (λ (g : Field). map (λ (l : List Field). g ∷ l) (left m g.next))) (r m at rest e)
        ∙ rw (n at)

-- ---- a number and a part as they are written

-- a tag of one byte
written_one : (v : ℕ) → v < 128 → written v ≡ v ∷ []
unfolding written written_within
written_one v h = rw (lt-ltb v 128 h)

-- a varint that stands at a place
varint_at : (m : List ℕ) (at v : ℕ) (rest : List ℕ) → v < 2 ^ 64 → drop at m ≡ written v ++ rest
    → varint (drop at m) ≡ some (record { value = v; size = length (written v) })
unfolding WrittenReadBack
varint_at m at v rest h e = ap varint e ∙ written_read_back v rest h

-- how long a number is
pub number_size : (n v : ℕ) → n < 16 → length (number_bytes n v) ≡ 1 + length (written v)
unfolding number_bytes
number_size n v q = length-append (written (n * 8)) (written v) ∙ rw (written_one (n * 8) (omega arith))

-- how long a part is
pub part_size : (n : ℕ) (bytes : List ℕ) → n < 16 → length (part_bytes n bytes) ≡ 1 + length (written (length bytes)) + length bytes
unfolding part_bytes
part_size n bytes q = simp (length-append, written_one (n * 8 + 2) (omega arith))

-- the field of a tag of one byte
tagged : (m : List ℕ) (at t n w : ℕ) (rest : List ℕ) → 0 < n → n < 16 → w < 8 → t ≡ n * 8 + w → drop at m ≡ written t ++ rest
    → field m at ≡ field_of m n w (at + 1)
unfolding field bind
tagged m at t n w rest p q l i e =
    let wide : t < 2 ^ 64 = omega (arith, leb-true 128 (2 ^ 64) refl) in
    let narrow : t < 2 ^ 32 = omega (arith, leb-true 128 (2 ^ 32) refl) in
    let d : t / 8 ≡ n = omega arith in
    let r : t % 8 ≡ w = omega arith in
    rw (
      varint_at m at t rest wide e,
      written_one t (omega arith),
      le-leb 8 t (omega arith),
      lt-ltb t (2 ^ 32) narrow,
      d,
      r,
    )

-- a number's field at a place
abbrev pub number_field : ℕ → ℕ → ℕ → Field
number_field n v at = record { number = n; wire = 0; value = v; start = at + 1; next = at + 1 + length (written v) }

-- a number is read as it
number_read : (n v : ℕ) → 0 < n → n < 16 → v < 2 ^ 64 → (m : List ℕ) (at : ℕ) (rest : List ℕ) → drop at m ≡ number_bytes n v ++ rest
    → field m at ≡ some (number_field n v at)
unfolding number_bytes field_of varint_field
number_read n v p q h m at rest e =
    let e₁ : drop at m ≡ written (n * 8) ++ (written v ++ rest) = e ∙ append_assoc (written (n * 8)) (written v) rest in
    let one : length (written (n * 8)) ≡ 1 = ap length (written_one (n * 8) (omega arith)) in
    let e₂ : drop (at + 1) m ≡ written v ++ rest = rw one at (behind_bytes m at (written (n * 8)) (written v ++ rest) e₁) in
    tagged m at (n * 8) n 0 (written v ++ rest) p q (omega arith) (omega arith) e₁ ∙ rw (varint_at m (at + 1) v rest h e₂)

-- so it lays that field
pub lays_number : (n v : ℕ) → 0 < n → n < 16 → v < 2 ^ 64 → Lays (number_bytes n v) (λ at. number_field n v at ∷ [])
lays_number n v p q h =
    let l = number_size n v q in
    lays_field (number_bytes n v) (number_field n v) (omega arith) (number_read n v p q h) (λ at. omega arith)

-- a part's field at a place
abbrev pub part_field : ℕ → List ℕ → ℕ → Field
part_field n bytes at =
    record {
      number = n;
      wire = 2;
      value = 0;
      start = at + 1 + length (written (length bytes));
      next = at + 1 + length (written (length bytes)) + length bytes;
    }

module _ (n : ℕ) (bytes : List ℕ) (q : n < 16) (m : List ℕ) (at : ℕ) (rest : List ℕ) (e : drop at m ≡ part_bytes n bytes ++ rest) where
  -- the length and the bytes stand behind the tag
  behind_tag : drop at m ≡ written (n * 8 + 2) ++ (written (length bytes) ++ (bytes ++ rest))
  unfolding part_bytes
  behind_tag = e ∙ simp append_assoc

  -- the length stands there
  length_there : drop (at + 1) m ≡ written (length bytes) ++ (bytes ++ rest)
  length_there =
      let one : length (written (n * 8 + 2)) ≡ 1 = ap length (written_one (n * 8 + 2) (omega arith)) in
      rw one at (behind_bytes m at (written (n * 8 + 2)) (written (length bytes) ++ (bytes ++ rest)) behind_tag)

  -- and the bytes behind it
  bytes_there : drop (at + 1 + length (written (length bytes))) m ≡ bytes ++ rest
  bytes_there = behind_bytes m (at + 1) (written (length bytes)) (bytes ++ rest) length_there

  -- they are the bytes of the part
  pub part_is : bytes_of m (part_field n bytes at) ≡ bytes
  part_is =
      let k = at + 1 + length (written (length bytes)) in
      let z : k + length bytes - k ≡ length bytes = omega arith in
      rw (z, bytes_there) (take-append_seam bytes rest)

  -- a part is read as its field
  part_read : 0 < n → length bytes < 2 ^ 64 → field m at ≡ some (part_field n bytes at)
  unfolding field_of delimited_field inside bind
  part_read p h =
      let i = ends_in m at (part_bytes n bytes) rest e (omega (arith, part_size n bytes q)) in
      let l = part_size n bytes q in
      let ends : at + 1 + length (written (length bytes)) + length bytes ≤ length m = omega arith in
      tagged m at (n * 8 + 2) n 2 _ p q (omega arith) refl behind_tag
      ∙ rw (varint_at m (at + 1) (length bytes) (bytes ++ rest) h length_there, le-leb _ (length m) ends)

-- a part lays its field
pub lays_part : (n : ℕ) (bytes : List ℕ) → 0 < n → n < 16 → length bytes < 2 ^ 64 → Lays (part_bytes n bytes) (λ at. part_field n bytes at ∷ [])
lays_part n bytes p q h =
    let l = part_size n bytes q in
    lays_field (part_bytes n bytes) (part_field n bytes) (omega arith) (λ m at rest e. part_read n bytes q m at rest e p h) (λ at. omega arith)
