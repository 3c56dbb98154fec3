-- Words laid into a list field by field: what the loop of `lay.rt` turns on, and others like it. Laying what is left from here on
-- is laying all.
use Prim.Native.Nat.{ℕ, ◌+◌, ◌<◌, ◌≤◌}
use mathlib.Core.Path.{◌≡◌, refl, sym, ap, ◌∙◌}
use mathlib.Core.List.{List, [], ◌∷◌, ◌++◌}
use mathlib.Core.Option.{Option, none, some}
use native.Mathlib.Omega.{arith}
use lib.Dec.{eqb}
use lib.ListN.{length, set, length-append}
use borrow.Author.Tests.{eq-eqb, ne_eqb}
use Rattle.rules.specs.Table.{or_else, keep}
use Rattle.rules.proofs.Table.{by_test}
use Rattle.words.specs.Act.{lay}
use Rattle.words.proofs.Act.{lay_append}
use Rattle.wire.specs.Fields.{field, fields, left}
use Rattle.wire.specs.Fields as wire
use Rattle.wire.specs.Select.{numbered}
use Rattle.wire.proofs.Fields.{left_start, left_end}
use Rattle.wire_fields.specs.Found.{as_field}
use Rattle.wire_fields.specs.Values.{all_of, values, one_value, Laid}
use Rattle.wire_fields.specs.declared.field.Field.{Field}
use Rattle.wire_fields.proofs.Walks.{Stands, left_on, left_bad}

-- ---- a well-formed message, field by field

-- the fields from a place on
unfoldable pub left_of : List ℕ → ℕ → List wire.Field
left_of m at = or_else (left m at) []

-- the fields from a place on are there
abbrev pub Formed : List ℕ → ℕ → Type 0
Formed m at = left m at ≡ some (left_of m at)

pub formed_start : (m : List ℕ) → fields m ≡ some (all_of m) → Formed m 0 × (left_of m 0 ≡ all_of m)
unfolding left_of all_of
formed_start m e = (rw (left_start m) e, rw (left_start m))

-- at a place inside stands a field, and those after it
pub formed_on : (m : List ℕ) (at : ℕ) (f : Field) → at < length m → (w : Stands m at f) → Formed m at
    → Formed m f.next × (left_of m at ≡ w.g ∷ left_of m f.next)
unfolding left_of or_else
formed_on m at f h w e = go (left m f.next) refl
  where
    go : (o : Option (List wire.Field)) → left m f.next ≡ o → Formed m f.next × (left_of m at ≡ w.g ∷ left_of m f.next)
    go none p =
        let z : left m at ≡ none = left_on m at f h w ∙ rw p in
        let n : ◌≡◌ {A = ℕ} 0 1 = cc in
        absurd (omega arith)
    go (some l) p = let z : left m at ≡ some (w.g ∷ l) = left_on m at f h w ∙ rw p in (rw p, rw (z, p))

-- so that there is one
pub formed_not_bad : {P : Type 0} (m : List ℕ) (at : ℕ) → at < length m → field m at ≡ none → Formed m at → P
formed_not_bad m at h e f = let z = left_bad m at h e in let n : ◌≡◌ {A = ℕ} 0 1 = cc in absurd (omega arith)

pub formed_end : (m : List ℕ) (at : ℕ) → length m ≤ at → left_of m at ≡ []
unfolding left_of or_else
formed_end m at h = rw (left_end m at h)

-- ---- words laid for each field

-- the words of some fields, one after the other, for what is laid for one
unfoldable pub laid : (wire.Field → List ℕ) → List wire.Field → List ℕ
laid p [] = []
laid p (f ∷ fs) = p f ++ laid p fs

-- a list and a place so far, in laying for each field of a message into a list from a place on
pub record Laying (p : wire.Field → List ℕ) (m list : List ℕ) (to at : ℕ) (here : List ℕ) (next : ℕ) : Type 0 where
  pub inside : at ≤ length m
  pub formed : Formed m at
  pub size : length here ≡ length list
  pub room : next + length (laid p (left_of m at)) ≤ length here
  pub rest : (lay (laid p (all_of m))).run to list ≡ (lay (laid p (left_of m at))).run next here

module _ (p : wire.Field → List ℕ) (m list : List ℕ) (to : ℕ) where
  pub laying_start : fields m ≡ some (all_of m) → to + length (laid p (all_of m)) ≤ length list → Laying p m list to 0 list to
  laying_start e r =
      let q = formed_start m e in
      record { inside = omega arith; formed = q.0; size = refl; room = rw q.1 r; rest = rw q.1 }

  module _ {at next : ℕ} {here : List ℕ} (l : Laying p m list to at here next) where
    pub laying_end : length m ≤ at → here ≡ (lay (laid p (all_of m))).run to list
    unfolding laid lay
    laying_end h = sym (l.rest ∙ rw (formed_end m at h))

    module _ (f : Field) (h : at < length m) (w : Stands m at f) where
      -- what is left begins with the field's words
      now_left : laid p (left_of m at) ≡ p w.g ++ laid p (left_of m f.next)
      unfolding laid
      now_left = ap (laid p) (formed_on m at f h w l.formed).1

      -- how many they are
      now_length : length (laid p (left_of m at)) ≡ length (p w.g) + length (laid p (left_of m f.next))
      now_length = ap length now_left ∙ length-append (p w.g) (laid p (left_of m f.next))

      -- there is room for them
      pub laying_room : next + length (p w.g) ≤ length here
      laying_room = omega (arith, now_length, l.room)

      pub laying_on : (after : List ℕ) (further : ℕ) → Laid here next (p w.g) after further → Laying p m list to f.next after further
      laying_on after further d =
          let s : length after ≡ length here = rw d.is ((lay (p w.g)).even next here) in
          record {
            inside = w.ends;
            formed = (formed_on m at f h w l.formed).0;
            size = s ∙ l.size;
            room = omega (arith, now_length, l.room, d.ends);
            rest =
                l.rest ∙ ap (λ (vs : List ℕ). (lay vs).run next here) now_left
                ∙ lay_append (p w.g) (laid p (left_of m f.next)) next here
                ∙ rw (d.is, d.ends);
          }

-- ---- numbers laid

-- what is laid for a field: its number if it is of the number
abbrev pub number_of : ℕ → wire.Field → List ℕ
number_of number g = one_value number (as_field g)

-- so the numbers of the fields of a number are laid
pub numbers_laid : (number : ℕ) (fs : List wire.Field) → laid (number_of number) fs ≡ values number fs
unfolding laid values one_value numbered keep as_field
numbers_laid number [] = refl
numbers_laid number (f ∷ fs) =
    by_test (eqb f.number number)
    (λ t. rw t (ap (λ (l : List ℕ). f.value ∷ l) (numbers_laid number fs)))
    (λ t. rw t (numbers_laid number fs))

-- the number of one field laid, or none
pub lays_none : (number : ℕ) (f : Field) (list : List ℕ) (to : ℕ) → (f.number ≡ number → ⊥) → Laid list to (one_value number f) list to
unfolding one_value lay
lays_none number f list to e = rw (ne_eqb f.number number e) (record { is = refl; ends = omega arith })

pub one_there : (number : ℕ) (f : Field) → f.number ≡ number → one_value number f ≡ f.value ∷ []
unfolding one_value
one_there number f e = rw (eq-eqb f.number number e)

pub lays_one : (number : ℕ) (f : Field) (list : List ℕ) (to : ℕ) → f.number ≡ number
    → Laid list to (one_value number f) (set list to f.value) (to + 1)
unfolding lay
lays_one number f list to e = rw (one_there number f e) (record { is = refl; ends = refl })
