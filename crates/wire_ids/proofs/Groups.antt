-- Ids laid field by field: what the loop of `lay_ids` turns on, by the laws of `Laying`. Every field of the number is an id, since
-- the ids were read.
use Prim.Native.Nat.{ℕ, ◌+◌, ◌-◌, ◌<◌, ◌≤◌}
use mathlib.Core.Path.{◌≡◌, refl, ap}
use mathlib.Core.Bool.{Bool, true, cond, and-eq-true_iff}
use mathlib.Core.List.{List, [], ◌∷◌, ◌++◌}
use mathlib.Core.Option.{some, map-eq-some_iff, bind-eq-some_iff, some-injective}
use native.Mathlib.Omega.{arith}
use lib.Dec.{eqb}
use lib.ListN.{length, take, drop}
use borrow.Author.Tests.{eq-eqb, ne_eqb}
use Rattle.rules.specs.Table.{or_else, keep, all, is_some}
use Rattle.rules.specs.Groups.{Group}
use Rattle.rules.proofs.Table.{by_test}
use Rattle.words.specs.Act.{lay}
use Rattle.wire.specs.Fields.{fields}
use Rattle.wire.specs.Fields as wire
use Rattle.wire.specs.Select.{numbered, up_to, bytes_of}
use Rattle.wire.specs.Ids.{group_of, groups_of, id_list, group_words, list_words}
use Rattle.wire_fields.specs.Found.{as_field}
use Rattle.wire_fields.specs.Values.{all_of, Laid}
use Rattle.wire_fields.specs.declared.field.Field.{Field}
use Rattle.wire_fields.proofs.Walks.{Stands}
use Rattle.wire_fields.proofs.Laying.{laid, left_of, formed_start, formed_on, Laying, laying_start, laying_room, laying_on}
use Rattle.wire_ids.specs.Sizes.{ids_of}
use Rattle.wire_ids.specs.Groups.{words_of_group, id_words, IdRoom, ids_there, Listed}
use Rattle.wire.proofs.Ids.{up_to_is}

-- ---- what is laid for a field

-- the words of a field, if it is an id
unfoldable pub field_words : List ℕ → ℕ → Field → List ℕ
field_words m number f = cond (eqb f.number number) (id_words (take (f.next - f.start) (drop f.start m))) []

-- whether a field is an id that can be laid, or of another number
unfoldable pub field_right : List ℕ → ℕ → Field → Bool
field_right m number f = cond (eqb f.number number) (is_some (group_of (take (f.next - f.start) (drop f.start m)))) true

-- a field inside a message is right, and a list of some length has room for its words from a place on
pub record FieldRoom (m : List ℕ) (number : ℕ) (f : Field) (size to : ℕ) : Type 0 where
  pub starts : f.start ≤ f.next
  pub ends : f.next ≤ length m
  pub read : field_right m number f ≡ true
  pub room : to + length (field_words m number f) ≤ size

-- nothing laid
pub lays_nothing : (words list : List ℕ) (to : ℕ) → words ≡ [] → Laid list to words list to
unfolding lay
lays_nothing words list to e = rw e (record { is = refl; ends = omega arith })

-- ---- a field

-- of another number nothing is laid
pub field_other : (m : List ℕ) (number : ℕ) (f : Field) → (f.number ≡ number → ⊥) → field_words m number f ≡ []
unfolding field_words
field_other m number f e = rw (ne_eqb f.number number e)

-- of the number the id's words are
pub field_id : (m : List ℕ) (number : ℕ) (f : Field) → f.number ≡ number
    → field_words m number f ≡ id_words (take (f.next - f.start) (drop f.start m))
unfolding field_words
field_id m number f e = rw (eq-eqb f.number number e)

-- the room of a field of the number is that of its id
pub field_room : (m : List ℕ) (number : ℕ) (f : Field) (size to : ℕ) → f.number ≡ number → FieldRoom m number f size to
    → IdRoom (take (f.next - f.start) (drop f.start m)) size to
unfolding field_right
field_room m number f size to e r =
    record { read = rw (eq-eqb f.number number e) at r.read; room = rw (field_id m number f e) at r.room }

-- ---- all ids

-- what is laid for a field of the message
abbrev pub words_of : List ℕ → ℕ → wire.Field → List ℕ
words_of m number g = field_words m number (as_field g)

-- a field of the message is an id, or of another number
abbrev pub right_of : List ℕ → ℕ → wire.Field → Bool
right_of m number g = field_right m number (as_field g)

-- the ids of a list of fields are laid one after the other
ids_laid : (m : List ℕ) (number : ℕ) (fs : List wire.Field) (ids : List Group) → groups_of m (numbered number fs) ≡ some ids
    → laid (words_of m number) fs ≡ list_words ids
unfolding numbered keep groups_of laid list_words field_words id_words words_of_group group_words as_field
ids_laid m number [] ids e = let z : [] ≡ ids = some-injective [] ids e in rw (← z)
ids_laid m number (f ∷ fs) ids e =
    by_test (eqb f.number number)
    (λ t.
    let p = (bind-eq-some_iff (group_of (bytes_of m f)) _).0 (rw t at e) in
    let q = (map-eq-some_iff (λ (l : List Group). p.0 ∷ l) (groups_of m (numbered number fs))).0 p.2 in
    one_more p.0 q.0 ids (field_group f p.0 t p.1) (ids_laid m number fs q.0 q.1) q.2)
    (λ t. rw t (ids_laid m number fs ids (rw t at e)))
  where
    field_group : (f : wire.Field) (g : Group) → eqb f.number number ≡ true → group_of (bytes_of m f) ≡ some g
        → words_of m number f ≡ group_words g
    field_group f g t i = rw (t, i)

    one_more : (g : Group) (more ids : List Group) → words_of m number f ≡ group_words g → laid (words_of m number) fs ≡ list_words more
        → g ∷ more ≡ ids → words_of m number f ++ laid (words_of m number) fs ≡ list_words ids
    one_more g more ids a b c = rw (a, b) (ap list_words c)

-- and each is an id
ids_right : (m : List ℕ) (number : ℕ) (fs : List wire.Field) (ids : List Group) → groups_of m (numbered number fs) ≡ some ids
    → all (right_of m number) fs ≡ true
unfolding numbered keep groups_of all field_right is_some as_field
ids_right m number [] ids e = refl
ids_right m number (f ∷ fs) ids e =
    by_test (eqb f.number number)
    (λ t.
    let p = (bind-eq-some_iff (group_of (bytes_of m f)) _).0 (rw t at e) in
    let q = (map-eq-some_iff (λ (l : List Group). p.0 ∷ l) (groups_of m (numbered number fs))).0 p.2 in
    rw (t, p.1) (ids_right m number fs q.0 q.1))
    (λ t. rw t (ids_right m number fs ids (rw t at e)))

-- so those of a message are
pub all_laid : (m : List ℕ) (number : ℕ) → ids_of m number ≡ some (ids_there m number)
    → (fields m ≡ some (all_of m))
    × (laid (words_of m number) (all_of m) ≡ list_words (ids_there m number))
    × (all (right_of m number) (all_of m) ≡ true)
unfolding ids_of id_list all_of or_else
all_laid m number e =
    let p = (bind-eq-some_iff (fields m) _).0 e in
    let q = (bind-eq-some_iff (up_to 64 2 (numbered number p.0)) _).0 p.2 in
    let z = up_to_is 64 2 (numbered number p.0) q.0 q.1 in
    let g = rw (← z) at q.2 in (
      rw p.1,
      rw p.1 (ids_laid m number p.0 (ids_there m number) g),
      rw p.1 (ids_right m number p.0 (ids_there m number) g),
    )

-- ---- the loop

-- the ids so far are laid, and what is left are ids
pub record Listing (m : List ℕ) (number : ℕ) (list : List ℕ) (at : ℕ) (here : List ℕ) (next : ℕ) : Type 0 where
  pub laying : Laying (words_of m number) m list 0 at here next
  pub right : all (right_of m number) (left_of m at) ≡ true

module _ (m : List ℕ) (number : ℕ) (list : List ℕ) where
  -- nothing is laid yet
  pub listing_start : Listed m number (length list) → Listing m number list 0 list 0
  listing_start r =
      let l = all_laid m number r.read in
      record {
        laying = laying_start (words_of m number) m list 0 l.0 (rw l.1 (omega (arith, r.room)));
        right = rw (formed_start m l.0).1 l.2;
      }

  module _ {at next : ℕ} {here : List ℕ} (l : Listing m number list at here next) (f : Field) (h : at < length m) (w : Stands m at f) where
    -- the field of a turn and those after it
    now_right : (field_right m number f ≡ true) × (all (right_of m number) (left_of m f.next) ≡ true)
    unfolding all
    now_right =
        let o = formed_on m at f h w l.laying.formed in
        let a : all (right_of m number) (w.g ∷ left_of m f.next) ≡ true = rw o.1 at l.right in
        let p = (and-eq-true_iff (right_of m number w.g) (all (right_of m number) (left_of m f.next))).0 a in
        (rw w.same p.0, p.1)

    -- it is an id that has room, or of another number
    pub listing_room : FieldRoom m number f (length here) next
    listing_room =
        record {
          starts = w.starts;
          ends = w.ends;
          read = now_right.0;
          room = rw w.same (laying_room (words_of m number) m list 0 l.laying f h w);
        }

    -- it is laid
    pub listing_on : (after : List ℕ) (further : ℕ) → Laid here next (field_words m number f) after further
        → Listing m number list f.next after further
    listing_on after further d =
        record {
          laying = laying_on (words_of m number) m list 0 l.laying f h w after further (rw w.same at d);
          right = now_right.1;
        }
