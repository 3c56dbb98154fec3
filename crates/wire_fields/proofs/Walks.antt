-- A walk over the fields of a message, field by field: what the loops over `Fields` turn on. What was seen so far and the fields
-- that are left decide what is seen in all.
use Prim.Native.Nat.{ℕ, zero, suc, ◌<◌, ◌≤◌}
use mathlib.Core.Path.{◌≡◌, refl, sym, ap, ◌∙◌, subst}
use mathlib.Core.List.{List, [], ◌∷◌}
use mathlib.Core.Option.{Option, none, some, map, bind}
use Rattle.std.specs.Prelude.{Some, None}
use Rattle.std.specs.Prelude as code
use native.Mathlib.Omega.{arith}
use lib.ListN.{length, get_or, set, replicate, length-replicate}
use Rattle.wire.specs.Fields.{field, left}
use Rattle.wire.specs.Fields as wire
use Rattle.wire.proofs.Fields.{field_lies, left_start, left_end, left_step}
use Rattle.wire_fields.specs.Found.{as_field, answered}
use Rattle.wire_fields.specs.Picked.{wanted_of, nothing_seen, seen_field, all_seen, all_after, picked_after, picked}
use Rattle.wire_fields.specs.Ahead.{Gives, Steps}
use Rattle.wire_fields.specs.declared.field.Field.{Field}
use Rattle.wire_fields.specs.declared.fields.Fields.{Fields}
use Rattle.wire_fields.proofs.Answered.{from_some, from_none}
use Rattle.wire_fields.specs.declared.pick.Seen.{Seen}

-- ---- the field of a turn

-- the code's field is the message's, which ends behind its place and inside
pub record Stands (m : List ℕ) (at : ℕ) (f : Field) : Type 0 where
  pub g : wire.Field
  pub is : field m at ≡ some g
  pub same : f ≡ as_field g
  pub more : at < f.next
  pub starts : f.start ≤ f.next
  pub ends : f.next ≤ length m

pub stands : (m : List ℕ) (at : ℕ) (f : Field) → Some f ≡ answered as_field (field m at) → Stands m at f
unfolding as_field
stands m at f e =
    let p = from_some as_field (field m at) e in
    let l = field_lies m at p.x p.is in
    let s = p.same in
    record { g = p.x; is = p.is; same = s; more = rw s l.0; starts = rw s l.1; ends = rw s l.2 }

-- no field is there
pub stands_not : (m : List ℕ) (at : ℕ) → None ≡ answered as_field (field m at) → field m at ≡ none
stands_not m at e = from_none as_field (field m at) e

-- the fields from a place on begin with that of the turn
pub left_on : (m : List ℕ) (at : ℕ) (f : Field) → at < length m → (w : Stands m at f)
    → left m at ≡ map (λ (l : List wire.Field). w.g ∷ l) (left m f.next)
unfolding bind as_field
left_on m at f h w = left_step m at h ∙ rw (w.is, w.same)

-- or there are none, and the message is not well formed
pub left_bad : (m : List ℕ) (at : ℕ) → at < length m → field m at ≡ none → left m at ≡ none
unfolding bind
left_bad m at h e = left_step m at h ∙ rw e

-- ---- the steps of a walk

-- a walk over a message stands at a place, inside
pub record At (m : List ℕ) (s : Fields) : Type 0 where
  pub of : s.m.now ≡ m
  pub inside : s.at ≤ length m

-- it begins at the start
pub at_start : {m : List ℕ} {s : Fields} → (s.m.now ≡ m) × (s.at ≡ 0) → At m s
at_start e = record { of = e.0; inside = rw e.1 (omega arith) }

module _ {m : List ℕ} {s t : Fields} (a : At m s) where
  -- a field stands at the place, and the next place is behind it
  pub on : {o : code.Option Field} {f : Field} → Steps s (Some o) t → o ≡ Some f
      → (s.at < length m) × Stands m s.at f × (t.at ≡ f.next) × At m t
  on {f = f} e i =
      let k = subst (λ (x : code.Option Field). Gives s (Some x) t) i e.gives in
      let w = stands m s.at f (rw a.of at k.1) in
      (rw a.of at k.0, w, k.2, record { of = e.same ∙ a.of; inside = rw k.2 w.ends })

  -- or none, though bytes are left
  pub off : {o : code.Option Field} → Steps s (Some o) t → o ≡ None → (s.at < length m) × (field m s.at ≡ none)
  off e i =
      let k = subst (λ (x : code.Option Field). Gives s (Some x) t) i e.gives in
      (rw a.of at k.0, stands_not m s.at (rw a.of at k.1))

  -- no bytes are left
  pub ended : Steps s None t → length m ≤ s.at
  ended e = rw a.of at e.gives

-- ---- what is seen

-- what was seen under the first i of some numbers has one field more
unfoldable pub up_to : ℕ → List ℕ → List Seen → Field → List Seen
up_to zero tags ss f = ss
up_to (suc i) [] ss f = ss
up_to (suc i) (t ∷ ts) [] f = []
up_to (suc i) (t ∷ ts) (s ∷ ss) f = seen_field (wanted_of t) s f ∷ up_to i ts ss f

-- under all of them
pub up_to_all : (tags : List ℕ) (ss : List Seen) (f : Field) → length tags ≡ length ss → up_to (length tags) tags ss f ≡ all_seen tags ss f
unfolding up_to all_seen
up_to_all [] [] f e = refl
up_to_all [] (s ∷ ss) f e = absurd (omega arith)
up_to_all (t ∷ ts) [] f e = absurd (omega arith)
up_to_all (t ∷ ts) (s ∷ ss) f e = ap (λ (l : List Seen). seen_field (wanted_of t) s f ∷ l) (up_to_all ts ss f (omega arith))

-- under one more
pub up_to_on : (i : ℕ) (tags : List ℕ) (ss : List Seen) (f : Field) → i < length tags → i < length ss
    → set (up_to i tags ss f) i (seen_field (wanted_of (get_or tags i 0)) (get_or ss i nothing_seen) f) ≡ up_to (suc i) tags ss f
unfolding up_to
up_to_on i [] ss f h k = absurd (omega arith)
up_to_on i (t ∷ ts) [] f h k = absurd (omega arith)
up_to_on zero (t ∷ ts) (s ∷ ss) f h k = refl
up_to_on (suc i) (t ∷ ts) (s ∷ ss) f h k =
    ap (λ (l : List Seen). seen_field (wanted_of t) s f ∷ l) (up_to_on i ts ss f (omega arith) (omega arith))

-- what was seen under each number up to a place, and what is left, are what is picked
pub record Partly (m tags : List ℕ) (at : ℕ) (seen : List Seen) : Type 0 where
  pub inside : at ≤ length m
  pub many : length seen ≡ length tags
  pub rest : picked m tags ≡ picked_after tags seen (left m at)

-- as many are seen as numbers are asked for
seen_many : (tags : List ℕ) (ss : List Seen) (f : Field) → length ss ≡ length tags → length (all_seen tags ss f) ≡ length tags
unfolding all_seen
seen_many [] ss f e = refl
seen_many (t ∷ ts) [] f e = absurd (omega arith)
seen_many (t ∷ ts) (s ∷ ss) f e = let r = seen_many ts ss f (omega arith) in omega arith

module _ (m tags : List ℕ) where
  pub partly_start : Partly m tags 0 (replicate (length tags) nothing_seen)
  unfolding picked
  partly_start = record { inside = omega arith; many = length-replicate (length tags) nothing_seen; rest = rw (← (left_start m)) }

  -- the fields of the option, one more in front, seen one after the other
  seen_on : (ss : List Seen) (g : wire.Field) (o : Option (List wire.Field))
      → picked_after tags ss (map (λ (l : List wire.Field). g ∷ l) o) ≡ picked_after tags (all_seen tags ss (as_field g)) o
  unfolding picked_after all_after
  seen_on ss g none = refl
  seen_on ss g (some l) = refl

  module _ {at : ℕ} {ss : List Seen} (p : Partly m tags at ss) where
    pub partly_end : length m ≤ at → Some ss ≡ picked m tags
    unfolding picked_after all_after
    partly_end h = sym (p.rest ∙ rw (left_end m at h))

    pub partly_bad : at < length m → field m at ≡ none → None ≡ picked m tags
    unfolding picked_after
    partly_bad h e = sym (p.rest ∙ rw (left_bad m at h e))

    pub partly_on : at < length m → (f : Field) → Stands m at f → Partly m tags f.next (all_seen tags ss f)
    partly_on h f w =
        record {
          inside = w.ends;
          many = seen_many tags ss f p.many;
          rest = p.rest ∙ ap (picked_after tags ss) (left_on m at f h w) ∙ seen_on ss w.g (left m f.next) ∙ rw (← w.same);
        }
