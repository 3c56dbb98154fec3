-- A BaseCommand: where the message of its type stands, and what a reader of some types answers at each of its ways out.
use Prim.Native.Nat.{ℕ, ◌-◌, ◌^◌, ◌<◌, ◌≤◌}
use mathlib.Core.Path.{◌≡◌, sym, ◌∙◌}
use mathlib.Core.Bool.{Bool, true, false}
use mathlib.Core.List.{List}
use mathlib.Core.Option.{Option, none, some, map, bind}
use Rattle.std.specs.Prelude.{Some, None, Ok}
use Rattle.std.specs.Option.{ok_or}
use Rattle.std.specs.Prelude as code
use native.Mathlib.Omega.{arith}
use lib.Dec.{ltb}
use lib.ListN.{length, take, drop}
use lib.Seq.{take_all}
use borrow.Author.Tests.{lt-ltb, le-ltb}
use Rattle.rules.proofs.Table.{by_test}
use Rattle.wire.specs.Fields.{Field, fields}
use Rattle.wire.specs.Select.{numbered, int32}
use Rattle.wire.specs.Commands.{type_of, message_of, or_16, base}
use Rattle.wire.specs.Commands.Reading.{refused, read}
use Rattle.wire.proofs.Commands.{message_lies}
use Rattle.wire.proofs.Fields.{In}
use Rattle.wire_fields.specs.Found.{answered}
use Rattle.wire_fields.specs.Selected.{number, place, place_of, placed, base_of}
use Rattle.wire_fields.specs.declared.base.Base.{Base}
use Rattle.wire_fields.proofs.Answered.{from_some, from_none, was_some}
use Rattle.wire_fields.specs.declared.pick.Seen.{Seen}
use Rattle.wire_fields.specs.declared.select.Place.{Place}
use Rattle.wire_fields.proofs.Selections.{Saw, required_is, required_bad, place_law}

-- all of a message is a part of it
pub whole : (m : List ℕ) → take (length m - 0) (drop 0 m) ≡ m
whole m = take_all (length m - 0) m (omega arith)

-- ---- where the message stands

-- a message of a type stands at a place, inside
pub record Placed (m : List ℕ) (type start next : ℕ) : Type 0 where
  pub f : Field
  pub is : message_of m type ≡ some f
  pub starts : f.start ≡ start
  pub ends : f.next ≡ next
  pub inside : In m f

-- what the code read is where it stands
pub told_place : (m : List ℕ) (type : ℕ) (p : Place) → Some p ≡ answered place_of (message_of m type) → Placed m type p.start p.next
unfolding place_of
told_place m type p e =
    let t = from_some place_of (message_of m type) e in
    record { f = t.x; is = t.is; starts = cc; ends = cc; inside = message_lies m type t.x t.is }

-- it is not there
pub told_no_place : (o : Option Field) → None ≡ answered place_of o → o ≡ none
told_no_place o e = from_none place_of o e

-- ---- what was seen under the type, and under the number of a type

-- the message of a type that was seen is where it stands
pub seen_placed : (m : List ℕ) (type : ℕ) → type < 2 ^ 32 → (fs : List Field) → fields m ≡ some fs → (s : Seen) → Saw 2 (numbered type fs) s
    → place s ≡ placed m type
unfolding placed message_of bind
seen_placed m type h fs e s w = place_law (numbered type fs) s w ∙ rw (lt-ltb type (2 ^ 32) h, e)

-- no message stands in what is not well formed
pub unformed_placed : (m : List ℕ) (type : ℕ) → fields m ≡ none → None ≡ placed m type
unfolding placed message_of bind answered
unformed_placed m type e = by_test (ltb type (2 ^ 32)) (λ t. rw (t, e)) (λ t. rw t)

-- nor one of a number that is no type's
pub high_placed : (m : List ℕ) (type : ℕ) → 2 ^ 32 ≤ type → None ≡ placed m type
unfolding placed
high_placed m type h = rw (le-ltb type (2 ^ 32) h)

module _ (m : List ℕ) where
  -- no type stands in what is not well formed
  pub unformed_base : fields m ≡ none → None ≡ answered (base_of m) (type_of m)
  unfolding answered base_of type_of bind
  unformed_base e = rw e

  module _ (fs : List Field) (e : fields m ≡ some fs) {x : Seen} (w : Saw 0 (numbered 1 fs) x) where
    -- the type is not right
    pub untyped_base : None ≡ number int32 x → None ≡ answered (base_of m) (type_of m)
    unfolding answered base_of type_of bind
    untyped_base n = rw (e, required_bad int32 w n)

    -- it is, and its message stands where it was found
    pub typed_base : (type : ℕ) (p : code.Option Place) → Some type ≡ number int32 x → p ≡ placed m type
        → ◌≡◌ {A = code.Option Base} (Some (record { kind = type; message = p })) (answered (base_of m) (type_of m))
    unfolding answered base_of type_of bind
    typed_base type p n q = rw (e, required_is int32 w n, q)

-- what the code read is the type, and where its message stands
pub told_base : (m : List ℕ) (b : Base) → Some b ≡ answered (base_of m) (type_of m) → (type_of m ≡ some b.kind) × (b.message ≡ placed m b.kind)
unfolding base_of
told_base m b e =
    let t = from_some (base_of m) (type_of m) e in
    let k : b.kind ≡ t.x = cc in
    let q : b.message ≡ placed m t.x = cc in
    (rw k t.is, rw k q)

-- there is no type
pub told_untyped : (m : List ℕ) → None ≡ answered (base_of m) (type_of m) → type_of m ≡ none
told_untyped m e = from_none (base_of m) (type_of m) e

-- where the message of a type below 2^32 stands
pub placed_message : (m : List ℕ) (type : ℕ) → type < 2 ^ 32 → placed m type ≡ answered place_of (message_of m type)
unfolding placed
placed_message m type h = rw (lt-ltb type (2 ^ 32) h)

-- where the message that was found stands
pub message_stands : (m : List ℕ) (b : Base) (p : Place) → Some b ≡ answered (base_of m) (type_of m) → b.kind < 2 ^ 32 → b.message ≡ Some p
    → Placed m b.kind p.start p.next
message_stands m b p e low s = told_place m b.kind p (sym s ∙ (told_base m b e).1 ∙ placed_message m b.kind low)

-- it lies inside
pub stands_inside : {m : List ℕ} {type start next : ℕ} → Placed m type start next → (start ≤ next) × (next ≤ length m)
stands_inside p = let l = p.inside in (omega (arith, p.starts, p.ends), omega (arith, p.ends))

-- so does the one that a reader went on with
pub message_found : {A E : Type 0} {m : List ℕ} {b : Base} {p : Place} (o : code.Option Base) (why : A) (other : E)
    → Ok b ≡ ok_or o why → o ≡ answered (base_of m) (type_of m) → b.kind < 2 ^ 32 → Ok p ≡ ok_or b.message other → Placed m b.kind p.start p.next
message_found o why other e f low s = message_stands _ _ _ (was_some o why e ∙ f) low (sym (was_some _ other s))

-- ---- what a reader of some types answers

module _ {A : Type 0} (takes : ℕ → Bool) (content : ℕ → Field → Option A) (m : List ℕ) where
  -- there is no type
  pub base_untyped : type_of m ≡ none → base takes content m ≡ refused 16
  unfolding base or_16 bind
  base_untyped e = rw e

  module _ (type : ℕ) (e : type_of m ≡ some type) where
    -- the type is another
    pub base_other : takes type ≡ false → base takes content m ≡ refused 17
    unfolding base or_16 bind
    base_other t = rw (e, t)

    -- its message is not there
    pub base_no_message : takes type ≡ true → message_of m type ≡ none → base takes content m ≡ refused 16
    unfolding base or_16 bind
    base_no_message t f = rw (e, t, f)

    -- its message is there, and the content decides
    pub base_message : (f : Field) → takes type ≡ true → message_of m type ≡ some f → base takes content m ≡ or_16 (map read (content type f))
    unfolding base bind
    base_message f t p = rw (e, t, p)
