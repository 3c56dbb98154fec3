-- What a reader knows after each of its steps: that two numbers are there or not, and where a name lies.
use Prim.Native.Nat.{ℕ, ◌≤◌}
use mathlib.Core.Path.{◌≡◌, refl, ap, ◌∙◌}
use mathlib.Core.List.{List}
use mathlib.Core.Bool.{Bool}
use mathlib.Core.Option.{Option, none, some, bind}
use native.Mathlib.Omega.{arith}
use lib.ListN.{length}
use Rattle.wire.specs.Fields.{Field, fields}
use Rattle.wire.specs.Select.{numbered, uint64, required}
use Rattle.wire.specs.Commands.{name}
use Rattle.wire.proofs.Fields.{part_lies}
use Rattle.std.specs.Prelude.{Some, None}
use Rattle.wire_fields.specs.Found.{answered, as_is}
use Rattle.wire_fields.proofs.Answered.{told_is, told_none}
use Rattle.wire_fields.proofs.Selections.{PartAt}
use Rattle.wire_command.specs.Found.{two_of, name_at, as_name}

-- ---- two numbers

-- the two numbers that stand under two numbers of some fields
pub record TwoIn (fits : ℕ → Bool) (fs : List Field) (a b u v : ℕ) : Type 0 where
  pub first : required uint64 (numbered a fs) ≡ some u
  pub second : required fits (numbered b fs) ≡ some v

-- the same of a message
pub record TwoOf (fits : ℕ → Bool) (m : List ℕ) (a b u v : ℕ) : Type 0 where
  pub fs : List Field
  pub all_fields : fields m ≡ some fs
  pub numbers : TwoIn fits fs a b u v

module _ (fits : ℕ → Bool) (m : List ℕ) (a b : ℕ) where
  -- two numbers were read: they are those of the fields
  pub two_are : {fs : List Field} {u v : ℕ} → fields m ≡ some fs → Some (u, v) ≡ answered as_is (two_of fits m a b) → TwoIn fits fs a b u v
  unfolding two_of bind
  two_are {fs = fs} {u = u} {v = v} p e =
      go (required uint64 (numbered a fs)) refl (required fits (numbered b fs)) refl (rw p at (told_is (two_of fits m a b) e))
    where
      go : (o : Option ℕ) → required uint64 (numbered a fs) ≡ o → (n : Option ℕ) → required fits (numbered b fs) ≡ n
          → bind {B = ℕ × ℕ} o (λ (i : ℕ). bind {B = ℕ × ℕ} n (λ (j : ℕ). some (i, j))) ≡ some (u, v) → TwoIn fits fs a b u v
      go none h n k d = absurd (cc)
      go (some i) h none k d = absurd (cc)
      go (some i) h (some j) k d =
          let s : ◌≡◌ {A = ℕ × ℕ} (i, j) (u, v) = cc in
          record { first = h ∙ ap some (ap (λ (t : ℕ × ℕ). t.0) s); second = k ∙ ap some (ap (λ (t : ℕ × ℕ). t.1) s) }

  -- the message is well formed, and these are its two numbers
  pub two_of_message : {u v : ℕ} → Some (u, v) ≡ answered as_is (two_of fits m a b) → TwoOf fits m a b u v
  unfolding two_of bind
  two_of_message {u = u} {v = v} e = go (fields m) refl (told_is (two_of fits m a b) e)
    where
      go : (o : Option (List Field)) → fields m ≡ o → two_of fits m a b ≡ some (u, v) → TwoOf fits m a b u v
      go none p q = let d : none ≡ some (u, v) = rw p at q in absurd (cc)
      go (some fs) p q = record { fs = fs; all_fields = p; numbers = two_are p e }

  -- one of them is not there
  pub two_bad : {P : Type 0} {fs : List Field} → fields m ≡ some fs → None ≡ answered as_is (two_of fits m a b)
      → (required uint64 (numbered a fs) ≡ none → P)
      → ((u : ℕ) → required uint64 (numbered a fs) ≡ some u → required fits (numbered b fs) ≡ none → P) → P
  unfolding two_of bind
  two_bad {P = P} {fs = fs} p e f g =
      go (required uint64 (numbered a fs)) refl (required fits (numbered b fs)) refl (rw p at (told_none (two_of fits m a b) e))
    where
      go : (o : Option ℕ) → required uint64 (numbered a fs) ≡ o → (n : Option ℕ) → required fits (numbered b fs) ≡ n
          → bind {B = ℕ × ℕ} o (λ (i : ℕ). bind {B = ℕ × ℕ} n (λ (j : ℕ). some (i, j))) ≡ none → P
      go none h n k d = f h
      go (some i) h none k d = g i h k
      go (some i) h (some j) k d = absurd (cc)

  -- or the message is not well formed
  pub two_bad_message : {P : Type 0} → None ≡ answered as_is (two_of fits m a b) → (fields m ≡ none → P)
      → ((fs : List Field) → fields m ≡ some fs → required uint64 (numbered a fs) ≡ none → P)
      → ((fs : List Field) → fields m ≡ some fs → (u : ℕ) → required uint64 (numbered a fs) ≡ some u
      → required fits (numbered b fs) ≡ none → P)
      → P
  two_bad_message {P = P} e f g h = go (fields m) refl
    where
      go : (o : Option (List Field)) → fields m ≡ o → P
      go none p = f p
      go (some fs) p = two_bad p e (g fs p) (h fs p)

-- ---- parts

-- a part lies inside the message
pub part_inside : (m : List ℕ) (n : ℕ) {fs : List Field} {start next : ℕ} → fields m ≡ some fs → PartAt (numbered n fs) start next
    → (start ≤ next) × (next ≤ length m)
part_inside m n {fs = fs} e p = let h = part_lies m fs n p.f e p.is in let s = p.starts in let t = p.ends in (omega arith, omega arith)

-- the name that a part is
pub name_told : (at : ℕ) {l : List Field} {start next : ℕ} (p : PartAt l start next) → as_name (name at p.f) ≡ name_at at start next
unfolding as_name name
name_told at p = rw (p.starts, p.ends)
