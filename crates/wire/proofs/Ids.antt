-- The ids of an Ack or a Redeliver that were read: at most 64, each with at most 16 words.
use Prim.Native.Nat.{ℕ, suc, ◌≤◌}
use mathlib.Core.Path.{◌≡◌, refl, ap, subst}
use mathlib.Core.Bool.{◌&&◌, and-eq-true_iff}
use mathlib.Core.List.Memᴰ
use mathlib.Core.List.{List, [], ◌∷◌, map}
use mathlib.Core.Option.{some, map-eq-some_iff, bind-eq-some_iff, some-injective}
use native.Mathlib.Omega.{arith}
use lib.Dec.{eqb, leb}
use lib.ListN.{length, length-map}
use borrow.Author.Tests.{leb-true}
use Rattle.rules.specs.Table.{all, Every}
use Rattle.rules.specs.Groups.{Group}
use Rattle.rules.proofs.Says.{every_cons}
use Rattle.wire.specs.Fields.{Field}
use Rattle.wire.specs.Select.{numbered, bytes_of, up_to, numbers}
use Rattle.wire.specs.Ids.{group_of, groups_of, id_list}
use Rattle.wire.proofs.Options.{answered, Gives, gives_some, gives_bind}

-- the fields of a repeated one are those that stand there
pub up_to_is : (k wire : ℕ) (fs gs : List Field) → up_to k wire fs ≡ some gs → fs ≡ gs
unfolding up_to
up_to_is k wire fs gs e = (answered (leb (length fs) k && all (λ (f : Field). eqb f.wire wire) fs) fs e).1

-- as many as allowed
up_to_length : (k wire : ℕ) (fs gs : List Field) → up_to k wire fs ≡ some gs → length gs ≤ k
unfolding up_to
up_to_length k wire fs gs e =
    let p = answered (leb (length fs) k && all (λ (f : Field). eqb f.wire wire) fs) fs e in
    let q = (and-eq-true_iff (leb (length fs) k) (all (λ (f : Field). eqb f.wire wire) fs)).0 p.0 in
    rw (← p.1) (leb-true (length fs) k q.0)

-- so are repeated numbers
pub numbers_length : (k : ℕ) (fs : List Field) (words : List ℕ) → numbers k fs ≡ some words → length words ≤ k
unfolding numbers
numbers_length k fs words e =
    let p = (map-eq-some_iff (map (λ (f : Field). f.value)) (up_to k 0 fs)).0 e in
    rw (← p.2, length-map p.0 (λ (f : Field). f.value)) (up_to_length k 0 fs p.0 p.1)

-- an id with few enough words
abbrev pub Short : Group → Type 0
Short g = length g.words ≤ 16

-- an id that was read has at most 16 words
pub group_short : (m : List ℕ) → Gives Short (group_of m)
unfolding group_of
group_short m =
    gives_bind Short _ _ (λ fs _. gives_bind Short _ _ (λ id _. gives_bind Short _ _ (λ words e.
    gives_some Short _ (numbers_length 16 (numbered 5 fs) words e))))

-- the ids of some parts are as many, each with at most 16 words
groups_short : (m : List ℕ) (fs : List Field) (ids : List Group) → groups_of m fs ≡ some ids → (length ids ≡ length fs) × Every Short ids
unfolding groups_of
groups_short m [] ids e =
    subst (λ (l : List Group). (length l ≡ 0) × Every Short l) (some-injective [] ids e) (refl, λ g h. absurd (Memᴰ.not-nil h))
groups_short m (f ∷ fs) ids e =
    let p = (bind-eq-some_iff (group_of (bytes_of m f)) _).0 e in
    let q = (map-eq-some_iff (λ (l : List Group). p.0 ∷ l) (groups_of m fs)).0 p.2 in
    let h = groups_short m fs q.0 q.1 in
    let s = group_short (bytes_of m f) p.0 p.1 in
    subst (λ (l : List Group). (length l ≡ length (f ∷ fs)) × Every Short l) q.2 (ap suc h.0, every_cons s h.1)

-- ids that fit into a lent list
pub record Listed (ids : List Group) : Type 0 where
  pub few : length ids ≤ 64
  pub short : Every Short ids

-- the ids that were read do
pub ids_listed : (m : List ℕ) (fs : List Field) → Gives Listed (id_list m fs)
unfolding id_list
ids_listed m fs ids e =
    let p = (bind-eq-some_iff (up_to 64 2 fs) (groups_of m)).0 e in
    let h = groups_short m p.0 ids p.2 in
    let n = up_to_length 64 2 fs p.0 p.1 in
    record { few = omega arith; short = h.1 }
