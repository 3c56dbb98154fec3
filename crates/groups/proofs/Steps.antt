-- One group of a lent list read at an offset: what `at_most_groups` does with the words from there on. Both the test of the
-- form and the walk turn on it.
use Prim.Native.Nat.{ℕ, zero, suc, ◌+◌, ◌-◌, ◌≤◌, ◌<◌}
use mathlib.Core.Path.{◌≡◌, refl, sym, ◌∙◌}
use mathlib.Core.Bool.{true, cond, ◌&&◌, and-eq-true_iff}
use mathlib.Core.List.{List, [], ◌∷◌}
use mathlib.Core.Option.{none, some, map}
use native.Mathlib.Nat.{not-suc-le-zero, le_of_suc-le-suc}
use native.Mathlib.Omega.{arith}
use lib.Dec.{leb}
use lib.ListN.{length, get_or, drop, length-drop, drop_of_length-le}
use lib.Seq.{drop-cons, drop-drop}
use borrow.Author.Tests.{leb-true, leb-false, le-leb, lt-leb}
use Rattle.rules.specs.Groups.{Group, at_most_groups}
use Rattle.rules.proofs.Table.{by_test}
use Rattle.groups.specs.Walk.{words_at, end_at, group_at, group_fits}

-- no words are no groups
empty : (k : ℕ) → at_most_groups k [] ≡ some []
unfolding at_most_groups
empty zero = refl
empty (suc k) = refl

-- past the end no group is left
pub none_left : (k : ℕ) (list : List ℕ) (at : ℕ) → length list ≤ at → at_most_groups k (drop at list) ≡ some []
none_left k list at h = rw (drop_of_length-le list h) (empty k)

-- one or two words are no group
short : (k : ℕ) (l : List ℕ) → 0 < length l → length l < 3 → at_most_groups k l ≡ none
unfolding at_most_groups
short zero [] h s = absurd (not-suc-le-zero h)
short zero (x ∷ l) h s = refl
short (suc k) [] h s = absurd (not-suc-le-zero h)
short (suc k) (x ∷ []) h s = refl
short (suc k) (x ∷ y ∷ []) h s = refl
short (suc k) (x ∷ y ∷ z ∷ l) h s =
    absurd (not-suc-le-zero (le_of_suc-le-suc (le_of_suc-le-suc (le_of_suc-le-suc s))))

-- a test of what is left of the list, as a test of offsets
pub room : (n at len : ℕ) → at + 3 ≤ len → leb n (len - (at + 3)) ≡ leb (at + 3 + n) len
room n at len h =
    by_test (leb n (len - (at + 3)))
    (λ t. let l = leb-true n (len - (at + 3)) t in t ∙ sym (le-leb (at + 3 + n) len (omega arith)))
    (λ t. let l = leb-false n (len - (at + 3)) t in t ∙ sym (lt-leb (at + 3 + n) len (omega arith)))

-- the head of the group at an offset, and the words after it
head : (list : List ℕ) (at : ℕ) → at + 3 ≤ length list
    → drop at list ≡ get_or list at 0 ∷ get_or list (at + 1) 0 ∷ get_or list (at + 2) 0 ∷ drop (at + 3) list
head list at h =
    let a : suc at ≡ at + 1 = omega arith in
    let b : suc (at + 1) ≡ at + 2 = omega arith in
    let d : suc (at + 2) ≡ at + 3 = omega arith in
    let x : drop at list ≡ get_or list at 0 ∷ drop (at + 1) list = rw (← a) (drop-cons list at 0 (omega arith)) in
    let y : drop (at + 1) list ≡ get_or list (at + 1) 0 ∷ drop (at + 2) list = rw (← b) (drop-cons list (at + 1) 0 (omega arith)) in
    let z : drop (at + 2) list ≡ get_or list (at + 2) 0 ∷ drop (at + 3) list = rw (← d) (drop-cons list (at + 2) 0 (omega arith)) in
    rw (x, y, z)

-- the group at an offset is read, and the rest from where it ends; nothing where none fits
pub step : (k : ℕ) (list : List ℕ) (at : ℕ) → at < length list
    → at_most_groups (suc k) (drop at list)
    ≡ cond (group_fits list at) (map (λ (more : List Group). group_at list at ∷ more) (at_most_groups k (drop (end_at list at) list))) none
unfolding group_fits at_most_groups
step k list at h =
    by_test (leb (at + 3) (length list))
    (λ t.
    let l = leb-true (at + 3) (length list) t in
    rw (t, head list at l, length-drop (at + 3) list, room (words_at list at) at (length list) l, drop-drop (words_at list at) (at + 3) list))
    (λ t.
    let l = leb-false (at + 3) (length list) t in
    let n = length-drop at list in
    rw t (short (suc k) (drop at list) (omega arith) (omega arith)))

-- a group of at most 16 words stands at an offset, whole
pub record Fits (list : List ℕ) (at : ℕ) : Type 0 where
  pub head_inside : at + 3 ≤ length list
  pub few : words_at list at ≤ 16
  pub ends : end_at list at ≤ length list

-- what the test of a group says
pub says_fits : (list : List ℕ) (at : ℕ) → group_fits list at ≡ true → Fits list at
unfolding group_fits
says_fits list at e =
    let p = (and-eq-true_iff (leb (at + 3) (length list)) (leb (words_at list at) 16 && leb (end_at list at) (length list))).0 e in
    let q = (and-eq-true_iff (leb (words_at list at) 16) (leb (end_at list at) (length list))).0 p.1 in
    record { head_inside = leb-true _ _ p.0; few = leb-true _ _ q.0; ends = leb-true _ _ q.1 }
