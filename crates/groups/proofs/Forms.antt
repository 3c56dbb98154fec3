-- The form of a lent list tested group by group: what the loop of `list.rt` turns on. The words that are left have the
-- form exactly where the whole list has it.
use Prim.Native.Nat.{ℕ, zero, suc, ◌+◌, ◌-◌, ◌≤◌, ◌<◌}
use mathlib.Core.Path.{◌≡◌, refl, sym, ap, ◌∙◌}
use mathlib.Core.Bool.{true, false}
use mathlib.Core.List.{List, [], ◌∷◌}
use mathlib.Core.Option.{Option, none, some, map}
use native.Mathlib.Omega.{arith}
use lib.Dec.{leb, eqb, eqb-suc-zero}
use lib.Seq.{drop-drop}
use lib.ListN.{length, get_or, take, drop, length-drop}
use Rattle.std.proofs.lemmas.List.{take_rest}
use borrow.Author.Tests.{lt-leb, le-leb}
use Rattle.rules.specs.Table.{is_some}
use Rattle.rules.specs.Groups.{Group, at_most_groups, groups}
use Rattle.groups.specs.Walk.{words_at, end_at, group_at, group_fits}
use Rattle.groups.proofs.Steps.{none_left, room, step, says_fits}

-- the words that are left have the form, with at most `left` groups, exactly where the list has it
abbrev pub Formed : List ℕ → List ℕ → ℕ → Type 0
Formed list rest left = is_some (at_most_groups left rest) ≡ is_some (groups list)

-- they do at the start, with all 64 groups ahead
pub formed_start : (list : List ℕ) → Formed list list 64
unfolding groups
formed_start list = refl

-- where no group may follow, only a list that has ended has the form
pub formed_full : (rest : List ℕ) → is_some (at_most_groups 0 rest) ≡ eqb (length rest) 0
unfolding is_some at_most_groups
formed_full [] = refl
formed_full (x ∷ rest) = sym (eqb-suc-zero (length rest))

-- a value that is put in front changes nothing
some_mapped : (g : Group) (o : Option (List Group)) → is_some (map (λ (more : List Group). g ∷ more) o) ≡ is_some o
unfolding is_some
some_mapped g none = refl
some_mapped g (some more) = refl

-- nor where no group fits
pub formed_broken : (rest : List ℕ) (left : ℕ) → group_fits rest 0 ≡ false → is_some (at_most_groups left rest) ≡ eqb (length rest) 0
unfolding is_some
formed_broken rest zero t = formed_full rest
formed_broken [] (suc k) t = rw (none_left (suc k) [] 0 (omega arith))
formed_broken (x ∷ rest) (suc k) t = rw (step k (x ∷ rest) 0 (omega arith), t) (sym (eqb-suc-zero (length rest)))

-- one fits
pub formed_on : (rest : List ℕ) (left : ℕ) → group_fits rest 0 ≡ true
    → is_some (at_most_groups (suc left) rest) ≡ is_some (at_most_groups left (drop (end_at rest 0) rest))
formed_on rest left t =
    let f = says_fits rest 0 t in
    let h : 0 < length rest = omega (arith, f.head_inside) in
    rw (step left rest 0 h, t) (some_mapped (group_at rest 0) (at_most_groups left (drop (end_at rest 0) rest)))

-- ---- the test of one group

-- its head does not fit
pub head_outside : (list : List ℕ) (at : ℕ) → at ≤ length list → length list - at < 3 → false ≡ group_fits list at
unfolding group_fits
head_outside list at h s = rw (lt-leb (at + 3) (length list) (omega arith))

-- it has too many words
pub too_many : (list : List ℕ) (at : ℕ) → at + 3 ≤ length list → 16 < words_at list at → false ≡ group_fits list at
unfolding group_fits
too_many list at h s = rw (le-leb (at + 3) (length list) h, lt-leb (words_at list at) 16 s)

-- its words fit in the room after its head, or not
pub words_fit : (list : List ℕ) (at left : ℕ) → at + 3 + left ≡ length list → words_at list at ≤ 16
    → leb (words_at list at) left ≡ group_fits list at
unfolding group_fits
words_fit list at left h s =
    let l : at + 3 ≤ length list = omega arith in
    let e : left ≡ length list - (at + 3) = omega arith in
    ap (leb (words_at list at)) e ∙ rw (room (words_at list at) at (length list) l, le-leb (at + 3) (length list) l, le-leb (words_at list at) 16 s)

-- the words after the head of a group, read as what is left behind it
pub behind : (list : List ℕ) → take (length list - 3) (drop 3 list) ≡ drop 3 list
behind list = take_rest list 3

-- they are too few for the group
pub words_short : (list : List ℕ) → 3 ≤ length list → words_at list 0 ≤ 16
    → length (take (length list - 3) (drop 3 list)) < words_at list 0 → group_fits list 0 ≡ false
words_short list h f s =
    let e : length (drop 3 list) ≡ length list - 3 = length-drop 3 list in
    let s' : length list - 3 < words_at list 0 = omega (arith, ap length (behind list)) in
    sym (words_fit list 0 (length list - 3) (omega arith) f) ∙ lt-leb (words_at list 0) (length list - 3) s'

-- they are enough
pub words_stand : (list : List ℕ) → 3 ≤ length list → words_at list 0 ≤ 16
    → words_at list 0 ≤ length (take (length list - 3) (drop 3 list)) → group_fits list 0 ≡ true
words_stand list h f s =
    let e : length (drop 3 list) ≡ length list - 3 = length-drop 3 list in
    let s' : words_at list 0 ≤ length list - 3 = omega (arith, ap length (behind list)) in
    sym (words_fit list 0 (length list - 3) (omega arith) f) ∙ le-leb (words_at list 0) (length list - 3) s'

-- the group that stands before the words after it
pub group_before : (list words : List ℕ) {n : ℕ} → words ≡ take n (take (length list - 3) (drop 3 list)) → n ≡ words_at list 0
    → record { id = record { ledger = get_or list 0 0; entry = get_or list 1 0 }; words = words } ≡ group_at list 0
group_before list words e is = rw (e, is, behind list)

-- those
pub after_group : (list after : List ℕ) {n : ℕ} → after ≡ drop n (take (length list - 3) (drop 3 list)) → n ≡ words_at list 0
    → after ≡ drop (end_at list 0) list
after_group list after e is = rw (e, is, behind list) (drop-drop (words_at list 0) 3 list)
