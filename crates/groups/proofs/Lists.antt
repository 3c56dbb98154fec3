-- A list of the form is gone through from its front: its first group is the first of its groups, and what stands after it
-- is of the form.
use Prim.Native.Nat.{ℕ, ◌≤◌}
use mathlib.Core.Path.{◌≡◌, sym, ◌∙◌}
use mathlib.Core.Bool.{true, false, true≢false}
use mathlib.Core.List.{List, [], ◌∷◌}
use mathlib.Core.Option.{some}
use native.Mathlib.Omega.{arith}
use lib.Dec.{eqb-suc-zero}
use lib.ListN.{length, drop}
use Rattle.rules.specs.Table.{is_some}
use Rattle.rules.specs.Groups.{Group, groups}
use Rattle.groups.specs.declared.list.Groups.{Groups}
use Rattle.groups.specs.Lent.{groups_in}
use Rattle.groups.specs.Walk.{end_at, group_at, group_fits, groups_from}
use Rattle.groups.proofs.Steps.{says_fits}
use Rattle.groups.proofs.Forms.{formed_broken}
use Rattle.groups.proofs.Walks.{Turn, stands_right, stands_turn, stands_end, stands_few}

-- where no group fits, none is left
pub none_ahead : (list : List ℕ) → is_some (groups list) ≡ true → group_fits list 0 ≡ false → groups_from list 0 ≡ []
unfolding groups
none_ahead [] f n = stands_end [] 0 (omega arith)
none_ahead (x ∷ list) f n = absurd (true≢false (sym f ∙ formed_broken (x ∷ list) 64 n ∙ eqb-suc-zero (length list)))

-- the first group of a list, where one fits
pub first_ahead : (list : List ℕ) → is_some (groups list) ≡ true → group_fits list 0 ≡ true → Turn list 0
first_ahead list f t = let h = says_fits list 0 t in stands_turn list 0 (stands_right list (sym f)).0 (omega (arith, h.head_inside))

-- what stands after it is of the form
pub form_after : (list : List ℕ) → Turn list 0 → is_some (groups (drop (end_at list 0) list)) ≡ true
unfolding is_some
form_after list t = rw t.next.reads

-- the groups of a list are its first one and those of what stands after it
pub groups_ahead : (list rest : List ℕ) (g : Group) → is_some (groups list) ≡ true → group_fits list 0 ≡ true
    → g ≡ group_at list 0 → rest ≡ drop (end_at list 0) list → groups_from list 0 ≡ g ∷ groups_from rest 0
unfolding groups_from
groups_ahead list rest g f t e r = rw (e, r) (first_ahead list f t).here

-- a list of the form reads as its groups
pub groups_read : (g : Groups) → groups g.list.now ≡ some (groups_in g)
groups_read g = (stands_right g.list.now (sym g.formed)).1

-- which are at most 64
pub groups_few : (g : Groups) → length (groups_in g) ≤ 64
groups_few g = stands_few g.list.now 0 (stands_right g.list.now (sym g.formed)).0
