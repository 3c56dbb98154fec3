-- The walk over the groups of a lent list by offset: what the loops of ack and redeliver turn on. At the start all groups
-- are ahead, a turn takes the first of them, and at the end none is left.
use Prim.Native.Nat.{ℕ, zero, suc, ◌≤◌, ◌<◌, suc-le-suc}
use mathlib.Core.Path.{◌≡◌, refl, sym, ◌∙◌, subst}
use mathlib.Core.Bool.{true, cond, ◌&&◌, true≢false}
use mathlib.Core.List.{List, [], ◌∷◌}
use mathlib.Core.Option.{Option, none, some, map, none-ne-some}
use native.Mathlib.Omega.{arith}
use lib.Dec.{leb}
use lib.ListN.{length, take, drop}
use Rattle.rules.specs.Table.{is_some, or_else}
use Rattle.rules.specs.Groups.{Group, at_most_groups, groups}
use Rattle.rules.proofs.Table.{by_test}
use Rattle.groups.specs.Walk.{end_at, group_at, group_fits, groups_from}
use Rattle.groups.proofs.Steps.{none_left, step, Fits, says_fits}

-- ---- more room for groups reads the same groups

-- one more group may be read where one may
wider_map : (g : Group) (o p : Option (List Group)) (gs : List Group) → ((more : List Group) → o ≡ some more → p ≡ some more)
    → map (λ (more : List Group). g ∷ more) o ≡ some gs → map (λ (more : List Group). g ∷ more) p ≡ some gs
wider_map g none p gs f e = absurd (none-ne-some gs e)
wider_map g (some more) p gs f e = rw (f more refl) e

-- what reads as at most k groups reads alike as one more
wider : (k : ℕ) (list : List ℕ) (gs : List Group) → at_most_groups k list ≡ some gs → at_most_groups (suc k) list ≡ some gs
unfolding at_most_groups
wider zero [] gs e = e
wider zero (x ∷ list) gs e = absurd (none-ne-some gs e)
wider (suc k) [] gs e = e
wider (suc k) (x ∷ []) gs e = absurd (none-ne-some gs e)
wider (suc k) (x ∷ y ∷ []) gs e = absurd (none-ne-some gs e)
wider (suc k) (ledger ∷ entry ∷ n ∷ list) gs e =
    let g : Group = record { id = record { ledger = ledger; entry = entry }; words = take n list } in
    by_test (leb n 16 && leb n (length list))
    (λ t. rw t (wider_map g (at_most_groups k (drop n list)) (at_most_groups (suc k) (drop n list)) gs (wider k (drop n list)) (rw t at e)))
    (λ t. absurd (none-ne-some gs (rw t at e)))

-- ---- how many groups there are

-- one more group than the rest
one_longer : (k : ℕ) (g : Group) (o : Option (List Group)) (gs : List Group) → ((more : List Group) → o ≡ some more → length more ≤ k)
    → map (λ (more : List Group). g ∷ more) o ≡ some gs → length gs ≤ suc k
one_longer k g none gs f e = absurd (none-ne-some gs e)
one_longer k g (some more) gs f e =
    let z : g ∷ more ≡ gs = cc in subst (λ (l : List Group). length l ≤ suc k) z (suc-le-suc (f more refl))

-- nothing is no longer than any number
none_longer : (k : ℕ) (gs : List Group) → some [] ≡ some gs → length gs ≤ k
none_longer k gs e = let z : [] ≡ gs = cc in subst (λ (l : List Group). length l ≤ k) z (omega arith)

-- at most k groups are at most k
at_most : (k : ℕ) (list : List ℕ) (gs : List Group) → at_most_groups k list ≡ some gs → length gs ≤ k
unfolding at_most_groups
at_most zero [] gs e = none_longer 0 gs e
at_most zero (x ∷ list) gs e = absurd (none-ne-some gs e)
at_most (suc k) [] gs e = none_longer (suc k) gs e
at_most (suc k) (x ∷ []) gs e = absurd (none-ne-some gs e)
at_most (suc k) (x ∷ y ∷ []) gs e = absurd (none-ne-some gs e)
at_most (suc k) (ledger ∷ entry ∷ n ∷ list) gs e =
    let g : Group = record { id = record { ledger = ledger; entry = entry }; words = take n list } in
    by_test (leb n 16 && leb n (length list))
    (λ t. one_longer k g (at_most_groups k (drop n list)) gs (at_most k (drop n list)) (rw t at e))
    (λ t. absurd (none-ne-some gs (rw t at e)))

-- ---- what stands at an offset

-- groups that were read are those from the offset on
read_from : (list : List ℕ) (at : ℕ) (gs : List Group) → groups (drop at list) ≡ some gs → groups_from list at ≡ gs
unfolding groups_from or_else
read_from list at gs e = rw e

-- an offset at which a group begins or the list ends: the words from there on are of the form
pub record Stands (list : List ℕ) (at : ℕ) : Type 0 where
  pub inside : at ≤ length list
  pub reads : groups (drop at list) ≡ some (groups_from list at)

-- an offset stands where groups were read from it
stood : (list : List ℕ) (at : ℕ) (gs : List Group) → at ≤ length list → groups (drop at list) ≡ some gs → Stands list at
stood list at gs h e = record { inside = h; reads = rw (read_from list at gs e) e }

-- the start of a list of the form stands, for all its groups
pub stands_start : (list : List ℕ) (gs : List Group) → groups list ≡ some gs → Stands list 0 × (groups_from list 0 ≡ gs)
stands_start list gs e = (stood list 0 gs (omega arith) e, read_from list 0 gs e)

-- what is there is its own value
told : (o : Option (List Group)) → true ≡ is_some o → o ≡ some (or_else o [])
unfolding is_some or_else
told none t = absurd (true≢false t)
told (some gs) t = refl

-- so does that of a list which passed the test of the form
pub stands_right : (list : List ℕ) → true ≡ is_some (groups list) → Stands list 0 × (groups list ≡ some (groups_from list 0))
stands_right list t = let p = stands_start list (or_else (groups list) []) (told (groups list) t) in (p.0, p.0.reads)

-- what a turn finds at an offset: a whole group, the first of those ahead, and the next offset after it
pub record Turn (list : List ℕ) (at : ℕ) : Type 0 where
  pub fits : Fits list at
  pub here : groups_from list at ≡ group_at list at ∷ groups_from list (end_at list at)
  pub next : Stands list (end_at list at)

-- the group at the offset is the first
first : (list : List ℕ) (at : ℕ) (o : Option (List Group)) → Fits list at → o ≡ at_most_groups 63 (drop (end_at list at) list)
    → map (λ (more : List Group). group_at list at ∷ more) o ≡ some (groups_from list at) → Turn list at
unfolding groups
first list at none f m e = absurd (none-ne-some (groups_from list at) e)
first list at (some more) f m e =
    let w : groups (drop (end_at list at) list) ≡ some more = wider 63 (drop (end_at list at) list) more (sym m) in
    let z : group_at list at ∷ more ≡ groups_from list at = cc in
    record { fits = f; here = rw (read_from list (end_at list at) more w) (sym z); next = stood list (end_at list at) more f.ends w }

-- a turn before the list ends
pub stands_turn : (list : List ℕ) (at : ℕ) → Stands list at → at < length list → Turn list at
unfolding groups
stands_turn list at s h =
    let e : cond (group_fits list at) (map (λ (more : List Group). group_at list at ∷ more) (at_most_groups 63 (drop (end_at list at) list))) none ≡ some (groups_from list at) =
    sym (step 63 list at h) ∙ s.reads in
    by_test (group_fits list at)
    (λ t. first list at (at_most_groups 63 (drop (end_at list at) list)) (says_fits list at t) refl (rw t at e))
    (λ t. absurd (none-ne-some (groups_from list at) (rw t at e)))

-- at the end no group is left
pub stands_end : (list : List ℕ) (at : ℕ) → length list ≤ at → groups_from list at ≡ []
unfolding groups
stands_end list at h = read_from list at [] (none_left 64 list at h)

-- at most 64 groups are ahead
pub stands_few : (list : List ℕ) (at : ℕ) → Stands list at → length (groups_from list at) ≤ 64
unfolding groups
stands_few list at s = at_most 64 (drop at list) (groups_from list at) s.reads
