-- The ids of a lent list's groups are 64-bit where its words are.
use Prim.Native.Nat.{ℕ, zero, suc, ◌^◌, ◌<◌}
use mathlib.Core.Path.{◌≡◌, refl, subst}
use mathlib.Core.Bool.{true, ◌&&◌}
use mathlib.Core.List.Memᴰ
use mathlib.Core.List.{List, [], ◌∷◌, Memᴰ}
use mathlib.Core.Option.{Option, none, some, map, none-ne-some}
use lib.Dec.{leb}
use lib.ListN.{length, take, drop}
use Rattle.rules.specs.Table.{all, Every}
use Rattle.rules.specs.Groups.{Group, at_most_groups, groups}
use Rattle.rules.specs.Valid.{is_word, ValidId}
use Rattle.rules.proofs.Says.{says_all, every_cons}
use Rattle.rules.proofs.Valid.{says_word}
use Rattle.rules.proofs.Table.{by_test}
use Rattle.rules.proofs.Kept.Every.{every_drop}

-- every word of a list has 64 bits
abbrev pub Words : List ℕ → Type 0
Words l = Every (λ (n : ℕ). n < 2 ^ 64) l

-- every group has a 64-bit id
abbrev pub Ids : List Group → Type 0
Ids gs = Every (λ (g : Group). ValidId g.id) gs

-- no groups
no_groups : (gs : List Group) → some [] ≡ some gs → Ids gs
no_groups gs e g m = let z : gs ≡ [] = cc in absurd (Memᴰ.not-nil (subst (λ (l : List Group). Memᴰ g l) z m))

-- one group, and those that follow it
one_more : (x : Group) (o : Option (List Group)) (gs : List Group) → ValidId x.id → ((more : List Group) → o ≡ some more → Ids more)
    → map (λ (more : List Group). x ∷ more) o ≡ some gs → Ids gs
one_more x none gs w f e = absurd (none-ne-some gs e)
one_more x (some more) gs w f e =
    let z : x ∷ more ≡ gs = cc in
    subst Ids z (every_cons {P = λ (g : Group). ValidId g.id} w (f more refl))

-- at most k groups
some_groups : (k : ℕ) (list : List ℕ) (gs : List Group) → Words list → at_most_groups k list ≡ some gs → Ids gs
unfolding at_most_groups
some_groups zero [] gs w e = no_groups gs e
some_groups zero (x ∷ list) gs w e = absurd (none-ne-some gs e)
some_groups (suc k) [] gs w e = no_groups gs e
some_groups (suc k) (x ∷ []) gs w e = absurd (none-ne-some gs e)
some_groups (suc k) (x ∷ y ∷ []) gs w e = absurd (none-ne-some gs e)
some_groups (suc k) (ledger ∷ entry ∷ n ∷ list) gs w e =
    let x : Group = record { id = record { ledger = ledger; entry = entry }; words = take n list } in
    by_test (leb n 16 && leb n (length list))
    (λ t.
    one_more x (at_most_groups k (drop n list)) gs
    (record { ledger_word = w ledger (Memᴰ.head refl); entry_word = w entry (Memᴰ.tail (Memᴰ.head refl)) })
    (λ more f. some_groups k (drop n list) more (every_drop {P = λ (a : ℕ). a < 2 ^ 64} n list (λ a m. w a (Memᴰ.tail (Memᴰ.tail (Memᴰ.tail m))))) f)
    (rw t at e))
    (λ t. absurd (none-ne-some gs (rw t at e)))

-- the groups of a list of words
pub groups_ids : (list : List ℕ) (gs : List Group) → all is_word list ≡ true → groups list ≡ some gs → Ids gs
unfolding groups
groups_ids list gs f e = some_groups 64 list gs ((says_all says_word list).gives f) e
