-- What code holds of a lent list, as the rules have it.
use Rattle.std.specs.Prelude.{ℕ, ◌≡◌, false, true, List, drop, MatchOption, Option}
use Rattle.std.specs.Borrow.{Bor}
use Rattle.rules.specs.Groups.{Group}
use Rattle.message_id.specs.Ids.{id_of}
use Rattle.groups.specs.declared.group.Group.{Group as Lent}
use Rattle.groups.specs.declared.list.Groups.{Groups}
use Rattle.groups.specs.Walk.{group_fits, group_at, end_at, groups_from}

-- a group
abbrev pub group_of : Lent → Group
group_of g = record { id = id_of g.ledger g.entry; words = g.words.now }

-- the groups that are left
abbrev pub groups_in : Groups → List Group
groups_in g = groups_from g.list.now 0

-- a list is taken apart into its first group and what stands after it, or none fits
abbrev pub SplitsGroup : List ℕ → Option (Lent × Bor (List ℕ)) → Type 0
SplitsGroup list r = MatchOption r
    (group_fits list 0 ≡ false)
    (λ p. (group_fits list 0 ≡ true) × (group_of p.0 ≡ group_at list 0) × (p.1.now ≡ drop (end_at list 0) list))
