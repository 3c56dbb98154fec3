-- A lent list of words read by offset: the group that stands at an offset, where it ends, and the groups from an offset on.
-- What is read is what `groups` of the rules reads.
use Rattle.std.specs.Prelude.{ℕ, ◌+◌, Bool, ◌&&◌, List, [], leb, length, get_or, take, drop}
use Rattle.rules.specs.Table.{or_else}
use Rattle.rules.specs.Groups.{Group, groups}

-- the number of words of the group at an offset
abbrev pub words_at : List ℕ → ℕ → ℕ
words_at list at = get_or list (at + 2) 0

-- the offset after the group at an offset
abbrev pub end_at : List ℕ → ℕ → ℕ
end_at list at = at + 3 + words_at list at

-- the group at an offset
abbrev pub group_at : List ℕ → ℕ → Group
group_at list at = record {
  id = record { ledger = get_or list at 0; entry = get_or list (at + 1) 0 };
  words = take (words_at list at) (drop (at + 3) list);
}

-- whether a group of at most 16 words stands at an offset, whole
unfoldable pub group_fits : List ℕ → ℕ → Bool
group_fits list at = leb (at + 3) (length list) && (leb (words_at list at) 16 && leb (end_at list at) (length list))

-- the groups from an offset on; none where those words are not of the form
unfoldable pub groups_from : List ℕ → ℕ → List Group
groups_from list at = or_else (groups (drop at list)) []
