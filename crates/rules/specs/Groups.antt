-- The lent list of an ack or a redeliver: at most 64 groups of ledger, entry, n (at most 16) and n words, ending exactly.
use Rattle.std.specs.Prelude.{ℕ, zero, suc, cond, ◌&&◌, List, [], ◌∷◌, leb, length, take, drop}
use Rattle.std.proofs.Math.Option.{Option, none, some, map}
use Rattle.rules.specs.State.{Id}

-- one group: a message id and its words
pub record Group : Type 0 where
  pub id : Id
  pub words : List ℕ

-- a list of words read as at most k groups, or nothing where it is not of that form
unfoldable pub at_most_groups : ℕ → List ℕ → Option (List Group)
at_most_groups zero [] = some []
at_most_groups zero (x ∷ list) = none
at_most_groups (suc k) [] = some []
at_most_groups (suc k) (x ∷ []) = none
at_most_groups (suc k) (x ∷ y ∷ []) = none
at_most_groups (suc k) (ledger ∷ entry ∷ n ∷ list) =
    cond (leb n 16 && leb n (length list))
    (map
    (λ (more : List Group). record { id = record { ledger = ledger; entry = entry }; words = take n list } ∷ more)
    (at_most_groups k (drop n list)))
    none

-- the groups of a lent list
unfoldable pub groups : List ℕ → Option (List Group)
groups list = at_most_groups 64 list
