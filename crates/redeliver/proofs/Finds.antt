-- The position of an id in the ledger of a topic, and the positions that a list of groups finds there, one group at a time.
use mathlib.Core.Path.{◌≡◌, refl}
use mathlib.Core.List.{List, [], ◌∷◌, ◌++◌}
use Prim.Native.Nat.{ℕ, ◌+◌, ◌≤◌, ◌<◌}
use native.Mathlib.Omega.{arith}
use lib.Dec.{ltb}
use lib.ListN.{length}
use mir.Val.{bool_byte}
use borrow.Author.Tests.{lt-ltb, le-ltb}
use Rattle.std.specs.declared.option.Option.TheVariants.{None, Some}
use Rattle.rules.specs.State.{State, StoredMessage, by_number, ledger_of}
use Rattle.rules.specs.Ledger.{position_of, holds_id}
use Rattle.rules.specs.Groups.{Group}
use Rattle.rules.specs.Commands.{found_positions}
use Rattle.rules.proofs.Table.{by_test}
use Rattle.layout.specs.Fields.{topic_nth}
use Rattle.store.specs.Found.{found}
use Rattle.store.proofs.Founds.{found_some}
use Rattle.store.proofs.Founds.{found_none as missing}
use Rattle.topic.proofs.Ledgers.{ledger_here, ledger_none}

module _ (ledger : List StoredMessage) (g : Group) where
  -- a group whose id is found
  pub found_one : (k : ℕ) → k ≡ position_of g.id ledger → k < length ledger → found_positions ledger (g ∷ []) ≡ k ∷ []
  unfolding found_positions holds_id
  found_one k p h = rw (lt-ltb (position_of g.id ledger) (length ledger) (omega arith), ← p)

  -- a group whose id is not
  pub found_none : length ledger ≤ position_of g.id ledger → found_positions ledger (g ∷ []) ≡ []
  unfolding found_positions holds_id
  found_none h = rw (le-ltb (position_of g.id ledger) (length ledger) h)

  -- counted, by whether it is
  pub found_told : bool_byte (ltb (position_of g.id ledger) (length ledger)) ≡ length (found_positions ledger (g ∷ []))
  unfolding found_positions holds_id
  found_told = by_test (ltb (position_of g.id ledger) (length ledger)) (λ t. rw t) (λ t. rw t)

  -- the first group and the rest
  pub found_first : (gs : List Group) → found_positions ledger (g ∷ gs) ≡ found_positions ledger (g ∷ []) ++ found_positions ledger gs
  unfolding found_positions holds_id
  found_first gs = by_test (ltb (position_of g.id ledger) (length ledger)) (λ t. rw t) (λ t. rw t)

  -- counted
  pub found_first_count : (gs : List Group) → length (found_positions ledger (g ∷ gs)) ≡ length (found_positions ledger (g ∷ [])) + length (found_positions ledger gs)
  unfolding found_positions holds_id
  found_first_count gs = by_test (ltb (position_of g.id ledger) (length ledger)) (λ t. rw t (omega arith)) (λ t. rw t (omega arith))

-- the same of groups of which it is the first
pub found_ahead : (ledger : List StoredMessage) (g : Group) (gs rest : List Group) → gs ≡ g ∷ rest
    → length (found_positions ledger gs) ≡ length (found_positions ledger (g ∷ [])) + length (found_positions ledger rest)
found_ahead ledger g gs rest e = rw e (found_first_count ledger g rest)

-- nothing is found among no groups
pub found_nothing : (ledger : List StoredMessage) → length (found_positions ledger []) ≡ 0
unfolding found_positions
found_nothing ledger = refl

-- no more positions than groups are found
pub found_few : (ledger : List StoredMessage) (gs : List Group) → length (found_positions ledger gs) ≤ length gs
unfolding found_positions
found_few ledger [] = omega arith
found_few ledger (g ∷ gs) =
    let h = found_few ledger gs in by_test (holds_id g.id ledger) (λ t. rw t (omega arith)) (λ t. rw t (omega arith))

-- the ledger of a topic that was sought and found, by its slot
pub sought_here : (s : State) {sought topic t : ℕ} → sought ≡ topic → Some t ≡ found by_number sought s.topics
    → (ledger_of s topic ≡ (topic_nth s t).messages) × (t < length s.topics)
sought_here s {sought} {topic} {t} e f =
    let h = found_some by_number sought s.topics f in (rw (← e) (ledger_here s sought t h.0 h.1), h.1)

-- and of one that was sought and not found
pub sought_nowhere : (s : State) {sought topic : ℕ} → sought ≡ topic → None ≡ found by_number sought s.topics → ledger_of s topic ≡ []
sought_nowhere s {sought} {topic} e f = rw (← e) (ledger_none s sought (missing by_number sought s.topics f))

-- nothing is found in an empty ledger
pub found_in_none : (gs : List Group) → found_positions [] gs ≡ []
unfolding found_positions holds_id
found_in_none [] = refl
found_in_none (g ∷ gs) = rw (le-ltb (position_of g.id []) 0 (omega arith)) (found_in_none gs)
