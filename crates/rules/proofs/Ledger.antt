-- Laws of a ledger: positions of ids, and what an append changes.
use Prim.Native.Nat.{ℕ, suc, ◌+◌, ◌≤◌, ◌<◌}
use mathlib.Core.Path.{◌≡◌, refl, sym, ap, ◌∙◌, subst}
use mathlib.Core.Bool.{true, cond}
use mathlib.Core.List.{List, [], ◌∷◌, ◌++◌}
use native.Mathlib.Omega.{arith}
use lib.ListN.{length, get_or-eq_default}
use Rattle.rules.specs.State.{Id, same_id, StoredMessage}
use Rattle.rules.specs.Ledger.{position_of, no_message, message_at, batch_size_of, at_or_after, first_at_or_after, seek_position}
use Rattle.rules.proofs.Table.{by_test}
use Rattle.rules.proofs.State.{decides_ids}

-- a position is the length at most
pub position_le : (i : Id) (l : List StoredMessage) → position_of i l ≤ length l
unfolding position_of
position_le i [] = omega arith
position_le i (m ∷ l) = let h = position_le i l in by_test (same_id i m.id) (λ t. rw t (omega arith)) (λ t. rw t (omega arith))

-- an id of the ledger keeps its position when the ledger grows
pub position_kept : (i : Id) (l r : List StoredMessage) → position_of i l < length l → position_of i (l ++ r) ≡ position_of i l
unfolding position_of
position_kept i [] r h = absurd (omega arith)
position_kept i (m ∷ l) r h =
    by_test (same_id i m.id) (λ t. rw t)
    (λ t. rw t (let g : suc (position_of i l) < suc (length l) = rw t at h in ap suc (position_kept i l r (omega arith))))

-- an id that is not in the ledger comes after it
pub position_past : (i : Id) (l r : List StoredMessage) → length l ≤ position_of i l → position_of i (l ++ r) ≡ length l + position_of i r
unfolding position_of
position_past i [] r h = omega arith
position_past i (m ∷ l) r h =
    by_test (same_id i m.id)
    (λ t. absurd (let g : suc (length l) ≤ 0 = rw t at h in omega arith))
    (λ t. rw t (let g : suc (length l) ≤ suc (position_of i l) = rw t at h in let e : position_of i (l ++ r) ≡ length l + position_of i r = position_past i l r (omega arith) in omega arith))

-- the message at an id's position has that id
pub position_id : (i : Id) (l : List StoredMessage) → position_of i l < length l → same_id i (message_at l (position_of i l)).id ≡ true
unfolding position_of message_at
position_id i [] h = absurd (omega arith)
position_id i (m ∷ l) h =
    by_test (same_id i m.id) (λ t. rw t t)
    (λ t. rw t (let g : suc (position_of i l) < suc (length l) = rw t at h in position_id i l (omega arith)))

-- an id that is not in the ledger has no batch
pub outside_batch : (i : Id) (l : List StoredMessage) → length l ≤ position_of i l → batch_size_of i l ≡ 0
unfolding batch_size_of message_at
outside_batch i l h = ap (λ (m : StoredMessage). m.batch_size) (get_or-eq_default l no_message h)

-- ids of the ledger at one position are one
pub position_same : (i j : Id) (l : List StoredMessage) → position_of i l < length l → position_of i l ≡ position_of j l → i ≡ j
position_same i j l h e =
    let k : Id = (message_at l (position_of j l)).id in
    decides_ids.equal i k (subst (λ (n : ℕ). same_id i (message_at l n).id ≡ true) e (position_id i l h))
    ∙ sym (decides_ids.equal j k (position_id j l (omega arith)))

-- ---- the position that a seek finds

-- counted from one more, it is one more
first_suc : (i : Id) (k : ℕ) (l : List StoredMessage) → first_at_or_after i (suc k) l ≡ suc (first_at_or_after i k l)
unfolding first_at_or_after
first_suc i k [] = refl
first_suc i k (m ∷ l) = by_test (at_or_after m.id i) (λ t. rw t) (λ t. rw t (first_suc i (suc k) l))

-- entry by entry
pub seek_position_cons : (i : Id) (m : StoredMessage) (l : List StoredMessage)
    → seek_position i (m ∷ l) ≡ cond (at_or_after m.id i) 0 (suc (seek_position i l))
unfolding seek_position first_at_or_after
seek_position_cons i m l = rw (first_suc i 0 l)

-- it is the length at most
pub seek_position_le : (i : Id) (l : List StoredMessage) → seek_position i l ≤ length l
unfolding seek_position first_at_or_after
seek_position_le i [] = omega arith
seek_position_le i (m ∷ l) =
    let h = seek_position_le i l in
    rw (seek_position_cons i m l) (by_test (at_or_after m.id i) (λ t. rw t (omega arith)) (λ t. rw t (omega arith)))
