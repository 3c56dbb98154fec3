-- Where a seek by id goes in a ledger: to the first entry at or after the id, else to the end, and nowhere else.
use Prim.Native.Nat.{ℕ, zero, suc, ◌<◌}
use mathlib.Core.Path.{◌≡◌, ap}
use mathlib.Core.Bool.{false}
use mathlib.Core.List.{List, [], ◌∷◌}
use native.Mathlib.Omega.{arith}
use lib.ListN.{get_or}
use Rattle.rules.specs.State.{Id, StoredMessage}
use Rattle.rules.specs.Ledger.{no_message, message_at, at_or_after, first_at_or_after, seek_position}
use Rattle.rules.specs.Readers.{GoesTo}
use Rattle.rules.proofs.Table.{by_test}
use Rattle.rules.proofs.Ledger.{seek_position_cons}

-- past an entry that is not at or after the id
goes_on : (x : Id) (m : StoredMessage) (l : List StoredMessage) (k : ℕ) → at_or_after m.id x ≡ false → GoesTo x l k → GoesTo x (m ∷ l) (suc k)
unfolding message_at
goes_on x m l k t g = record { not_past = omega (arith, g.not_past); none_before = before; there = λ h. g.there (omega arith) }
  where
    before : (j : ℕ) → j < suc k → at_or_after (get_or (m ∷ l) j no_message).id x ≡ false
    before zero h = t
    before (suc j) h = g.none_before j (omega arith)

-- and back
goes_back : (x : Id) (m : StoredMessage) (l : List StoredMessage) (k : ℕ) → GoesTo x (m ∷ l) (suc k) → GoesTo x l k
unfolding message_at
goes_back x m l k g =
    record { not_past = omega (arith, g.not_past); none_before = λ j h. g.none_before (suc j) (omega arith); there = λ h. g.there (omega arith) }

-- the position that a seek finds is such a place
pub goes : (x : Id) (l : List StoredMessage) → GoesTo x l (seek_position x l)
unfolding seek_position first_at_or_after message_at
goes x [] = record { not_past = omega arith; none_before = λ j h. absurd (omega arith); there = λ h. absurd (omega arith) }
goes x (m ∷ l) =
    rw (seek_position_cons x m l)
    (by_test (at_or_after m.id x)
    (λ t. rw t (record { not_past = omega arith; none_before = λ j h. absurd (omega arith); there = λ h. t }))
    (λ t. rw t (goes_on x m l (seek_position x l) t (goes x l))))

-- and there is no other
pub alone : (x : Id) (l : List StoredMessage) (k : ℕ) → GoesTo x l k → k ≡ seek_position x l
unfolding seek_position first_at_or_after message_at
alone x [] k g = omega (arith, g.not_past)
alone x (m ∷ l) zero g = rw (seek_position_cons x m l, g.there (omega arith))
alone x (m ∷ l) (suc k) g =
    rw (seek_position_cons x m l, g.none_before 0 (omega arith)) (ap suc (alone x l k (goes_back x m l k g)))
