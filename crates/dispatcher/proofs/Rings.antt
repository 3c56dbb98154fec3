-- The ring of a pair, by the slot of its dispatcher; whether an id is in a ring, by its slot.
use mathlib.Core.Path.{◌≡◌, refl, sym}
use mathlib.Core.Bool.{true, false}
use mathlib.Core.List.{List, [], ◌∷◌}
use Prim.Native.Nat.{ℕ, suc, ◌≤◌, ◌<◌}
use native.Mathlib.Nat.{le_of_suc-le-suc, not-suc-le-zero}
use lib.Dec.{eqb, ltb}
use lib.ListN.{length}
use borrow.Author.Tests.{ltb-true, ltb-false}
use Rattle.std.specs.Prelude.{is_some}
use Rattle.rules.specs.Table.{or_else, any, member}
use Rattle.rules.proofs.Table.{by_test}
use Rattle.rules.specs.State.{Pair, State, by_pair, new_dispatcher, dispatcher_of, dispatcher}
use Rattle.layout.specs.Fields.{zero_dispatcher, dispatcher_nth}
use Rattle.store.specs.Find.{slot}
use Rattle.store.specs.Found.{found}
use Rattle.store.proofs.Finding.{slot_found, slot_none}
use Rattle.dispatcher.specs.Held.{by_value}

-- the dispatcher of a pair that has one
pub dispatcher_is : (s : State) (p : Pair) → slot by_pair p s.dispatchers < length s.dispatchers
    → dispatcher s p ≡ dispatcher_nth s (slot by_pair p s.dispatchers)
unfolding dispatcher dispatcher_of or_else
dispatcher_is s p h = rw (slot_found by_pair p s.dispatchers zero_dispatcher h)

-- the ring of a pair that has none is empty
pub ring_none : (s : State) (p : Pair) → length s.dispatchers ≤ slot by_pair p s.dispatchers → (dispatcher s p).attached ≡ []
unfolding dispatcher dispatcher_of or_else new_dispatcher
ring_none s p h = rw (slot_none by_pair p s.dispatchers h)

-- an id with a slot is in the ring
pub in_ring : (id : ℕ) (l : List ℕ) → slot by_value id l < length l → member id l ≡ true
unfolding slot member any
in_ring id [] h = absurd (not-suc-le-zero h)
in_ring id (a ∷ l) h =
    by_test (eqb id a) (λ t. rw t)
    (λ t. let h' : suc (slot by_value id l) < suc (length l) = rw t at h in rw t (in_ring id l (le_of_suc-le-suc h')))

-- an id with none is not
pub out_of_ring : (id : ℕ) (l : List ℕ) → length l ≤ slot by_value id l → member id l ≡ false
unfolding slot member any
out_of_ring id [] h = refl
out_of_ring id (a ∷ l) h =
    by_test (eqb id a) (λ t. let h' : suc (length l) ≤ 0 = rw t at h in absurd (not-suc-le-zero h'))
    (λ t. let h' : suc (length l) ≤ suc (slot by_value id l) = rw t at h in rw t (out_of_ring id l (le_of_suc-le-suc h')))

-- it is in the ring exactly where it is found
pub member_found : (id : ℕ) (l : List ℕ) → is_some (found by_value id l) ≡ member id l
unfolding found
member_found id l =
    by_test (ltb (slot by_value id l) (length l))
    (λ t. rw t (sym (in_ring id l (ltb-true (slot by_value id l) (length l) t))))
    (λ t. rw t (sym (out_of_ring id l (ltb-false (slot by_value id l) (length l) t))))
