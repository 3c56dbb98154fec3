-- How many ids stand outside the ledger after an ack: as many as before, and the groups that count. So there are never fewer,
-- and the code may count them before it writes.
use mathlib.Core.Path.{◌≡◌, refl, ◌∙◌, subst}
use mathlib.Core.Bool.{Bool, true, false, cond}
use mathlib.Core.List.{List, [], ◌∷◌}
use Prim.Native.Nat.{ℕ, suc, ◌+◌, ◌≤◌}
use native.Mathlib.Omega.{arith}
use lib.Dec.{ltb, leb-suc-suc}
use lib.ListN.{length}
use borrow.Author.Tests.{lt-ltb}
use Rattle.rules.specs.Table.{any}
use Rattle.rules.specs.State.{Id, same_id, StoredMessage, Dispatcher}
use Rattle.rules.specs.Ledger.{position_of, holds_id, insert_id}
use Rattle.rules.specs.Groups.{Group}
use Rattle.rules.specs.Dispatcher.{with_marks, is_outside, ack_id}
use Rattle.rules.specs.Commands.{ack_groups}
use Rattle.rules.proofs.Table.{by_test, turned_round}
use Rattle.rules.proofs.State.{decides_ids}
use Rattle.rules.proofs.Ids.{any_insert_id, length_insert_id}
use Rattle.store.specs.Find.{slot}
use Rattle.dispatcher.specs.Outside.{by_itself}
use Rattle.ack.specs.NewIds.{named, new_bit, new_count}

-- an id is among some exactly if its slot lies in them
pub slot_any : (i : Id) (l : List Id) → ltb (slot by_itself i l) (length l) ≡ any (same_id i) l
unfolding slot any
slot_any i [] = refl
slot_any i (a ∷ l) =
    by_test (same_id i a) (λ t. rw t (lt-ltb 0 (suc (length l)) (omega arith)))
    (λ t. rw t (leb-suc-suc (suc (slot by_itself i l)) (length l) ∙ slot_any i l))

-- the outside ids after an ack of one id
unfoldable pub ids_after : List StoredMessage → List Id → Id → List Id
ids_after ledger ids i = cond (holds_id i ledger) ids (cond (any (same_id i) ids) ids (insert_id i ids))

-- are those
pub outside_of : (ledger : List StoredMessage) (d : Dispatcher) (i : Id) (incoming : List ℕ)
    → (ack_id ledger d i incoming).outside ≡ ids_after ledger d.outside i
unfolding ack_id with_marks is_outside ids_after holds_id
outside_of ledger d i incoming = by_test (ltb (position_of i ledger) (length ledger)) (λ t. rw t) (λ t. rw t)

-- 1 if an id counts where it is named later or not
unfoldable bit : List StoredMessage → List Id → Id → Bool → ℕ
bit ledger ids i later = cond (holds_id i ledger) 0 (cond (any (same_id i) ids) 0 (cond later 0 1))

module _ (ledger : List StoredMessage) (ids : List Id) (i : Id) (h : holds_id i ledger ≡ false) (u : any (same_id i) ids ≡ false) where
  -- an id that counts and is the new one
  bit_same : (later : Bool) → (bit ledger (insert_id i ids) i later ≡ 0) × (bit ledger ids i later ≡ cond later 0 1)
  unfolding bit
  bit_same later = (rw (h, any_insert_id (same_id i) i ids, decides_ids.self i), rw (h, u))

  -- any other id counts as before
  bit_other : (j : Id) (later : Bool) → same_id i j ≡ false → bit ledger (insert_id i ids) j later ≡ bit ledger ids j later
  unfolding bit
  bit_other j later e =
      by_test (any (same_id j) ids)
      (λ t. rw (any_insert_id (same_id j) i ids, t, turned_round decides_ids i j e))
      (λ t. rw (any_insert_id (same_id j) i ids, t, turned_round decides_ids i j e))

  -- once a new id is outside, the group that names it last no longer counts
  one_less : (gs : List Group) → new_count ledger (insert_id i ids) gs + cond (named i gs) 1 0 ≡ new_count ledger ids gs
  unfolding new_count new_bit named any bit
  one_less [] = refl
  one_less (g ∷ gs) =
      let r = one_less gs in
      by_test (same_id i g.id)
      (λ t. let e : i ≡ g.id = decides_ids.equal i g.id t in
      let b : (bit ledger (insert_id i ids) g.id (named g.id gs) ≡ 0) × (bit ledger ids g.id (named g.id gs) ≡ cond (named i gs) 0 1) =
      subst (λ (j : Id). (bit ledger (insert_id i ids) j (named j gs) ≡ 0) × (bit ledger ids j (named j gs) ≡ cond (named i gs) 0 1)) e (bit_same (named i gs)) in
      rw t (rw (b.0, b.1) (by_test (named i gs) (λ n. let r' = rw n at r in rw n (omega arith)) (λ n. let r' = rw n at r in rw n (omega arith)))))
      (λ t. let b : bit ledger (insert_id i ids) g.id (named g.id gs) ≡ bit ledger ids g.id (named g.id gs) = bit_other g.id (named g.id gs) t in
      rw (t, b) (omega arith))

-- what one group adds
step : (ledger : List StoredMessage) (ids : List Id) (g : Group) (gs : List Group)
    → length (ids_after ledger ids g.id) + new_count ledger (ids_after ledger ids g.id) gs ≡ length ids + (new_bit ledger ids g gs + new_count ledger ids gs)
unfolding ids_after new_bit
step ledger ids g gs =
    by_test (holds_id g.id ledger) (λ t. rw t (omega arith))
    (λ t. by_test (any (same_id g.id) ids) (λ u. rw (t, u) (omega arith))
    (λ u. let l = length_insert_id g.id ids in
    let o = one_less ledger ids g.id t u gs in
    rw (t, u) (by_test (named g.id gs) (λ n. let o' = rw n at o in rw n (omega arith)) (λ n. let o' = rw n at o in rw n (omega arith)))))

-- the outside ids after an ack of groups
pub count_after : (ledger : List StoredMessage) (d : Dispatcher) (gs : List Group)
    → length (ack_groups ledger d gs).outside ≡ length d.outside + new_count ledger d.outside gs
unfolding ack_groups new_count
count_after ledger d [] = omega arith
count_after ledger d (g ∷ gs) =
    count_after ledger (ack_id ledger d g.id g.words) gs
    ∙ rw (outside_of ledger d g.id g.words) (step ledger d.outside g gs)

-- a group counts once or not at all
pub bit_few : (ledger : List StoredMessage) (ids : List Id) (g : Group) (gs : List Group) → new_bit ledger ids g gs ≤ 1
unfolding new_bit
bit_few ledger ids g gs =
    by_test (holds_id g.id ledger) (λ t. rw t (omega arith))
    (λ t. by_test (any (same_id g.id) ids) (λ u. rw (t, u) (omega arith))
    (λ u. by_test (named g.id gs) (λ n. rw (t, u, n) (omega arith)) (λ n. rw (t, u, n) (omega arith))))

-- so no more count than there are
pub count_few : (ledger : List StoredMessage) (ids : List Id) (gs : List Group) → new_count ledger ids gs ≤ length gs
unfolding new_count
count_few ledger ids [] = omega arith
count_few ledger ids (g ∷ gs) = let b = bit_few ledger ids g gs in let r = count_few ledger ids gs in omega arith

-- ---- one group, by the code's tests

module _ (ledger : List StoredMessage) (d : Dispatcher) (g : Group) (gs : List Group) where
  -- its id is in the ledger
  pub bit_held : holds_id g.id ledger ≡ true → 0 ≡ new_bit ledger d.outside g gs
  unfolding new_bit
  bit_held t = rw t

  -- outside it already
  pub bit_known : holds_id g.id ledger ≡ false → is_outside g.id d ≡ true → 0 ≡ new_bit ledger d.outside g gs
  unfolding new_bit is_outside
  bit_known t u = rw (t, u)

  -- named later
  pub bit_later : holds_id g.id ledger ≡ false → is_outside g.id d ≡ false → named g.id gs ≡ true → 0 ≡ new_bit ledger d.outside g gs
  unfolding new_bit is_outside
  bit_later t u n = rw (t, u, n)

  -- or it counts
  pub bit_counts : holds_id g.id ledger ≡ false → is_outside g.id d ≡ false → named g.id gs ≡ false → 1 ≡ new_bit ledger d.outside g gs
  unfolding new_bit is_outside
  bit_counts t u n = rw (t, u, n)

-- ---- along the groups

module _ (gs : List Group) (g : Group) (rest : List Group) (k : gs ≡ g ∷ rest) where
  -- the first has an id
  pub named_here : (i : Id) → same_id i g.id ≡ true → true ≡ named i gs
  unfolding named any
  named_here i t = rw (k, t)

  -- or only later ones may have it
  pub named_next : (i : Id) → same_id i g.id ≡ false → named i gs ≡ named i rest
  unfolding named any
  named_next i t = rw (k, t)

  -- the first, and the later ones
  pub count_first : (ledger : List StoredMessage) (ids : List Id) → new_count ledger ids gs ≡ new_bit ledger ids g rest + new_count ledger ids rest
  unfolding new_count
  count_first ledger ids = rw k

-- at the end no group is left
pub named_nothing : (gs : List Group) (i : Id) → gs ≡ [] → false ≡ named i gs
unfolding named any
named_nothing gs i h = rw h

pub count_nothing : (gs : List Group) (ledger : List StoredMessage) (ids : List Id) → gs ≡ [] → new_count ledger ids gs ≡ 0
unfolding new_count
count_nothing gs ledger ids h = rw h
