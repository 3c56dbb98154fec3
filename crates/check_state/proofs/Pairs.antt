-- The table of dispatchers as the check of a store goes through it: its pairs, and stamps that start at 0.
use mathlib.Core.Path.{◌≡◌, refl, sym, ap, ◌∙◌, subst}
use mathlib.Core.List.{List, map}
use Prim.Native.Nat.{ℕ, ◌+◌, ◌*◌, ◌≤◌, ◌<◌}
use native.Mathlib.Omega.{arith}
use lib.ListN.{length, get_or, replicate, length-map, get_or-map}
use Rattle.rules.specs.Table.{distinct}
use Rattle.rules.specs.State.{Pair, same_pair, Dispatcher}
use Rattle.rules.proofs.State.{decides_pairs}
use Rattle.layout.specs.Layout.{decode}
use Rattle.layout.specs.Canon.{CanonStore}
use Rattle.layout.specs.Fields.{zero_pair, zero_dispatcher}
use Rattle.layout.proofs.GetsDispatcher.{read_dispatcher_topic, read_dispatcher_subscription}
use Rattle.check_rows.specs.Rows.{row, row_second, twos_distinct}
use Rattle.check_state.specs.Stamps.{Under}
use Rattle.store.proofs.Rooms.{room_le}
use Rattle.check_rows.proofs.Zeros.{zeros}
use Rattle.check_rows.proofs.RowLists.{twos_list}

-- so they are below 1
pub zeros_under : (n : ℕ) → Under (replicate n 0) 1
zeros_under n p = omega (arith, zeros n p)

module _ {e : ℕ} {ws : List ℕ} (h : CanonStore e ws) where
  -- the pairs
  abbrev pairs : List Pair
  pairs = map (λ (d : Dispatcher). d.pair) (decode ws).dispatchers

  -- the rows of the table lie in the store
  pub table_room : 2355 + 32 * e + length (decode ws).dispatchers * (176 + 9 * e) ≤ length ws
  table_room =
      let r = room_le (length (decode ws).dispatchers) 8 (176 + 9 * e) h.shaped.dispatchers_fit in let l = h.long in omega arith

  -- each row starts with its pair
  pair_spell : (j : ℕ) → j < length pairs
      → (row ws (2355 + 32 * e) (176 + 9 * e) j ≡ (get_or pairs j zero_pair).topic) × (row_second ws (2355 + 32 * e) (176 + 9 * e) j ≡ (get_or pairs j zero_pair).subscription)
  pair_spell j l =
      let m : j < length (decode ws).dispatchers = rw (length-map (decode ws).dispatchers (λ (d : Dispatcher). d.pair)) at l in
      let s = sym (get_or-map (λ (d : Dispatcher). d.pair) (decode ws).dispatchers j zero_dispatcher) in
      (read_dispatcher_topic h j m ∙ ap (λ (p : Pair). p.topic) s, read_dispatcher_subscription h j m ∙ ap (λ (p : Pair). p.subscription) s)

  -- so no two rows start alike exactly where the pairs are distinct
  pub pairs_reads : twos_distinct ws (2355 + 32 * e) (176 + 9 * e) (length (decode ws).dispatchers) ≡ distinct same_pair pairs
  unfolding same_pair
  pairs_reads =
      subst (λ (n : ℕ). twos_distinct ws (2355 + 32 * e) (176 + 9 * e) n ≡ distinct same_pair pairs) (length-map (decode ws).dispatchers (λ (d : Dispatcher). d.pair))
      (twos_list same_pair decides_pairs (λ p. p.topic) (λ p. p.subscription) (λ a b. refl) ws (2355 + 32 * e) (176 + 9 * e) pairs zero_pair pair_spell)
