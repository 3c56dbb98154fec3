-- `check_state::valid_dispatchers::dispatchers_valid` meets its contract: the pairs are distinct, and then each dispatcher is valid.
use mathlib.Core.Path.{◌≡◌, sym, ap₂, ◌∙◌}
use native.Mathlib.Omega.{arith}
use mathlib.Core.Bool.{Bool}
use mathlib.Core.List.{List}
use Prim.Native.Nat.{ℕ, ◌+◌, ◌*◌, ◌≤◌}
use lib.ListN.{length, get_or}
use Rattle.layout.specs.Layout.{decode}
use Rattle.layout.specs.Canon.{CanonStore}
use Rattle.layout.specs.Offsets.{dispatcher_at}
use Rattle.layout.proofs.Gets.{read_dispatcher_count}
use Rattle.check_rows.specs.Rows.{twos_distinct}
use Rattle.store.proofs.Tests.{fails, passes, answered_no, answered_yes}
use Rattle.check_state.proofs.Pairs.{table_room, pairs_reads}
use Rattle.check_state.proofs.valid_dispatchers.dispatchers_valid.Goals as goal

module _ {e : ℕ} {ws : List ℕ} (canon : CanonStore e ws) {n first : ℕ} (count : n ≡ get_or ws (2354 + 32 * e) 0) (place : first ≡ dispatcher_at e 0) where
  -- there are as many dispatchers as the count says
  counted : n ≡ length (decode ws).dispatchers
  counted = count ∙ read_dispatcher_count canon

  -- they begin where the first does
  start : first ≡ 2355 + 32 * e
  start = omega (arith, place)

  -- they stand in the store
  inside : first + n * (176 + 9 * e) ≤ length ws
  inside = rw (start, counted) (table_room canon)

  -- what was asked of their pairs
  asked : {r : Bool} → r ≡ twos_distinct ws first (176 + 9 * e) n
      → r ≡ twos_distinct ws (2355 + 32 * e) (176 + 9 * e) (length (decode ws).dispatchers)
  asked q = q ∙ ap₂ (λ (f m : ℕ). twos_distinct ws f (176 + 9 * e) m) start counted

pub invariant_of-rows : goal.invariant_of-rows
invariant_of-rows c = record { some = omega arith; inside = inside c.requires c.word.ensures c.dispatcher_at.ensures }

pub returns-then-pairs_distinct : goal.returns-then-pairs_distinct
returns-then-pairs_distinct c =
    passes
    (sym (pairs_reads c.requires) ∙ answered_yes (asked c.requires c.word.ensures c.dispatcher_at.ensures c.pairs_distinct.ensures) c.if-pairs_distinct.true)
    c.each_valid.ensures

pub returns-else-pairs_distinct : goal.returns-else-pairs_distinct
returns-else-pairs_distinct c =
    c.if-pairs_distinct.false
    ∙ fails _
    (sym (pairs_reads c.requires) ∙ answered_no (asked c.requires c.word.ensures c.dispatcher_at.ensures c.pairs_distinct.ensures) c.if-pairs_distinct.false)
