-- `check_topics::messages_ascend` meets its contract: a size that is too great refuses, as does an id that is not above the one before
-- it, and past the tests the id is above that one, and is kept.
use mathlib.Core.Path.{◌≡◌, refl, sym, ap, ◌∙◌}
use mathlib.Core.Bool.{Bool, true, false, ◌&&◌, and-false}
use mathlib.Core.List.{List}
use Prim.Native.Nat.{ℕ, ◌+◌, ◌*◌, ◌-◌, ◌≤◌, ◌<◌}
use native.Mathlib.Omega.{arith}
use lib.Dec.{leb}
use lib.ListN.{get_or}
use borrow.Author.Tests.{lt-leb, le-leb, lt-ltb, le-ltb}
use Rattle.check_rows.specs.Below.{each_below}
use Rattle.check_rows.specs.Rows.{row, row_second, pair_above, two_ascends, twos_ascend}
use Rattle.check_topics.specs.Orders.{batch_right, messages_ascend}
use Rattle.check_rows.proofs.Below.{each_turn, each_stop, each_end}
use Rattle.store.proofs.Tests.{fails, passes}
use Rattle.check_rows.proofs.RowOrder.{above_first, above_second, ascend_turn, ascend_next, row_none, second_none}
use Rattle.check_topics.proofs.messages_ascend.Goals as goal
use Rattle.check_topics.proofs.messages_ascend.Goals.{then-x-ledger+else-y-entry, else-x-ledger+else-x-ledger-2}

-- the first size
first_size : (ws : List ℕ) (first : ℕ) → batch_right ws first 0 ≡ leb (get_or ws (first + 3) 0) 256
first_size ws first = let e : first + 0 * 4 + 3 ≡ first + 3 = omega arith in ap (λ (k : ℕ). leb (get_or ws k 0) 256) e

-- an id that is not above the one before it
refused : (ws : List ℕ) (first n m ledger entry : ℕ) → 1 ≤ m → m < n → ledger ≡ row ws first 4 (m - 1) → entry ≡ row_second ws first 4 (m - 1)
    → pair_above (row ws first 4 m) (row_second ws first 4 m) ledger entry ≡ false → false ≡ messages_ascend ws first n
unfolding messages_ascend twos_ascend
refused ws first n m ledger entry h k a b f =
    let no : each_below (two_ascends ws first 4) (n - 1) ≡ false =
    sym (each_stop (two_ascends ws first 4) (n - 1) (m - 1) (omega arith) (ascend_turn ws first 4 m ledger entry h a b f)) in
    sym (ap (λ (t : Bool). each_below (batch_right ws first) n && t) no ∙ and-false (each_below (batch_right ws first) n))

pub returns-then-store-first-gt-MOST_BATCH : goal.returns-then-store-first-gt-MOST_BATCH
unfolding messages_ascend
returns-then-store-first-gt-MOST_BATCH c =
    let a = c.args in
    fails _ (sym (each_stop (batch_right a.store.now a.first) a.n 0 c.requires.0 (first_size a.store.now a.first ∙ lt-leb _ 256 c.if-store-first-gt-MOST_BATCH.true)))

pub loop-m-init : goal.loop-m-init
unfolding each_below
loop-m-init c =
    let x = c.args in (
      row_none x.store.now x.first 4,
      second_none x.store.now x.first 4,
      first_size x.store.now x.first ∙ le-leb _ 256 c.if-store-first-gt-MOST_BATCH.false,
      refl,
    )

pub returns-then-store-at-gt-MOST_BATCH : goal.returns-then-store-at-gt-MOST_BATCH
unfolding messages_ascend
returns-then-store-at-gt-MOST_BATCH c =
    let a = c.args in
    fails _ (sym (each_stop (batch_right a.store.now a.first) a.n c.loop-m.m c.loop-m-test.true (lt-leb _ 256 c.if-store-at-gt-MOST_BATCH.true)))

pub returns-then-y-entry : goal.returns-then-y-entry
returns-then-y-entry c =
    let x = c.args in
    let l = c.loop-m in
    refused x.store.now x.first x.n l.m l.ledger l.entry l.auto.m c.loop-m-test.true l.invariant.0 l.invariant.1
    (sym (above_second _ _ _ _ c.if-x-ledger.true) ∙ le-ltb _ _ c.if-y-entry.true)

pub returns-then-x-ledger-2 : goal.returns-then-x-ledger-2
returns-then-x-ledger-2 c =
    let x = c.args in
    let l = c.loop-m in
    let h = c.if-x-ledger-2.true in
    refused x.store.now x.first x.n l.m l.ledger l.entry l.auto.m c.loop-m-test.true l.invariant.0 l.invariant.1
    (sym (above_first _ _ _ _ c.if-x-ledger.false) ∙ le-ltb l.ledger (row x.store.now x.first 4 l.m) (omega arith))

pub loop-m-preserved : goal.loop-m-preserved
loop-m-preserved c =
    let x = c.args in
    let l = c.loop-m in
    let e : l.m + 1 - 1 ≡ l.m = omega arith in
    let r : ℕ = row x.store.now x.first 4 l.m in
    let above : (pair_above r (row_second x.store.now x.first 4 l.m) l.ledger l.entry ≡ true) × (c.if-x-ledger.ledger ≡ r) =
    elim c.if-x-ledger.branch [
      | then-x-ledger+else-y-entry w ↦ (sym (above_second _ _ _ _ w.if-x-ledger.true) ∙ lt-ltb _ _ w.if-y-entry.false, w.ledger-is ∙ sym w.if-x-ledger.true)
      | else-x-ledger+else-x-ledger-2 w ↦
          (sym (above_first _ _ _ _ w.if-x-ledger.false) ∙ lt-ltb l.ledger r (omega (arith, w.if-x-ledger.false, w.if-x-ledger-2.false)), w.ledger-is)
    ] in (
      rw e above.1,
      rw e,
      each_turn (batch_right x.store.now x.first) l.m l.invariant.2 (le-leb _ 256 c.if-store-at-gt-MOST_BATCH.false),
      rw e
          (ascend_next x.store.now x.first 4 l.m l.auto.m l.invariant.3
          (ascend_turn x.store.now x.first 4 l.m l.ledger l.entry l.auto.m l.invariant.0 l.invariant.1 above.0)),
    )

pub returns : goal.returns
unfolding messages_ascend twos_ascend
returns c =
    let x = c.args in
    let l = c.loop-m in
    let k = c.loop-m-test.false in
    passes (sym (each_end (batch_right x.store.now x.first) x.n l.m (c.loop-m.auto.m-end c.requires.0) k l.invariant.2))
    (each_end (two_ascends x.store.now x.first 4) (x.n - 1) (l.m - 1) (omega arith) (omega arith) l.invariant.3)
