-- `check_state::valid_consumers::nacked_valid` meets its contract: each position is tested where it stands.
use Rattle.std.proofs.Common.{rules, tests}
use mathlib.Core.Path.{◌≡◌, sym, ap, ◌∙◌}
use mathlib.Core.List.{List}
use Prim.Native.Nat.{ℕ, ◌+◌, ◌*◌, ◌≤◌}
use native.Mathlib.Omega.{arith}
use lib.Dec.{ltb}
use lib.ListN.{length, get_or}
use Rattle.layout.specs.Fields.{consumer_now}
use Rattle.layout.specs.Offsets.{consumer_at}
use Rattle.layout.specs.Placed.{ConsumerIn}
use Rattle.layout.proofs.Gets.{read_nacked_count, read_nacked}
use Rattle.check_rows.specs.Below.{each_below}
use Rattle.check_rows.specs.Rows.{row}
use Rattle.check_rows.proofs.RowLists.{by_place}
use Rattle.check_rows.proofs.Below.{each_same}
use Rattle.check_rows.proofs.Elements.{all_each}
use Rattle.check_rows.proofs.Ranges.{all_below}
use Rattle.check_state.specs.ValidConsumers.{nacked_valid}
use Rattle.check_state.proofs.valid_consumers.nacked_valid.Goals as goal

module _ {e : ℕ} {ws : List ℕ} {i : ℕ} (h : ConsumerIn e ws i) {at count : ℕ} (place : at ≡ consumer_at i) (read : count ≡ get_or ws (at + 6) 0) where
  -- there are as many as the count says
  counted : count ≡ length (consumer_now ws i).nacked
  counted = read ∙ rw place (read_nacked_count h.canon i h.there)

  -- they lie in the store
  inside : at + 7 + count * 1 ≤ length ws
  inside =
      let c = counted in
      let f = h.nacked_fit in
      let k = h.inside in
      let l = h.canon.long in
      omega arith

  -- the words tested are the positions
  tested : (n : ℕ) → each_below (λ j. ltb (row ws (at + 7) 1 j) n) count ≡ nacked_valid n (consumer_now ws i)
  unfolding nacked_valid
  tested n =
      let c = counted in
      ap (each_below (λ j. ltb (row ws (at + 7) 1 j) n)) c
      ∙ each_same (λ j. ltb (row ws (at + 7) 1 j) n) (λ j. ltb (get_or (consumer_now ws i).nacked j 0) n) (length (consumer_now ws i).nacked)
      (λ j l. ap (λ (p : ℕ). ltb p n) (by_place ws (omega (arith, place)) (read_nacked h.canon i h.there j l)))
      ∙ sym (all_each (λ (k : ℕ). ltb k n) (consumer_now ws i).nacked 0)

pub invariant_of-nacked : goal.invariant_of-nacked
invariant_of-nacked c = record { some = omega arith; inside = inside c.requires c.consumer_at-at.ensures c.word.ensures }

pub returns : goal.returns
returns c =
    let a = c.args in
    all_below (λ j. ltb (row a.store.now (c.consumer_at-at.result + 7) 1 j) a.n) c.word.result _ _ c.all.result (λ x t p k. search (rules, tests)) c.all.ensures.ran
    ∙ tested c.requires c.consumer_at-at.ensures c.word.ensures a.n
