-- `wire_fields::varint::varint_of_any_size` meets its contract, by the lemmas of `Varints` for each way out.
use Prim.Native.Nat.{◌-◌, ◌<◌}
use mathlib.Core.Path.{refl}
use native.Mathlib.Omega.{arith}
use Rattle.wire_fields.proofs.Varints.{partway_start, cut_off, goes_on, ends, moved, sum_fits}
use Rattle.wire_fields.proofs.varint.varint_of_any_size.Goals as goal

pub loop-size-init : goal.loop-size-init
loop-size-init c = partway_start _ _ c.requires

pub returns-then-m-at : goal.returns-then-m-at
returns-then-m-at c = cut_off c.loop-size.invariant c.if-m-at.true

pub overflow_add-result : goal.overflow_add-result
overflow_add-result c =
    let l = c.loop-size in
    record { fits = sum_fits l.value l.size c.from-b.result l.invariant.small (omega arith) c.if-b-lt-MORE.true }

pub returns-then-b-lt-MORE : goal.returns-then-b-lt-MORE
returns-then-b-lt-MORE c =
    let l = c.loop-size in
    let b = c.from-b.result in
    let few : l.size < 9 = omega arith in
    ends l.invariant b c.from-b.ensures (omega arith) few c.if-b-lt-MORE.true _ (moved l.size b few c.if-b-lt-MORE.true) _ refl

pub overflow_add-value : goal.overflow_add-value
overflow_add-value c =
    let l = c.loop-size in
    record { fits = sum_fits l.value l.size (c.from-b.result - 128) l.invariant.small (omega arith) (omega arith) }

pub loop-size-preserved : goal.loop-size-preserved
loop-size-preserved c =
    let l = c.loop-size in
    let b = c.from-b.result in
    let few : l.size < 9 = omega arith in
    rw (moved l.size (b - 128) few (omega arith))
    (goes_on l.invariant b c.from-b.ensures (omega arith) few (omega arith) (omega arith))
