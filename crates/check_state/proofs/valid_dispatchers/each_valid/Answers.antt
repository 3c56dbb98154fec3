-- `check_state::valid_dispatchers::each_valid` meets its contract: one dispatcher after the other, each with the next stamp.
use mathlib.Core.Path.{◌≡◌, refl, sym, ◌∙◌}
use mathlib.Core.List.{List}
use Prim.Native.Nat.{ℕ, ◌+◌, ◌*◌, ◌≤◌, ◌<◌}
use native.Mathlib.Omega.{arith}
use lib.ListN.{length, get_or}
use Rattle.rules.specs.Valid.{valid_dispatcher}
use Rattle.layout.specs.Layout.{decode}
use Rattle.layout.specs.Canon.{CanonStore}
use Rattle.layout.specs.Fields.{zero_dispatcher, dispatcher_nth}
use Rattle.layout.proofs.Gets.{read_dispatcher_count}
use Rattle.layout.proofs.Placed.{dispatcher_in}
use Rattle.check_rows.specs.Below.{each_below}
use Rattle.store.proofs.Tests.{answered_no, answered_yes}
use Rattle.check_rows.proofs.Below.{each_turn, each_stop, each_end}
use Rattle.check_rows.proofs.Elements.{all_each}
use Rattle.check_state.proofs.Pairs.{zeros_under}
use Rattle.check_state.proofs.valid_dispatchers.each_valid.Goals as goal

-- there are as many dispatchers as the count says
counted : {e : ℕ} {ws : List ℕ} → CanonStore e ws → {n : ℕ} → n ≡ get_or ws (2354 + 32 * e) 0 → n ≡ length (decode ws).dispatchers
counted h q = q ∙ read_dispatcher_count h

pub invariant_of-stamps : goal.invariant_of-stamps
invariant_of-stamps c = record { whole = refl; under = zeros_under 4096 }

pub loop-d-init : goal.loop-d-init
unfolding each_below
loop-d-init c = (refl, refl)

pub dispatcher_valid-requires : goal.dispatcher_valid-requires
dispatcher_valid-requires c =
    let n = counted c.requires c.word-n.ensures in
    let t = c.loop-d-test.true in
    record { there = dispatcher_in c.requires c.loop-d.d (omega arith); stamp = c.loop-d.invariant.0 }

pub returns-then-not-dispatcher_valid : goal.returns-then-not-dispatcher_valid
returns-then-not-dispatcher_valid c =
    let s = decode c.args.topics.now.store.now in
    let n = counted c.requires c.word-n.ensures in
    let l = c.loop-d-test.true in
    let t : c.loop-d.d < length s.dispatchers = omega arith in
    each_stop (λ j. valid_dispatcher s (dispatcher_nth s j)) (length s.dispatchers) c.loop-d.d t
    (answered_no c.dispatcher_valid.ensures.answer c.if-not-dispatcher_valid.true)
    ∙ sym (all_each (valid_dispatcher s) s.dispatchers zero_dispatcher)

pub loop-d-preserved : goal.loop-d-preserved
loop-d-preserved c =
    let s = decode c.args.topics.now.store.now in (
      c.dispatcher_valid.ensures.stamp,
      each_turn (λ j. valid_dispatcher s (dispatcher_nth s j)) c.loop-d.d
          c.loop-d.invariant.1 (answered_yes c.dispatcher_valid.ensures.answer c.if-not-dispatcher_valid.false),
    )

pub returns : goal.returns
returns c =
    let s = decode c.args.topics.now.store.now in
    let n = counted c.requires c.word-n.ensures in
    let l : length s.dispatchers ≤ c.loop-d.d = let t = c.loop-d-test.false in omega arith in
    let m : c.loop-d.d ≤ length s.dispatchers = let t = c.loop-d.auto.d-end in omega arith in
    each_end (λ j. valid_dispatcher s (dispatcher_nth s j)) (length s.dispatchers) c.loop-d.d m l c.loop-d.invariant.1
    ∙ sym (all_each (valid_dispatcher s) s.dispatchers zero_dispatcher)
