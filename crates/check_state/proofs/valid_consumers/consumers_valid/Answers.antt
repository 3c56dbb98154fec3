-- `check_state::valid_consumers::consumers_valid` meets its contract: the consumers are tested one by one.
use mathlib.Core.Path.{◌≡◌, sym, ◌∙◌}
use mathlib.Core.Bool.{◌&&◌, and-eq-true_iff}
use mathlib.Core.List.{List}
use Prim.Native.Nat.{ℕ, ◌<◌}
use native.Mathlib.Omega.{arith}
use lib.ListN.{length, get_or, take}
use Rattle.rules.specs.Table.{all}
use Rattle.rules.specs.State.{State}
use Rattle.rules.specs.Valid.{ascending, valid_consumer}
use Rattle.layout.specs.Layout.{decode}
use Rattle.layout.specs.Canon.{CanonStore}
use Rattle.layout.specs.Fields.{zero_consumer}
use Rattle.layout.proofs.Gets.{read_consumer_count}
use Rattle.layout.proofs.Placed.{consumer_in}
use Rattle.store.proofs.Tests.{fails, passes, answered_no, answered_yes}
use Rattle.store.proofs.Prefixes.{Stepwise, all_steps, both_steps, passed_start, passed_stop, passed_turn, passed_end}
use Rattle.check_state.proofs.Ascend.{below, ascending_steps}
use Rattle.check_state.proofs.valid_consumers.consumers_valid.Goals as goal

-- the two tests, consumer by consumer
steps : (s : State) → Stepwise (λ l. ascending l && all (valid_consumer s) l) (λ l c. below c l && valid_consumer s c)
steps s = both_steps ascending_steps (all_steps (valid_consumer s))

-- the slot of a turn lies in the table
here : {e : ℕ} {ws : List ℕ} → CanonStore e ws → {n : ℕ} → n ≡ get_or ws 16 0 → (i : ℕ) → i < n → i < length (decode ws).consumers
here h q i l = let n = q ∙ read_consumer_count h in omega arith

pub loop-i-init : goal.loop-i-init
loop-i-init c = passed_start (steps (decode c.args.store.now)) (decode c.args.store.now).consumers

pub id_ascends-requires : goal.id_ascends-requires
id_ascends-requires c =
    let s = decode c.args.store.now in
    let l = take c.loop-i.i s.consumers in
    (consumer_in c.requires c.loop-i.i (here c.requires c.word-n.ensures c.loop-i.i c.loop-i-test.true), ((and-eq-true_iff (ascending l) (all (valid_consumer s) l)).0 c.loop-i.invariant).0)

pub returns-then-not-id_ascends : goal.returns-then-not-id_ascends
returns-then-not-id_ascends c =
    let s = decode c.args.store.now in
    passed_stop (steps s) s.consumers c.loop-i.i zero_consumer (here c.requires c.word-n.ensures c.loop-i.i c.loop-i-test.true) c.loop-i.invariant
    (sym (fails _ (answered_no c.id_ascends.ensures c.if-not-id_ascends.true)))

pub consumer_valid-requires : goal.consumer_valid-requires
consumer_valid-requires c = consumer_in c.requires c.loop-i.i (here c.requires c.word-n.ensures c.loop-i.i c.loop-i-test.true)

pub returns-then-not-consumer_valid : goal.returns-then-not-consumer_valid
returns-then-not-consumer_valid c =
    let s = decode c.args.store.now in
    passed_stop (steps s) s.consumers c.loop-i.i zero_consumer (here c.requires c.word-n.ensures c.loop-i.i c.loop-i-test.true) c.loop-i.invariant
    (sym (passes (answered_yes c.id_ascends.ensures c.if-not-id_ascends.false) (sym (answered_no c.consumer_valid.ensures c.if-not-consumer_valid.true))))

pub loop-i-preserved : goal.loop-i-preserved
loop-i-preserved c =
    let s = decode c.args.store.now in
    passed_turn (steps s) s.consumers c.loop-i.i zero_consumer (here c.requires c.word-n.ensures c.loop-i.i c.loop-i-test.true) c.loop-i.invariant
    (sym (passes (answered_yes c.id_ascends.ensures c.if-not-id_ascends.false) (sym (answered_yes c.consumer_valid.ensures c.if-not-consumer_valid.false))))

pub returns : goal.returns
returns c =
    let s = decode c.args.store.now in
    let n = c.word-n.ensures ∙ read_consumer_count c.requires in
    let k = c.loop-i-test.false in
    passed_end (steps s) s.consumers c.loop-i.i (omega arith) c.loop-i.invariant
