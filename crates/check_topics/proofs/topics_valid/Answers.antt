-- `check_topics::topics_valid` meets its contract: the topics are tested one by one.
use mathlib.Core.Path.{◌≡◌, refl, sym, ap, ◌∙◌}
use mathlib.Core.Bool.{true, false, not}
use mathlib.Core.List.{List, map}
use Prim.Native.Nat.{ℕ, ◌≤◌, ◌<◌}
use native.Mathlib.Omega.{arith}
use lib.Dec.{eqb}
use lib.ListN.{length, get_or, take, length-set}
use borrow.Author.Rules.{rules}
use Rattle.rules.specs.Table.{any}
use Rattle.rules.specs.State.{Topic, by_number}
use Rattle.layout.specs.Layout.{decode}
use Rattle.layout.specs.Canon.{CanonStore}
use Rattle.layout.specs.Offsets.{topic_at}
use Rattle.layout.specs.Fields.{zero_topic}
use Rattle.layout.proofs.Placed.{topic_in}
use Rattle.layout.proofs.Gets.{read_topic_count, read_topic_number}
use Rattle.store.specs.Find.{slot}
use Rattle.store.proofs.Tests.{fails, passes}
use Rattle.store.proofs.Inside.{topic_inside}
use Rattle.store.proofs.Prefixes.{passed_start, passed_stop, passed_turn, passed_end}
use Rattle.check_topics.proofs.Distinct.{slot_seen, slot_new}
use Rattle.check_topics.proofs.Topics.{topic_steps}
use Rattle.check_topics.proofs.Orders.{order_none, order_some, known_nothing, known_more}
use Rattle.check_topics.proofs.topics_valid.Goals as goal

module _ {e : ℕ} {ws : List ℕ} (canon : CanonStore e ws) {n : ℕ} (count : n ≡ get_or ws 2321 0) where
  -- there are as many topics as the count says
  counted : n ≡ length (decode ws).topics
  counted = count ∙ read_topic_count canon

  module _ (t : ℕ) (below : t < n) where
    -- the slot of a turn lies in the table
    here : t < length (decode ws).topics
    here = let k = counted in omega arith

    -- a slot of those whose ids may be known to ascend
    few : t < 8
    few = let h = here in let f = canon.shaped.topics_fit in omega arith

    module _ {at s : ℕ} (read : at ≡ topic_at e t) (found : s ≡ slot by_number (get_or ws at 0) (decode ws).topics) where
      -- where the topic's number is found
      place : s ≡ slot by_number (get_or (decode ws).topics t zero_topic).number (decode ws).topics
      place = found ∙ ap (λ (k : ℕ). slot by_number k (decode ws).topics) (ap (λ (i : ℕ). get_or ws i 0) read ∙ read_topic_number canon t here)

      -- a number found at its own slot is new
      new : t ≤ s → not (any (eqb (get_or (decode ws).topics t zero_topic).number) (map (λ (x : Topic). x.number) (take t (decode ws).topics))) ≡ true
      new h = ap not (slot_new by_number (get_or (decode ws).topics t zero_topic).number (decode ws).topics t (rw place at h))

      -- one found before it is not
      seen : s < t → not (any (eqb (get_or (decode ws).topics t zero_topic).number) (map (λ (x : Topic). x.number) (take t (decode ws).topics))) ≡ false
      seen h =
          let k = here in
          ap not (slot_seen by_number (get_or (decode ws).topics t zero_topic).number (decode ws).topics t (omega arith) (rw place at h))

pub loop-t-init : goal.loop-t-init
loop-t-init c = (passed_start (topic_steps c.args.e) (decode c.args.store.now).topics, refl, known_nothing c.args.e c.args.store.now 8)

pub topic_at-requires : goal.topic_at-requires
topic_at-requires c =
    let k = here c.requires c.word-n.ensures c.loop-t.t c.loop-t-test.true in
    let f = c.requires.shaped.topics_fit in
    let m = c.requires.E_to in
    (omega arith, omega arith)

pub offset_bounds-store-topic_at : goal.offset_bounds-store-topic_at
offset_bounds-store-topic_at c =
    let p = c.topic_at.ensures in
    let k = topic_inside c.requires c.loop-t.t (here c.requires c.word-n.ensures c.loop-t.t c.loop-t-test.true) in
    search rules

pub bounds-store-topic_at : goal.bounds-store-topic_at
bounds-store-topic_at c =
    let p = c.topic_at.ensures in
    let k = topic_inside c.requires c.loop-t.t (here c.requires c.word-n.ensures c.loop-t.t c.loop-t-test.true) in
    omega arith

pub returns-then-find_topic-t : goal.returns-then-find_topic-t
returns-then-find_topic-t c =
    let a = c.args in
    let l = c.loop-t in
    sym
    (passed_stop (topic_steps a.e) (decode a.store.now).topics l.t zero_topic (here c.requires c.word-n.ensures l.t c.loop-t-test.true) l.invariant.0
    (sym (fails _ (seen c.requires c.word-n.ensures l.t c.loop-t-test.true c.topic_at.ensures c.find_topic.ensures c.if-find_topic-t.true))))

pub topic_order-requires : goal.topic_order-requires
topic_order-requires c = topic_in c.requires c.loop-t.t (here c.requires c.word-n.ensures c.loop-t.t c.loop-t-test.true)

pub bounds-ascend-t : goal.bounds-ascend-t
bounds-ascend-t c =
    let k = few c.requires c.word-n.ensures c.loop-t.t c.loop-t-test.true in
    let l = c.loop-t.invariant.1 in
    omega arith

pub returns-in_err-known : goal.returns-in_err-known
returns-in_err-known c =
    let a = c.args in
    let l = c.loop-t in
    rw c.from_residual.ensures (sym
    (passed_stop (topic_steps a.e) (decode a.store.now).topics l.t zero_topic (here c.requires c.word-n.ensures l.t c.loop-t-test.true) l.invariant.0
    (sym (passes (new c.requires c.word-n.ensures l.t c.loop-t-test.true c.topic_at.ensures c.find_topic.ensures c.if-find_topic-t.false)
    (sym (order_none a.e a.store.now l.t c.in_err-known.ensures))))))

pub loop-t-preserved : goal.loop-t-preserved
loop-t-preserved c =
    let a = c.args in
    let l = c.loop-t in
    let b = c.in_ok-known.known in
    let told = c.in_ok-known.ensures in
    let k = few c.requires c.word-n.ensures l.t c.loop-t-test.true in
    let n = l.invariant.1 in (
      passed_turn (topic_steps a.e) (decode a.store.now).topics l.t zero_topic (here c.requires c.word-n.ensures l.t c.loop-t-test.true) l.invariant.0
          (sym (passes (new c.requires c.word-n.ensures l.t c.loop-t-test.true c.topic_at.ensures c.find_topic.ensures c.if-find_topic-t.false)
          (sym (order_some a.e a.store.now l.t told).0))),
      length-set l.ascend l.t b ∙ n,
      known_more a.e a.store.now l.ascend l.t b (omega arith) told l.invariant.2,
    )

pub invariant_of-result : goal.invariant_of-result
invariant_of-result c = record { words = λ q. (c.type_inv.store q).fits; known = c.loop-t.invariant.2 }

pub returns : goal.returns
returns c =
    let n = counted c.requires c.word-n.ensures in
    let k = c.loop-t-test.false in
    (sym (passed_end (topic_steps c.args.e) (decode c.args.store.now).topics c.loop-t.t (omega arith) c.loop-t.invariant.0), refl, refl)
