-- `append::make_topic` meets its contract: the topic is made, or it is there.
use mathlib.Core.Path.{sym, ap, ◌∙◌}
use native.Mathlib.Omega.{arith}
use Rattle.layout.specs.Layout.{decode, put}
use Rattle.rules.specs.State.{State}
use Rattle.layout.proofs.Store.{put_decode}
use Rattle.append.proofs.Appends.{joined_in, made_words, topic_made_there}
use Rattle.append.proofs.make_topic.Goals as goal

pub raise_topics-requires : goal.raise_topics-requires
raise_topics-requires c =
    let n = c.topic_count.ensures in
    let t = c.if-topic_count-t.true in
    let p = c.requires.2 in
    (c.requires.0, omega arith)

pub set_number-requires : goal.set_number-requires
set_number-requires c =
    let a = c.args in
    let p = c.requires in
    let n = c.topic_count.ensures in
    let t = c.if-topic_count-t.true in
    let b = p.2 in
    joined_in a.t a.topic p.0 p.1 (omega arith) (omega arith) c.raise_topics.ensures

pub returns-then-topic_count-t : goal.returns-then-topic_count-t
returns-then-topic_count-t c =
    let a = c.args in
    let p = c.requires in
    let n = c.topic_count.ensures in
    let t = c.if-topic_count-t.true in
    let b = p.2 in
    made_words a.t a.topic p.0 p.1 (omega arith) (omega arith) c.raise_topics.ensures c.set_number.ensures

pub returns-else-topic_count-t : goal.returns-else-topic_count-t
returns-else-topic_count-t c =
    let a = c.args in
    let p = c.requires in
    let n = c.topic_count.ensures in
    let t = c.if-topic_count-t.false in
    sym (put_decode p.0) ∙ ap (λ (x : State). put a.store.now x) (sym (topic_made_there (decode a.store.now) a.t a.topic p.1 (omega arith)))
