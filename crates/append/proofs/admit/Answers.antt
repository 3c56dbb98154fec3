-- `append::admit` meets its contract: each way out is one refusal, or none.
use mathlib.Core.Path.{sym, ◌∙◌}
use native.Mathlib.Omega.{arith}
use Rattle.layout.specs.Layout.{decode}
use Rattle.layout.specs.Fields.{topic_nth}
use Rattle.layout.proofs.Store.{canon_entries}
use Rattle.layout.proofs.Placed.{topic_in}
use Rattle.topic.proofs.Positions.{found_held}
use Rattle.append.proofs.Appends.{refusal_5, refusal_new, refusal_7, refusal_6, refusal_none}
use Rattle.append.proofs.admit.Goals as goal

pub returns-then-topics-ge-MOST_TOPICS : goal.returns-then-topics-ge-MOST_TOPICS
returns-then-topics-ge-MOST_TOPICS c =
    let n = c.topic_count-topics.ensures in
    let t = c.if-topics-t.true in
    let k = c.if-topics-ge-MOST_TOPICS.true in
    refusal_5 (decode c.args.store.now) c.args.t c.args.id (omega arith) (omega arith)

pub returns-else-topics-ge-MOST_TOPICS : goal.returns-else-topics-ge-MOST_TOPICS
returns-else-topics-ge-MOST_TOPICS c =
    let n = c.topic_count-topics.ensures in
    let t = c.if-topics-t.true in
    let k = c.if-topics-ge-MOST_TOPICS.false in
    refusal_new (decode c.args.store.now) c.args.t c.args.id (omega arith) (omega arith)

pub position_of-requires : goal.position_of-requires
position_of-requires c = let n = c.topic_count-topics.ensures in let l = c.if-topics-t.false in topic_in c.requires c.args.t (omega arith)

pub returns-then-is_some : goal.returns-then-is_some
returns-then-is_some c =
    let n = c.topic_count-topics.ensures in
    let l = c.if-topics-t.false in
    let p = sym (found_held c.args.id (topic_nth (decode c.args.store.now) c.args.t).messages c.is_some.ensures c.position_of.ensures) ∙ c.if-is_some.true in
    refusal_7 (decode c.args.store.now) c.args.t c.args.id (omega arith) p

pub message_count-requires : goal.message_count-requires
message_count-requires c = let n = c.topic_count-topics.ensures in let l = c.if-topics-t.false in topic_in c.requires c.args.t (omega arith)

pub returns-then-e-message_count : goal.returns-then-e-message_count
returns-then-e-message_count c =
    let n = c.topic_count-topics.ensures in
    let l = c.if-topics-t.false in
    let p = sym (found_held c.args.id (topic_nth (decode c.args.store.now) c.args.t).messages c.is_some.ensures c.position_of.ensures) ∙ c.if-is_some.false in
    let E = canon_entries c.requires in
    let m = c.message_count.ensures in
    let f = c.if-e-message_count.true in
    refusal_6 (decode c.args.store.now) c.args.t c.args.id (omega arith) p (omega arith)

pub returns-else-e-message_count : goal.returns-else-e-message_count
returns-else-e-message_count c =
    let n = c.topic_count-topics.ensures in
    let l = c.if-topics-t.false in
    let p = sym (found_held c.args.id (topic_nth (decode c.args.store.now) c.args.t).messages c.is_some.ensures c.position_of.ensures) ∙ c.if-is_some.false in
    let E = canon_entries c.requires in
    let m = c.message_count.ensures in
    let f = c.if-e-message_count.false in
    refusal_none (decode c.args.store.now) c.args.t c.args.id (omega arith) p (omega arith)
