-- `wire_message::content::read_content` meets its contract: each early return is a part of the content's chain, with the id of its
-- own bytes, that has no answer.
use mathlib.Core.Option.{bind}
use native.Mathlib.Omega.{arith}
use Rattle.wire.specs.Select.{uint64, uint32}
use Rattle.wire.proofs.Fields.{part_lies}
use Rattle.wire_fields.specs.Found.{answered}
use Rattle.wire_fields.proofs.Answered.{told_is, told_none}
use Rattle.wire_fields.proofs.Selections.{walked, walked_not, at_a, at_b, at_c}
use Rattle.wire_fields.proofs.Selections.{required_is, required_bad, optional_is, optional_bad, part_is, part_bad}
use Rattle.wire_message.specs.Found.{head_of}
use Rattle.wire_message.proofs.Contents.{content_by_id, words_are, no_words}
use Rattle.wire_message.proofs.content.read_content.Goals as goal

pub returns-in_err-x : goal.returns-in_err-x
unfolding bind answered
returns-in_err-x c = rw (c.from_residual.ensures, content_by_id, walked_not _ _ c.in_err-x.ensures)

pub returns-in_err-consumer : goal.returns-in_err-consumer
unfolding bind answered
returns-in_err-consumer c =
    let w = walked _ _ _ c.in_ok-x.ensures in
    rw (c.from_residual-in_err-consumer.ensures, content_by_id, w.all_fields, required_bad uint64 (at_a w) c.in_err-consumer.ensures)

pub returns-in_err-part : goal.returns-in_err-part
unfolding bind answered
returns-in_err-part c =
    let w = walked _ _ _ c.in_ok-x.ensures in
    rw (
      c.from_residual-in_err-part.ensures,
      content_by_id,
      w.all_fields,
      required_is uint64 (at_a w) c.in_ok-consumer.ensures,
      part_bad (at_b w) c.in_err-part.ensures,
    )

pub slice_bounds-id_of-count : goal.slice_bounds-id_of-count
slice_bounds-id_of-count c =
    let w = walked _ _ _ c.in_ok-x.ensures in
    let p = part_is (at_b w) c.in_ok-part.ensures in
    let l = part_lies _ w.fs 2 p.f w.all_fields p.is in
    omega (arith, p.starts, p.ends, l.0)

pub slice_bounds-id_of-start : goal.slice_bounds-id_of-start
slice_bounds-id_of-start c =
    let w = walked _ _ _ c.in_ok-x.ensures in
    let p = part_is (at_b w) c.in_ok-part.ensures in
    let l = part_lies _ w.fs 2 p.f w.all_fields p.is in
    omega (arith, p.starts, p.ends, l.0)

pub slice_bounds-id_of-end : goal.slice_bounds-id_of-end
slice_bounds-id_of-end c =
    let w = walked _ _ _ c.in_ok-x.ensures in
    let p = part_is (at_b w) c.in_ok-part.ensures in
    let l = part_lies _ w.fs 2 p.f w.all_fields p.is in
    omega (arith, p.ends, l.1)

pub returns-in_err-id : goal.returns-in_err-id
unfolding bind answered
returns-in_err-id c =
    let w = walked _ _ _ c.in_ok-x.ensures in
    let p = part_is (at_b w) c.in_ok-part.ensures in
    rw (
      c.from_residual-in_err-id.ensures,
      content_by_id,
      w.all_fields,
      required_is uint64 (at_a w) c.in_ok-consumer.ensures,
      p.is,
      p.starts,
      p.ends,
      told_none _ c.in_err-id.ensures,
    )

pub returns-in_err-redelivery_count : goal.returns-in_err-redelivery_count
unfolding bind answered
returns-in_err-redelivery_count c =
    let w = walked _ _ _ c.in_ok-x.ensures in
    let p = part_is (at_b w) c.in_ok-part.ensures in
    rw (
      c.from_residual-in_err-redelivery_count.ensures,
      content_by_id,
      w.all_fields,
      required_is uint64 (at_a w) c.in_ok-consumer.ensures,
      p.is,
      p.starts,
      p.ends,
      told_is _ c.in_ok-id.ensures,
      optional_bad uint32 (at_c w) c.in_err-redelivery_count.ensures,
    )

pub returns-in_err-ack_set_words : goal.returns-in_err-ack_set_words
unfolding bind answered
returns-in_err-ack_set_words c =
    let w = walked _ _ _ c.in_ok-x.ensures in
    let p = part_is (at_b w) c.in_ok-part.ensures in
    rw (
      c.from_residual-in_err-ack_set_words.ensures,
      content_by_id,
      w.all_fields,
      required_is uint64 (at_a w) c.in_ok-consumer.ensures,
      p.is,
      p.starts,
      p.ends,
      told_is _ c.in_ok-id.ensures,
      optional_is uint32 (at_c w) c.in_ok-redelivery_count.ensures,
      no_words _ _ w.all_fields (told_none _ c.in_err-ack_set_words.ensures),
    )

pub returns : goal.returns
unfolding bind answered head_of
returns c =
    let w = walked _ _ _ c.in_ok-x.ensures in
    let p = part_is (at_b w) c.in_ok-part.ensures in
    let a = words_are _ _ w.all_fields _ (told_is _ c.in_ok-ack_set_words.ensures) in
    rw (
      content_by_id,
      w.all_fields,
      required_is uint64 (at_a w) c.in_ok-consumer.ensures,
      p.is,
      p.starts,
      p.ends,
      told_is _ c.in_ok-id.ensures,
      optional_is uint32 (at_c w) c.in_ok-redelivery_count.ensures,
      a.0,
      ← a.1,
    )
