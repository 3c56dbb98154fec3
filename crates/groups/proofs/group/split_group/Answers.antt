-- `groups::group::split_group` meets its contract, by the lemmas of `Forms` for each way out.
use Rattle.std.proofs.Common.{arith, rules, sym}
use Rattle.groups.proofs.Forms.{head_outside, too_many, words_short, words_stand, group_before, after_group}
use Rattle.groups.proofs.group.split_group.Goals as goal

pub returns-in_default : goal.returns-in_default
returns-in_default c = let h = c.in_default.len_below in sym (head_outside c.args.list.now 0 (omega arith) (omega arith))

pub returns-then-n-gt-MOST_ACK_SET_WORDS : goal.returns-then-n-gt-MOST_ACK_SET_WORDS
returns-then-n-gt-MOST_ACK_SET_WORDS c = let h = c.in-len3-up.len_at_least in sym (too_many c.args.list.now 0 (omega arith) (omega arith))

pub returns-then-rest-n : goal.returns-then-rest-n
returns-then-rest-n c = words_short c.args.list.now c.in-len3-up.len_at_least c.if-n-gt-MOST_ACK_SET_WORDS.false (search rules)

pub returns : goal.returns
returns c =
    let list = c.args.list.now in (
      words_stand list c.in-len3-up.len_at_least c.if-n-gt-MOST_ACK_SET_WORDS.false (search rules),
      group_before list _ c.split_at.ensures.front (search rules),
      after_group list _ c.split_at.ensures.back (search rules),
    )
