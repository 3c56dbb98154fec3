-- `topic::append::append_message` meets its contract: what is done to a list.
use borrow.Author.Rules.{rules}
use lib.Seq.{set-set}
use native.Mathlib.Omega.{arith}
use Rattle.topic.specs.Ids.{message_of}
use Rattle.topic.proofs.Lists.{message_inside, message_size, message_stands}
use Rattle.topic.proofs.append.append_message.Goals as goal

pub push-requires : goal.push-requires
push-requires c =
    let n = message_size c.args.t c.requires.0 in
    let l = c.requires.1 in
    let f = c.requires.0.inside in
    let g = c.requires.0.canon.long in
    rw c.message_list.ensures (omega arith, (message_inside c.args.t c.requires.0, omega arith, omega arith))

pub returns : goal.returns
returns c =
    let m = c.args.message in
    let size = message_size c.args.t c.requires.0 in
    message_stands c.args.t c.requires.0 (message_of m.ledger m.entry m.handle m.batch_size) c.requires.1 (search (rules, set-set, size))
