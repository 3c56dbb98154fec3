-- `consumer::table::open_consumer` meets its contract: what is done to a list.
use mathlib.Core.Path.{◌∙◌}
use native.Mathlib.Omega.{arith}
use Rattle.consumer.proofs.Lists.{consumer_room, consumer_size, consumer_opened}
use Rattle.consumer.proofs.table.open_consumer.Goals as goal

pub insert_blank-requires : goal.insert_blank-requires
insert_blank-requires c =
    let n = consumer_size c.requires.0 in
    let l = c.requires.1 in
    (consumer_room c.requires.0 c.requires.2, omega arith)

pub returns : goal.returns
returns c = c.insert_blank.ensures ∙ consumer_opened c.args.i c.requires.0 c.requires.1 c.requires.2
