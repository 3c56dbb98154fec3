-- `consumer::table::remove_consumer` meets its contract: what is done to a list.
use mathlib.Core.Path.{◌∙◌}
use native.Mathlib.Omega.{arith}
use Rattle.consumer.proofs.Lists.{consumer_inside, consumer_size, consumer_without}
use Rattle.consumer.proofs.table.remove_consumer.Goals as goal

pub remove-requires : goal.remove-requires
remove-requires c =
    let n = consumer_size c.requires.canon in
    let l = c.requires.there in
    (consumer_inside c.requires.canon, omega arith)

pub returns : goal.returns
returns c = c.remove.ensures ∙ consumer_without c.args.i c.requires
