-- `check_topics::batches_right` meets its contract: each batch size is tested.
use Rattle.std.proofs.Common.{rules, tests}
use Rattle.check_topics.specs.Orders.{batch_right}
use Rattle.check_rows.proofs.Ranges.{all_below}
use Rattle.check_topics.proofs.batches_right.Goals as goal

pub returns : goal.returns
returns c =
    let a = c.args in
    all_below (batch_right a.store.now a.first) a.n _ _ c.all.result (λ x t p k. search (rules, tests)) c.all.ensures.ran
