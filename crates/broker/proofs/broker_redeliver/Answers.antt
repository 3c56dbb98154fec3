-- `broker::broker_redeliver` meets its contract: the words are checked, then the command runs.
use Rattle.std.proofs.Common.{rules}
use Rattle.broker.proofs.Unspelt.{answered}
use Rattle.broker.proofs.broker_redeliver.Goals as goal

pub returns : goal.returns
returns c = answered _
    (λ e.
    let s = c.on_state.ensures.spelt e in
    let m = s.1.called.met in
    rw (s.2, ← s.1.shows, ← s.1.leaves) record { answer = search rules; words = search rules })
    c.on_state.ensures.unspelt
