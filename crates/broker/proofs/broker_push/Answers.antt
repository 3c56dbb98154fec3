-- `broker::broker_push` meets its contract: the words are checked, then the command runs.
use mathlib.Core.Path.{◌∙◌}
use Rattle.std.proofs.Common.{rules}
use Rattle.broker.proofs.Unspelt.{unspelt, unspelt_list, by_spells}
use Rattle.broker.proofs.broker_push.Goals as goal

pub returns : goal.returns
returns c = by_spells c.args.store.now
    (λ e.
    let s = c.on_state.ensures.spelt e in
    let m = s.1.called.met in
    rw (s.2, ← s.1.shows, ← s.1.leaves) record { answer = search rules; words = search rules; records = search rules })
    (λ e.
    let s = c.on_state.ensures.unspelt e in
    let u = unspelt _ _ e in
    record { answer = s.0 ∙ u.answer; words = s.1 ∙ u.words; records = unspelt_list _ _ e (search rules) })
