-- `push::bound::waiting_at` meets its contract: the queue, and the ledger from the cursor on.
use Rattle.std.proofs.Common.{◌≡◌, ap, ◌∙◌, ℕ, length, arith}
use Rattle.rules.specs.State.{ledger_of}
use Rattle.layout.specs.Layout.{decode}
use Rattle.layout.specs.Fields.{dispatcher_nth}
use Rattle.topic.proofs.LedgerWords.{ledger_fits}
use Rattle.dispatcher.specs.Values.{head_of}
use Rattle.push_turn.specs.Turns.{ledger_under}
use Rattle.push.specs.Bound.{waiting_at}
use Rattle.push.proofs.bound.waiting_at.Goals as goal

pub overflow_add-result : goal.overflow_add-result
overflow_add-result c =
    let a = c.args in
    let h = c.requires in
    let k = c.queue_count.ensures in
    let f = h.lists_fit.queue_fits in
    let n = c.ledger_length-n.ensures ∙ ap (λ (t : ℕ). length (ledger_of (decode a.store.now) t)) c.topic.ensures in
    let g = ledger_fits h.canon (dispatcher_nth (decode a.store.now) a.d).pair.topic in
    let m = h.canon.E_to in
    let s = c.saturating_sub.ensures in
    record { fits = omega (arith, n, k, f, g, m, s) }

pub returns : goal.returns
unfolding waiting_at head_of
returns c =
    let a = c.args in
    let n : c.ledger_length-n.result ≡ length (ledger_under (decode a.store.now) a.d) =
    c.ledger_length-n.ensures ∙ ap (λ (t : ℕ). length (ledger_of (decode a.store.now) t)) c.topic.ensures in
    rw (c.queue_count.ensures, c.saturating_sub.ensures, n, c.load_head-head.ensures)
