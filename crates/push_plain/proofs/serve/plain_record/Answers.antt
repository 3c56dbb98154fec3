-- `push_plain::serve::plain_record` meets its contract: the message that was read, with no ack set, count 0 and cost 1.
use mathlib.Core.Path.{ap₂}
use mathlib.Core.List.{[], ◌∷◌}
use Rattle.bits.specs.declared.UnackedBits.{UnackedBits}
use Rattle.bits.proofs.Fours.{is_four}
use Rattle.rules.specs.State.{StoredMessage}
use Rattle.rules.specs.Outcome.{Dispatch}
use Rattle.record.proofs.Filled.{record_flat}
use Rattle.push_plain.specs.Reading.{record_to}
use Rattle.push_plain.proofs.serve.plain_record.Goals as goal

pub returns : goal.returns
unfolding record_to
returns c =
    let a = c.args in
    let d = c.default.ensures in
    let none = is_four c.default.result (0 ∷ 0 ∷ 0 ∷ 0 ∷ []) d.0 d.1.0 d.1.1.0 d.1.1.1 in
    record_flat _ a.permits c.signed.ensures
    (ap₂ {A = StoredMessage} {B = UnackedBits} {C = Dispatch}
    (λ m b. record { consumer = a.id; message = m; ack_set_words = 0; ack_set = b; redelivery_count = 0; cost = 1; permits = a.permits })
    c.load_message-m.ensures none)
