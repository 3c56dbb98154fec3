-- `ack::ack_id::acked_whole` meets its contract: the default set is the one with no bit.
use Rattle.std.proofs.Common.{ap, true, [], ◌∷◌}
use Rattle.bits.specs.declared.UnackedBits.{UnackedBits}
use Rattle.bits.proofs.Fours.{is_four}
use Rattle.dispatcher.specs.Values.{mark_of}
use Rattle.ack.proofs.ack_id.acked_whole.Goals as goal

pub returns : goal.returns
unfolding mark_of
returns c =
    let d = c.default.ensures in
    ap (λ (b : UnackedBits). mark_of (record { complete = true; redelivery_count = c.args.mark.redelivery_count; unacked = b }))
    (is_four _ (0 ∷ 0 ∷ 0 ∷ 0 ∷ []) d.0 d.1.0 d.1.1.0 d.1.1.1)
