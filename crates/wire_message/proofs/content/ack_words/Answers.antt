-- `wire_message::content::ack_words` meets its contract: the fields that were seen under 4 are counted.
use mathlib.Core.Path.{◌∙◌}
use mathlib.Core.Option.{bind}
use native.Mathlib.Omega.{arith}
use Rattle.wire_fields.specs.Found.{answered}
use Rattle.wire_fields.proofs.Selections.{walked, walked_not, at_a}
use Rattle.wire_message.specs.Found.{ack_count}
use Rattle.wire_message.proofs.Contents.{several_count}
use Rattle.wire_message.proofs.content.ack_words.Goals as goal

pub returns-in_err-x : goal.returns-in_err-x
unfolding ack_count bind answered
returns-in_err-x c = rw (c.from_residual.ensures, walked_not _ _ c.in_err-x.ensures)

pub returns : goal.returns
unfolding ack_count bind
returns c =
    let w = walked _ _ _ c.in_ok-x.ensures in
    c.several.ensures ∙ several_count 4 (omega arith) (at_a w) ∙ rw w.all_fields
