-- `check_words::canonical::dispatcher_canonical` meets its contract: the tests are those of a dispatcher's parts, in order.
use mathlib.Core.Path.{refl, sym, ◌∙◌}
use Prim.Native.Nat.{◌+◌, ◌*◌}
use Rattle.store.proofs.Tests.{fails, passes, answered_no, answered_yes}
use Rattle.words.specs.Codec.{upto}
use Rattle.layout.specs.Records.{mark_codec}
use Rattle.check_words.proofs.Tables.{slot_lent}
use Rattle.check_words.proofs.Spelt.{blank_is}
use Rattle.check_words.proofs.Parts.{dispatcher_parts}
use Rattle.check_words.proofs.canonical.dispatcher_canonical.Goals as goal
use Rattle.check_words.proofs.canonical.dispatcher_canonical.Goals.{then-is_blank, else-is_blank}

pub returns-then-lists_canonical : goal.returns-then-lists_canonical
returns-then-lists_canonical c =
    let a = c.args in
    let b = blank_is a.words.now 6 11 5 refl c.is_blank.ensures in
    elim c.if-is_blank.branch [
      | then-is_blank w ↦
          passes (answered_yes b w.if-is_blank.true)
          (passes (sym w.lists_canonical.ensures ∙ sym w.value-is ∙ c.if-lists_canonical.true) (slot_lent (upto mark_codec a.e) a.words.now (175 + 3 * a.e) c.marks_canonical.ensures))
      | else-is_blank w ↦ absurd (cc)
    ]
    ∙ sym (dispatcher_parts a.words.now a.e c.requires)

pub returns-else-lists_canonical : goal.returns-else-lists_canonical
returns-else-lists_canonical c =
    let a = c.args in
    let b = blank_is a.words.now 6 11 5 refl c.is_blank.ensures in
    c.if-lists_canonical.false
    ∙ elim c.if-is_blank.branch [
      | then-is_blank w ↦
          passes (answered_yes b w.if-is_blank.true) (fails _ (sym w.lists_canonical.ensures ∙ sym w.value-is ∙ c.if-lists_canonical.false))
      | else-is_blank w ↦ fails _ (answered_no b w.if-is_blank.false)
    ]
    ∙ sym (dispatcher_parts a.words.now a.e c.requires)
