-- `check_state::valid_places::holder_slot` meets its contract: the guessed slot holds the id, or all are looked at.
use mathlib.Core.Path.{sym, ap, ◌∙◌}
use Prim.Native.Nat.{ℕ}
use Rattle.std.proofs.Common.{Option, is_some}
use Rattle.check_rows.proofs.Among.{among_found, first_among, first_inside}
use Rattle.check_state.proofs.valid_places.holder_slot.Goals as goal

pub returns-then-word-id-clause-there : goal.returns-then-word-id-clause-there
returns-then-word-id-clause-there c =
    let r = c.args.ring.now in
    sym (among_found r.store.now r.first r.width r.count c.args.guess c.args.id c.if-guess-ring.true (sym c.word.ensures ∙ c.if-word-id.true))

pub returns-clause-there : goal.returns-clause-there
returns-clause-there c =
    let r = c.args.ring.now in
    ap (λ (o : Option ℕ). is_some o) c.row_of.ensures ∙ first_among r.store.now r.first r.width r.count c.args.id

pub returns-clause-inside : goal.returns-clause-inside
returns-clause-inside c =
    let r = c.args.ring.now in
    first_inside r.store.now r.first r.width r.count c.args.id c.row_of.result c.row_of.ensures
