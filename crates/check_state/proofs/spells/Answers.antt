-- `check_state::spells` meets its contract: header, length, body and rules are tested one after the other.
use mathlib.Core.Path.{◌≡◌, refl, sym, ◌∙◌}
use mathlib.Core.Bool.{true}
use mathlib.Core.List.{List}
use Prim.Native.Nat.{ℕ, ◌≤◌}
use lib.ListN.{get_or}
use borrow.Author.Tests.{lt-leb, le-leb}
use borrow.Author.Rules.{rules}
use Rattle.layout.specs.Check.{header_right}
use Rattle.store.proofs.Tests.{fails, passes, answered_no, answered_yes}
use Rattle.check_state.proofs.Checks.{header_gives, spells_tests, well_spelt}
use Rattle.check_state.proofs.spells.Goals as goal
use Rattle.check_state.proofs.spells.Goals.{then-e-store, else-e-store}

-- E is in its range
in_range : (ws : List ℕ) → {e : ℕ} → e ≡ get_or ws 1 0 → header_right ws ≡ true → e ≤ 4096
in_range ws q h = rw q (header_gives ws h).1

pub returns-then-not-header_right : goal.returns-then-not-header_right
returns-then-not-header_right c =
    fails _ (answered_no c.header_right.ensures c.if-not-header_right.true) ∙ spells_tests c.args.store.now refl

pub word-e-requires : goal.word-e-requires
word-e-requires c = (header_gives _ (answered_yes c.header_right.ensures c.if-not-header_right.false)).0

pub overflow_mul-e : goal.overflow_mul-e
overflow_mul-e c =
    let h = in_range c.args.store.now c.word-e.ensures (answered_yes c.header_right.ensures c.if-not-header_right.false) in
    search rules

pub overflow_add-e : goal.overflow_add-e
overflow_add-e c =
    let h = in_range c.args.store.now c.word-e.ensures (answered_yes c.header_right.ensures c.if-not-header_right.false) in
    search rules

pub body_canonical-requires : goal.body_canonical-requires
body_canonical-requires c =
    let h = in_range c.args.store.now c.word-e.ensures (answered_yes c.header_right.ensures c.if-not-header_right.false) in
    search rules

pub state_valid-requires : goal.state_valid-requires
state_valid-requires c =
    elim c.if-e-store.branch [
      | then-e-store w ↦
          well_spelt c.args.store.now c.word-e.ensures (answered_yes c.header_right.ensures c.if-not-header_right.false) w.if-e-store.true
          (sym w.body_canonical.ensures ∙ sym w.value-is ∙ c.if-body_canonical.true)
      | else-e-store w ↦ let f = lt-leb _ _ w.if-e-store.false in absurd (cc)
    ]

pub returns-then-body_canonical : goal.returns-then-body_canonical
returns-then-body_canonical c =
    passes (answered_yes c.header_right.ensures c.if-not-header_right.false)
    (elim c.if-e-store.branch [
      | then-e-store w ↦
          passes (le-leb _ _ w.if-e-store.true) (passes (sym w.body_canonical.ensures ∙ sym w.value-is ∙ c.if-body_canonical.true) c.state_valid.ensures)
      | else-e-store w ↦ let f = lt-leb _ _ w.if-e-store.false in absurd (cc)
    ])
    ∙ spells_tests c.args.store.now {e = c.word-e.result} c.word-e.ensures

pub returns-else-body_canonical : goal.returns-else-body_canonical
returns-else-body_canonical c =
    c.if-body_canonical.false
    ∙ passes (answered_yes c.header_right.ensures c.if-not-header_right.false)
    (elim c.if-e-store.branch [
      | then-e-store w ↦ passes (le-leb _ _ w.if-e-store.true) (fails _ (sym w.body_canonical.ensures ∙ sym w.value-is ∙ c.if-body_canonical.false))
      | else-e-store w ↦ fails _ (lt-leb _ _ w.if-e-store.false)
    ])
    ∙ spells_tests c.args.store.now {e = c.word-e.result} c.word-e.ensures
