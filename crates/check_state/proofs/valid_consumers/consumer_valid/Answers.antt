-- `check_state::valid_consumers::consumer_valid` meets its contract: the parts are tested in order.
use mathlib.Core.Path.{◌≡◌, sym, ◌∙◌}
use mathlib.Core.Bool.{◌&&◌}
use mathlib.Core.List.{List}
use Prim.Native.Nat.{ℕ, ◌+◌, ◌*◌, ◌^◌, ◌<◌}
use native.Mathlib.Omega.{arith}
use lib.ListN.{get_or}
use Rattle.rules.specs.Valid.{valid_consumer}
use Rattle.layout.specs.Layout.{decode}
use Rattle.layout.specs.Placed.{ConsumerIn}
use Rattle.layout.specs.Fields.{consumer_nth}
use Rattle.layout.proofs.Gets.{read_consumer_id}
use Rattle.check_state.specs.ValidConsumers.{numbers_valid, places_valid, attached_valid}
use Rattle.store.proofs.Tests.{fails, passes}
use Rattle.check_state.proofs.Consumers.{consumer_by_parts}
use Rattle.check_state.proofs.valid_consumers.consumer_valid.Goals as goal
use Rattle.check_state.proofs.valid_consumers.consumer_valid.Goals.{then-numbers_valid, else-numbers_valid}

-- the three parts make up the rule
parts : {e : ℕ} {ws : List ℕ} {i : ℕ} → ConsumerIn e ws i → ((k : ℕ) → get_or ws k 0 < 2 ^ 64)
    → (numbers_valid (consumer_nth (decode ws) i)
    && (places_valid (decode ws) (consumer_nth (decode ws) i) && attached_valid (decode ws) (consumer_nth (decode ws) i)))
    ≡ valid_consumer (decode ws) (consumer_nth (decode ws) i)
parts {ws = ws} {i = i} h f =
    let s = decode ws in
    let w : (consumer_nth s i).id < 2 ^ 64 = omega (arith, f (17 + i * 72), read_consumer_id h.canon i h.there) in
    consumer_by_parts s (consumer_nth s i) w h.nacked_fit

pub returns-then-places_valid : goal.returns-then-places_valid
returns-then-places_valid c =
    elim c.if-numbers_valid.branch [
      | then-numbers_valid w ↦
          passes (sym c.numbers_valid.ensures ∙ w.if-numbers_valid.true)
          (passes (sym w.places_valid.ensures ∙ sym w.value-is ∙ c.if-places_valid.true) c.attached_valid.ensures)
      | else-numbers_valid w ↦ absurd (cc)
    ]
    ∙ parts c.requires (λ q. (c.type_inv.store q).fits)

pub returns-else-places_valid : goal.returns-else-places_valid
returns-else-places_valid c =
    c.if-places_valid.false
    ∙ elim c.if-numbers_valid.branch [
      | then-numbers_valid w ↦
          passes (sym c.numbers_valid.ensures ∙ w.if-numbers_valid.true) (fails _ (sym w.places_valid.ensures ∙ sym w.value-is ∙ c.if-places_valid.false))
      | else-numbers_valid w ↦ fails _ (sym c.numbers_valid.ensures ∙ w.if-numbers_valid.false)
    ]
    ∙ parts c.requires (λ q. (c.type_inv.store q).fits)
