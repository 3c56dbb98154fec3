-- `check_rows::none_alike` meets its contract: a turn's row is above the greatest, or is compared with those before it.
use mathlib.Core.Path.{◌≡◌, refl, sym, ap, ◌∙◌}
use mathlib.Core.Bool.{true, false, not}
use Prim.Native.Nat.{ℕ, ◌+◌, ◌≤◌, ◌<◌}
use native.Mathlib.Nat.{not-suc-le-zero}
use native.Mathlib.Omega.{arith}
use borrow.Author.Rules.{rules}
use Rattle.check_rows.specs.Below.{each_below, some_below}
use Rattle.check_rows.proofs.Below.{refuted, upheld, each_turn, each_stop}
use Rattle.check_rows.proofs.Ranges.{any_below}
use Rattle.check_rows.proofs.Alike.{fresh, raised, kept}
use Rattle.check_rows.proofs.none_alike.Goals as goal
use Rattle.check_rows.proofs.none_alike.Goals.{then-above, else-above+else-any}

pub loop-i-init : goal.loop-i-init
unfolding each_below
loop-i-init g c = (omega arith, λ same over order tells says. (refl, λ j h. absurd (not-suc-le-zero h)))

pub returns-then-any : goal.returns-then-any
returns-then-any g c =
    λ same over order tells says.
    let i = c.loop-i.i-counter in
    each_stop (λ j. not (some_below (same j) j)) c.args.count i c.loop-i-test.true
    (refuted (any_below (same i) i _ _ c.any.result (λ x t p k. let q = tells i x t (search rules) in (search rules, sym q)) c.any.ensures.ran) c.if-any.true)

pub loop-i-preserved : goal.loop-i-preserved
loop-i-preserved g c =
    let i = c.loop-i.i-counter in
    let k = c.loop-i.greatest in
    let least : c.if-above.greatest ≤ i + 1 =
    elim c.if-above.branch [
      | then-above w ↦ omega (arith, w.greatest-is)
      | else-above+else-any w ↦ omega (arith, w.greatest-is, c.loop-i.invariant.0)
    ] in (
      least,
      λ same over order tells says.
          let before = c.loop-i.invariant.1 same over order tells says in
          let above : c.above.result ≡ over i k = says i k c.above.result c.above.ensures in
          -- the row is alike to none before it
          let new : not (some_below (same i) i) ≡ true =
          elim c.if-above.branch [
            | then-above w ↦ ap not (fresh same over order i k before.1 (sym above ∙ w.if-above.true))
            | else-above+else-any w ↦
                upheld
                (any_below (same i) i _ _ w.any.result (λ x t p h. let q = tells i x t (search rules) in (search rules, sym q)) w.any.ensures.ran)
                w.if-any.false
          ] in
          -- and none up to it is above the greatest
          let most : (j : ℕ) → j < i + 1 → over j c.if-above.greatest ≡ false =
          λ j h.
          elim c.if-above.branch [
            | then-above w ↦ rw w.greatest-is (raised same over order i k before.1 (sym above ∙ w.if-above.true) j h)
            | else-above+else-any w ↦ rw w.greatest-is (kept same over order i k before.1 (sym above ∙ w.if-above.false) j h)
          ] in
          (each_turn (λ j. not (some_below (same j) j)) i before.0 new, most),
    )
