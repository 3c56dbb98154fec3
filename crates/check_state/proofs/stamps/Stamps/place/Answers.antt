-- `check_state::stamps::Stamps::place` meets its contract: a position past the cursor, or one that carries the stamp, is refused.
use mathlib.Core.Path.{refl, sym, ap, ◌∙◌}
use mathlib.Core.Bool.{not, false≢true}
use Prim.Native.Nat.{◌<◌}
use native.Mathlib.Omega.{arith}
use lib.ListN.{length, length-set}
use borrow.Author.Tests.{le-ltb, lt-ltb, eq-eqb, ne_eqb}
use Rattle.store.proofs.Tests.{fails, passes}
use Rattle.check_state.specs.Stamps.{stamped}
use Rattle.check_state.proofs.StampSteps.{set_under}
use Rattle.check_state.proofs.stamps.Stamps.place.Goals as goal
use Rattle.check_state.proofs.stamps.Stamps.place.Goals.{then-cursor-position-via-then-cursor-position, then-cursor-position-via-else-cursor-position+then-self-position}

pub returns-then-cursor-position : goal.returns-then-cursor-position
unfolding stamped
returns-then-cursor-position c =
    record {
      answer =
          elim c.then-cursor-position.branch [
            | then-cursor-position-via-then-cursor-position w ↦ fails _ (le-ltb _ _ w.if-cursor-position.true)
            | then-cursor-position-via-else-cursor-position+then-self-position w ↦
                passes (lt-ltb _ _ w.if-cursor-position.false) (sym (ap not (eq-eqb _ _ w.if-self-position.true)))
          ];
      put = λ e. absurd (false≢true e);
      same = refl;
    }

pub invariant_of-self : goal.invariant_of-self
invariant_of-self c =
    let s = c.args.self.now in
    let l = s.whole in
    let r = c.requires in
    let p = c.if-cursor-position.false in
    let h : c.args.position < length s.list = omega arith in
    record { whole = length-set s.list c.args.position s.stamp ∙ s.whole; under = set_under s.list c.args.position s.stamp h s.under }

pub returns : goal.returns
unfolding stamped
returns c =
    record {
      answer = passes (lt-ltb _ _ c.if-cursor-position.false) (sym (ap not (ne_eqb _ _ c.if-self-position.false)));
      put = λ e. refl;
      same = refl;
    }
