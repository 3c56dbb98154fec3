-- `groups::list::list_right` meets its contract: a list that has ended, or where no group may follow or none fits, has the
-- form exactly if it has ended.
use Rattle.std.proofs.Common.{arith, suc, ◌+◌, ◌-◌, ◌≡◌, sym, ◌∙◌}
use Rattle.groups.proofs.Forms.{formed_start, formed_full, formed_broken, formed_on}
use Rattle.groups.proofs.list.list_right.Goals as goal
use Rattle.groups.proofs.list.list_right.Goals.{else-loop-test, then-loop-test+in_default}

pub loop-init : goal.loop-init
loop-init c = formed_start c.args.list.now

pub loop-preserved : goal.loop-preserved
loop-preserved c =
    let s = c.in-Some.ensures in
    let left : 64 - c.loop.counter ≡ suc (64 - (c.loop.counter + 1)) = omega arith in
    rw s.2 (sym (formed_on c.loop.rest.now (64 - (c.loop.counter + 1)) s.0) ∙ (rw left at c.loop.invariant))

pub returns : goal.returns
returns c =
    elim c.loop-test.branch [
      | else-loop-test w ↦
          let left : 64 - c.loop.counter ≡ 0 = omega arith in
          c.is_empty.ensures ∙ sym (formed_full c.loop.rest.now) ∙ (rw left at c.loop.invariant)
      | then-loop-test+in_default w ↦ c.is_empty.ensures ∙ sym (formed_broken c.loop.rest.now _ w.in_default.ensures) ∙ c.loop.invariant
    ]
