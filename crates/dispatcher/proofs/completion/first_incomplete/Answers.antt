-- `dispatcher::completion::first_incomplete` meets its contract: the marks that lead from k on lead from the start on.
use mathlib.Core.Path.{◌≡◌, refl, sym, ◌∙◌}
use mathlib.Core.Bool.{true, false}
use native.Mathlib.Omega.{arith}
use lib.Dec.{ltb}
use lib.ListN.{length, get_or}
use borrow.Author.Tests.{ltb-true, ltb-false}
use Rattle.rules.specs.State.{new_mark}
use Rattle.rules.specs.Dispatcher.{mark_at, complete_at}
use Rattle.rules.proofs.Table.{by_test}
use Rattle.layout.specs.Layout.{decode}
use Rattle.layout.specs.Fields.{dispatcher_nth}
use Rattle.dispatcher.proofs.Completing.{leads_on, leads_not, leads_past}
use Rattle.dispatcher.proofs.completion.first_incomplete.Goals as goal

-- the entry is not complete
incomplete : (c : goal.Then-not-is_complete) → (get_or (dispatcher_nth (decode c.args.store.now) c.args.d).marks c.loop-k.k new_mark).acked.complete ≡ false
unfolding complete_at mark_at
incomplete c = sym c.is_complete.ensures ∙ c.if-not-is_complete.true

-- or it is
complete : (c : goal.Else-not-is_complete) → (get_or (dispatcher_nth (decode c.args.store.now) c.args.d).marks c.loop-k.k new_mark).acked.complete ≡ true
unfolding complete_at mark_at
complete c = sym c.is_complete.ensures ∙ c.if-not-is_complete.false

pub loop-k-init : goal.loop-k-init
loop-k-init c = refl

pub is_complete-requires : goal.is_complete-requires
is_complete-requires c = (c.requires, let n = c.mark_count-n.ensures in omega arith)

pub returns-then-not-is_complete : goal.returns-then-not-is_complete
returns-then-not-is_complete c =
    let n = c.mark_count-n.ensures in
    leads_not (dispatcher_nth (decode c.args.store.now) c.args.d).marks c.loop-k.k (omega arith) (incomplete c)
    ∙ sym c.loop-k.invariant

pub loop-k-preserved : goal.loop-k-preserved
loop-k-preserved c =
    let n = c.mark_count-n.ensures in
    c.loop-k.invariant ∙ leads_on (dispatcher_nth (decode c.args.store.now) c.args.d).marks c.loop-k.k (omega arith) (complete c)

pub returns : goal.returns
returns c =
    let n = c.mark_count-n.ensures in
    let m = c.max.ensures in
    let l = (dispatcher_nth (decode c.args.store.now) c.args.d).marks in
    by_test (ltb c.args.from (length l))
    (λ t. let f = ltb-true c.args.from (length l) t in
    let k : c.max.result ≡ c.loop-k.k = omega arith in
    k ∙ leads_past l c.loop-k.k (omega arith) ∙ sym c.loop-k.invariant)
    (λ t. let f = ltb-false c.args.from (length l) t in
    let k : c.max.result ≡ c.args.from = omega arith in
    k ∙ leads_past l c.args.from f)
