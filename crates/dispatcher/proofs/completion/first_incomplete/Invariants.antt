-- `dispatcher::completion::first_incomplete` meets its contract: the marks that lead from k on lead from the start on.
use mathlib.Core.Path.{◌≡◌}
use Prim.Native.Nat.{◌+◌}
use lib.ListN.{drop}
use Rattle.rules.specs.Dispatcher.{leading_complete}
use Rattle.layout.specs.Layout.{decode}
use Rattle.layout.specs.Fields.{dispatcher_nth}
use Rattle.dispatcher.proofs.completion.first_incomplete.Given as goal

abbrev pub invariant-loop-k : goal.invariant-loop-k
invariant-loop-k l =
    l.from + leading_complete (drop l.from (dispatcher_nth (decode l.store) l.d).marks)
    ≡ l.k + leading_complete (drop l.k (dispatcher_nth (decode l.store) l.d).marks)
