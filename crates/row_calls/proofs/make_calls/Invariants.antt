-- The row goes on with every call.
use Rattle.std.specs.Iterator.Adapters.{enumerate_source, enumerate_count}
use Rattle.row_script.specs.Left.{calls_in}
use Rattle.row_calls.proofs.Going.{Going}
use Rattle.row_calls.proofs.make_calls.Given as goal

abbrev pub invariant-loop-i : goal.invariant-loop-i
invariant-loop-i l =
    Going (calls_in l.fn.calls) l.initial.store l.initial.answers l.initial.list l.store l.answers l.list (calls_in (enumerate_source l.i-iterator)) (enumerate_count l.i-iterator) l.from
