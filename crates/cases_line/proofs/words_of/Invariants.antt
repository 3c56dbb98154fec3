-- What is left of the line, put into the words from n on, is the whole; n stays within their number.
use Prim.Native.Nat.{◌≤◌}
use mathlib.Core.Path.{◌≡◌}
use lib.ListN.{length}
use Rattle.cases_line.proofs.Numbers.{Reading}
use Rattle.cases_line.proofs.words_of.Given as goal

abbrev pub invariant-loop-b : goal.invariant-loop-b
invariant-loop-b l =
    (l.n ≤ length l.words) × (length l.words ≡ length l.initial.words) × Reading l.line l.initial.words l.words l.n l.b-index
