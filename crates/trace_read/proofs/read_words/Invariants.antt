-- The words from the n-th on, laid from there on, finish all.
use Rattle.trace_read.proofs.Words.{Begun}
use Rattle.trace_read.proofs.read_words.Given as goal

abbrev pub invariant-loop-n : goal.invariant-loop-n
invariant-loop-n l = Begun l.bytes l.initial.words l.words l.n
