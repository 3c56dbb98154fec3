-- `append::entry::new_entries` meets its contract: the dispatchers one after another. The loop's invariant: the words are
-- those of the state in which the first d have the new entry.
use mathlib.Core.Path.{◌≡◌}
use lib.ListN.{length}
use Rattle.append.proofs.Entries.{Stepped}
use Rattle.append.proofs.entry.new_entries.Given as goal

abbrev pub invariant-loop-d : goal.invariant-loop-d
invariant-loop-d l = (length l.store ≡ length l.initial.store) × Stepped l.topic l.id l.initial.store l.store l.d
