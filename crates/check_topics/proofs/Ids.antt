-- Message ids in order, and by their two words.
use mathlib.Core.Path.{◌≡◌}
use mathlib.Core.Bool.{true, not}
use Prim.Native.Nat.{ℕ}
use native.Mathlib.Omega.{arith}
use lib.Dec.{ltb}
use Rattle.std.proofs.lemmas.Bool.Decides.{nat_tests}
use Rattle.rules.specs.State.{Id}
use Rattle.rules.specs.Ledger.{at_or_after}
use Rattle.check_rows.specs.Rows.{pair_above}

-- an id is at or after itself
pub after_self : (a : Id) → at_or_after a a ≡ true
unfolding at_or_after
after_self a = grind (arith, nat_tests)

-- of two ids of one ledger the entries decide
pub by_entry : (a b : Id) → b.ledger ≡ a.ledger → ltb a.entry b.entry ≡ not (at_or_after a b)
unfolding at_or_after
by_entry a b q = grind (arith, nat_tests)

-- two words are above another two exactly where the one id is greater than the other
pub above_after : (a b c d : ℕ) → pair_above a b c d ≡ not (at_or_after (record { ledger = c; entry = d }) (record { ledger = a; entry = b }))
unfolding pair_above at_or_after
above_after a b c d = grind (arith, nat_tests)

-- an id by its two words
pub id_read : (i : Id) {x y : ℕ} → x ≡ i.ledger → y ≡ i.entry → record { ledger = x; entry = y } ≡ i
id_read i e f = rw (e, f)
