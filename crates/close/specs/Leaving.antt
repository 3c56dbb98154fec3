-- A dispatcher while a consumer leaves it: the id leaves its ring.
use Rattle.std.specs.Prelude.{ℕ, ◌%◌, cond, not, eqb}
use mathlib.Core.List.{Memᴰ}
use Rattle.rules.specs.Table.{keep, Distinct}
use Rattle.rules.specs.State.{Dispatcher}
use Rattle.rules.specs.Dispatcher.{with_attached, with_next}
use Rattle.rules.specs.Commands.{next_in_ring}

-- next in a ring of n ids: as `next_in_ring` of the rules, of the number of ids, which is what the code has
unfoldable pub next_of : ℕ → ℕ → ℕ
next_of next n = cond (eqb n 0) 0 (next % n)

-- an id out of the ring
unfoldable pub out_of_ring : ℕ → Dispatcher → Dispatcher
out_of_ring i d =
    with_next (with_attached d (keep (λ (j : ℕ). not (eqb i j)) d.attached))
    (next_in_ring d.next (keep (λ (j : ℕ). not (eqb i j)) d.attached))

-- an id stands in the ring, where no id stands twice
pub record MemberOf (i : ℕ) (d : Dispatcher) : Type 0 where
  pub ring_once : Distinct eqb d.attached
  pub in_ring : Memᴰ i d.attached
