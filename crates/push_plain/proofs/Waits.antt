-- What waits for a consumer, by its kind.
use mathlib.Core.Path.{◌≡◌, refl}
use Prim.Native.Nat.{ℕ, ◌+◌, ◌-◌, min}
use native.Mathlib.Omega.{arith}
use lib.ListN.{length}
use Rattle.rules.specs.Permits.{zero_permits}
use Rattle.rules.specs.State.{Kind, by_kind, Consumer, State}
use Rattle.rules.specs.State.Kind.{plain, shared}
use Rattle.rules.specs.Commands.{with_permits}
use Rattle.push_laws.specs.Plain.{plain_due, ledger_for}
use Rattle.push_plain.specs.Reading.{waiting_for}

module _ (s : State) (c : Consumer) where
  pub waits_not : c.kind ≡ shared → 0 ≡ waiting_for s c
  unfolding waiting_for by_kind
  waits_not e = rw e

  pub waits : c.kind ≡ plain → length c.nacked + (length (ledger_for s c) - c.cursor) ≡ waiting_for s c
  unfolding waiting_for by_kind
  waits e = rw e

  -- as far as some permits go, it is what the consumer is due with them
  pub waits_permitted : (p : ℕ) → min (p - zero_permits) (waiting_for s c) ≡ plain_due (ledger_for s c) (with_permits c p)
  unfolding plain_due waiting_for by_kind with_permits
  waits_permitted p = go c.kind (length c.nacked + (length (ledger_for s c) - c.cursor))
    where
      go : (k : Kind) (n : ℕ) → min (p - zero_permits) (by_kind k n 0) ≡ by_kind k (min (p - zero_permits) n) 0
      go plain n = refl
      go shared n = omega arith
