-- What is known once the live consumer is found: the store spells a state of E entries, and consumer i is there.
use Rattle.std.specs.Prelude.{ℕ, ◌≡◌, ◌<◌, List, length}
use Rattle.rules.specs.State.Kind.{shared}
use Rattle.layout.specs.Layout.{decode}
use Rattle.layout.specs.Fields.{consumer_nth}
use Rattle.store.specs.Opened.{Opened}

-- the live consumer at slot i
pub record Live (e : ℕ) (ws : List ℕ) (i : ℕ) : Type 0 where
  pub opened : Opened e ws
  pub there : i < length (decode ws).consumers

-- the live shared consumer at slot i
pub record LiveShared (e : ℕ) (ws : List ℕ) (i : ℕ) : Type 0 where
  pub live : Live e ws i
  pub kind : (consumer_nth (decode ws) i).kind ≡ shared
