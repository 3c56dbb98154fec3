-- What is known of a store once a subscribe has work to do and room for its consumer.
use Rattle.std.specs.Prelude.{ℕ, ◌≡◌, false, not, ◌&&◌, List, leb, length}
use Rattle.rules.specs.Table.{is_some}
use Rattle.rules.specs.State.{consumer_of}
use Rattle.layout.specs.Layout.{decode}
use Rattle.store.specs.Opened.{Opened}

-- neither done at once nor refused with 12
pub record Admitted (e : ℕ) (ws : List ℕ) (id : ℕ) : Type 0 where
  pub opened : Opened e ws
  pub to_do : is_some (consumer_of (decode ws) id) && (decode ws).live_id_subscribe_is_noop ≡ false
  pub room : not (is_some (consumer_of (decode ws) id)) && leb 32 (length (decode ws).consumers) ≡ false
