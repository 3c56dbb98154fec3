-- What is known of the live consumer that a lookup found.
use mathlib.Core.Path.{◌≡◌}
use mathlib.Core.List.{List}
use mathlib.Core.Bool.{true}
use Rattle.std.specs.declared.option.Option.TheVariants.{Some}
use Prim.Native.Nat.{ℕ}
use Rattle.rules.specs.State.{by_id}
use Rattle.rules.specs.Valid.{ValidConsumer, Valid}
use Rattle.layout.specs.Layout.{decode, spells}
use Rattle.layout.specs.Canon.{CanonStore}
use Rattle.layout.specs.Fields.{zero_consumer, consumer_nth}
use Rattle.layout.specs.Placed.{ConsumerIn}
use Rattle.layout.proofs.Placed.{consumer_in}
use Rattle.store.specs.Find.{slot}
use Rattle.store.specs.Found.{found}
use Rattle.store.proofs.Founds.{found_some}
use Rattle.consumer.specs.Live.{Live}
use Rattle.operation_laws.proofs.Frame.{valid_now, canon_of, slot_nth, consumer_found_valid, consumer_found_id}

module _ {e : ℕ} {ws : List ℕ} {i : ℕ} (h : Live e ws i) where
  pub live_canon : CanonStore e ws
  live_canon = canon_of e ws h.opened.spelt h.opened.E

  pub live_in : ConsumerIn e ws i
  live_in = consumer_in live_canon i h.there

  pub live_valid : Valid (decode ws)
  live_valid = valid_now ws h.opened.spelt

  -- its slot is that of its id
  pub live_slot : i ≡ slot by_id (consumer_nth (decode ws) i).id (decode ws).consumers
  live_slot = slot_nth (decode ws).consumers i zero_consumer live_valid.tables.consumers_ascending h.there

  -- it is valid
  pub live_consumer : ValidConsumer (decode ws) (consumer_nth (decode ws) i)
  live_consumer = consumer_found_valid (decode ws) i (consumer_nth (decode ws) i).id live_slot live_valid h.there

-- one found by its id is live, and the id is its own
pub found_live : {e : ℕ} {ws : List ℕ} {id i : ℕ} → spells ws ≡ true → e ≡ (decode ws).entries → Some i ≡ found by_id id (decode ws).consumers
    → Live e ws i × ((consumer_nth (decode ws) i).id ≡ id)
found_live {ws = ws} {id = id} {i = i} spelt entries is =
    let f = found_some by_id id (decode ws).consumers is in
    (record { opened = record { spelt = spelt; E = entries }; there = f.1 }, consumer_found_id (decode ws) i id f.0 f.1)
