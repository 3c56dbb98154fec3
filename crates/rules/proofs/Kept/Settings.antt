-- No call changes what opening fixed: the entries per topic and the two switches.
use mathlib.Core.Path.{◌≡◌, refl}
use Rattle.rules.specs.State.{State, with_topics, with_consumers, with_dispatchers, put_consumer, put_dispatcher}
use Rattle.rules.specs.Commands.{without_consumer}
use Rattle.rules.specs.Calls.{Call, rule, state_after}
use Rattle.rules.proofs.Kept.Outcomes.{keeps_after}
use Rattle.rules.proofs.Kept.Closed.{Closed, closed_keeps}

-- a state with the settings of another
pub record Settings (s t : State) : Type 0 where
  pub same_entries : t.entries ≡ s.entries
  pub same_leak : t.leak_shared_permits_on_churn ≡ s.leak_shared_permits_on_churn
  pub same_noop : t.live_id_subscribe_is_noop ≡ s.live_id_subscribe_is_noop

-- no change that a call makes touches them
settings_closed : (s : State) → Closed (Settings s)
unfolding put_consumer put_dispatcher without_consumer with_topics with_consumers with_dispatchers
settings_closed s =
    record {
      consumer_put = λ t c h. record { same_entries = h.same_entries; same_leak = h.same_leak; same_noop = h.same_noop };
      consumer_left = λ t i h. record { same_entries = h.same_entries; same_leak = h.same_leak; same_noop = h.same_noop };
      dispatcher_put = λ t d h. record { same_entries = h.same_entries; same_leak = h.same_leak; same_noop = h.same_noop };
      entry_put = λ t topic m h. record { same_entries = h.same_entries; same_leak = h.same_leak; same_noop = h.same_noop };
    }

-- no call changes the settings
pub settings_kept : (s : State) (x : Call) → Settings s (state_after s (rule s x))
settings_kept s x =
    keeps_after (Settings s) s (rule s x)
    (closed_keeps (Settings s) (settings_closed s) s (record { same_entries = refl; same_leak = refl; same_noop = refl }) x)

-- E among them
pub entries_kept : (s : State) (x : Call) → (state_after s (rule s x)).entries ≡ s.entries
entries_kept s x = (settings_kept s x).same_entries
