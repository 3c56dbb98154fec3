-- A dispatcher while what a consumer holds goes back to its queue.
use Rattle.std.specs.Prelude.{ℕ, cond, [], ◌∷◌, ◌++◌, eqb, get_or, set}
use Rattle.rules.specs.State.{Dispatcher}
use Rattle.rules.specs.Dispatcher.{with_places, held_by, without_holder}
use Rattle.layout.specs.Fields.{zero_held}

-- entry j in flight, looked at: a consumer's own went to the end of the queue, another's to a place in flight
unfoldable pub one_looked_at : ℕ → ℕ → ℕ → Dispatcher → Dispatcher
one_looked_at i j kept d =
    let h = get_or d.in_flight j zero_held in
    cond (eqb i h.holder)
    (with_places d (d.redelivery ++ h.position ∷ []) d.in_flight)
    (with_places d d.redelivery (set d.in_flight kept h))

-- all that a consumer holds went there
unfoldable pub all_back : ℕ → Dispatcher → Dispatcher
all_back i d = with_places d (d.redelivery ++ held_by i d.in_flight) (without_holder i d.in_flight)
