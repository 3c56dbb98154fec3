-- A dispatcher to which a consumer hands one entry back.
use Rattle.std.specs.Prelude.{ℕ, ◌+◌, [], ◌∷◌, ◌++◌, set, take, drop}
use Rattle.rules.specs.State.{Dispatcher}
use Rattle.rules.specs.Dispatcher.{with_places, with_marks, mark_at}
use Rattle.rules.specs.Commands.{raised}

-- entry j in flight, which is on position k, went to the end of the queue, and the redelivery count of k rose
unfoldable pub handed : ℕ → ℕ → Dispatcher → Dispatcher
handed j k d =
    with_marks (with_places d (d.redelivery ++ k ∷ []) (take j d.in_flight ++ drop (j + 1) d.in_flight))
    (set d.marks k (raised (mark_at d k)))
    d.outside
