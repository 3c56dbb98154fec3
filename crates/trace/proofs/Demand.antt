-- Demand 3 of traces is demand 3 of their calls.
use native.Mathlib.Omega.{arith}
use mathlib.Core.Path.{◌≡◌, refl, subst}
use mathlib.Core.Bool.{false}
use mathlib.Core.List.{List, [], ◌∷◌}
use Rattle.rules.specs.State.{State}
use Rattle.rules.specs.Calls.{Call, run}
use Rattle.rules.specs.Demand.{Reached, at_opening, after_call, after_calls, Accounted, Demand3}
use Rattle.rules.proofs.Demand.{demand_3}
use Rattle.trace.specs.Played.{at_first, calls_played}
use Rattle.trace.specs.Promises.{traced, Demand3Traces}

-- the state after calls is that of the calls in a row
state_run : (r : Reached) (calls : List Call) → (after_calls r calls).state ≡ run r.state calls
unfolding after_calls after_call run
state_run r [] = refl
state_run r (x ∷ calls) = state_run (after_call r x) calls

-- a low reading of a played trace is honest
pub demand_3_traces : Demand3Traces
unfolding Demand3Traces Demand3 traced at_opening at_first
demand_3_traces input h =
    let r : Reached = after_calls (at_opening 32 false false) (calls_played input) in
    subst (λ (s : State). Accounted (record { state = s; book = r.book })) (state_run (at_opening 32 false false) (calls_played input))
    (demand_3 32 false (calls_played input) (omega arith) (omega arith) h)
