-- A script taken apart into its first call and what stands after it.
use Rattle.std.specs.Prelude.{ℕ, ◌≤◌, ◌<◌, ◌≡◌, List, ◌∷◌, length, MatchOption, Option}
use Rattle.std.specs.Borrow.{Bor}
use Rattle.std.proofs.Math.Option.{Option as Maybe, none, some, bind}
use Rattle.rules.specs.Calls.{Call}
use Rattle.trace_form.specs.declared.Call as declared
use Rattle.trace_form.specs.Calls.{as_call}
use Rattle.row.specs.Script.{script_calls}

-- a call and those after it, if they are all there
unfoldable pub with_first : Call → Maybe (List Call) → Maybe (List Call)
with_first x calls = bind calls (λ others. some (x ∷ others))

-- a script has no calls where no call stands first
abbrev pub NoneThere : List ℕ → Type 0
NoneThere script = 1 ≤ length script → script_calls script ≡ none

-- its first call, and what stands after it: its calls are that one and those of the rest
pub record CallThere (script : List ℕ) (first : declared.Call) (rest : List ℕ) : Type 0 where
  pub are : script_calls script ≡ with_first (as_call 0 first) (script_calls rest)
  pub shorter : length rest < length script

-- one of the two
abbrev pub SplitsCall : List ℕ → Option (declared.Call × Bor (List ℕ)) → Type 0
SplitsCall script r = MatchOption r (NoneThere script) (λ p. CallThere script p.0 p.1.now)
