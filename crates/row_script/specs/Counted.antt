-- How many calls a script has.
use Rattle.std.specs.Prelude.{ℕ, ◌+◌, List, length, Result, Ok, Err}
use Rattle.std.proofs.Math.Option.{Option, none, some}
use Rattle.refusal.specs.declared.Refusal.{Refusal}
use Rattle.refusal.specs.declared.Refusal.TheVariants.{NoCall}
use Rattle.rules.specs.Calls.{Call}

-- after so many calls, how many there are with those of the rest: refusal 18, where there is no list of them
unfoldable pub counted : ℕ → Option (List Call) → Result ℕ Refusal
counted n none = Err NoCall
counted n (some calls) = Ok (n + length calls)
