-- What the word of an answer tells of.
use Rattle.std.specs.Prelude.{ℕ, cond, ◌&&◌, ◌==◌}
use Rattle.rules.specs.Calls.{number_in, value_in}
use Rattle.trace.specs.Calls.{PUSH}

-- how many dispatches the answer of a push tells of: its value if it is done
unfoldable pub made_told : ℕ → ℕ
made_told answer = cond (number_in answer == 0) (value_in answer) 0

-- how many dispatches an answer tells of: those of a push that is done
unfoldable pub dispatches_told : ℕ → ℕ → ℕ
dispatches_told kind answer = cond (kind == PUSH && number_in answer == 0) (value_in answer) 0
