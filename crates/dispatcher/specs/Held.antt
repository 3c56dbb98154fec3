-- Entries in flight from the numbers that code has of them, and what rows of a dispatcher's lists are found by.
use Rattle.std.specs.Prelude.{ℕ, List, eqb, get_or}
use Rattle.rules.specs.Table.{Key}
use Rattle.rules.specs.State.{Held}
use Rattle.rules.specs.Dispatcher.{is_hold}
use Rattle.layout.specs.Fields.{zero_held, dispatcher_now}

-- an entry in flight
abbrev pub held_of : ℕ → ℕ → Held
held_of holder position = record { holder = holder; position = position }

-- entry j in flight of dispatcher d of the state that words decode to
abbrev pub held_now : List ℕ → ℕ → ℕ → Held
held_now ws d j = get_or (dispatcher_now ws d).in_flight j zero_held

-- an entry in flight by its holder and position
abbrev pub by_hold : Key Held Held
by_hold = record { key = λ h. h; same = λ h. is_hold h.holder h.position }

-- a number is its own key
abbrev pub by_value : Key ℕ ℕ
by_value = record { key = λ n. n; same = eqb }
