-- What holds of the player's place between two turns, so that no index leaves what is held or kept.
use Rattle.std.specs.Prelude.{ℕ, ◌+◌, ◌≤◌, ◌≡◌, Option, None, Some}
use Rattle.trace.specs.Format.{MOST_WORDS, record_size}
use Rattle.trace_lines.specs.Told.{lines_bytes}
use Rattle.player.specs.declared.place.Place as place

-- the bytes of input that are held at most: a record of 1,217 words and a block of 65,536
abbrev pub held_bytes : ℕ
held_bytes = record_size MOST_WORDS + 65536

-- the bytes of lines that are kept at most
abbrev pub out_bytes : ℕ
out_bytes = 65536

-- the bytes held lie in their room, and the lines of another step find theirs
pub record Placed (p : place.Place) : Type 0 where
  pub order : p.from ≤ p.to
  pub inside : p.to ≤ held_bytes
  pub space : p.filled + lines_bytes ≤ out_bytes

-- after a turn: done, or such a place, at most one record further
unfoldable pub GoesOn : ℕ → Option place.Place → Type 0
GoesOn number (Some p) = Placed p × (p.number ≤ number + 1)
GoesOn number None = Unit {0}

-- after a step: done, or the same bytes held and the same number, with room for another step
unfoldable pub WentOn : place.Place → Option place.Place → Type 0
WentOn before (Some p) =
    (p.from ≡ before.from) × (p.to ≡ before.to) × (p.number ≡ before.number) × (p.filled + lines_bytes ≤ out_bytes)
WentOn before None = Unit {0}
