-- What a writer leaves: some words or bytes from a place of a lent buffer on, all else as it was, and the place after them.
use Rattle.std.specs.Prelude.{◌≡◌, List, ℕ, ◌+◌, ◌≤◌, length}
use Rattle.words.specs.Act.{lay}

-- Bytes written from a place on, at most so many: the buffer before and after, which is as long, and the next place.
pub record Wrote (most : ℕ) (before : List ℕ) (at : ℕ) (bytes after : List ℕ) (next : ℕ) : Type 0 where
  pub laid : after ≡ (lay bytes).run at before
  pub ends : next ≡ at + length bytes
  pub short : length bytes ≤ most
  pub long : length after ≡ length before
