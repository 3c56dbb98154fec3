-- The numbers of what is not read.
use Rattle.std.specs.Prelude.{ℕ, ◌*◌, Result, Ok, Err}
use Rattle.wire_fields.specs.declared.unread.Unread.{Unread}
use Rattle.wire_fields.specs.declared.unread.Unread.TheVariants.{Malformed, OtherType}

-- the number that a call for C answers
abbrev pub unread_number : Unread → ℕ
unread_number Malformed = 16
unread_number OtherType = 17

-- what a call for C answers: a number of what was read or written times 256, or that of what is not
abbrev pub unread_word : {A : Type 0} → (A → ℕ) → Result A Unread → ℕ
unread_word number (Ok x) = number x * 256
unread_word number (Err why) = unread_number why
