-- What an operation answers. A refusal is given by its number, in its stated case and no other, and changes nothing.
use Rattle.std.specs.Prelude.{ℕ, Bool, cond, List}
use Rattle.std.proofs.Math.Option.{Option, none, some}
use Rattle.bits.specs.declared.UnackedBits.{UnackedBits}
use Rattle.rules.specs.State.{StoredMessage, Consumer, State, consumer_of}

-- a dispatch, as push records it: the consumer, the message, the number of words of its ack set and the four words, the
-- redelivery count, the cost, and the consumer's permits after it (excess form)
pub record Dispatch : Type 0 where
  pub consumer : ℕ
  pub message : StoredMessage
  pub ack_set_words : ℕ
  pub ack_set : UnackedBits
  pub redelivery_count : ℕ
  pub cost : ℕ
  pub permits : ℕ

-- the value of an operation that is done
pub data Value : Type 0 where
  -- only that it is done: append, subscribe, redeliver
  nothing : Value
  -- flow: the consumer's permits after it (excess form)
  permits_after : ℕ → Value
  -- ack: mark-delete, and whether it moved
  mark_delete_after : ℕ → Bool → Value
  -- seek: the cursor
  cursor_after : ℕ → Value
  -- close: whether one closed
  closed : Bool → Value
  -- push: the dispatches made, in dispatch order
  dispatches : List Dispatch → Value

-- what a call comes to
pub data Outcome : Type 0 where
  -- refused, by a number
  refused : ℕ → Outcome
  -- refusal 15: a push whose list is too short for the dispatches due, with their number
  short : ℕ → Outcome
  -- done: the value, and the state after
  done : Value → State → Outcome

-- a refusal in its case, else what follows
unfoldable pub guard : Bool → ℕ → Outcome → Outcome
guard case number else = cond case (refused number) else

-- what is done with a consumer that was found, or refusal 4
unfoldable pub found_or_4 : (Consumer → Outcome) → Option Consumer → Outcome
found_or_4 f none = refused 4
found_or_4 f (some c) = f c

-- flow, ack, seek and redeliver first find the live consumer or stop with refusal 4
unfoldable pub with_live : State → ℕ → (Consumer → Outcome) → Outcome
with_live s i f = found_or_4 f (consumer_of s i)
