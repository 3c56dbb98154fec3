-- A command in numbers, and its eight words.
use Rattle.std.specs.Prelude.{ℕ, List, [], ◌∷◌, replicate}
use Rattle.command_parts.specs.declared.Target as parts
use Rattle.command_parts.specs.declared.Target.TheVariants.{Start, Id}
use Rattle.command_parts.specs.Parts.{kind_number}
use Rattle.wire_command.specs.declared.command.Command as read
use Rattle.wire_command.specs.declared.command.Command.TheVariants.{Subscribe, Flow, Ack, Seek, Redeliver, Close}
use Rattle.wire_command.specs.declared.in_numbers.Target.{Target}
use Rattle.wire_command.specs.declared.in_numbers.Command.{Command}

-- where a seek goes
abbrev pub target_in_numbers : parts.Target → Target
target_in_numbers Start = record { kind = 0; ledger = 0; entry = 0 }
target_in_numbers (Id ledger entry) = record { kind = 1; ledger = ledger; entry = entry }

-- a command that was read
unfoldable pub in_numbers : read.Command → Command
in_numbers (Subscribe s) =
    Command.Subscribe (record {
      consumer = s.consumer;
      request = s.request;
      kind = kind_number s.kind;
      topic = s.topic;
      subscription = s.subscription;
    })
in_numbers (Flow consumer permits) = Command.Flow consumer permits
in_numbers (Ack consumer size) = Command.Ack consumer size
in_numbers (Seek s) =
    Command.Seek (record { consumer = s.consumer; request = s.request; target = target_in_numbers s.target })
in_numbers (Redeliver consumer size) = Command.Redeliver consumer size
in_numbers (Close consumer request) = Command.Close consumer request

-- the eight words of a command in numbers
unfoldable pub words_of_numbers : Command → List ℕ
words_of_numbers (Command.Subscribe s) =
    s.consumer ∷ s.request ∷ s.kind ∷ s.topic.start ∷ s.topic.size ∷ s.subscription.start ∷ s.subscription.size ∷ 0 ∷ []
words_of_numbers (Command.Flow consumer permits) = consumer ∷ 0 ∷ permits ∷ replicate 5 0
words_of_numbers (Command.Ack consumer size) = consumer ∷ 0 ∷ size ∷ replicate 5 0
words_of_numbers (Command.Seek s) = s.consumer ∷ s.request ∷ s.target.kind ∷ s.target.ledger ∷ s.target.entry ∷ replicate 3 0
words_of_numbers (Command.Redeliver consumer size) = consumer ∷ 0 ∷ size ∷ replicate 5 0
words_of_numbers (Command.Close consumer request) = consumer ∷ request ∷ replicate 6 0
